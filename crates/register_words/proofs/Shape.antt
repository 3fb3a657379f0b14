-- What is asked of a pair decides its shape: the bits that must be zero are zero exactly where it has the shape of its side's blocks. W and I of one
-- block, with a one added at I, show in the bit above them.
use Rattle.std.proofs.Common.{◌≡◌, ℕ, ◌+◌, ◌-◌, ◌*◌, ◌/◌, ◌%◌, ◌^◌, ◌<◌, ◌≤◌, Bool, true, false, cond, not, ◌&&◌, ◌||◌, eqb, ltb, sym, refl, ap, ◌∙◌, ap₂, true≢false, mod-lt, arith, lit≤, pow_pos, pow_mono, shr-shr, ltb-false, ltb-true, eq-eqb, ne_eqb, eqb-true}
use lib.Bits.{bit_and, bit_or, and_mask, and_shr, and_mod, and_high, and_zero_r}
use lib.Ieee.{size}
use lib.Pow.{split, field, mod-mod-pow}
use Rattle.words.specs.Bits.{bits}
use Rattle.words.specs.Ones.{low_ones}
use Rattle.words.proofs.Ones.{true_ones, ones_true, ones_width}
use Rattle.words.proofs.Tests.{both, by_test, same_test}
use Rattle.words.proofs.Zero.{or_leaves}
use Rattle.register_words.specs.Asked.{side_sum, zero_bits}
use Rattle.register_words.specs.Block.{bl_width, bl_of, bepi_of, brpn_of, off, lower_shape, block_shape}
use Rattle.register_words.proofs.Blocks.{wide_upper, shape_wide, high_masked, bl_same}
use Rattle.register_words.proofs.Asked.{asked, Length, asked_fits, asked_low, asked_length, length_asked}

pub width_most : (long : Bool) → bl_width long ≤ 15
width_most true = lit≤ tt
width_most false = lit≤ tt

-- what a mask leaves, in two parts
in_parts : (k v m : ℕ) → bit_and v m ≡ bit_and (v / 2 ^ k) (m / 2 ^ k) * 2 ^ k + bit_and (v % 2 ^ k) (m % 2 ^ k)
in_parts k v m = sym (split (bit_and v m) k) ∙ ap₂ (λ (p q : ℕ). p * 2 ^ k + q) (and_shr v m k) (and_mod v m k)

-- what the bits that must be zero take
data_bits : (v : ℕ) → v < 2 ^ 64 → bit_and v (zero_bits true) ≡ v / 2 ^ 7 * 2 ^ 7 + v / 2 ^ 2 % 2 * 2 ^ 2
data_bits v l =
    let top : bit_and (v / 2 ^ 7) (2 ^ 57 - 1) ≡ v / 2 ^ 7 = and_mask (v / 2 ^ 7) 57 ∙ omega arith in
    let rest : bit_and (v % 2 ^ 7) 4 ≡ v / 2 ^ 2 % 2 * 2 ^ 2 = and_high (v % 2 ^ 7) 1 2 ∙ omega arith in
    in_parts 7 v (zero_bits true) ∙ ap₂ (λ (p q : ℕ). p * 2 ^ 7 + q) top rest

instruction_bits : (v : ℕ) → v < 2 ^ 64 → bit_and v (zero_bits false) ≡ v / 2 ^ 6 * 2 ^ 6 + v / 2 ^ 2 % 2 ^ 2 * 2 ^ 2
instruction_bits v l =
    let top : bit_and (v / 2 ^ 6) (2 ^ 58 - 1) ≡ v / 2 ^ 6 = and_mask (v / 2 ^ 6) 58 ∙ omega arith in
    let rest : bit_and (v % 2 ^ 6) 12 ≡ v / 2 ^ 2 % 2 ^ 2 * 2 ^ 2 = and_high (v % 2 ^ 6) 2 2 ∙ omega arith in
    in_parts 6 v (zero_bits false) ∙ ap₂ (λ (p q : ℕ). p * 2 ^ 6 + q) top rest

two_zeros : (q : ℕ) → q % 2 ≡ 0 → q / 2 ^ 1 % 2 ≡ 0 → q % 2 ^ 2 ≡ 0
two_zeros q low high = omega arith

-- numbers whose low bits are the same have the same fields there
pub same_field : (j w k a b : ℕ) → a % 2 ^ (j + (w + k)) ≡ b % 2 ^ (j + (w + k)) → a / 2 ^ k % 2 ^ w ≡ b / 2 ^ k % 2 ^ w
same_field j w k a b e = cut a ∙ ap (λ (n : ℕ). n % 2 ^ (w + k) / 2 ^ k) e ∙ sym (cut b)
  where
    cut : (n : ℕ) → n / 2 ^ k % 2 ^ w ≡ n % 2 ^ (j + (w + k)) % 2 ^ (w + k) / 2 ^ k
    cut n = sym (ap (λ (m : ℕ). m / 2 ^ k) (mod-mod-pow n j (w + k)) ∙ field n w k)

-- the fields of a lower word below BRPN that a side's shape speaks of
pub record Rest (side : Bool) (lower : ℕ) : Type 0 where
  pub reserved : bits 15 24 lower ≡ 0
  pub bit_29 : bits 29 29 lower ≡ 0
  pub not_both : bits 25 26 lower ≡ 3 → ⊥
  pub no_wg : side ≡ false → (bits 25 25 lower ≡ 0) × (bits 28 28 lower ≡ 0)

module _ (x lower : ℕ) (fits : x < 2 ^ 64) (same : x % 2 ^ 17 ≡ lower % 2 ^ 17) where
  abbrev more : Bool → ℕ
  more side = (x + side_sum side) % 2 ^ 64

  more_fits : (side : Bool) → more side < 2 ^ 64
  more_fits side = mod-lt (x + side_sum side) (pow_pos 64)

  rest_left : (side : Bool) → bit_and x (zero_bits side) ≡ 0 → bit_and (more side) (zero_bits side) ≡ 0 → (x / 2 ^ 17 ≡ 0) × Rest side lower
  rest_left true a b =
      let p : x / 2 ^ 7 ≡ 0 = omega (arith, data_bits x fits) in
      let q : x / 2 ^ 2 % 2 ≡ 0 = omega (arith, data_bits x fits) in
      let r : more true / 2 ^ 7 ≡ 0 = omega (arith, data_bits (more true) (more_fits true)) in (
        omega arith,
        record { reserved = omega arith; bit_29 = omega arith; not_both = λ e. omega arith; no_wg = λ e. absurd (true≢false e) },
      )
  rest_left false a b =
      let p : x / 2 ^ 6 ≡ 0 = omega (arith, instruction_bits x fits) in
      let q : x / 2 ^ 2 % 2 ^ 2 ≡ 0 = omega (arith, instruction_bits x fits) in
      (omega arith, record { reserved = omega arith; bit_29 = omega arith; not_both = λ e. omega arith; no_wg = λ e. (omega arith, omega arith) })

  left_rest : (side : Bool) → x / 2 ^ 17 ≡ 0 → Rest side lower → (bit_and x (zero_bits side) ≡ 0) × (bit_and (more side) (zero_bits side) ≡ 0)
  left_rest side none r = go side r
    where
      upto_25 : x / 2 ^ 7 ≡ 0
      upto_25 = let reserved = same_field 0 10 7 x lower same ∙ r.reserved in omega arith

      bit_29 : x / 2 ^ 2 % 2 ≡ 0
      bit_29 = same_field 14 1 2 x lower same ∙ r.bit_29

      attributes : x / 2 ^ 5 % 2 ^ 2 ≡ bits 25 26 lower
      attributes = same_field 10 2 5 x lower same

      less : x < 96
      less =
          by_test (ltb (x / 2 ^ 5) 3) (λ e. let l = ltb-true (x / 2 ^ 5) 3 e in omega (arith, upto_25))
          (λ e. absurd (r.not_both (sym attributes ∙ (let l = ltb-false (x / 2 ^ 5) 3 e in omega (arith, upto_25)))))

      go : (t : Bool) → Rest t lower → (bit_and x (zero_bits t) ≡ 0) × (bit_and (more t) (zero_bits t) ≡ 0)
      go true q =
          let l = less in
          let p = upto_25 in
          let b = bit_29 in
          (data_bits x fits ∙ omega arith, data_bits (more true) (more_fits true) ∙ omega arith)
      go false q =
          let w : x / 2 ^ 6 % 2 ^ 1 ≡ 0 = same_field 10 1 6 x lower same ∙ (q.no_wg refl).0 in
          let g : x / 2 ^ 3 % 2 ^ 1 ≡ 0 = same_field 13 1 3 x lower same ∙ (q.no_wg refl).1 in
          let p : x / 2 ^ 6 ≡ 0 = omega (arith, upto_25, shr-shr x 6 1) in
          let b : x / 2 ^ 2 % 2 ^ 2 ≡ 0 = two_zeros (x / 2 ^ 2) bit_29 (ap (λ (n : ℕ). n % 2) (shr-shr x 2 1) ∙ g) in
          let none : bit_and x (zero_bits false) ≡ 0 = instruction_bits x fits ∙ omega arith in
          let same-x : more false ≡ x = omega arith in
          (none, ap (λ (v : ℕ). bit_and v (zero_bits false)) same-x ∙ none)

-- the tests of these fields
abbrev rest_test : Bool → ℕ → Bool
rest_test side lower =
    eqb (bits 15 24 lower) 0 && eqb (bits 29 29 lower) 0 && not (eqb (bits 25 26 lower) 3) && (side || (eqb (bits 25 25 lower) 0 && eqb (bits 28 28 lower) 0))

rest_passes : (side : Bool) (lower : ℕ) → Rest side lower → rest_test side lower ≡ true
rest_passes true lower r = rw (r.reserved, r.bit_29, ne_eqb (bits 25 26 lower) 3 r.not_both)
rest_passes false lower r = let (w, g) = r.no_wg refl in rw (r.reserved, r.bit_29, ne_eqb (bits 25 26 lower) 3 r.not_both, w, g)

passes_rest : (side : Bool) (lower : ℕ) → rest_test side lower ≡ true → Rest side lower
passes_rest side lower e =
    let (front, sides) = both (eqb (bits 15 24 lower) 0 && eqb (bits 29 29 lower) 0 && not (eqb (bits 25 26 lower) 3)) _ e in
    let (zeros, attributes) = both (eqb (bits 15 24 lower) 0 && eqb (bits 29 29 lower) 0) (not (eqb (bits 25 26 lower) 3)) front in
    let (reserved, bit_29) = both (eqb (bits 15 24 lower) 0) (eqb (bits 29 29 lower) 0) zeros in
    record {
      reserved = eqb-true (bits 15 24 lower) 0 reserved;
      bit_29 = eqb-true (bits 29 29 lower) 0 bit_29;
      not_both = λ q. true≢false (sym attributes ∙ ap not (eq-eqb (bits 25 26 lower) 3 q));
      no_wg = by_side side sides;
    }
  where
    by_side : (t : Bool) → (t || (eqb (bits 25 25 lower) 0 && eqb (bits 28 28 lower) 0)) ≡ true → t ≡ false → (bits 25 25 lower ≡ 0) × (bits 28 28 lower ≡ 0)
    by_side true h q = absurd (true≢false q)
    by_side false h q =
        let (w, g) = both (eqb (bits 25 25 lower) 0) (eqb (bits 28 28 lower) 0) h in
        (eqb-true (bits 25 25 lower) 0 w, eqb-true (bits 28 28 lower) 0 g)

-- the length, by the tests of its parts
module _ (long : Bool) (pair : ℕ) (fits : pair < 2 ^ 64) where
  abbrev upper : ℕ
  upper = pair / 2 ^ 32

  abbrev lower : ℕ
  lower = pair % 2 ^ 32

  abbrev bl : ℕ
  bl = bl_of 15 upper

  abbrev RightLength : Type 0
  RightLength = Length (bl_width long) (width_most long) pair fits

  wide_zeros : (t : Bool) → bl < 2 ^ bl_width t → bit_and upper (cond t 0 0x1E000) ≡ 0
  wide_zeros true l = and_zero_r upper
  wide_zeros false l = high_masked upper ∙ omega arith

  zeros_wide : (t : Bool) → bit_and upper (cond t 0 0x1E000) ≡ 0 → bl < 2 ^ bl_width t
  zeros_wide true z = omega arith
  zeros_wide false z = let none : bits 15 18 upper ≡ 0 = omega (arith, high_masked upper) in omega (arith, bl_same upper none)

  pub length_tests : RightLength → (wide_upper long upper ≡ true) × (eqb (bit_and (brpn_of lower) bl) 0 ≡ true)
  length_tests l =
      let below : bl < 2 ^ bl_width long = omega (arith, l.only_ones, pow_mono l.within, pow_pos (size bl)) in (
        rw (true_ones bl (size bl) l.only_ones, wide_zeros long below, l.bepi),
        eq-eqb (bit_and (brpn_of lower) bl) 0 l.brpn,
      )

  pub tests_length : wide_upper long upper ≡ true → eqb (bit_and (brpn_of lower) bl) 0 ≡ true → RightLength
  tests_length good clear =
      let (front, bepi) = both (low_ones bl && eqb (bit_and upper (cond long 0 0x1E000)) 0) (eqb (bit_and (bepi_of upper) bl) 0) good in
      let (ones, zeros) = both (low_ones bl) (eqb (bit_and upper (cond long 0 0x1E000)) 0) front in
      record {
        only_ones = ones_true bl ones;
        within = ones_width bl (bl_width long) ones (zeros_wide long (eqb-true (bit_and upper (cond long 0 0x1E000)) 0 zeros));
        bepi = eqb-true (bit_and (bepi_of upper) bl) 0 bepi;
        brpn = eqb-true (bit_and (brpn_of lower) bl) 0 clear;
      }

  -- a pair that is on has its shape where its length is right and the rest of its lower word is
  module _ (side : Bool) (on : off upper ≡ false) where
    shape_is : block_shape (bl_width long) side upper lower ≡ (wide_upper long upper && (eqb (bit_and (brpn_of lower) bl) 0 && rest_test side lower))
    unfolding lower_shape
    shape_is = shape_wide long side upper lower ∙ (rw on (ap (λ (t : Bool). wide_upper long upper && t) (regroup (eqb (bit_and (brpn_of lower) bl) 0) _ _ _ _)))
      where
        regroup : (b z q a s : Bool) → (b && z && q && a && s) ≡ (b && (z && q && a && s))
        regroup true z q a s = refl
        regroup false z q a s = refl

    abbrev x : ℕ
    x = asked (bl_width long) pair

    x_low : x % 2 ^ 17 ≡ lower % 2 ^ 17
    x_low = asked_low (bl_width long) (width_most long) pair fits ∙ omega arith

    x_fits : x < 2 ^ 64
    x_fits = asked_fits (bl_width long) (width_most long) pair fits

    pub asked_shape : eqb (bit_and (bit_or x ((x + side_sum side) % 2 ^ 64)) (zero_bits side)) 0 ≡ block_shape (bl_width long) side upper lower
    asked_shape =
        or_leaves x more (zero_bits side)
        ∙ same_test (eqb (bit_and x (zero_bits side)) 0 && eqb (bit_and more (zero_bits side)) 0) (wide_upper long upper && (eqb (bit_and (brpn_of lower) bl) 0 && rest_test side lower)) to from
        ∙ sym shape_is
      where
        more : ℕ
        more = (x + side_sum side) % 2 ^ 64

        to : (eqb (bit_and x (zero_bits side)) 0 && eqb (bit_and more (zero_bits side)) 0) ≡ true
            → (wide_upper long upper && (eqb (bit_and (brpn_of lower) bl) 0 && rest_test side lower)) ≡ true
        to e =
            let (a, b) = both (eqb (bit_and x (zero_bits side)) 0) (eqb (bit_and more (zero_bits side)) 0) e in
            let (none, rest) = rest_left x lower x_fits x_low side (eqb-true (bit_and x (zero_bits side)) 0 a) (eqb-true (bit_and more (zero_bits side)) 0 b) in
            let (good, clear) = length_tests (asked_length (bl_width long) (width_most long) pair fits none) in
            rw (good, clear, rest_passes side lower rest)

        from : (wide_upper long upper && (eqb (bit_and (brpn_of lower) bl) 0 && rest_test side lower)) ≡ true
            → (eqb (bit_and x (zero_bits side)) 0 && eqb (bit_and more (zero_bits side)) 0) ≡ true
        from e =
            let (good, back) = both (wide_upper long upper) (eqb (bit_and (brpn_of lower) bl) 0 && rest_test side lower) e in
            let (clear, rest) = both (eqb (bit_and (brpn_of lower) bl) 0) (rest_test side lower) back in
            let none = length_asked (bl_width long) (width_most long) pair fits (tests_length good clear) in
            let (a, b) = left_rest x lower x_fits x_low side none (passes_rest side lower rest) in
            rw (a, b)
