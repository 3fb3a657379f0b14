-- What is asked of a pair: as many ones as BL has bits, in BEPI's, BL's and BRPN's places. With the place of BL turned they leave nothing of the pair
-- exactly where BL is ones only at its low end, within its width, and BEPI and BRPN are zero under it. One law has both directions, for any width.
use Rattle.std.proofs.Common.{◌≡◌, ℕ, suc, ◌+◌, ◌-◌, ◌*◌, ◌/◌, ◌%◌, ◌^◌, ◌<◌, ◌≤◌, eqb, leb, sym, refl, ap, ◌∙◌, ap₂, mod-eq_of_lt, pow-suc, arith, pow_pos, pow_mono, pow-add, shr-shr, eqb-true, leb-false, leb-true}
use lib.Bits.{bit_and, bit_or, bit_xor, and_mask, and_shr, and_mod, and_le_l, and_le_r, and_zero_r, xor_shr, xor_mod, xor_zero_r, xor_self, xor_add_and}
use lib.Ieee.{size}
use lib.Ieee.Digits.{size-lt, size_reaches}
use lib.Pow.{low, high, field, mod-mod-pow, ones_split, ones_lt}
use borrow.Author.Tests.{eqb-false}
use Rattle.words.proofs.Masks.{or_bit}
use Rattle.words.proofs.Ones.{size_is, size_zero, size_step, size_width}
use Rattle.words.proofs.Tests.{by_test}
use Rattle.register_words.specs.Asked.{pair_ones}
use Rattle.register_words.specs.Block.{bl_of, bepi_of, brpn_of}

-- ---- the ones of a pair

-- BL from bit 17 on, with a one below it
abbrev pub length_field : ℕ → ℕ
length_field pair = bit_or (pair / 2 ^ 17 % 2 ^ 32) (2 ^ 16)

field_parts : (pair : ℕ) → length_field pair ≡ bl_of 15 (pair / 2 ^ 32) * 2 ^ 17 + 2 ^ 16 + pair / 2 ^ 17 % 2 ^ 16
field_parts pair =
    let length : pair / 2 ^ 17 % 2 ^ 32 / 2 ^ 17 ≡ bl_of 15 (pair / 2 ^ 32) = field (pair / 2 ^ 17) 15 17 ∙ omega arith in
    let rest : pair / 2 ^ 17 % 2 ^ 32 % 2 ^ 16 ≡ pair / 2 ^ 17 % 2 ^ 16 = mod-mod-pow (pair / 2 ^ 17) 16 16 in
    or_bit 16 (pair / 2 ^ 17 % 2 ^ 32) ∙ ap₂ (λ (x y : ℕ). x * 2 ^ 17 + 2 ^ 16 + y) length rest

pub field_some : (pair : ℕ) → 0 < length_field pair
field_some pair = omega (arith, field_parts pair)

-- the low 64 bits of a difference that is below 2 ^ 64
cancel : (P o : ℕ) → 0 < P → P ≤ 2 ^ 15 → o < 2 ^ 64 → (o + 0x2000400000001) % 2 ^ 64 ≡ (P * 0x2000400020000) % 2 ^ 64
    → o ≡ (P - 1) * 2 ^ 49 + (P - 1) * 2 ^ 34 + (P - 1) * 2 ^ 17 + (2 ^ 17 - 1)
cancel P o least most l e =
    let y = P * 0x2000400020000 - 0x2000400000001 in
    let whole : y + 0x2000400000001 ≡ P * 0x2000400020000 = omega arith in
    let y-lt : y < 2 ^ 64 = omega arith in
    same o y l y-lt (e ∙ ap (λ (n : ℕ). n % 2 ^ 64) (sym whole)) ∙ omega arith
  where
    same : (a b : ℕ) → a < 2 ^ 64 → b < 2 ^ 64 → (a + 0x2000400000001) % 2 ^ 64 ≡ (b + 0x2000400000001) % 2 ^ 64 → a ≡ b
    same a b a_lt b_lt m = omega arith

module _ (pair h : ℕ) (is : h + 1 ≡ size (length_field pair)) (within : h < 32) where
  abbrev bl : ℕ
  bl = bl_of 15 (pair / 2 ^ 32)

  abbrev s : ℕ
  s = h - 16

  above : length_field pair < 2 ^ (h + 1)
  above = rw is (size-lt (length_field pair))

  at_least : 16 ≤ h
  at_least =
      by_test (leb 16 h) (λ e. leb-true 16 h e)
      (λ e. absurd (
      let l : h + 1 ≤ 16 = omega (arith, leb-false 16 h e) in
      omega (arith, field_parts pair, above, pow_mono l)
      ))

  power : 2 ^ h ≡ 2 ^ s * 2 ^ 16
  power = let e : h ≡ s + 16 = omega (arith, at_least) in ap (λ (n : ℕ). 2 ^ n) e ∙ pow-add 2 s 16

  below : 2 ^ h ≤ length_field pair
  below = size_reaches (length_field pair) h (omega arith)

  -- the highest one of the field is that of BL, or the one below it
  length_is : size bl ≡ s
  length_is =
      let most : 2 ^ s ≤ 2 * bl + 1 = omega (arith, field_parts pair, below, power) in
      size_is bl s (omega (arith, field_parts pair, above, power, pow-add 2 h 1))
      (λ m l. let next : suc m ≤ s = omega arith in omega (arith, pow_mono next, pow-suc 2 m))

  pub ones_are : (ones : ℕ) → ones < 2 ^ 64 → (ones + 0x2000400000001) % 2 ^ 64 ≡ 0x200040002 * 2 ^ h % 2 ^ 64 → ones ≡ pair_ones (pair / 2 ^ 32)
  unfolding pair_ones
  ones_are ones o_lt o_is =
      let P = 2 ^ s in
      let most : 2 ^ s ≤ 2 ^ 15 = let l : s ≤ 15 = omega arith in pow_mono l in
      let sum : (ones + 0x2000400000001) % 2 ^ 64 ≡ (P * 0x2000400020000) % 2 ^ 64 = o_is ∙ ap (λ (n : ℕ). n % 2 ^ 64) (omega (arith, power)) in
      cancel P ones (pow_pos s) most o_lt sum
      ∙ ap (λ (k : ℕ). (2 ^ k - 1) * 2 ^ 49 + (2 ^ k - 1) * 2 ^ 34 + (2 ^ k - 1) * 2 ^ 17 + (2 ^ 17 - 1)) (sym length_is)

pub ones_top : (pair : ℕ) → pair_ones (pair / 2 ^ 32) / 2 ^ 49 ≡ 2 ^ size (bl_of 15 (pair / 2 ^ 32)) - 1
unfolding pair_ones
ones_top pair =
    let bl = bl_of 15 (pair / 2 ^ 32) in
    let f = 2 ^ size bl - 1 in
    let few : size bl ≤ 15 = size_width bl 15 (omega arith) in
    let rest : f * 2 ^ 34 + f * 2 ^ 17 + (2 ^ 17 - 1) < 2 ^ 49 = omega (arith, pow_mono few, pow_pos (size bl)) in
    ap (λ (n : ℕ). n / 2 ^ 49) (omega arith) ∙ high f 49 rest

-- ---- BL turned

-- numbers that differ in no bit are equal
xor_none : (a b : ℕ) → bit_xor a b ≡ 0 → a ≡ b
xor_none a b e = omega (arith, xor_add_and a b, and_le_l a b, and_le_r a b)

module _ (w bl : ℕ) where
  abbrev n : ℕ
  n = size bl

  -- its highest one
  reaches : 2 ^ n ≤ 2 * bl + 1
  reaches =
      by_test (eqb bl 0) (λ z. let e = eqb-true bl 0 z in rw (e, size_zero) (omega arith))
      (λ z.
      let step = size_step bl (eqb-false bl 0 z) in
      let most = size_reaches bl (size (bl / 2)) (omega arith) in
      rw step (omega (arith, pow-suc 2 (size (bl / 2)))))

  pub turned_none : bit_xor bl (2 ^ w - 1) % 2 ^ n ≡ 0 → (bl ≡ 2 ^ n - 1) × (n ≤ w)
  turned_none none =
      let same : bl ≡ (2 ^ w - 1) % 2 ^ n =
      sym (mod-eq_of_lt (size-lt bl)) ∙ xor_none (bl % 2 ^ n) ((2 ^ w - 1) % 2 ^ n) (sym (xor_mod bl (2 ^ w - 1) n) ∙ none) in
      let short : n ≤ w =
      by_test (leb n w) (λ e. leb-true n w e)
      (λ e. absurd (
      let l : suc w ≤ n = omega (arith, leb-false n w e) in
      let p : 2 ^ suc w ≤ 2 ^ n = pow_mono l in
      let full : (2 ^ w - 1) % 2 ^ n ≡ 2 ^ w - 1 = mod-eq_of_lt (omega (arith, pow-suc 2 w, pow_pos w)) in
      omega (arith, reaches, pow-suc 2 w, pow_pos w)
      )) in
      let width : (w - n) + n ≡ w = omega arith in
      (same ∙ ap (λ (k : ℕ). (2 ^ k - 1) % 2 ^ n) (sym width) ∙ ap (λ (k : ℕ). k % 2 ^ n) (ones_split (w - n) n) ∙ low (2 ^ (w - n) - 1) n (ones_lt n), short)

  pub none_turned : bl ≡ 2 ^ n - 1 → n ≤ w → bit_xor bl (2 ^ w - 1) % 2 ^ n ≡ 0
  none_turned ones short =
      let width : (w - n) + n ≡ w = omega arith in
      let rest : (2 ^ w - 1) % 2 ^ n ≡ 2 ^ n - 1 =
      ap (λ (k : ℕ). (2 ^ k - 1) % 2 ^ n) (sym width) ∙ ap (λ (k : ℕ). k % 2 ^ n) (ones_split (w - n) n) ∙ low (2 ^ (w - n) - 1) n (ones_lt n) in
      xor_mod bl (2 ^ w - 1) n ∙ ap₂ bit_xor (mod-eq_of_lt (size-lt bl) ∙ ones) rest ∙ xor_self (2 ^ n - 1)

-- ---- what is asked

-- w bits from the bit of value 2 ^ k on, of numbers put together
and_field : (k w a b : ℕ) → bit_and a b / 2 ^ k % 2 ^ w ≡ bit_and (a / 2 ^ k % 2 ^ w) (b / 2 ^ k % 2 ^ w)
and_field k w a b = ap (λ (x : ℕ). x % 2 ^ w) (and_shr a b k) ∙ and_mod (a / 2 ^ k) (b / 2 ^ k) w

xor_field : (k w a b : ℕ) → bit_xor a b / 2 ^ k % 2 ^ w ≡ bit_xor (a / 2 ^ k % 2 ^ w) (b / 2 ^ k % 2 ^ w)
xor_field k w a b = ap (λ (x : ℕ). x % 2 ^ w) (xor_shr a b k) ∙ xor_mod (a / 2 ^ k) (b / 2 ^ k) w

-- a field of 15 bits that stands above k bits and below others
field_at : (k q x low_bits m : ℕ) → m ≡ (q * 2 ^ 15 + x) * 2 ^ k + low_bits → low_bits < 2 ^ k → x < 2 ^ 15 → m / 2 ^ k % 2 ^ 15 ≡ x
field_at k q x low_bits m e l h = ap (λ (i : ℕ). i / 2 ^ k % 2 ^ 15) e ∙ ap (λ (i : ℕ). i % 2 ^ 15) (high (q * 2 ^ 15 + x) k l) ∙ low q 15 h

-- the place of BL of a width
abbrev pub place : ℕ → ℕ
place w = (2 ^ w - 1) * 2 ^ 34

abbrev pub asked : ℕ → ℕ → ℕ
asked w pair = bit_and (bit_xor pair (place w)) (pair_ones (pair / 2 ^ 32))

module _ (w : ℕ) (wide : w ≤ 15) (pair : ℕ) (fits : pair < 2 ^ 64) where
  abbrev pub length : ℕ
  length = bl_of 15 (pair / 2 ^ 32)

  abbrev pub k : ℕ
  k = size length

  abbrev pub f : ℕ
  f = 2 ^ k - 1

  abbrev ones : ℕ
  ones = pair_ones (pair / 2 ^ 32)

  abbrev x : ℕ
  x = asked w pair

  parts : ones ≡ f * 2 ^ 49 + f * 2 ^ 34 + f * 2 ^ 17 + (2 ^ 17 - 1)
  unfolding pair_ones
  parts = refl

  f_lt : f < 2 ^ 15
  f_lt =
      let most : k ≤ 15 = size_width length 15 (omega arith) in
      omega (arith, pow_mono most, pow_pos k)

  place_lt : 2 ^ w - 1 < 2 ^ 15
  place_lt = omega (arith, pow_mono wide, pow_pos w)

  at_brpn : ones / 2 ^ 17 % 2 ^ 15 ≡ f
  at_brpn = field_at 17 (f * 2 ^ 17 + f * 2 ^ 2) f (2 ^ 17 - 1) ones (parts ∙ omega arith) (omega arith) f_lt

  at_bl : ones / 2 ^ 34 % 2 ^ 15 ≡ f
  at_bl = field_at 34 f f (f * 2 ^ 17 + (2 ^ 17 - 1)) ones (parts ∙ omega arith) (omega (arith, f_lt)) f_lt

  at_bepi : ones / 2 ^ 49 % 2 ^ 15 ≡ f
  at_bepi = field_at 49 0 f (f * 2 ^ 34 + f * 2 ^ 17 + (2 ^ 17 - 1)) ones (parts ∙ omega arith) (omega (arith, f_lt)) f_lt

  at_v : ones / 2 ^ 32 % 2 ^ 2 ≡ 0
  at_v =
      let above-32 : ones / 2 ^ 32 ≡ f * 2 ^ 17 + f * 2 ^ 2 =
      ap (λ (i : ℕ). i / 2 ^ 32) (parts ∙ omega arith) ∙ high (f * 2 ^ 17 + f * 2 ^ 2) 32 {lo = f * 2 ^ 17 + (2 ^ 17 - 1)} (omega (arith, f_lt)) in
      omega arith

  pub asked_fits : x < 2 ^ 64
  asked_fits = omega (arith, and_le_r (bit_xor pair (place w)) ones, parts, f_lt)

  pub asked_low : x % 2 ^ 17 ≡ pair % 2 ^ 17
  asked_low =
      let o : ones % 2 ^ 17 ≡ 2 ^ 17 - 1 = omega (arith, parts) in
      let none : place w % 2 ^ 17 ≡ 0 = omega arith in
      and_mod (bit_xor pair (place w)) ones 17
      ∙ ap₂ bit_and (xor_mod pair (place w) 17 ∙ ap (bit_xor (pair % 2 ^ 17)) none ∙ xor_zero_r (pair % 2 ^ 17)) o
      ∙ and_mask (pair % 2 ^ 17) 17 ∙ omega arith

  -- what is left at a place
  at : (j c : ℕ) → ones / 2 ^ j % 2 ^ 15 ≡ f → place w / 2 ^ j % 2 ^ 15 ≡ c → x / 2 ^ j % 2 ^ 15 ≡ bit_xor (pair / 2 ^ j % 2 ^ 15) c % 2 ^ k
  at j c at_ones at_c =
      and_field j 15 (bit_xor pair (place w)) ones
      ∙ ap₂ bit_and (xor_field j 15 pair (place w) ∙ ap (bit_xor (pair / 2 ^ j % 2 ^ 15)) at_c) at_ones
      ∙ and_mask (bit_xor (pair / 2 ^ j % 2 ^ 15) c) k

  left_bepi : x / 2 ^ 49 ≡ bepi_of (pair / 2 ^ 32) % 2 ^ k
  left_bepi =
      let none : place w / 2 ^ 49 % 2 ^ 15 ≡ 0 = omega (arith, place_lt) in
      let here : pair / 2 ^ 49 % 2 ^ 15 ≡ bepi_of (pair / 2 ^ 32) = omega arith in
      omega (arith, asked_fits) ∙ at 49 0 at_bepi none ∙ ap (λ (i : ℕ). i % 2 ^ k) (xor_zero_r (pair / 2 ^ 49 % 2 ^ 15) ∙ here)

  left_brpn : x / 2 ^ 17 % 2 ^ 15 ≡ brpn_of (pair % 2 ^ 32) % 2 ^ k
  left_brpn =
      let none : place w / 2 ^ 17 % 2 ^ 15 ≡ 0 = omega arith in
      let here : pair / 2 ^ 17 % 2 ^ 15 ≡ brpn_of (pair % 2 ^ 32) = omega arith in
      at 17 0 at_brpn none ∙ ap (λ (i : ℕ). i % 2 ^ k) (xor_zero_r (pair / 2 ^ 17 % 2 ^ 15) ∙ here)

  left_bl : x / 2 ^ 34 % 2 ^ 15 ≡ bit_xor length (2 ^ w - 1) % 2 ^ k
  left_bl =
      let own : place w / 2 ^ 34 % 2 ^ 15 ≡ 2 ^ w - 1 = omega (arith, place_lt) in
      let here : pair / 2 ^ 34 % 2 ^ 15 ≡ length = omega arith in
      at 34 (2 ^ w - 1) at_bl own ∙ ap (λ (i : ℕ). bit_xor i (2 ^ w - 1) % 2 ^ k) here

  left_v : x / 2 ^ 32 % 2 ^ 2 ≡ 0
  left_v = and_field 32 2 (bit_xor pair (place w)) ones ∙ ap (bit_and (bit_xor pair (place w) / 2 ^ 32 % 2 ^ 2)) at_v ∙ and_zero_r (bit_xor pair (place w) / 2 ^ 32 % 2 ^ 2)

  -- a field under BL's ones
  under : (v : ℕ) → length ≡ f → bit_and v length ≡ v % 2 ^ k
  under v e = ap (bit_and v) e ∙ and_mask v k

  -- what it means that nothing is left above the low 17 bits
  pub record Length : Type 0 where
    pub only_ones : length ≡ f
    pub within : k ≤ w
    pub bepi : bit_and (bepi_of (pair / 2 ^ 32)) length ≡ 0
    pub brpn : bit_and (brpn_of (pair % 2 ^ 32)) length ≡ 0

  pub asked_length : x / 2 ^ 17 ≡ 0 → Length
  asked_length none =
      let (only_ones, within) = turned_none w length (sym left_bl ∙ omega arith) in
      record {
        only_ones = only_ones;
        within = within;
        bepi = under (bepi_of (pair / 2 ^ 32)) only_ones ∙ sym left_bepi ∙ omega arith;
        brpn = under (brpn_of (pair % 2 ^ 32)) only_ones ∙ sym left_brpn ∙ omega arith;
      }

  pub length_asked : Length → x / 2 ^ 17 ≡ 0
  length_asked l =
      let a : x / 2 ^ 49 ≡ 0 = left_bepi ∙ sym (under (bepi_of (pair / 2 ^ 32)) l.only_ones) ∙ l.bepi in
      let b : x / 2 ^ 34 % 2 ^ 15 ≡ 0 = left_bl ∙ none_turned w length l.only_ones l.within in
      let c : x / 2 ^ 17 % 2 ^ 15 ≡ 0 = left_brpn ∙ sym (under (brpn_of (pair % 2 ^ 32)) l.only_ones) ∙ l.brpn in
      let above-34 : x / 2 ^ 34 ≡ 0 = omega (arith, shr-shr x 34 15) in
      let above-32 : x / 2 ^ 32 ≡ 0 = omega (arith, left_v, shr-shr x 32 2) in
      omega (arith, shr-shr x 17 15)
