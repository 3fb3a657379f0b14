-- The check answers 0 exactly where the set is good: each rule that is kept says its part, and two blocks of right shape that clash would cover one
-- address for one privilege.
use Prim.Native.Nat.{ℕ, ◌+◌, ◌-◌, ◌/◌, ◌%◌, ◌^◌, ◌≤◌, ◌<◌}
use mathlib.Core.Bool.{Bool, true, false, not, ◌&&◌, true≢false}
use mathlib.Core.List.{List}
use mathlib.Core.Logic.{◌↔◌}
use mathlib.Core.Path.{◌≡◌, sym, ap, ◌∙◌, subst}
use native.Mathlib.Omega.{arith}
use lib.Bits.{bit_and, and_mask, and_step, and_le_l, and_le_r}
use lib.Dec.{eqb, lit≤}
use lib.ListN.{set}
use lib.Pow.{mod-mod-pow}
use borrow.Author.Tests.{eqb-true, eqb-false, eq-eqb, ne_eqb, lt-ltb}
use Rattle.words.specs.Ones.{low_ones}
use Rattle.words.proofs.Below.{every_at, every_all}
use Rattle.words.specs.Bits.{bits}
use Rattle.words.proofs.Tests.{both, by_test}
use Rattle.register_words.specs.Sdr1.{origin_of, mask_of, sdr1_shape, mask_ones}
use Rattle.register_words.specs.Segment.{segment_shape}
use Rattle.register_words.specs.Block.{bl_width, off, upper_shape, lower_shape, block_shape, common_v, share_address, valid_for, clash, covers}
use Rattle.register_words.proofs.Sdr1.{mask_is, ones_at_most_9, made_shape}
use Rattle.register_words.proofs.Blocks.{share_witness}
use Rattle.registers.specs.Set.{block_pairs, register_count, sdr1_of, segment_of, upper_of, lower_of, segments_shape, side_shape, pair_apart, side_apart, check_words, pair_covers, replacing}
use Rattle.registers.specs.Check.{Sdr1Good, SetGood, CheckDecides, ReplacingDecides}
use Rattle.registers.proofs.Set.{checked, replaced_number}
use Rattle.registers.proofs.Blocks.{before}

-- SDR1's shape by arithmetic
module _ (sdr1 : ℕ) where
  pub shape_good : sdr1_shape sdr1 ≡ true → Sdr1Good sdr1
  unfolding sdr1_shape
  shape_good shape =
      let o = sdr1 / 65536 in
      let k = mask_ones sdr1 in
      let reserved = eqb (sdr1 / 2 ^ 9 % 2 ^ 7) 0 in
      let (low, under) = both (low_ones (mask_of sdr1) && reserved) (eqb (bit_and (origin_of sdr1) (mask_of sdr1)) 0) shape in
      let zeros = eqb-true (sdr1 / 2 ^ 9 % 2 ^ 7) 0 (both (low_ones (mask_of sdr1)) reserved low).1 in
      let mask = mask_is sdr1 shape in
      let few = ones_at_most_9 sdr1 shape in
      let width : (16 - k) + k ≡ 16 = omega arith in
      let clear : origin_of sdr1 % 2 ^ k ≡ 0 =
      sym (and_mask (origin_of sdr1) k) ∙ subst (λ (m : ℕ). bit_and (origin_of sdr1) m ≡ 0) mask (eqb-true (bit_and (origin_of sdr1) (mask_of sdr1)) 0 under) in
      record { origin = o; ones = k; made = omega arith; few = few; whole = sym (rw width at (mod-mod-pow o (16 - k) k)) ∙ clear }

  pub good_shape : Sdr1Good sdr1 → sdr1_shape sdr1 ≡ true
  good_shape good = rw good.made (made_shape good.origin good.ones good.few good.whole)

-- of two bits that are not both one, the conjunction is zero
one_alone : (x y : ℕ) → x < 2 → y < 2 → (x ≡ 1 → y ≡ 1 → ⊥) → bit_and x y ≡ 0
one_alone x y hx hy n = by_test (eqb x 1) first (λ e. let z = eqb-false x 1 e in omega (arith, and_le_l x y, z))
  where
    first : eqb x 1 ≡ true → bit_and x y ≡ 0
    first e = by_test (eqb y 1) (λ f. absurd (n (eqb-true x 1 e) (eqb-true y 1 f))) (λ f. let z = eqb-false y 1 f in omega (arith, and_le_r x y, z))

not_both : (x y : ℕ) → eqb x 1 && eqb y 1 ≡ false → x ≡ 1 → y ≡ 1 → ⊥
not_both x y e p q = true≢false (rw (eq-eqb x 1 p, eq-eqb y 1 q) at e)

-- a V bit in common is the user's or the supervisor's
valid_both : (u₁ u₂ : ℕ) → common_v u₁ u₂ ≡ true → (user : Bool) × ((valid_for user u₁ ≡ true) × (valid_for user u₂ ≡ true))
unfolding common_v valid_for
valid_both u₁ u₂ e =
    by_test (eqb (bits 31 31 u₁) 1 && eqb (bits 31 31 u₂) 1) (λ p. (true, both (eqb (bits 31 31 u₁) 1) (eqb (bits 31 31 u₂) 1) p))
    (λ p. by_test (eqb (bits 30 30 u₁) 1 && eqb (bits 30 30 u₂) 1) (λ q. (false, both (eqb (bits 30 30 u₁) 1) (eqb (bits 30 30 u₂) 1) q)) (λ q. absurd (none p q)))
  where
    none : eqb (bits 31 31 u₁) 1 && eqb (bits 31 31 u₂) 1 ≡ false → eqb (bits 30 30 u₁) 1 && eqb (bits 30 30 u₂) 1 ≡ false → ⊥
    none p q =
        let a = bits 30 31 u₁ in
        let b = bits 30 31 u₂ in
        let high : bit_and (a / 2) (b / 2) ≡ 0 =
        one_alone (a / 2) (b / 2) (omega arith) (omega arith) (λ x y. not_both (bits 30 30 u₁) (bits 30 30 u₂) q (omega (arith, x)) (omega (arith, y))) in
        let low : bit_and (a % 2) (b % 2) ≡ 0 =
        one_alone (a % 2) (b % 2) (omega arith) (omega arith) (λ x y. not_both (bits 31 31 u₁) (bits 31 31 u₂) p (omega (arith, x)) (omega (arith, y))) in
        let nothing : bit_and a b ≡ 0 = omega (arith, and_step a b, and_step (a % 2) (b % 2), high, low) in
        true≢false (sym e ∙ ap not (eq-eqb (bit_and a b) 0 nothing))

-- a pair with a V bit is on
valid_on : (user : Bool) (upper : ℕ) → valid_for user upper ≡ true → off upper ≡ false
unfolding off valid_for
valid_on true upper e = ne_eqb (bits 30 31 upper) 0 (λ z. omega (arith, eqb-true (bits 31 31 upper) 1 e, z))
valid_on false upper e = ne_eqb (bits 30 31 upper) 0 (λ z. omega (arith, eqb-true (bits 30 30 upper) 1 e, z))

module _ (pairs width : ℕ) (wide : width ≤ 15) (words : List ℕ) where
  on_shape : (side : Bool) (upper lower : ℕ) → block_shape width side upper lower ≡ true → off upper ≡ false
      → (upper_shape width upper ≡ true) × (lower_shape width side upper lower ≡ true)
  unfolding block_shape
  on_shape side upper lower e o = both (upper_shape width upper) (lower_shape width side upper lower) (rw o at e)

  passed_good : check_words pairs width words ≡ 0 → SetGood pairs width words
  unfolding side_shape segments_shape
  passed_good passed =
      let c = checked pairs width words passed in
      record {
        sdr1 = shape_good (sdr1_of words) c.sdr1;
        shape = λ side i h. on_shape side (upper_of pairs words side i) (lower_of pairs words side i)
            (every_at (λ x. block_shape width side (upper_of pairs words side x) (lower_of pairs words side x)) pairs i (c.shape side) h);
        apart = λ side user address i j h l m p q. before pairs width wide words side user address i j (c.apart side) l m p q;
        segments = λ i h. every_at (λ x. segment_shape (segment_of words x)) 16 i c.segments h;
      }

  -- two pairs of right shape that are on and clash cover one address for one privilege
  clash_covers : SetGood pairs width words → (side : Bool) (i j : ℕ) → i < j → j < pairs → clash width (upper_of pairs words side i) (upper_of pairs words side j) ≡ true → ⊥
  unfolding clash pair_covers covers
  clash_covers good side i j l h e =
      let u = upper_of pairs words side i in
      let v = upper_of pairs words side j in
      let (in-common, share) = both (common_v u v) (share_address width u v) e in
      let (user, (valid₁, valid₂)) = valid_both u v in-common in
      let shape₁ = (good.shape side i (omega arith) (valid_on user u valid₁)).0 in
      let shape₂ = (good.shape side j h (valid_on user v valid₂)).0 in
      let (address, (small, (in₁, in₂))) = share_witness width wide u v shape₁ shape₂ share in
      good.apart side user address i j small l h (rw (valid₁, in₁)) (rw (valid₂, in₂))

  good_shapes : SetGood pairs width words → (side : Bool) → side_shape pairs width words side ≡ true
  unfolding side_shape block_shape
  good_shapes good side =
      every_all (λ i. block_shape width side (upper_of pairs words side i) (lower_of pairs words side i)) pairs
      (λ i h. by_test (off (upper_of pairs words side i)) (λ o. rw o) (λ o. let (up, low) = good.shape side i h o in rw (o, up, low)))

  good_apart : SetGood pairs width words → (side : Bool) → side_apart pairs width words side ≡ true
  unfolding side_apart pair_apart
  good_apart good side =
      every_all (pair_apart pairs width words side) pairs
      (λ j h. every_all (λ i. not (clash width (upper_of pairs words side i) (upper_of pairs words side j))) j
      (λ i l. by_test (clash width (upper_of pairs words side i) (upper_of pairs words side j)) (λ e. absurd (clash_covers good side i j l h e)) (λ e. ap not e)))

  good_passed : SetGood pairs width words → check_words pairs width words ≡ 0
  unfolding check_words segments_shape
  good_passed good =
      rw (
        good_shape (sdr1_of words) good.sdr1,
        good_shapes good false,
        good_shapes good true,
        good_apart good false,
        good_apart good true,
        every_all (λ i. segment_shape (segment_of words i)) 16 good.segments,
      )

pub check_decides : CheckDecides
check_decides pairs width wide words = (passed_good pairs width wide words, good_passed pairs width wide words)

-- BL has at most 15 bits
pub at_most_15 : (long : Bool) → bl_width long ≤ 15
at_most_15 true = lit≤ tt
at_most_15 false = lit≤ tt

pub replacing_decides : ReplacingDecides
unfolding replacing
replacing_decides long words number word = (
  (λ e. let h = replaced_number long words number word e in (h, decides.0 (rw (lt-ltb number (register_count long) h) at e))),
  (λ g. rw (lt-ltb number (register_count long) g.0) (decides.1 g.1)),
)
  where
    decides : (check_words (block_pairs long) (bl_width long) (set words number word) ≡ 0) ↔ SetGood (block_pairs long) (bl_width long) (set words number word)
    decides = check_decides (block_pairs long) (bl_width long) (at_most_15 long) (set words number word)
