-- Laws of a short page's words as those of a long one: each word stands where the definition says, the pairs that are added are off, and so every
-- test of the set is the same.
use mathlib.Core.Path.{◌≡◌, refl, sym, ap, ap₂, ◌∙◌}
use mathlib.Core.Bool.{Bool, true, false, not}
use mathlib.Core.List.{List}
use Prim.Native.Nat.{ℕ, ◌+◌, ◌-◌, ◌*◌, ◌<◌, ◌≤◌}
use native.Mathlib.Omega.{arith}
use lib.ListN.{length, get_or, set}
use Rattle.words.specs.Below.{every_below}
use Rattle.words.proofs.Below.{every_same, every_further, every_all, FirstOf, first_further}
use Rattle.register_words.specs.Segment.{segment_shape}
use Rattle.register_words.specs.Block.{off, block_shape, clash, covers}
use Rattle.register_words.proofs.Blocks.{off_shape, off_clash, off_covers}
use Rattle.registers.specs.Set.{sdr1_of, segment_of, segments_shape, upper_of, lower_of, side_shape, pair_apart, side_apart, check_words, pair_covers, covering_pair}
use Rattle.registers.specs.Set.{widened, place_in_set}
use Rattle.registers.proofs.Spread.{spread_length, spread_front, spread_gap, spread_back, spread_end, spread_set}

-- a pair of zero words is off
pub zero_off : off 0 ≡ true
unfolding off
zero_off = refl

module _ (words : List ℕ) (full : length words ≡ 33) where
  pub widened_length : length (widened words) ≡ 49
  unfolding widened
  widened_length = spread_length 25 8 words full

  -- where each word stands
  pub at_front : (k : ℕ) → k < 25 → get_or (widened words) k 0 ≡ get_or words k 0
  unfolding widened
  at_front = spread_front 25 8 words full

  pub at_gap : (n : ℕ) → n < 8 → get_or (widened words) (25 + n) 0 ≡ 0
  unfolding widened
  at_gap = spread_gap 25 8 words full

  pub at_data : (n : ℕ) → n < 8 → get_or (widened words) (33 + n) 0 ≡ get_or words (25 + n) 0
  unfolding widened
  at_data = spread_back 25 8 words full

  pub at_end : (n : ℕ) → n < 8 → get_or (widened words) (41 + n) 0 ≡ 0
  unfolding widened
  at_end = spread_end 25 8 words full

  -- the pairs of a side: the first four are the short page's, the others zero
  pub upper_first : (side : Bool) (i : ℕ) → i < 4 → upper_of 8 (widened words) side i ≡ upper_of 4 words side i
  upper_first true i l = at_data (2 * i) (omega arith)
  upper_first false i l = at_front (17 + 2 * i) (omega arith)

  pub lower_first : (side : Bool) (i : ℕ) → i < 4 → lower_of 8 (widened words) side i ≡ lower_of 4 words side i
  lower_first true i l =
      ap (λ (k : ℕ). get_or (widened words) k 0) (omega arith) ∙ at_data (2 * i + 1) (omega arith) ∙ ap (λ (k : ℕ). get_or words k 0) (omega arith)
  lower_first false i l = at_front (17 + 2 * i + 1) (omega arith)

  pub upper_last : (side : Bool) (i : ℕ) → 4 ≤ i → i < 8 → upper_of 8 (widened words) side i ≡ 0
  upper_last true i g l = ap (λ (k : ℕ). get_or (widened words) k 0) (omega arith) ∙ at_end (2 * i - 8) (omega arith)
  upper_last false i g l = ap (λ (k : ℕ). get_or (widened words) k 0) (omega arith) ∙ at_gap (2 * i - 8) (omega arith)

  last_off : (side : Bool) (i : ℕ) → 4 ≤ i → i < 8 → off (upper_of 8 (widened words) side i) ≡ true
  last_off side i g l = ap off (upper_last side i g l) ∙ zero_off

  pub sdr1_widened : sdr1_of (widened words) ≡ sdr1_of words
  sdr1_widened = at_front 0 (omega arith)

  pub segment_widened : (i : ℕ) → i < 16 → segment_of (widened words) i ≡ segment_of words i
  segment_widened i l = at_front (1 + i) (omega arith)

  pub segments_widened : segments_shape (widened words) ≡ segments_shape words
  unfolding segments_shape
  segments_widened = every_same _ _ 16 (λ i l. ap segment_shape (segment_widened i l))

  module _ (width : ℕ) where
    pub shape_widened : (side : Bool) → side_shape 8 width (widened words) side ≡ side_shape 4 width words side
    unfolding side_shape
    shape_widened side =
        every_further (λ i. block_shape width side (upper_of 8 (widened words) side i) (lower_of 8 (widened words) side i)) 4 8 (omega arith)
        (λ i g l. off_shape width (upper_of 8 (widened words) side i) (last_off side i g l) side (lower_of 8 (widened words) side i))
        ∙ every_same _ _ 4 (λ i l. ap₂ (block_shape width side) (upper_first side i l) (lower_first side i l))

    pub apart_widened : (side : Bool) → side_apart 8 width (widened words) side ≡ side_apart 4 width words side
    unfolding side_apart pair_apart
    apart_widened side =
        every_further (λ j. every_below j (λ i. not (clash width (upper_of 8 (widened words) side i) (upper_of 8 (widened words) side j)))) 4 8 (omega arith)
        (λ j g l. every_all _ j (λ i h. ap not (off_clash width (upper_of 8 (widened words) side j) (last_off side j g l) (upper_of 8 (widened words) side i)).1))
        ∙ every_same _ _ 4 (λ j l. every_same _ _ j (λ i h. ap₂ (λ (a b : ℕ). not (clash width a b)) (upper_first side i (omega arith)) (upper_first side j l)))

    pub check_widened : check_words 8 width (widened words) ≡ check_words 4 width words
    unfolding check_words
    check_widened =
        rw (sdr1_widened, shape_widened false, shape_widened true, apart_widened false, apart_widened true, segments_widened)

    -- the pair that covers an address is the same, or there is none in either
    pub covering_widened : (side user : Bool) (address : ℕ)
        → FirstOf 4 8 (covering_pair 4 width words side user address) (covering_pair 8 width (widened words) side user address)
    unfolding covering_pair pair_covers
    covering_widened side user address =
        first_further _ _ 4 8 (omega arith) (λ i l. ap (λ (u : ℕ). covers width user u address) (sym (upper_first side i l)))
        (λ i g l. off_covers width (upper_of 8 (widened words) side i) (last_off side i g l) user address)

  -- a word replaced
  pub set_widened : (n word : ℕ) → n < 33 → widened (set words n word) ≡ set (widened words) (place_in_set false n) word
  unfolding widened
  set_widened n word l = spread_set 25 8 words full n word l
