-- Laws of BL of 11 bits beside BL of 15 bits: for pairs that are off or have bits 15 to 18 zero every test of a set is the same.
use mathlib.Core.Path.{◌≡◌, refl, ap}
use mathlib.Core.Bool.{Bool, true, false, not}
use mathlib.Core.List.{List}
use Prim.Native.Nat.{ℕ, ◌<◌}
use native.Mathlib.Omega.{arith}
use Rattle.words.proofs.Below.{every_at, every_same, first_same}
use Rattle.register_words.specs.Block.{bl_width, narrow, block_shape}
use Rattle.register_words.proofs.Blocks.{shape_narrow, shape_same, clash_same, covers_same}
use Rattle.registers.specs.Set.{upper_of, lower_of, side_shape, pair_apart, side_apart, check_words, pair_covers, covering_pair}

module _ (pairs : ℕ) (words : List ℕ) where
  -- each pair of a side is off or has bits 15 to 18 zero
  abbrev pub Narrow : Bool → Type 0
  Narrow side = (i : ℕ) → i < pairs → narrow (upper_of pairs words side i) ≡ true

  pub shaped_narrow : (side : Bool) → side_shape pairs 11 words side ≡ true → Narrow side
  unfolding side_shape
  shaped_narrow side e i l =
      shape_narrow side (upper_of pairs words side i) (lower_of pairs words side i)
      (every_at (λ k. block_shape 11 side (upper_of pairs words side k) (lower_of pairs words side k)) pairs i e l)

  module _ (side : Bool) (own : Narrow side) where
    pub side_shape_same : side_shape pairs 11 words side ≡ side_shape pairs 15 words side
    unfolding side_shape
    side_shape_same = every_same _ _ pairs (λ i l. shape_same side (upper_of pairs words side i) (lower_of pairs words side i) (own i l))

    pub side_apart_same : side_apart pairs 11 words side ≡ side_apart pairs 15 words side
    unfolding side_apart pair_apart
    side_apart_same =
        every_same _ _ pairs
        (λ j h. every_same _ _ j (λ i l. ap not (clash_same (upper_of pairs words side i) (upper_of pairs words side j) (own i (omega arith)) (own j h))))

    pub covering_same : (user : Bool) (address : ℕ) → covering_pair pairs 11 words side user address ≡ covering_pair pairs 15 words side user address
    unfolding covering_pair pair_covers
    covering_same user address = first_same _ _ pairs (λ i l. covers_same user (upper_of pairs words side i) address (own i l))

  -- the check of a set without such a bit
  pub check_same : ((side : Bool) → Narrow side) → check_words pairs 11 words ≡ check_words pairs 15 words
  unfolding check_words
  check_same own =
      rw (
        side_shape_same false (own false),
        side_shape_same true (own true),
        side_apart_same false (own false),
        side_apart_same true (own true),
      )

-- blocks that have their shape are apart by BL of 15 bits exactly where they are by their own width
pub apart_wide : (long : Bool) (pairs : ℕ) (words : List ℕ) (side : Bool) → side_shape pairs (bl_width long) words side ≡ true
    → side_apart pairs (bl_width long) words side ≡ side_apart pairs 15 words side
apart_wide true pairs words side e = refl
apart_wide false pairs words side e = side_apart_same pairs words side (shaped_narrow pairs words side e)
