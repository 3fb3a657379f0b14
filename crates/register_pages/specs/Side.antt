-- The pairs of a side: where they begin on a page, the upper word and the lower word of each by their bytes, and what the check's pass over them tells.
use Rattle.std.specs.Prelude.{ℕ, ◌+◌, ◌*◌, ◌/◌, Bool, true, false, cond, not, ◌&&◌, List, [], ◌∷◌, ◌≡◌, eqb, length}
use Rattle.std.specs.Int.Bits.{bit_and}
use Rattle.numbers.specs.Numbers.{refused_block, refused_blocks_share}
use Rattle.words.specs.Below.{every_below}
use Rattle.words.specs.Words.{word_at}
use Rattle.register_words.specs.Asked.{bl_place, side_sum, zero_bits}
use Rattle.register_words.specs.Block.{bl_width, off, block_shape, clash}
use Rattle.registers.specs.Rules.{first_broken}
use Rattle.registers.specs.Set.{block_pairs, side_shape, side_apart}
use Rattle.register_pages.specs.declared.Side.{Side}

-- the byte at which a side's pairs begin on a short or a long page
abbrev pub side_byte : Bool → Bool → ℕ
side_byte long side = cond side (cond long 132 100) 68

module _ (pairs : List ℕ) where
  -- the upper and the lower word of pair i
  abbrev pub upper_at : ℕ → ℕ
  upper_at i = word_at pairs (8 * i)

  abbrev pub lower_at : ℕ → ℕ
  lower_at i = word_at pairs (8 * i + 4)

  -- each of the first n pairs is off
  unfoldable pub pairs_off : ℕ → Bool
  pairs_off n = every_below n (λ i. off (upper_at i))

  -- each of the first n pairs has the shape of its side's blocks, on a short or a long page
  unfoldable pub pairs_shape : Bool → Bool → ℕ → Bool
  pairs_shape long side n = every_below n (λ i. block_shape (bl_width long) side (upper_at i) (lower_at i))

  -- a block shares an address and a V bit with none of the first n pairs
  unfoldable pub apart_from : ℕ → ℕ → Bool
  apart_from own n = every_below n (λ i. not (clash 15 (upper_at i) own))

  -- no two of the first n pairs share an address and a V bit
  unfoldable pub pairs_apart : ℕ → Bool
  unfolding apart_from
  pairs_apart n = every_below n (λ j. apart_from (upper_at j) j)

-- what the pass over a side's pairs tells, by the place of BL and what was added: each has its shape exactly where the bits that must be zero are, and
-- where none begins at or before the end of the one before, blocks of right shape are apart
pub record Gathered (lengths sum : ℕ) (pairs : List ℕ) (seen : Side) : Type 0 where
  pub shape : (long side : Bool) → lengths ≡ bl_place long → sum ≡ side_sum side
      → eqb (bit_and seen.any (zero_bits side)) 0 ≡ pairs_shape pairs long side (length pairs / 8)
  pub rises : seen.falls ≡ 0 → (long side : Bool) → pairs_shape pairs long side (length pairs / 8) ≡ true → pairs_apart pairs (length pairs / 8) ≡ true

-- the rules of blocks in their order: the number of the first that the words of a short or a long page break, or 0
unfoldable pub blocks_refusal : Bool → List ℕ → ℕ
blocks_refusal long words =
    let shaped = side_shape (block_pairs long) (bl_width long) words in
    let apart = side_apart (block_pairs long) (bl_width long) words in
    first_broken ((not (shaped false && shaped true), refused_block) ∷ (not (apart false && apart true), refused_blocks_share) ∷ [])
