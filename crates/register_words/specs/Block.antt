-- A block pair, its upper and its lower word (rules 3), over the width of BL.
use Rattle.std.specs.Prelude.{ℕ, ◌+◌, ◌-◌, ◌^◌, Bool, cond, not, ◌&&◌, ◌||◌, ◌==◌, bit_and, bit_or}
use Rattle.words.specs.Bits.{bits, placed}
use Rattle.words.specs.Ones.{low_ones}

-- BL has 11 bits on a short register page (false) and 15 on a long one (true)
abbrev pub bl_width : Bool → ℕ
bl_width long = cond long 15 11

-- BEPI, the block's effective start, bits 0 to 14 of the upper word
abbrev pub bepi_of : ℕ → ℕ
bepi_of upper = bits 0 14 upper

-- BRPN, the block's physical start, bits 0 to 14 of the lower word
abbrev pub brpn_of : ℕ → ℕ
brpn_of lower = bits 0 14 lower

-- WIMG, bits 25 to 28 of the lower word
unfoldable pub block_attributes : ℕ → ℕ
block_attributes lower = bits 25 28 lower

-- PP, bits 30 and 31 of the lower word
unfoldable pub block_pp : ℕ → ℕ
block_pp lower = bits 30 31 lower

-- "off": Vs and Vp, bits 30 and 31 of the upper word, are both 0
unfoldable pub off : ℕ → Bool
off upper = bits 30 31 upper == 0

-- a pair that is off, or has bits 15 to 18 of its upper word zero: BL of 11 bits and of 15 bits are then the same
unfoldable pub narrow : ℕ → Bool
unfolding off
narrow upper = off upper || bits 15 18 upper == 0

-- valid for the user by Vp, for the supervisor by Vs
unfoldable pub valid_for : Bool → ℕ → Bool
valid_for user upper = cond user (bits 31 31 upper) (bits 30 30 upper) == 1

-- two upper words have a V bit in common
unfoldable pub common_v : ℕ → ℕ → Bool
common_v upper₁ upper₂ = not (bit_and (bits 30 31 upper₁) (bits 30 31 upper₂) == 0)

module _ (width : ℕ) where
  -- BL, the block length, ends at bit 29 of the upper word
  abbrev pub bl_of : ℕ → ℕ
  bl_of upper = bits (30 - width) 29 upper

  -- upper word: BL is ones only at its low end, the bits between BEPI and BL are zero, and so are BEPI's bits under BL
  unfoldable pub upper_shape : ℕ → Bool
  upper_shape upper = low_ones (bl_of upper) && bits 15 (29 - width) upper == 0 && bit_and (bepi_of upper) (bl_of upper) == 0

  -- lower word: BRPN's bits under BL, bits 15 to 24 and bit 29 are zero, W and I are not both one, and an instruction block has W and G zero
  unfoldable pub lower_shape : Bool → ℕ → ℕ → Bool
  lower_shape side upper lower =
      (bit_and (brpn_of lower) (bl_of upper) == 0) && bits 15 24 lower == 0 && bits 29 29 lower == 0 && not (bits 25 26 lower == 3)
      && (side || (bits 25 25 lower == 0 && bits 28 28 lower == 0))

  -- a pair that is off may hold anything else; the side is true for data blocks and false for instruction blocks
  unfoldable pub block_shape : Bool → ℕ → ℕ → Bool
  unfolding off upper_shape lower_shape
  block_shape side upper lower = off upper || (upper_shape upper && lower_shape side upper lower)

  -- the block's start equals the address with the BL bits and the low 17 removed
  unfoldable pub in_block : ℕ → ℕ → Bool
  in_block upper address = bit_and (bits 0 14 address) (2 ^ 15 - 1 - bl_of upper) == bepi_of upper

  -- BRPN with the address's BL bits and low 17 put in
  unfoldable pub block_physical : ℕ → ℕ → ℕ → ℕ
  block_physical upper lower address = placed 14 (bit_or (brpn_of lower) (bit_and (bits 0 14 address) (bl_of upper))) + bits 15 31 address

  -- two blocks share an effective address: their starts agree outside the BL bits of both (`Shares` says what this decides)
  unfoldable pub share_address : ℕ → ℕ → Bool
  share_address upper₁ upper₂ = let either = bit_or (bl_of upper₁) (bl_of upper₂) in (bit_or either (bepi_of upper₁) == bit_or either (bepi_of upper₂))

  -- what refusal 4 forbids of two blocks of a side
  unfoldable pub clash : ℕ → ℕ → Bool
  unfolding common_v share_address
  clash upper₁ upper₂ = common_v upper₁ upper₂ && share_address upper₁ upper₂

  -- the block covers the address for the user or the supervisor
  unfoldable pub covers : Bool → ℕ → ℕ → Bool
  unfolding valid_for in_block
  covers user upper address = valid_for user upper && in_block upper address
