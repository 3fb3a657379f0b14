-- What the check of a register page asks of a block pair as one number, its upper word in the high half.
use Rattle.std.specs.Prelude.{ℕ, ◌+◌, ◌-◌, ◌*◌, ◌^◌, Bool, cond, bit_or}
use Rattle.std.specs.Float.Ieee.{size}
use Rattle.register_words.specs.Block.{bl_of, bepi_of}

-- as many ones as BL has binary digits in the places of BEPI, BL and BRPN at once, and 17 ones at the low end
unfoldable pub pair_ones : ℕ → ℕ
pair_ones upper = let ones = 2 ^ size (bl_of 15 upper) - 1 in ones * 2 ^ 49 + ones * 2 ^ 34 + ones * 2 ^ 17 + (2 ^ 17 - 1)

-- the place of BL on a short or a long page
abbrev pub bl_place : Bool → ℕ
bl_place long = cond long 0x1FFFC00000000 0x1FFC00000000

-- what is added to a data pair, so that W and I of one block show together in the bit above them
abbrev pub side_sum : Bool → ℕ
side_sum side = cond side 32 0

-- the bits that are zero in what is asked of a side's pair: those above bit 25 of the lower word, which the ones leave, and bit 29; of an instruction
-- pair W and G too
abbrev pub zero_bits : Bool → ℕ
zero_bits side = cond side 0xFFFFFFFFFFFFFF84 0xFFFFFFFFFFFFFFCC

-- the last 128 KB of a block, as BEPI is its first: as many ones as BL has binary digits put in
unfoldable pub last_of : ℕ → ℕ
last_of upper = bit_or (bepi_of upper) (2 ^ size (bl_of 15 upper) - 1)
