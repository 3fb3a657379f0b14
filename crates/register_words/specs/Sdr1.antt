-- SDR1: where the page table lies and how long it is (rules 3).
use Rattle.std.specs.Prelude.{ℕ, ◌+◌, ◌*◌, Bool, ◌&&◌, ◌==◌, bit_and}
use Rattle.std.specs.Float.Ieee.{size}
use Rattle.words.specs.Bits.{bits}
use Rattle.words.specs.Ones.{low_ones}

-- the table's origin, bits 0 to 15
abbrev pub origin_of : ℕ → ℕ
origin_of sdr1 = bits 0 15 sdr1

-- the mask, bits 23 to 31
abbrev pub mask_of : ℕ → ℕ
mask_of sdr1 = bits 23 31 sdr1

-- the mask is ones only at its low end, bits 16 to 22 are zero, and the origin's bits under a mask one are zero
unfoldable pub sdr1_shape : ℕ → Bool
sdr1_shape sdr1 = low_ones (mask_of sdr1) && bits 16 22 sdr1 == 0 && bit_and (origin_of sdr1) (mask_of sdr1) == 0

-- the table has 65,536 × (mask + 1) bytes
unfoldable pub table_length : ℕ → ℕ
table_length sdr1 = 65536 * (mask_of sdr1 + 1)

-- k, the number of ones of the mask
unfoldable pub mask_ones : ℕ → ℕ
mask_ones sdr1 = size (mask_of sdr1)

-- n = 10 + k, the number of hash bits that name a group
unfoldable pub hash_bits : ℕ → ℕ
unfolding mask_ones
hash_bits sdr1 = 10 + mask_ones sdr1
