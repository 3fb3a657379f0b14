-- Fields of a 32-bit word (rules 1): bit 0 is the most significant.
use Rattle.std.specs.Prelude.{ℕ, ◌+◌, ◌-◌, ◌*◌, ◌/◌, ◌%◌, ◌^◌}

-- bits a to b of a word, as a number
abbrev pub bits : ℕ → ℕ → ℕ → ℕ
bits a b w = w / 2 ^ (31 - b) % 2 ^ (b + 1 - a)

-- a number placed so that its lowest bit is bit b of a word
abbrev pub placed : ℕ → ℕ → ℕ
placed b v = v * 2 ^ (31 - b)

-- a word with v in its bits a to b and every other bit kept
abbrev pub with_bits : ℕ → ℕ → ℕ → ℕ → ℕ
with_bits a b v w = w / 2 ^ (32 - a) * 2 ^ (32 - a) + placed b v + w % 2 ^ (31 - b)
