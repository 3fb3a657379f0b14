-- A segment register (rules 3).
use Rattle.std.specs.Prelude.{ℕ, Bool, cond, ◌&&◌, ◌==◌}
use Rattle.words.specs.Bits.{bits}

-- T, bit 0, is zero, and so are bits 4 to 7
unfoldable pub segment_shape : ℕ → Bool
segment_shape word = bits 0 0 word == 0 && bits 4 7 word == 0

-- the key (rules 5, step 6): Kp, bit 2, for the user, Ks, bit 1, for the supervisor
unfoldable pub key_of : Bool → ℕ → Bool
key_of user word = cond user (bits 2 2 word) (bits 1 1 word) == 1

-- N, no execute, is one
unfoldable pub no_execute : ℕ → Bool
no_execute word = bits 3 3 word == 1

-- the VSID, bits 8 to 31
unfoldable pub segment_vsid : ℕ → ℕ
segment_vsid word = bits 8 31 word
