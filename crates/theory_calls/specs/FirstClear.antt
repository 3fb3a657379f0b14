-- A clear of a table, and of which SDR1 and length it is done: with it demand 3's histories begin.
use Rattle.std.specs.Prelude.{ℕ, ◌+◌, ◌-◌, ◌*◌, ◌%◌, ◌^◌, ◌≤◌, List, ◌≡◌, length}
use Rattle.theory_calls.specs.Request.{clear}
use Rattle.theory_calls.specs.OnBytes.{Ended, on_bytes}

-- a clear of a table
abbrev pub clearing : ℕ → List ℕ → Ended (List ℕ)
clearing sdr1 t = on_bytes (clear (record { sdr1 = sdr1 })) t

-- the SDR1 of an origin and a mask of k ones
abbrev pub sdr1_with : ℕ → ℕ → ℕ
sdr1_with origin k = origin * 65536 + (2 ^ k - 1)

-- at most nine ones, origin bits under them zero, and a lent slice of 65,536 × 2 ^ k bytes
pub record Start (origin k : ℕ) (t : List ℕ) : Type 0 where
  pub few : k ≤ 9
  pub whole : origin % 2 ^ k ≡ 0
  pub long : length t ≡ 65536 * 2 ^ k
