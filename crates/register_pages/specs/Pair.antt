-- The pair that covers an address, as a number.
use Rattle.std.specs.Prelude.{ℕ, true, Option, Some, None}
use Rattle.registers.specs.Set.{block_pairs}

-- the number of a pair that was looked for, or, where there is none, the number of pairs that a set's side has
abbrev pub pair_number : Option ℕ → ℕ
pair_number (Some i) = i
pair_number None = block_pairs true
