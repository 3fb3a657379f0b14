-- What a call hands back: its result number, and a lent slice as the call leaves it.
use Rattle.std.specs.Prelude.{ℕ, cond, List, eqb, length}
use Rattle.numbers.specs.Numbers.{refused_lent_length}

-- a slice that must have n bytes is refused at any other length, and left as it was
unfoldable pub of_length : ℕ → List ℕ → ℕ × List ℕ → ℕ × List ℕ
of_length n lent done = cond (eqb (length lent) n) done (refused_lent_length, lent)
