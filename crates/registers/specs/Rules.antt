-- Rules in their order: each is a test that tells whether it is broken, and its refusal number.
use Rattle.std.specs.Prelude.{ℕ, Bool, cond}
use mathlib.Core.List.{List, foldr}

-- the number of the first rule that is broken, or 0 where none is
abbrev pub first_broken : List (Bool × ℕ) → ℕ
first_broken rules = foldr (λ rule others. cond rule.0 rule.1 others) 0 rules
