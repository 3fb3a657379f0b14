-- How many elements of a list pass a test, and which.
use Rattle.std.specs.Prelude.{Bool, cond, ℕ, ◌+◌}
use mathlib.Core.List.{List, [], ◌∷◌, foldr}

-- what an element adds to a count: one if its test holds
abbrev pub one_if : Bool → ℕ
one_if t = cond t 1 0

module _ {A : Type 0} (test : A → Bool) where
  abbrev pub how_many : List A → ℕ
  how_many [] = 0
  how_many (x ∷ l) = one_if (test x) + how_many l

  -- the elements that pass, in their order
  abbrev pub selected : List A → List A
  selected l = foldr (λ x rest. cond (test x) (x ∷ rest) rest) [] l
