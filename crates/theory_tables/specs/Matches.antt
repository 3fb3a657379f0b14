-- The entries of one group of a table that match a page, over any test of an entry's first word.
use Rattle.std.specs.Prelude.{Bool, cond, List, [], ◌∷◌, ◌++◌, ℕ, zero, suc, ◌+◌}
use Rattle.theory_placement.specs.Lists.{one_if}

-- one match of a page (rules 4): which of the page's two groups holds it, the entry's number there, and the entry's two words
pub record Match : Type 0 where
  -- false: the primary group; true: the secondary group
  pub secondary : Bool
  pub entry : ℕ
  pub first : ℕ
  pub second : ℕ

-- `matching` tests a first word; `first` and `second` give the words of a group's entries by their number
module _ (matching : ℕ → Bool) (first second : ℕ → ℕ) (secondary : Bool) where
  -- entry i, alone in a list, if it matches
  abbrev pub match_at : ℕ → List Match
  match_at i = cond (matching (first i)) (record { secondary = secondary; entry = i; first = first i; second = second i } ∷ []) []

  -- the matches among the first n entries of a group, in order
  unfoldable pub matches_below : ℕ → List Match
  matches_below zero = []
  matches_below (suc n) = matches_below n ++ match_at n

-- how many numbers below n pass a test
unfoldable pub how_many_below : ℕ → (ℕ → Bool) → ℕ
how_many_below zero test = 0
how_many_below (suc n) test = how_many_below n test + one_if (test n)
