-- Arrangements of pages in groups (rules 8), over any page type, any hash and any number of entries in a group.
use Rattle.std.specs.Prelude.{Bool, List, [], ◌∷◌, ℕ, ◌+◌, ◌≤◌, eqb}
use Rattle.theory_placement.specs.Lists.{one_if}

-- a choice for each page of a list: false its primary group, true its secondary group
abbrev pub Choices : {P : Type 0} → List P → Type 0
Choices [] = Unit {0}
Choices (p ∷ ps) = Bool × Choices ps

-- `group false p` is the number of page p's primary group, `group true p` that of its secondary group
module _ {P : Type 0} (group : Bool → P → ℕ) where
  -- how many times group g is chosen
  abbrev pub times_chosen : ℕ → (ps : List P) → Choices ps → ℕ
  times_chosen g [] c = 0
  times_chosen g (p ∷ ps) c = one_if (eqb (group c.0 p) g) + times_chosen g ps c.1

  -- An arrangement chooses, for each page of the list, its primary or its secondary group, no group more often than it has entries:
  -- `capacity` is the number of entries in a group, eight in our tables.
  pub record Arrangement (capacity : ℕ) (ps : List P) : Type 0 where
    pub choice : Choices ps
    pub fits : (g : ℕ) → times_chosen g ps choice ≤ capacity
