-- When an arrangement exists. A page's two groups mirror one another, so the groups come in pairs, and each page is of one pair.
use Rattle.std.specs.Prelude.{◌≡◌, Bool, true, false, ◌||◌, List, ◌∷◌, ◌↔◌, ℕ, ◌+◌, ◌≤◌, ◌<◌, eqb, ltb}
use Rattle.std.proofs.Math.Bool.{decide}
use Rattle.theory_placement.specs.Lists.{how_many}
use Rattle.theory_placement.specs.Placement.{Arrangement}

module _ {P : Type 0} (group : Bool → P → ℕ) where
  -- group g is one of page p's own two groups
  abbrev pub of_pair : ℕ → P → Bool
  of_pair g p = eqb (group false p) g || eqb (group true p) g

  -- how many pages of the list have group g as one of their own two
  abbrev pub pages_of_pair : ℕ → List P → ℕ
  pages_of_pair g ps = how_many (of_pair g) ps

  -- An arrangement exists exactly when no pair of groups has more pages than its two groups have entries. So, where one exists, it exists
  -- with one page more exactly when that page's pair has fewer (for groups of eight entries: fewer than sixteen), and any decision says so.
  pub record ArrangementExists (capacity half : ℕ) : Type 0 where
    pub exactly : (ps : List P) → Arrangement group capacity ps ↔ ((g : ℕ) → g < half + half → pages_of_pair g ps ≤ capacity + capacity)
    pub one_more : (p : P) (ps : List P) → Arrangement group capacity ps
        → Arrangement group capacity (p ∷ ps) ↔ (pages_of_pair (group false p) ps < capacity + capacity)
    pub decided : (p : P) (ps : List P) → Arrangement group capacity ps → (d : Dec (Arrangement group capacity (p ∷ ps)))
        → decide d ≡ ltb (pages_of_pair (group false p) ps) (capacity + capacity)
