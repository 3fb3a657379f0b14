-- The four acts on the list of mapped pages, over any pages and groups: to leave it, to empty it, to insert a page where an arrangement exists with it,
-- and to delete one.
use mathlib.Core.Bool.{Bool, false, not, cond, ◌||◌}
use mathlib.Core.List.{List, [], ◌∷◌}
use mathlib.Core.Logic.{ite}
use Prim.Native.Nat.{ℕ}
use Rattle.theory_placement.specs.Lists.{selected}
use Rattle.theory_placement.specs.Placement.{Arrangement}

-- what a call does to the list of mapped pages
pub data Act (P : Type 0) : Type 0 where
  leave : Act P
  empty : Act P
  insert : P → Act P
  delete : P → Act P

module _ {P : Type 0} (same : P → P → Bool) where
  -- the page is in the list
  abbrev pub has : P → List P → Bool
  has p [] = false
  has p (x ∷ l) = same p x || has p l

  -- the list without the page
  abbrev pub without : P → List P → List P
  without p l = selected (λ q. not (same p q)) l

  module _ (group : Bool → P → ℕ) (capacity : ℕ) (arranged? : (ps : List P) → Dec (Arrangement group capacity ps)) where
    -- a page is inserted once, and only where an arrangement exists with it
    abbrev pub act : Act P → List P → List P
    act leave l = l
    act empty l = []
    act (insert p) l = cond (has p l) l (ite (arranged? (p ∷ l)) (p ∷ l) l)
    act (delete p) l = without p l

    -- the acts one after the other, from the left
    abbrev pub acts : List (Act P) → List P → List P
    acts [] l = l
    acts (a ∷ rest) l = acts rest (act a l)
