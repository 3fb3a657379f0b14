-- The plain finite map (rules 8): an association list from pages to their fields. A page is mapped while it is in it.
use Rattle.std.specs.Prelude.{◌≡◌, Bool, not, cond, List, [], ◌∷◌, map}
use Rattle.std.proofs.Math.Option.{Option, none, some}
use Rattle.theory_placement.specs.Lists.{selected}

module _ {P F : Type 0} where
  -- the mapped pages
  abbrev pub mapped_pages : List (P × F) → List P
  mapped_pages m = map (λ x. x.0) m

  -- page p put in with fields f
  abbrev pub put_in : P → F → List (P × F) → List (P × F)
  put_in p f m = (p, f) ∷ m

module _ {P F : Type 0} (same : P → P → Bool) where
  -- the fields of page p, if it is mapped
  abbrev pub fields_at : P → List (P × F) → Option F
  fields_at p [] = none
  fields_at p (x ∷ m) = cond (same p x.0) (some x.1) (fields_at p m)

  -- page p taken out
  abbrev pub take_out : P → List (P × F) → List (P × F)
  take_out p m = selected (λ x. not (same p x.0)) m

  -- the fields of page p revised by u, those of every other page kept
  abbrev pub revise : P → (F → F) → List (P × F) → List (P × F)
  revise p u m = map (λ x. (x.0, cond (same p x.0) (u x.1) x.1)) m

  -- no page is in the list twice
  abbrev pub NoPageTwice : List (P × F) → Type 0
  NoPageTwice [] = Unit {0}
  NoPageTwice (x ∷ m) = (fields_at x.0 m ≡ none) × NoPageTwice m
