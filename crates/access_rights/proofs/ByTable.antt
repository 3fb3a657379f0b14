-- A part by what the search of a table alone finds: what it answers, what decided it, and what was found of its page.
use Prim.Native.Nat.{ℕ}
use mathlib.Core.Path.{◌≡◌, refl, sym, ap, ◌∙◌}
use mathlib.Core.List.{List}
use Rattle.translation.specs.Steps.{after_search, outcome_of, answer_of}
use Rattle.translation.specs.Decision.{decision_of}
use Rattle.translation.specs.declared.Early.{Early}
use Rattle.translation.specs.declared.Early.TheVariants.{Decided, Search}
use Rattle.translation.proofs.Steps.{outcome_decided, outcome_searched}
use Rattle.theory_calls.specs.OnBytes.{used_by, search_in, first_place_in}
use Rattle.table_access.specs.Part.{table_found, part_by}
use Rattle.table_access.specs.declared.Found.{Found}
use Rattle.table_access.specs.declared.Found.TheVariants.{Unmatched}
use Rattle.table_access.specs.declared.Part.{Part}
use Rattle.table_access.proofs.Finds.{in_searched, in_decides}

-- what is found of its page: nothing of a part that no search decides
unfoldable pub OfFirst : ℕ → Early → List ℕ → Found → Type 0
OfFirst k (Decided outcome) t found = found ≡ Unmatched
OfFirst k (Search wanted) t found = found ≡ table_found k t wanted

pub record ByTable (k : ℕ) (t : List ℕ) (kind address : ℕ) (early : Early) (part : Part) : Type 0 where
  pub answers : part.answer ≡ answer_of kind address (outcome_of kind (search_in k t) early)
  pub decides : part.decision ≡ decision_of (used_by (first_place_in k t) early) (outcome_of kind (search_in k t) early)
  pub first : OfFirst k early t part.found

pub by_table : (k : ℕ) (t : List ℕ) (kind address : ℕ) (early : Early) → ByTable k t kind address early (part_by kind address (table_found k t) early)
unfolding part_by OfFirst
by_table k t kind address (Decided outcome) =
    let is = outcome_decided kind (search_in k t) outcome in
    record { answers = ap (answer_of kind address) (sym is); decides = ap (decision_of _) (sym is); first = refl }
by_table k t kind address (Search wanted) =
    let late = outcome_searched kind (search_in k t) wanted in
    let searched = ap (after_search kind wanted.key) (in_searched k t wanted) in
    record {
      answers = ap (answer_of kind address) (searched ∙ sym late);
      decides = ap (decision_of _) searched ∙ in_decides k t wanted kind ∙ ap (decision_of _) (sym late);
      first = refl;
    }
