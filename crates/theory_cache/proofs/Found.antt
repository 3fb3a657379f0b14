-- A page that a done part took from the table: its search found a first match that no other contradicts, and the mark of step 7 leaves the page the
-- same matches, with R of the first set and C as the kind asks.
use Prim.Native.Nat.{ℕ}
use mathlib.Core.Path.{◌≡◌, refl, sym, ap, ◌∙◌}
use mathlib.Core.Bool.{Bool, true, false, true≢false}
use mathlib.Core.List.{List, [], ◌∷◌}
use mathlib.Core.Option.{Option, none, some}
use native.Mathlib.Omega.{arith}
use Rattle.entry.specs.Entry.{api_of, with_marks}
use Rattle.entry.proofs.Addresses.{api_lt}
use Rattle.entry.proofs.Matches.{matched}
use Rattle.entry.proofs.Packing.{FirstFields}
use Rattle.groups.specs.declared.Page.{Page}
use Rattle.groups.specs.Page.{InRange}
use Rattle.matches.specs.Search.{h_of, contradict}
use Rattle.theory_tables.specs.Matches.{Match}
use Rattle.theory_tables.specs.Layout.{matches_of}
use Rattle.theory_tables.proofs.Groups.{MatchOf}
use Rattle.theory_tables.proofs.Overwrites.{with_words, overwrite_first}
use Rattle.protection.specs.Access.{storing}
use Rattle.protection.specs.Fault.{no_match}
use Rattle.translation.specs.Steps.{after_search, answer_of}
use Rattle.translation.specs.declared.Early.TheVariants.{Search}
use Rattle.translation.specs.declared.Searched.{Searched}
use Rattle.translation.specs.declared.Searched.TheVariants.{Nothing, At, Contradicting}
use Rattle.translation.specs.declared.Wanted.{Wanted}
use Rattle.theory_calls.specs.OnBytes.{layout, wanted_page, searched, marked_by}
use Rattle.theory_calls.specs.Represents.{GoodTable}
use Rattle.theory_calls.proofs.TableLaws.{Word, layout_laws}
use Rattle.theory_calls.proofs.Fields.{one_if_lt}
use Rattle.theory_calls.proofs.Access.{fault_number}
use Rattle.theory_calls.proofs.TwoMarks.{mark_first, own_match, fits}

-- by the case of an option
pub by_cases : {A X : Type 0} (o : Option A) → (o ≡ none → X) → ((a : A) → o ≡ some a → X) → X
by_cases none missing found = missing refl
by_cases (some a) missing found = found a refl

-- an access by a page is done only where the search found an entry that no other contradicts
abbrev pub is_at : Searched → Bool
is_at Nothing = false
is_at (At word) = true
is_at Contradicting = false

pub done_at : (kind : ℕ) (key : Bool) (address : ℕ) (found : Searched) → (answer_of kind address (after_search kind key found)).result ≡ 0 → is_at found ≡ true
unfolding answer_of after_search
done_at kind key address Contradicting z = absurd (omega arith)
done_at kind key address Nothing z = absurd (fault_number no_match kind z)
done_at kind key address (At word) z = refl

pub record Found (ms : List Match) : Type 0 where
  pub x : Match
  pub xs : List Match
  pub are : ms ≡ x ∷ xs
  pub agreed : contradict x xs ≡ false

pub found_at : (ms : List Match) → is_at (searched ms) ≡ true → Found ms
unfolding searched
found_at [] e = absurd (true≢false (sym e))
found_at (x ∷ xs) e = go (contradict x xs) refl
  where
    go : (d : Bool) → contradict x xs ≡ d → Found (x ∷ xs)
    go true q = absurd (true≢false (sym (rw q at e)))
    go false q = record { x = x; xs = xs; are = refl; agreed = q }

-- the page's first match, marked
module _ (k kind : ℕ) (u : List ℕ) (fine : GoodTable k u) (wanted : Wanted) (found : Found (matches_of (layout k) u (wanted_page wanted))) where
  abbrev page : Page
  page = wanted_page wanted

  abbrev pub now : Match
  now = with_words found.x (found.x.first, with_marks true (storing kind) found.x.second)

  here : MatchOf (layout k) u page found.x
  here = own_match k kind wanted u found.x found.xs found.are

  pub now_fits : Word now.first × Word now.second
  now_fits = fits k kind wanted u fine found.x here

  pub now_are : matches_of (layout k) (marked_by k kind (Search wanted) 0 u) page ≡ now ∷ found.xs
  now_are =
      let (first, second) = now_fits in
      ap (λ (v : List ℕ). matches_of (layout k) v page) (mark_first k kind wanted u found.x found.xs found.are)
      ∙ overwrite_first (layout_laws k) u page fine found.x found.xs now.first now.second found.are first second here.passes

  -- its first word has V and the page's VSID
  pub now_fields : InRange page → FirstFields 1 page.vsid (h_of now.secondary) (api_of page.index) now.first
  now_fields valid =
      matched page.vsid (h_of now.secondary) (api_of page.index) now.first valid.vsid_lt (one_if_lt now.secondary) (api_lt page.index valid.index_lt) here.passes
