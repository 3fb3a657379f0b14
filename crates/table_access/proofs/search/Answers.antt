-- `table_access::search` meets its contract: what the search told of the page's matches is none, or the first of them and whether another
-- contradicts it.
use mathlib.Core.Path.{◌≡◌, sym, ap, ◌∙◌}
use mathlib.Core.Bool.{Bool, true, false, cond}
use mathlib.Core.List.{List, ◌∷◌}
use denote.Enum.Bare.{sameb}
use Prim.Native.Nat.{ℕ, ◌+◌}
use native.Mathlib.Omega.{arith}
use lib.ListN.{length}
use Rattle.register_words.specs.Sdr1.{table_length, mask_ones}
use Rattle.groups.specs.declared.Page.{Page}
use Rattle.groups.specs.Hash.{group_number, located, TableOf}
use Rattle.theory_tables.specs.Layout.{matches_of}
use Rattle.matches.specs.Search.{contradict, first_match}
use Rattle.matches.specs.contracts.Others.{the_type}
use Rattle.matches.specs.declared.FirstMatch.{FirstMatch}
use Rattle.matches.specs.declared.Others.TheVariants.{Differing}
use Rattle.translation.specs.declared.Wanted.{Wanted}
use Rattle.theory_calls.specs.OnBytes.{layout, wanted_page}
use Rattle.theory_calls.proofs.OnBytes.{matches_by_groups}
use Rattle.theory_calls.proofs.PageCalls.{page_matches}
use Rattle.page_calls.specs.PageWork.{page_told}
use Rattle.theory_tables.specs.Matches.{Match}
use Rattle.page_calls.proofs.Searched.{First, Known, known, none_found, group_is_law, group_inside, contradict_is}
use Rattle.page_calls.proofs.Searched as searched
use Rattle.table_access.specs.Part.{table_found}
use Rattle.table_access.specs.declared.Found.TheVariants.{Contradicted, InTable}
use Rattle.table_access.proofs.Finds.{first_found, first_against, in_none, in_some, number_lt}
use Rattle.table_access.proofs.search.Goals as goal
use Rattle.table_access.proofs.search.Goals.{After-search}

-- what was told is of the page's matches
told_of : (c : After-search) (sdr1 : ℕ) → TableOf sdr1 (length c.args.table.now)
    → Known sdr1 (wanted_page c.args.wanted) c.args.table.now c.search.result.0 c.search.result.1
told_of c =
    let t = c.args.table.now in
    known (wanted_page c.args.wanted) t _ c.requires.1
    (λ sdr1 of. c.search.ensures sdr1 of ∙ ap (λ (page : Page). (located (mask_ones sdr1) page, page_told (mask_ones sdr1) page t)) c.page_of.ensures)

-- what is told of a page's first match, whether or not the others contradict it
told_by : (k : ℕ) (t : List ℕ) (wanted : Wanted) (x : Match) (xs : List Match) → matches_of (layout k) t (wanted_page wanted) ≡ x ∷ xs
    → (one : FirstMatch) → first_match x xs ≡ one → (b : Bool) → sameb the_type one.others Differing ≡ b
    → (g : ℕ) → g ≡ group_number (10 + k) one.place.secondary (wanted_page wanted)
    → cond b (Contradicted one.second g one.place.entry) (InTable one.second g one.place.entry) ≡ table_found k t wanted
told_by k t wanted x xs are one is b differs g group =
    let page = wanted_page wanted in
    let same : contradict x xs ≡ b = contradict_is x xs ∙ ap (λ (f : FirstMatch). sameb the_type f.others Differing) is ∙ differs in
    ap (λ (g : ℕ). cond b (Contradicted one.second g one.place.entry) (InTable one.second g one.place.entry)) group
    ∙ ap (λ (f : FirstMatch).
    let g = group_number (10 + k) f.place.secondary page in cond b (Contradicted f.second g f.place.entry) (InTable f.second g f.place.entry)) (sym is)
    ∙ ap (λ (b : Bool). cond b (first_against k t wanted x xs are) (first_found k t wanted x xs are)) (sym same)
    ∙ sym (in_some k t wanted x xs are)

pub returns-in_default : goal.returns-in_default
returns-in_default c sdr1 of =
    sym (in_none _ _ _ (matches_by_groups _ _ _ ∙ none_found _ (sym (told_of (goal.at.returns-in_default c).After-search sdr1 of).first_is ∙ c.in_default.is)))

pub overflow_cast-group : goal.overflow_cast-group
unfolding table_length
overflow_cast-group c =
    let (sdr1, of) = c.requires.0 in
    let right = of.right in
    let told = told_of (goal.at.overflow_cast-group c).After-search sdr1 of in
    let inside = group_inside sdr1 _ _ _ told.at c.in-Some.first.place.secondary _ c.group-group.ensures in
    record { fits = omega arith }

pub overflow_cast-entry : goal.overflow_cast-entry
overflow_cast-entry c =
    let (sdr1, of) = c.requires.0 in
    let told = told_of (goal.at.overflow_cast-entry c).After-search sdr1 of in
    let f = searched.first_found _ _ (sym told.first_is ∙ c.in-Some.is) in
    let small = number_lt (mask_ones sdr1) c.args.table.now c.args.wanted f.x f.xs (matches_by_groups _ _ _ ∙ f.are) in
    let entry : f.x.entry ≡ c.in-Some.first.place.entry = ap (λ (m : FirstMatch). m.place.entry) f.is in
    record { fits = omega arith }

pub returns-then-eq : goal.returns-then-eq
returns-then-eq c sdr1 of =
    let told = told_of (goal.at.returns-then-eq c).After-search sdr1 of in
    let f = searched.first_found _ _ (sym told.first_is ∙ c.in-Some.is) in
    told_by (mask_ones sdr1) c.args.table.now c.args.wanted f.x f.xs (matches_by_groups _ _ _ ∙ f.are) c.in-Some.first f.is true (sym c.eq.ensures ∙ c.if-eq.true) _
    (group_is_law sdr1 _ _ _ told.at c.in-Some.first.place.secondary _ c.group-group.ensures)

pub returns : goal.returns
returns c sdr1 of =
    let told = told_of (goal.at.returns c).After-search sdr1 of in
    let f = searched.first_found _ _ (sym told.first_is ∙ c.in-Some.is) in
    told_by (mask_ones sdr1) c.args.table.now c.args.wanted f.x f.xs (matches_by_groups _ _ _ ∙ f.are) c.in-Some.first f.is false (sym c.eq.ensures ∙ c.if-eq.false) _
    (group_is_law sdr1 _ _ _ told.at c.in-Some.first.place.secondary _ c.group-group.ensures)
