-- `page_calls::map_page` meets its contract: where the search told of no match, the page's entry goes to the first free place that it told.
use mathlib.Core.Path.{◌≡◌, refl, sym, ap, ◌∙◌}
use mathlib.Core.Bool.{true, false, true≢false}
use mathlib.Core.List.{List, [], ◌∷◌}
use Prim.Native.Nat.{ℕ}
use lib.ListN.{length}
use Rattle.std.specs.Prelude.{is_some}
use Rattle.entry.specs.Entry.{second_word}
use Rattle.groups.specs.Hash.{TableOf}
use Rattle.theory_tables.specs.Matches.{Match}
use Rattle.matches.specs.Search.{found_of}
use Rattle.theory_calls.specs.OnBytes.{ended}
use Rattle.theory_calls.proofs.PageCalls.{map_matched, map_full, map_placed}
use Rattle.page_calls.proofs.Searched.{Known, known, group_inside, place_lt, placed_is}
use Rattle.page_calls.proofs.map_page.Goals as goal
use Rattle.page_calls.proofs.map_page.Goals.{After-search}

-- what was told is of the page's matches and free entries
told_of : (c : After-search) (sdr1 : ℕ) → TableOf sdr1 (length c.args.table.now)
    → Known sdr1 c.args.page c.args.table.now c.search.result.0 c.search.result.1
told_of c = known _ c.args.table.now _ c.requires.1 c.search.ensures

-- a first match was told exactly where there are matches
any_told : (ms : List Match) → is_some (found_of ms) ≡ true → (x : Match) × (xs : List Match) × (ms ≡ x ∷ xs)
any_told [] e = absurd (true≢false (sym e))
any_told (x ∷ xs) e = (x, xs, refl)

none_told : (ms : List Match) → is_some (found_of ms) ≡ false → ms ≡ []
none_told [] e = refl
none_told (x ∷ xs) e = absurd (true≢false e)

pub returns-then-is_some : goal.returns-then-is_some
returns-then-is_some c sdr1 right =
    let know = told_of (goal.at.returns-then-is_some c).After-search sdr1 right in
    let (x, xs, are) = any_told _ (ap is_some (sym know.first_is) ∙ sym c.is_some.ensures ∙ c.if-is_some.true) in
    sym (map_matched _ _ _ x xs are _ _ _ _)

pub returns-in_default : goal.returns-in_default
returns-in_default c sdr1 right =
    let know = told_of (goal.at.returns-in_default c).After-search sdr1 right in
    let none = none_told _ (ap is_some (sym know.first_is) ∙ sym c.is_some.ensures ∙ c.if-is_some.false) in
    sym (map_full _ _ _ none _ _ _ _ (sym (c.free_place.ensures _ _ know.free_is) ∙ c.in_default.is))

pub put_entry-requires : goal.put_entry-requires
put_entry-requires c =
    let know = told_of (goal.at.put_entry-requires c).After-search c.requires.0.0 c.requires.0.1 in
    (place_lt _ _ _ (sym (c.free_place.ensures _ _ know.free_is) ∙ c.in-Some.is), group_inside _ _ _ _ know.at c.in-Some.place.secondary _ c.group-group.ensures)

pub returns : goal.returns
returns c sdr1 right =
    let a = c.args in
    let know = told_of (goal.at.returns c).After-search sdr1 right in
    let g = know.at in
    let none = none_told _ (ap is_some (sym know.first_is) ∙ sym c.is_some.ensures ∙ c.if-is_some.false) in
    ap (λ (t : List ℕ). ended 0 t [])
    (placed_is _ _ _ _ g _ _ _ _ _ (second_word a.rpn 0 0 a.wimg a.pp) _ c.group-group.ensures
    (c.first_in-first.ensures _ _ g.wants.0 g.wants.1 g.wants.2) c.second_word-second.ensures c.put_entry.ensures)
    ∙ sym (map_placed _ _ _ none _ _ _ _ _ (sym (c.free_place.ensures _ _ know.free_is) ∙ c.in-Some.is))
