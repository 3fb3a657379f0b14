-- `page_calls::edit_page` meets its contract: where the search told of a match, each match is edited and their marks are merged.
use mathlib.Core.Path.{sym, ◌∙◌}
use Prim.Native.Nat.{ℕ}
use lib.ListN.{length}
use Rattle.groups.specs.Hash.{TableOf}
use Rattle.page_calls.proofs.Searched.{Known, known, first_found, none_found, first_lt, edited_missing, edited_done}
use Rattle.page_calls.proofs.edit_page.Goals as goal
use Rattle.page_calls.proofs.edit_page.Goals.{After-search}

-- what was told is of the page's matches and free entries
told_of : (c : After-search) (sdr1 : ℕ) → TableOf sdr1 (length c.args.table.now)
    → Known sdr1 c.args.page c.args.table.now c.search.result.0 c.search.result.1
told_of c = known _ c.args.table.now _ c.requires.1 c.search.ensures

pub returns-in_default : goal.returns-in_default
returns-in_default c sdr1 right =
    edited_missing _ _ _ _ (none_found _ (sym (told_of (goal.at.returns-in_default c).After-search sdr1 right).first_is ∙ c.in_default.is))

pub edit_page-requires : goal.edit_page-requires
edit_page-requires c =
    let pre = c.requires in
    let know = told_of (goal.at.edit_page-requires c).After-search pre.0.0 pre.0.1 in
    (first_lt _ _ _ _ know.at _ (first_found _ _ (sym know.first_is ∙ c.in-Some.is)), know.at.primary_in, know.at.secondary_in, know.at.apart)

pub returns : goal.returns
returns c sdr1 right =
    let know = told_of (goal.at.returns c).After-search sdr1 right in
    edited_done _ _ _ _ know.at _ (first_found _ _ (sym know.first_is ∙ c.in-Some.is)) _ _ _ c.edit_page.ensures
