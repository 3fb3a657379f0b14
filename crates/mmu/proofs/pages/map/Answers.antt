-- `mmu::pages::map` meets its contract: the work is done on a table of right length, with arguments in their ranges.
use mathlib.Core.Path.{◌≡◌, refl, sym}
use native.Mathlib.Omega.{arith}
use lib.ListN.{length}
use Rattle.std.specs.Prelude.{Err}
use Rattle.numbers.proofs.Refused.{refused_number}
use Rattle.theory_calls.specs.Request.{MapCall}
use Rattle.theory_calls.proofs.PageCalls.{Kept, kept, map_ranges, map_refused, map_taken}
use Rattle.page_calls.proofs.Searched.{table_of}
use Rattle.mmu.proofs.pages.map.Goals as goal
use Rattle.mmu.proofs.pages.map.Goals.{In_ok-page_refusal, Start}

-- what the call brings
abbrev called : (c : Start) → MapCall
called c = let a = c.args in record { sdr1 = a.sdr1; page = a.page; rpn = a.rpn; wimg = a.wimg; pp = a.pp }

-- what holds where nothing is refused
rules_kept : (c : In_ok-page_refusal) → Kept c.map_in_range-fits.result c.args.sdr1 (length c.args.table.now)
rules_kept c = kept _ _ _ (sym c.in_ok-page_refusal.ensures)

pub returns-in_err-page_refusal : goal.returns-in_err-page_refusal
returns-in_err-page_refusal c =
    let refusal = c.in_err-page_refusal.field-0.0 in
    let handed : c.from_residual.result ≡ Err refusal = grind arith in
    rw handed (sym (map_refused (called (goal.at.returns-in_err-page_refusal c).Start) _ _ (c.map_in_range-fits.ensures 0) _ c.in_err-page_refusal.ensures (refused_number refusal)))

pub map_page-requires : goal.map_page-requires
map_page-requires c =
    let k = rules_kept (goal.at.map_page-requires c).In_ok-page_refusal in
    let r = map_ranges (called (goal.at.map_page-requires c).Start) _ (c.map_in_range-fits.ensures 0) k.in_range_law in
    ((_, table_of _ _ _ k), record { vsid_lt = r.vsid_lt; index_lt = r.index_lt }, r.rpn_lt, r.wimg_lt, r.pp_lt)

pub returns : goal.returns
returns c =
    map_taken (called (goal.at.returns c).Start) _ _ (c.map_in_range-fits.ensures 0) 0 c.in_ok-page_refusal.ensures refl _
    (c.map_page.ensures _ (table_of _ _ _ (rules_kept (goal.at.returns c).In_ok-page_refusal)))
