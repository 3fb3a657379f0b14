-- `mmu::pages::protect` meets its contract: the work is done on a table of right length, with PP in its range.
use mathlib.Core.Path.{◌≡◌, refl, sym}
use mathlib.Core.Bool.{◌&&◌}
use Prim.Native.Nat.{◌^◌}
use native.Mathlib.Omega.{arith}
use lib.Dec.{ltb}
use lib.ListN.{length}
use borrow.Author.Tests.{ltb-true}
use Rattle.std.specs.Prelude.{Err}
use Rattle.words.proofs.Tests.{both}
use Rattle.numbers.proofs.Refused.{refused_number}
use Rattle.theory_calls.specs.Request.{ProtectCall}
use Rattle.theory_calls.proofs.PageCalls.{Kept, kept, page_ranges, protect_refused, protect_taken}
use Rattle.page_calls.proofs.Searched.{table_of}
use Rattle.mmu.proofs.pages.protect.Goals as goal
use Rattle.mmu.proofs.pages.protect.Goals.{In_ok-page_refusal, Start}

-- what the call brings
abbrev called : (c : Start) → ProtectCall
called c = record { sdr1 = c.args.sdr1; page = c.args.page; pp = c.args.pp }

-- what holds where nothing is refused
rules_kept : (c : In_ok-page_refusal) → Kept (c.page_in_range.result && ltb c.args.pp (2 ^ 2)) c.args.sdr1 (length c.args.table.now)
rules_kept c = kept _ _ _ (sym c.in_ok-page_refusal.ensures)

pub returns-in_err-page_refusal : goal.returns-in_err-page_refusal
returns-in_err-page_refusal c =
    let refusal = c.in_err-page_refusal.field-0.0 in
    let handed : c.from_residual.result ≡ Err refusal = grind arith in
    rw handed (sym (protect_refused (called (goal.at.returns-in_err-page_refusal c).Start) _ _ c.page_in_range.ensures _ c.in_err-page_refusal.ensures (refused_number refusal)))

pub protect_page-requires : goal.protect_page-requires
protect_page-requires c =
    let fits = c.page_in_range.result in
    let k = rules_kept (goal.at.protect_page-requires c).In_ok-page_refusal in
    let (in-page, pp) = both fits (ltb c.args.pp (2 ^ 2)) k.in_range_law in
    let (vsid, index) = page_ranges _ fits c.page_in_range.ensures in-page in
    ((_, table_of _ _ _ k), record { vsid_lt = vsid; index_lt = index }, ltb-true c.args.pp (2 ^ 2) pp)

pub returns : goal.returns
returns c =
    protect_taken (called (goal.at.returns c).Start) _ _ c.page_in_range.ensures 0 c.in_ok-page_refusal.ensures refl _
    (c.protect_page.ensures _ (table_of _ _ _ (rules_kept (goal.at.returns c).In_ok-page_refusal)))
