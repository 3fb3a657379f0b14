-- `mmu::pages::unmap` meets its contract: the work is done on a table of right length, for a page in range.
use mathlib.Core.Path.{◌≡◌, refl, sym, ap, ◌∙◌}
use mathlib.Core.Bool.{Bool}
use mathlib.Core.List.{List}
use Prim.Native.Nat.{ℕ}
use native.Mathlib.Omega.{arith}
use lib.ListN.{length}
use Rattle.std.specs.Prelude.{Err}
use Rattle.numbers.proofs.Refused.{refused_number}
use Rattle.registers.specs.Rules.{first_broken}
use Rattle.theory_calls.specs.Request.{AnsweredCall}
use Rattle.theory_calls.specs.Rules.{page_in_range}
use Rattle.theory_calls.proofs.PageCalls.{page_rules, Kept, kept, page_ranges, unmap_refused, unmap_taken}
use Rattle.page_calls.proofs.Searched.{table_of}
use Rattle.mmu.proofs.pages.unmap.Goals as goal
use Rattle.mmu.proofs.pages.unmap.Goals.{After-page_in_range, In_ok-page_refusal, Start}

-- what the call brings, with any answer
abbrev called : (c : Start) → List ℕ → AnsweredCall (List ℕ)
called c answer = record { sdr1 = c.args.sdr1; page = c.args.page; answer = answer }

-- the number that the rules give, by the page's own test
number_is : (c : After-page_in_range) (number : ℕ) → number ≡ first_broken (page_rules c.page_in_range.result c.args.sdr1 (length c.args.table.now))
    → number ≡ first_broken (page_rules (page_in_range c.args.page) c.args.sdr1 (length c.args.table.now))
number_is c number given = given ∙ ap (λ (b : Bool). first_broken (page_rules b c.args.sdr1 (length c.args.table.now))) c.page_in_range.ensures

-- what holds where nothing is refused
rules_kept : (c : In_ok-page_refusal) → Kept c.page_in_range.result c.args.sdr1 (length c.args.table.now)
rules_kept c = kept _ _ _ (sym c.in_ok-page_refusal.ensures)

pub returns-in_err-page_refusal : goal.returns-in_err-page_refusal
returns-in_err-page_refusal c answer sixteen =
    let refusal = c.in_err-page_refusal.field-0.0 in
    let at = goal.at.returns-in_err-page_refusal c in
    let handed : c.from_residual.result ≡ Err refusal = grind arith in
    rw handed (sym (unmap_refused (called at.Start answer) _ _ (number_is at.After-page_in_range _ c.in_err-page_refusal.ensures) sixteen (refused_number refusal)))

pub unmap_page-requires : goal.unmap_page-requires
unmap_page-requires c =
    let k = rules_kept (goal.at.unmap_page-requires c).In_ok-page_refusal in
    let (vsid, index) = page_ranges _ _ c.page_in_range.ensures k.in_range_law in
    ((_, table_of _ _ _ k), record { vsid_lt = vsid; index_lt = index })

pub returns : goal.returns
returns c answer sixteen =
    let at = goal.at.returns c in
    unmap_taken (called at.Start answer) _ 0 (number_is at.After-page_in_range _ c.in_ok-page_refusal.ensures) sixteen refl _
    (c.unmap_page.ensures _ (table_of _ _ _ (rules_kept at.In_ok-page_refusal)))
