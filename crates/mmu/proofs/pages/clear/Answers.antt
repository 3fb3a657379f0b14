-- `mmu::pages::clear` meets its contract: it refuses by the two rules of a table, and zeroes a table that keeps them.
use mathlib.Core.Path.{◌≡◌, refl, sym}
use native.Mathlib.Omega.{arith}
use Rattle.std.specs.Prelude.{Err}
use Rattle.numbers.proofs.Refused.{refused_number}
use Rattle.theory_calls.proofs.PageCalls.{clear_refused, clear_done}
use Rattle.mmu.proofs.pages.clear.Goals as goal

pub returns-in_err-page_refusal : goal.returns-in_err-page_refusal
returns-in_err-page_refusal c =
    let refusal = c.in_err-page_refusal.field-0.0 in
    let handed : c.from_residual.result ≡ Err refusal = grind arith in
    rw handed (sym (clear_refused _ _ _ c.in_err-page_refusal.ensures (refused_number refusal)))

pub returns : goal.returns
returns c = clear_done _ _ 0 c.in_ok-page_refusal.ensures refl _ c.clear.ensures
