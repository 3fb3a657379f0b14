-- `page_calls::protect_page` meets its contract: it is the edit that puts another PP into each match.
use mathlib.Core.Path.{◌≡◌}
use Rattle.std.proofs.Common.{rules}
use Rattle.numbers.specs.Refused.{refusal_number, result_number}
use Rattle.page_calls.proofs.Searched.{protect_by}
use Rattle.page_calls.proofs.protect_page.Goals as goal

pub returns-in_err-edit_page : goal.returns-in_err-edit_page
returns-in_err-edit_page c sdr1 right =
    let same : result_number c.from_residual.result ≡ refusal_number c.in_err-edit_page.field-0.0 = search rules in
    rw same (protect_by _ _ _ _ _ _ _ _ (c.in_err-edit_page.ensures sdr1 right))

pub returns : goal.returns
returns c sdr1 right = protect_by _ _ _ _ _ _ _ _ (c.in_ok-edit_page.ensures sdr1 right)
