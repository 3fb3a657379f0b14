-- `mmu::access::mmu_access` meets its contract: a wrong length is refused, and else the access is that of `table_access` without a cache.
use borrow.Author.Tests.{eqb-true}
use mathlib.Core.Path.{◌≡◌, refl, sym, ap, ◌∙◌}
use mathlib.Core.Bool.{Bool, true, ◌&&◌}
use lib.Dec.{eqb}
use lib.ListN.{length}
use Rattle.registers.specs.Set.{is_page}
use Rattle.words.proofs.Tests.{both}
use Rattle.theory_calls.proofs.Access.{access_wrong_length}
use Rattle.mmu.proofs.access.mmu_access.Goals as goal
use Rattle.mmu.proofs.access.mmu_access.Goals.{Else-not-is_page-answer}

-- past the refusal of a length both lengths are right
lengths : (c : Else-not-is_page-answer) →
    let a = c.args in
    (is_page (length a.registers.now) ≡ true) × (length a.answer.now ≡ 48)
lengths c =
    let right = both _ _ (c.if-not-is_page-answer.false) in
    (sym c.is_page.ensures ∙ right.0, eqb-true _ 48 right.1)

pub returns-then-not-is_page-answer : goal.returns-then-not-is_page-answer
returns-then-not-is_page-answer c =
    let a = c.args in
    rw c.from.ensures
    (sym
    (access_wrong_length (record { registers = a.registers.now; mode = a.mode; kind = a.kind; address = a.address; length = a.length; answer = a.answer.now }) a.table.now
    (ap (λ (b : Bool). b && eqb (length a.answer.now) 48) (sym c.is_page.ensures) ∙ c.if-not-is_page-answer.true)))
