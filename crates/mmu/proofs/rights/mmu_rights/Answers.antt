-- `mmu::rights::mmu_rights` meets its contract: a wrong length is refused, and else what is told of the three accesses is written.
use borrow.Author.Tests.{ne_eqb}
use mathlib.Core.Path.{◌≡◌, refl, sym, ap, ap₂, ◌∙◌}
use mathlib.Core.Bool.{Bool, true, ◌&&◌, and-false}
use mathlib.Core.List.{List, [], ◌∷◌, ◌++◌}
use Prim.Native.Nat.{ℕ}
use Rattle.std.specs.Prelude.{Result, Ok, Err}
use Rattle.numbers.specs.Refused.{result_number}
use Rattle.numbers.specs.declared.Refusal.{Refusal}
use lib.Dec.{eqb}
use lib.ListN.{length}
use Rattle.registers.specs.Set.{is_page}
use Rattle.words.specs.Words.{bytes_of}
use Rattle.theory_calls.specs.Answers.{access_answer}
use Rattle.access_rights.specs.Rights.{RightsCall, rights_call}
use Rattle.access_rights.specs.Held.{rights_of, TellsAll}
use Rattle.access_rights.specs.declared.Rights.{Rights}
use Rattle.access_rights.proofs.Call.{wrong_length, right_lengths, told_is}
use Rattle.mmu.proofs.rights.mmu_rights.Goals as goal
use Rattle.mmu.proofs.rights.mmu_rights.Goals.{Start}

-- what is asked of a register page
abbrev call : Start → List ℕ → RightsCall
call c registers = record { registers = registers; mode = c.args.mode; address = c.args.address }

pub returns-then-answer-ne-SIZE : goal.returns-then-answer-ne-SIZE
returns-then-answer-ne-SIZE c =
    let a = c.args in
    let page = is_page (length a.registers.now) in
    ap (λ (n : ℕ). (n, a.answer.now)) c.from.ensures
    ∙ sym
    (wrong_length (call (goal.at.returns-then-answer-ne-SIZE c).Start a.registers.now) a.answer.now a.table.now
    (ap (λ (b : Bool). page && b) (ne_eqb _ 156 c.if-answer-ne-SIZE.true) ∙ and-false page))

pub returns-in_default : goal.returns-in_default
returns-in_default c =
    let a = c.args in
    ap (λ (n : ℕ). (n, a.answer.now)) c.from-in_default.ensures
    ∙ sym
    (wrong_length (call (goal.at.returns-in_default c).Start a.registers.now) a.answer.now a.table.now
    (ap (λ (b : Bool). b && eqb (length a.answer.now) 156) c.in_default.ensures.1))

-- what is written is what is told, and the result is its number
written : (c : RightsCall) (answer t : List ℕ) → (is_page (length c.registers) ≡ true) × (length answer ≡ 156) → (told : Result Rights Refusal) → TellsAll c t told
    → (number : ℕ) → number ≡ result_number told → (bytes : List ℕ) →
    let all = rights_of told in
    bytes ≡ access_answer all.fetch.told ++ (access_answer all.load.told ++ (access_answer all.store.told ++ bytes_of (all.fetch.marks ∷ all.load.marks ∷ all.store.marks ∷ [])))
    → (number, bytes) ≡ rights_call c answer t
written c answer t (page, long) told tells number n bytes is =
    ap₂ (λ (n : ℕ) (bytes : List ℕ). (n, bytes)) (n ∙ tells.number) (is ∙ told_is c t told tells) ∙ sym (right_lengths c answer t page long)

pub returns-in-Ok-tell : goal.returns-in-Ok-tell
returns-in-Ok-tell c =
    let a = c.args in
    let page = c.in-Ok.page in
    let asked = call (goal.at.returns-in-Ok-tell c).Start in
    written (asked page.bytes.now) a.answer.now a.table.now (page.whole, c.if-answer-ne-SIZE.false) (Ok c.in-Ok-tell.told) c.in-Ok-tell.ensures 0 refl _
    c.write_rights.ensures
    ∙ ap (λ (r : List ℕ). rights_call (asked r) a.answer.now a.table.now) c.in-Ok.ensures

pub returns-in-Err : goal.returns-in-Err
returns-in-Err c =
    let a = c.args in
    let page = c.in-Ok.page in
    let asked = call (goal.at.returns-in-Err c).Start in
    written (asked page.bytes.now) a.answer.now a.table.now (page.whole, c.if-answer-ne-SIZE.false) (Err c.in-Err.refusal) c.in-Err.ensures _ c.from-in-Err.ensures _
    (rw c.refused.ensures at c.write_rights-in-Err.ensures)
    ∙ ap (λ (r : List ℕ). rights_call (asked r) a.answer.now a.table.now) c.in-Ok.ensures
