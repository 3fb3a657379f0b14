-- `access_rights::right_of` meets its contract: the access of one byte is its only part, stopped or done.
use mathlib.Core.Path.{◌≡◌, refl, sym, subst}
use mathlib.Core.List.{List}
use Prim.Native.Nat.{ℕ}
use Rattle.register_words.specs.Sdr1.{mask_ones}
use Rattle.registers.specs.Set.{sdr1_of, set_words}
use Rattle.translation.specs.Steps.{before_search}
use Rattle.access_rights.specs.Rights.{RightsCall}
use Rattle.access_rights.specs.Held.{stands_at, StandsIn}
use Rattle.access_rights.specs.declared.Standing.{Standing}
use Rattle.table_access.specs.Part.{table_found, part_by}
use Rattle.table_access.specs.declared.Part.{Part}
use Rattle.access_rights.proofs.ByTable.{ByTable, by_table}
use Rattle.access_rights.proofs.Shared.{stopped_tells, done_tells}
use Rattle.access_rights.proofs.right_of.Goals as goal

-- the part is that of the table, by what was asked
own : (call : RightsCall) (kind : ℕ) (at : Standing) (part : Part) (t : List ℕ) → StandsIn call t at
    → ((k : ℕ) (t : List ℕ) → at ≡ stands_at (set_words call.registers) call.mode call.address k t
    → part ≡ part_by kind call.address (table_found k t) (before_search 8 15 (set_words call.registers) call.mode kind call.address))
    → ByTable (mask_ones (sdr1_of (set_words call.registers))) t kind call.address (before_search 8 15 (set_words call.registers) call.mode kind call.address) part
own call kind at part t stands is =
    let ones = mask_ones (sdr1_of (set_words call.registers)) in
    let early = before_search 8 15 (set_words call.registers) call.mode kind call.address in
    subst (ByTable ones t kind call.address early) (sym (is ones t stands.1)) (by_table ones t kind call.address early)

pub returns-then-answer-ne-DONE : goal.returns-then-answer-ne-DONE
returns-then-answer-ne-DONE c t stands kept =
    let a = c.args.asked in
    let call : RightsCall = record { registers = c.args.registers.bytes.now; mode = a.mode; address = a.address } in
    let part = c.part_at-part.result in
    stopped_tells call c.args.registers.whole a.kind t kept stands.0 part (own call a.kind c.args.at part t stands c.part_at-part.ensures) c.if-answer-ne-DONE.true _ c.stopped.ensures refl

pub returns : goal.returns
returns c t stands kept =
    let a = c.args.asked in
    let call : RightsCall = record { registers = c.args.registers.bytes.now; mode = a.mode; address = a.address } in
    let part = c.part_at-part.result in
    done_tells call c.args.registers.whole a.kind t kept stands.0 part (own call a.kind c.args.at part t stands c.part_at-part.ensures) c.if-answer-ne-DONE.false _
    c.within.ensures c.new_marks.ensures
