-- `access_rights::part_at` meets its contract: past the steps before the search, those after it by what was found once for all kinds.
use mathlib.Core.Path.{sym, ap, ◌∙◌}
use Rattle.registers.specs.Set.{set_words}
use Rattle.translation.specs.Steps.{before_search}
use Rattle.translation.proofs.Steps.{searches}
use Rattle.table_access.specs.Part.{table_found, by_found, part_by}
use Rattle.table_access.proofs.Parts.{begun_wants, part_searched}
use Rattle.access_rights.specs.declared.Standing.{Standing}
use Rattle.access_rights.proofs.part_at.Goals as goal

pub returns-in-Continue : goal.returns-in-Continue
returns-in-Continue c k t is =
    let a = c.args.asked in
    let wanted = c.in-Continue.wanted in
    let e = begun_wants a.kind a.address (before_search 8 15 (set_words c.args.registers.bytes.now) a.mode a.kind a.address) wanted (sym c.before_search.ensures ∙ c.in-Continue.is) in
    let wants = (searches 8 15 (set_words c.args.registers.bytes.now) a.mode a.kind a.address wanted e).wants in
    c.after_search.ensures
    ∙ ap (by_found a.kind a.address wanted.key) (ap (λ (s : Standing). s.found) is ∙ ap (table_found k t) (sym wants))
    ∙ sym (part_searched a.kind a.address (table_found k t) wanted)
    ∙ sym (ap (part_by a.kind a.address (table_found k t)) e)
