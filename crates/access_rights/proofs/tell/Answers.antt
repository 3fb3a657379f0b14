-- `access_rights::tell` meets its contract: the rules of a fetch are those of a load and a store, and each access is told by what stands at the address.
use mathlib.Core.Path.{◌≡◌, refl, sym, subst, ◌∙◌}
use native.Mathlib.Omega.{arith}
use lib.ListN.{length}
use Rattle.std.specs.Prelude.{Err}
use Rattle.numbers.specs.Refused.{refusal_number}
use Rattle.numbers.proofs.Refused.{refused_number}
use Rattle.registers.specs.Rules.{first_broken}
use Rattle.access_rights.specs.Rights.{RightsCall}
use Rattle.access_rights.specs.Held.{right_refused, StandsIn, TellsAll}
use Rattle.access_rights.proofs.Shared.{own_rules, own_rules_law, refused_tells, set_fits}
use Rattle.access_rights.proofs.tell.Goals as goal
use Rattle.access_rights.proofs.tell.Goals.{Start}

-- what is asked
abbrev call : Start → RightsCall
call c = record { registers = c.args.registers.bytes.now; mode = c.args.mode; address = c.args.address }

pub returns-in_err-check : goal.returns-in_err-check
returns-in_err-check c =
    let t = c.args.table.now in
    let asked = call (goal.at.returns-in_err-check c).Start in
    let refusal = c.in_err-check.field-0.0 in
    let handed : c.from_residual.result ≡ Err refusal = grind arith in
    let number : refusal_number refusal ≡ first_broken (own_rules asked c.args.registers.whole 0 (length t)) = c.in_err-check.ensures in
    let broken = refused_number refusal in
    let right = right_refused refusal in
    subst (TellsAll asked t) (sym handed)
    (record {
      number = number ∙ sym (own_rules_law asked c.args.registers.whole 0 (length t));
      fetched = refused_tells asked c.args.registers.whole 0 t (refusal_number refusal) number broken right (refl, refl);
      loaded = refused_tells asked c.args.registers.whole 1 t (refusal_number refusal) number broken right (refl, refl);
      stored = refused_tells asked c.args.registers.whole 2 t (refusal_number refusal) number broken right (refl, refl);
    })

pub standing_at-at-requires : goal.standing_at-at-requires
standing_at-at-requires c =
    let t = c.args.table.now in
    let asked = call (goal.at.standing_at-at-requires c).Start in
    -- past the refusals none of the rules is broken
    let kept : first_broken (own_rules asked c.args.registers.whole 0 (length t)) ≡ 0 = sym c.in_ok-check.ensures in
    set_fits asked c.args.registers.whole 0 t (own_rules_law asked c.args.registers.whole 0 (length t) ∙ kept)

pub returns : goal.returns
returns c =
    let t = c.args.table.now in
    let asked = call (goal.at.returns c).Start in
    let kept : first_broken (own_rules asked c.args.registers.whole 0 (length t)) ≡ 0 = sym c.in_ok-check.ensures in
    let stands : StandsIn asked t c.standing_at-at.result = (λ i. (c.type_inv.table i).fits, c.standing_at-at.ensures) in
    record {
      number = c.in_ok-check.ensures ∙ sym (own_rules_law asked c.args.registers.whole 0 (length t));
      fetched = c.right_of.ensures t stands (own_rules_law asked c.args.registers.whole 0 (length t) ∙ kept);
      loaded = c.right_of-2.ensures t stands (own_rules_law asked c.args.registers.whole 1 (length t) ∙ kept);
      stored = c.right_of-3.ensures t stands (own_rules_law asked c.args.registers.whole 2 (length t) ∙ kept);
    }
