-- `table_access::translate` meets its contract: a refusal, an operand in real mode and any other end as the definition says, with a cache and without
-- one.
use mathlib.Core.Path.{◌≡◌, sym, ap, ap₂, ◌∙◌}
use mathlib.Core.List.{List}
use Prim.Native.Nat.{ℕ}
use lib.ListN.{length}
use Rattle.numbers.specs.Refused.{refusal_number, result_number}
use Rattle.numbers.proofs.Refused.{refused_number}
use Rattle.registers.specs.Rules.{first_broken}
use Rattle.register_words.specs.Sdr1.{mask_ones}
use Rattle.registers.specs.Set.{sdr1_of, set_words}
use Rattle.translation.specs.declared.operand.OperandAnswer.{OperandAnswer}
use Rattle.theory_calls.specs.Request.{access}
use Rattle.theory_calls.specs.Answers.{access_answer}
use Rattle.theory_calls.specs.OnBytes.{ended, on_bytes}
use Rattle.theory_calls.proofs.Access.{access_refused}
use Rattle.theory_cache.specs.Cached.{on_cached}
use Rattle.table_access.specs.Part.{call_of, part_early, Comes}
use Rattle.table_access.proofs.Operands.{tells}
use Rattle.table_access.proofs.Calls.{own_rules, cached_refused, real_comes, right_table, cached_ends, uncached_ends}
use Rattle.table_access.proofs.translate.Goals as goal
use Rattle.table_access.proofs.translate.Goals.{In_default}

pub returns-in-Err : goal.returns-in-Err
returns-in-Err c =
    let a = c.args in
    let number = refusal_number c.in-Err.refusal in
    let broken : number ≡ first_broken (own_rules a.registers.bytes.now a.asked (length a.table.now)) = c.in-Err.ensures in
    let is_broken = refused_number c.in-Err.refusal in
    let told = c.refused.ensures in
    let result = c.tell.ensures.0 ∙ ap (λ (x : OperandAnswer). x.part.result) told in
    let written = c.tell.ensures.1 ∙ ap access_answer told in
    let call = call_of a.registers.bytes.now a.asked a.answer.now in record {
      cached = λ right. ap₂ (λ (n : ℕ) (bytes : List ℕ). ended n (a.table.now, a.cache.now) bytes) result written
          ∙ sym (cached_refused call (a.table.now, a.cache.now) right c.args.registers.whole c.requires.1 number broken is_broken);
      uncached = λ empty. ap₂ (λ (n : ℕ) (bytes : List ℕ). ended n a.table.now bytes) result written
          ∙ sym (access_refused call a.table.now c.args.registers.whole c.requires.1 number broken is_broken);
    }

-- past the refusals the rules are kept
kept : (c : In_default) → first_broken (own_rules c.args.registers.bytes.now c.args.asked (length c.args.table.now)) ≡ 0
kept c = sym (sym (ap result_number c.in_default.is) ∙ c.check.ensures)

-- what an operand ends with is what the call does
ends : (c : In_default) (told : OperandAnswer) (left : List ℕ × List ℕ) (r : ℕ) (written : List ℕ) →
    let a = c.args in
    let words = set_words a.registers.bytes.now in
    let call = call_of a.registers.bytes.now a.asked a.answer.now in
    Comes a.asked (mask_ones (sdr1_of words)) (c.args.table.now, c.args.cache.now) (part_early words a.asked) told left
    → (r ≡ told.part.result) × (written ≡ access_answer told)
    → (length a.cache.now ≡ 2048 → ended r left written ≡ on_cached call (c.args.table.now, c.args.cache.now)) × (length a.cache.now ≡ 0 → ended r left.0 written ≡ on_bytes (access call) a.table.now)
ends c told left r written comes is =
    let a = c.args in
    let lent : List ℕ × List ℕ = (a.table.now, a.cache.now) in
    let e = tells a.asked (mask_ones (sdr1_of (set_words a.registers.bytes.now))) lent (part_early (set_words a.registers.bytes.now) a.asked) told left comes r written is in (
      λ right. cached_ends a.registers.bytes.now a.asked lent c.args.registers.whole (kept c) r left a.answer.now written c.requires.1 e right,
      λ empty. uncached_ends a.registers.bytes.now a.asked lent c.args.registers.whole (kept c) r left a.answer.now written c.requires.1 e empty,
    )

pub returns-then-not-is_relocated : goal.returns-then-not-is_relocated
returns-then-not-is_relocated c =
    let a = c.args in
    let words = set_words a.registers.bytes.now in
    let lent : List ℕ × List ℕ = (a.table.now, a.cache.now) in
    let off = sym c.is_relocated.ensures ∙ c.if-not-is_relocated.true in
    let both = ends (goal.at.returns-then-not-is_relocated c).In_default c.untranslated-real.result lent _ _
    (real_comes words a.asked (mask_ones (sdr1_of words)) lent c.untranslated-real.result off c.untranslated-real.ensures) c.tell-then-not-is_relocated.ensures in
    record { cached = both.0; uncached = both.1 }

pub by_parts-told-requires : goal.by_parts-told-requires
by_parts-told-requires c =
    let a = c.args in
    let on = sym c.is_relocated.ensures ∙ c.if-not-is_relocated.false in
    (right_table a.registers.bytes.now a.asked (a.table.now, a.cache.now) c.args.registers.whole (kept (goal.at.by_parts-told-requires c).In_default), c.requires.0, on)

pub returns : goal.returns
returns c =
    let both = ends (goal.at.returns c).In_default c.by_parts-told.result (c.by_parts-told.new.table, c.by_parts-told.new.cache) _ _ c.by_parts-told.ensures c.tell-2.ensures in
    record { cached = both.0; uncached = both.1 }
