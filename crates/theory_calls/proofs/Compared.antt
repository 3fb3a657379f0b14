-- What is compared of an access's answer: the rule is read where it was written, and where an entry was used its place is not seen.
use Prim.Native.Nat.{ℕ, ◌<◌}
use mathlib.Core.Path.{◌≡◌, refl, sym, ap, ap₂, ◌∙◌}
use mathlib.Core.Bool.{Bool, true, false, cond}
use mathlib.Core.List.{List, []}
use native.Mathlib.Omega.{arith}
use lib.Dec.{eqb, leb}
use lib.ListN.{take}
use borrow.Author.Tests.{leb-false}
use Rattle.words.specs.Words.{word_bytes, word_at, bytes_of}
use Rattle.words.proofs.Words.{own_bytes}
use Rattle.translation.specs.declared.Answer.{Answer}
use Rattle.translation.specs.declared.decision.Decision.{Decision}
use Rattle.translation.specs.declared.operand.OperandAnswer.{OperandAnswer}
use Rattle.translation.proofs.Parts.{SameButPlace}
use Rattle.theory_calls.specs.Answers.{access_answer, without_place, compared}

module _ (part : Answer) (physical attributes bytes rest : ℕ) where
  abbrev deciding : Decision → OperandAnswer
  deciding d = record { part = part; decision = d; address = physical; attributes = attributes; bytes = bytes; rest = rest }

  rule_read : (d : Decision) → d.rule < 7 → word_at (access_answer (deciding d)) 32 ≡ d.rule
  unfolding access_answer bytes_of word_bytes word_at
  rule_read d few = own_bytes d.rule (omega arith)

  -- the first forty bytes have the rule and what it went by, and no place
  front_same : (d e : Decision) → SameButPlace d e → take 40 (access_answer (deciding d)) ≡ take 40 (access_answer (deciding e))
  unfolding access_answer bytes_of word_bytes
  front_same d e s =
      ap₂ (λ (r x : ℕ). take 40 (access_answer (deciding (record { rule = r; detail = x; group = 0; entry = 0 })))) s.rule s.detail

  pub compared_same : (number : ℕ) (d e : Decision) → SameButPlace d e → compared without_place number (access_answer (deciding d)) ≡ compared without_place number (access_answer (deciding e))
  unfolding without_place
  compared_same number d e s =
      let few : e.rule < 7 = omega (arith, s.rule, s.few) in
      let same : leb 4 (word_at (access_answer (deciding e)) 32) ≡ leb 4 d.rule = ap (leb 4) (rule_read e few ∙ sym s.rule) in
      rw (rule_read d s.few, same) (go (leb 4 d.rule) refl)
    where
      shown : Bool → Decision → ℕ × List ℕ
      shown t x = (number, cond (eqb number 11) [] (cond t (take 40 (access_answer (deciding x))) (access_answer (deciding x))))

      go : (t : Bool) → leb 4 d.rule ≡ t → shown t d ≡ shown t e
      go true l = ap (λ (front : List ℕ). (number, cond (eqb number 11) [] front)) (front_same d e s)
      go false l = ap (shown false) (s.without_entry (leb-false 4 d.rule l))
