-- The answer of an operand of which a part was hit: where every part answers alike and shows the same but for a hit's entry number, the bytes of the
-- answers are the same but for the last word, which is 8 where the part that answers was hit.
use Prim.Native.Nat.{ℕ}
use mathlib.Core.Path.{◌≡◌, refl, ap, ◌∙◌}
use mathlib.Core.Bool.{Bool, true, false, not, cond, ◌&&◌}
use mathlib.Core.List.{List}
use lib.Dec.{eqb}
use Rattle.words.specs.Words.{word_bytes, with_word, bytes_of}
use Rattle.translation.specs.Operand.{over_edge, stopped, within, across_edge, first_bytes, operand_answer}
use Rattle.translation.specs.declared.Answer.{Answer}
use Rattle.translation.specs.declared.decision.Decision.{Decision}
use Rattle.translation.specs.declared.operand.OperandAnswer.{OperandAnswer}
use Rattle.theory_calls.specs.Answers.{access_answer}

-- a decision with the entry number of a hit
abbrev pub eighth : Decision → Decision
eighth d = record { rule = d.rule; detail = d.detail; group = d.group; entry = 8 }

-- an answer with it
abbrev pub with_entry : Bool → List ℕ → List ℕ
with_entry h answer = cond h (with_word answer 44 8) answer

module _ (part : Answer) (address attributes bytes rest : ℕ) where
  abbrev deciding : Decision → OperandAnswer
  deciding d = record { part = part; decision = d; address = address; attributes = attributes; bytes = bytes; rest = rest }

  written : (d : Decision) → access_answer (deciding (eighth d)) ≡ with_word (access_answer (deciding d)) 44 8
  unfolding access_answer bytes_of word_bytes with_word
  written d = refl

  told_by_law : (h : Bool) (d e : Decision) → e ≡ cond h (eighth d) d → access_answer (deciding e) ≡ with_entry h (access_answer (deciding d))
  told_by_law true d e is = ap (λ (x : Decision). access_answer (deciding x)) is ∙ written d
  told_by_law false d e is = ap (λ (x : Decision). access_answer (deciding x)) is

module _ (address length : ℕ) (answer : Bool → Answer) (d e : Bool → Decision) (h : Bool → Bool) (each : (second : Bool) → e second ≡ cond (h second) (eighth (d second)) (d second)) where
  pub operand_told : access_answer (operand_answer address length answer e)
      ≡ with_entry (h (over_edge address length && eqb (answer false).result 0 && not (eqb (answer true).result 0))) (access_answer (operand_answer address length answer d))
  unfolding operand_answer
  operand_told = go (eqb (answer false).result 0) (over_edge address length) (eqb (answer true).result 0)
    where
      whole : Bool → Bool → Bool → (Bool → Decision) → OperandAnswer
      whole p o q x =
          cond p (cond o (cond q (across_edge (answer false) (x false) (answer true) (first_bytes address length) length) (stopped (answer true) (x true)))
          (within (answer false) (x false) length)) (stopped (answer false) (x false))

      go : (p o q : Bool) → access_answer (whole p o q e) ≡ with_entry (h (o && p && not q)) (access_answer (whole p o q d))
      go true true true = told_by_law (answer false) _ _ _ _ (h false) (d false) (e false) (each false)
      go true true false = told_by_law (answer true) 0 0 0 0 (h true) (d true) (e true) (each true)
      go true false q = told_by_law (answer false) 0 0 length 0 (h false) (d false) (e false) (each false)
      go false true q = told_by_law (answer false) 0 0 0 0 (h false) (d false) (e false) (each false)
      go false false q = told_by_law (answer false) 0 0 0 0 (h false) (d false) (e false) (each false)
