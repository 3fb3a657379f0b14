-- The access of each kind: its rules after 11 by the page's own limits, what it ends in where one is broken, and what a part of its own comes to.
use Prim.Native.Nat.{ℕ, ◌<◌, ◌^◌}
use mathlib.Core.Path.{◌≡◌, refl, sym, ap, ap₂, subst, ◌∙◌}
use mathlib.Core.Bool.{Bool, true, false}
use mathlib.Core.List.{List}
use native.Mathlib.Omega.{arith}
use lib.ListN.{length, get_or}
use Rattle.registers.specs.Rules.{first_broken}
use Rattle.register_words.specs.Sdr1.{sdr1_shape, table_length, mask_ones}
use Rattle.register_words.specs.Block.{bl_width}
use Rattle.registers.specs.Set.{is_page, is_long, block_pairs, sdr1_of, check_words, register_words, set_words}
use Rattle.translation.specs.Steps.{before_search, refused_answer}
use Rattle.translation.specs.Decision.{decided}
use Rattle.translation.specs.Operand.{over_edge, part_start, stopped, within}
use Rattle.translation.specs.declared.Answer.{Answer}
use Rattle.translation.specs.declared.decision.Decision.{Decision}
use Rattle.translation.proofs.Parts.{one_part}
use Rattle.theory_calls.specs.Request.{access, sdr1_in, fed}
use Rattle.theory_calls.specs.Rules.{rules, refusal}
use Rattle.theory_calls.specs.Answers.{access_answer}
use Rattle.theory_calls.specs.OnBytes.{ended, start_of, early_of}
use Rattle.theory_calls.specs.AnyTable.{Taken}
use Rattle.theory_calls.proofs.Access.{rules_then, then_kept, access_refused}
use Rattle.theory_calls.proofs.TakenCalls.{state_of, answer_of_law}
use Rattle.theory_calls.proofs.Pages.{sdr1_set, early_set}
use Rattle.groups.specs.Hash.{TableOf}
use Rattle.table_access.specs.declared.Part.{Part}
use Rattle.access_rights.specs.Rights.{RightsCall, asking, would_end}
use Rattle.access_rights.specs.Held.{newly_marked, Tells}
use Rattle.access_rights.specs.declared.Right.{Right}
use Rattle.access_rights.proofs.ByTable.{ByTable}
use Rattle.access_rights.proofs.Marks.{unchanged_none, ends_done, ends_stopped, part_marks}

-- one byte lies in one page
pub one_byte : (address : ℕ) → over_edge address 1 ≡ false
one_byte address = one_part address 1 (omega arith)

module _ (c : RightsCall) (page : is_page (length c.registers) ≡ true) (kind : ℕ) where
  -- the page's own rules
  abbrev pub own_rules : ℕ → List (Bool × ℕ)
  own_rules lent =
      rules_then (block_pairs (is_long (length c.registers))) (bl_width (is_long (length c.registers))) (register_words c.registers) c.mode kind 1 lent

  pub own_rules_law : (lent : ℕ) → refusal (fed (access (asking c kind))) lent ≡ first_broken (own_rules lent)
  unfolding refusal rules fed
  own_rules_law lent = rw page

  module _ (t : List ℕ) where
    -- where a rule is broken
    pub refused_tells : (number : ℕ) → number ≡ first_broken (own_rules (length t)) → (number ≡ 0 → ⊥)
        → (right : Right) → (right.told ≡ stopped (refused_answer number) (decided 0 0)) × (right.marks ≡ 0) → Tells t (would_end c t kind) right
    refused_tells number e n right (told, marks) =
        let ends : would_end c t kind ≡ ended number t (access_answer (stopped (refused_answer number) (decided 0 0))) = access_refused (asking c kind) t page refl number e n in
        record { answer = ap access_answer told ∙ sym (answer_of_law ends); marks = marks ∙ sym (unchanged_none t (would_end c t kind) (state_of ends)) }

    -- where none is broken
    module _ (kept : refusal (fed (access (asking c kind))) (length t) ≡ 0) where
      -- the page passes its check, and SDR1 and the table's length are right
      passed : (check_words (block_pairs (is_long (length c.registers))) (bl_width (is_long (length c.registers))) (register_words c.registers) ≡ 0)
          × (sdr1_shape (sdr1_of (register_words c.registers)) ≡ true) × (length t ≡ table_length (sdr1_of (register_words c.registers)))
      passed =
          let all = then_kept (block_pairs (is_long (length c.registers))) (bl_width (is_long (length c.registers))) (register_words c.registers) c.mode kind 1 (length t) (sym (own_rules_law (length t)) ∙ kept) in
          (all.3, all.1, all.2)

      pub set_fits : TableOf (sdr1_of (set_words c.registers)) (length t)
      set_fits = subst (λ (s : ℕ). TableOf s (length t)) (sym (sdr1_set c.registers page)) (record { shape = passed.1; right = passed.2 })

      module _ (bytes : (i : ℕ) → get_or t i 0 < 2 ^ 8) (p : Part)
          (is : ByTable (mask_ones (sdr1_of (set_words c.registers))) t kind c.address (before_search 8 15 (set_words c.registers) c.mode kind c.address) p) where
        taken : Taken (access (asking c kind)) t
        taken = record { not_refused = kept; bytes = bytes }

        -- the part by the page's own limits
        own_part_law : ByTable (mask_ones (sdr1_in (access (asking c kind)))) t kind (start_of (asking c kind) false) (early_of (asking c kind) false) p
        unfolding sdr1_in part_start
        own_part_law = rw (early_set c.registers page passed.0 c.mode kind c.address, sdr1_set c.registers page) at is

        -- a part that is not done
        pub stopped_tells : (p.answer.result ≡ 0 → ⊥) → (right : Right) → right.told ≡ stopped p.answer p.decision → right.marks ≡ 0 → Tells t (would_end c t kind) right
        stopped_tells n right told marks =
            let ends = ends_stopped (asking c kind) t taken (one_byte c.address) (λ z. n (ap (λ (x : Answer). x.result) own_part_law.answers ∙ z)) in
            record {
              answer = ap access_answer (told ∙ ap₂ (λ (x : Answer) (d : Decision). stopped x d) own_part_law.answers own_part_law.decides) ∙ sym (answer_of_law ends);
              marks = marks ∙ sym (unchanged_none t (would_end c t kind) (state_of ends));
            }

        -- a part that is done
        pub done_tells : p.answer.result ≡ 0 → (right : Right) → right.told ≡ within p.answer p.decision 1
            → right.marks ≡ newly_marked kind p.found → Tells t (would_end c t kind) right
        done_tells z right told marks =
            let ends = ends_done (asking c kind) t taken (one_byte c.address) (sym (ap (λ (x : Answer). x.result) own_part_law.answers) ∙ z) in
            record {
              answer = ap access_answer (told ∙ ap₂ (λ (x : Answer) (d : Decision). within x d 1) own_part_law.answers own_part_law.decides) ∙ sym (answer_of_law ends);
              marks = marks ∙ part_marks (asking c kind) t taken (one_byte c.address) p own_part_law z;
            }
