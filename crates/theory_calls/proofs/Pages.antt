-- A register page of either length as the set of 49 words that the code reads: the rules of an access and the steps before the search are those of
-- the page by its own limits.
use mathlib.Core.Path.{◌≡◌, refl, sym, ap, ap₂, ◌∙◌}
use mathlib.Core.Bool.{Bool, true, false, cond, not, ◌&&◌}
use mathlib.Core.List.{List, [], ◌∷◌, ◌++◌}
use Prim.Native.Nat.{ℕ}
use lib.Dec.{eqb, ltb}
use lib.ListN.{length}
use Rattle.register_words.specs.Sdr1.{table_length}
use Rattle.register_words.specs.Block.{bl_width}
use Rattle.registers.specs.Set.{is_page, block_pairs, sdr1_of, check_words, register_rules, widened, set_words}
use Rattle.registers.proofs.Set.{checked}
use Rattle.registers.proofs.Wide.{Narrow, shaped_narrow}
use Rattle.registers.proofs.Widened.{sdr1_widened, shape_widened, apart_widened, segments_widened, check_widened}
use Rattle.registers.proofs.Pages.{long, words, short_full, set_long, set_short}
use Rattle.translation.specs.Steps.{before_search, outcome_of, answer_of}
use Rattle.translation.specs.Decision.{decision_of}
use Rattle.translation.specs.Operand.{over_edge, part_start, operand_answer}
use Rattle.translation.specs.declared.operand.OperandAnswer.{OperandAnswer}
use Rattle.translation.specs.declared.Early.{Early}
use Rattle.translation.proofs.Widened.{before_same, before_widened}
use Rattle.theory_calls.specs.Rules.{operand_in_range}
use Rattle.theory_calls.specs.OnBytes.{used_by, search_in, first_place_in, marked_by}
use Rattle.theory_calls.proofs.Access.{rules_then}

-- ---- an operand by what steps 1 to 3 of its parts come to

-- what it answers, and the table that it leaves
module _ (kind address operand k : ℕ) (t : List ℕ) (early : Bool → Early) where
  abbrev pub told_by : OperandAnswer
  told_by =
      operand_answer address operand
      (λ second. answer_of kind (part_start address operand second) (outcome_of kind (search_in k t) (early second)))
      (λ second. decision_of (used_by (first_place_in k t) (early second)) (outcome_of kind (search_in k t) (early second)))

  abbrev pub left_by : List ℕ
  left_by =
      let mark : Bool → List ℕ → List ℕ = λ second u. marked_by k kind (early second) told_by.part.result u in
      cond (over_edge address operand) (mark true (mark false t)) (mark false t)

-- steps that are the same for each part
pub each_part : {f g : Bool → Early} → ((second : Bool) → f second ≡ g second) → f ≡ g
each_part h = λ j second. h second j

-- ---- the page

-- the rules of a short page's words, and of the same words as a long page's
pub rules_widened : (words : List ℕ) → length words ≡ 33 → (width : ℕ) → register_rules 8 width (widened words) ≡ register_rules 4 width words
rules_widened words full width =
    rw (
      sdr1_widened words full,
      shape_widened words full width false,
      shape_widened words full width true,
      apart_widened words full width false,
      apart_widened words full width true,
      segments_widened words full,
    )

-- the rules of an access after 11, by those of its registers and by SDR1
abbrev rules_of : ℕ → ℕ → ℕ → ℕ → List (Bool × ℕ) → ℕ → List (Bool × ℕ)
rules_of mode kind operand lent own sdr1 =
    (not (ltb mode 8 && ltb kind 3), 6) ∷ (not (operand_in_range operand), 12) ∷ own ++ ((not (eqb lent (table_length sdr1)), 1) ∷ [])

module _ (registers : List ℕ) (page : is_page (length registers) ≡ true) where
  pub sdr1_set : sdr1_of (set_words registers) ≡ sdr1_of (words registers)
  sdr1_set = go (long registers) refl
    where
      go : (t : Bool) → long registers ≡ t → sdr1_of (set_words registers) ≡ sdr1_of (words registers)
      go true e = ap sdr1_of (set_long registers e)
      go false e = ap sdr1_of (set_short registers e) ∙ sdr1_widened (words registers) (short_full registers page e)

  pub rules_set : (mode kind operand lent : ℕ)
      → rules_then 8 (bl_width (long registers)) (set_words registers) mode kind operand lent
      ≡ rules_then (block_pairs (long registers)) (bl_width (long registers)) (words registers) mode kind operand lent
  rules_set mode kind operand lent = go (long registers) refl
    where
      go : (t : Bool) → long registers ≡ t
          → rules_then 8 (bl_width t) (set_words registers) mode kind operand lent ≡ rules_then (block_pairs t) (bl_width t) (words registers) mode kind operand lent
      go true e = ap (λ (ws : List ℕ). rules_then 8 15 ws mode kind operand lent) (set_long registers e)
      go false e =
          let full = short_full registers page e in
          ap (λ (ws : List ℕ). rules_then 8 11 ws mode kind operand lent) (set_short registers e)
          ∙ ap₂ (rules_of mode kind operand lent) (rules_widened (words registers) full 11) (sdr1_widened (words registers) full)

  -- steps 1 to 3 by the page's own limits, where it passed its check
  pub early_set : check_words (block_pairs (long registers)) (bl_width (long registers)) (words registers) ≡ 0 → (mode kind address : ℕ)
      → before_search 8 15 (set_words registers) mode kind address
      ≡ before_search (block_pairs (long registers)) (bl_width (long registers)) (words registers) mode kind address
  early_set passed mode kind address = go (long registers) refl passed
    where
      go : (t : Bool) → long registers ≡ t → check_words (block_pairs t) (bl_width t) (words registers) ≡ 0
          → before_search 8 15 (set_words registers) mode kind address ≡ before_search (block_pairs t) (bl_width t) (words registers) mode kind address
      go true e p = ap (λ (ws : List ℕ). before_search 8 15 ws mode kind address) (set_long registers e)
      go false e p =
          let own = words registers in
          let full = short_full registers page e in
          let shape = (checked 8 11 (widened own) (check_widened own full 11 ∙ p)).shape in
          let narrow : (side : Bool) → Narrow 8 (widened own) side = λ side. shaped_narrow 8 (widened own) side (shape side) in
          ap (λ (ws : List ℕ). before_search 8 15 ws mode kind address) (set_short registers e)
          ∙ sym (before_same 8 (widened own) narrow mode kind address)
          ∙ sym (before_widened own full 11 mode kind address)
