-- The cases of an access on bytes: its rules after 11, when it leaves no mark, and what the call leaves.
--   rules_then: the list of an access's rules after 11
--   then_range, then_operand, then_check, then_length, then_none: the number that they give, rule by rule (6, 12, the check's, 1, 0)
--   then_not_11: they never give 11; then-kept: what holds of an access that none of them refuses
--   by_early: a proof by the cases of the steps before the search: decided, or a search with its wanted page
--   part_valid, wanted_valid: a page that is searched for is in range, by the register words or by the call
--   fault_number: a fault's number is not 0
--   refused_words: an outcome neither done nor a fault answers its number, zero words and no rule
--   late_done: after a search only a done access answers 0
--   unmarked, parts_unmarked: an access that is not done marks nothing, by one part and by all parts
--   unmarked_decided: nor does a part decided before the search
--   access_wrong_length, access_refused, access_taken: what the call leaves after rule 11, after another rule, and where none is broken
use mathlib.Core.Path.{◌≡◌, refl, sym, ap, ◌∙◌}
use mathlib.Core.Bool.{Bool, true, false, cond, not, ◌&&◌, true≢false}
use mathlib.Core.List.{List, [], ◌∷◌, ◌++◌}
use Prim.Native.Nat.{ℕ}
use native.Mathlib.Omega.{arith}
use lib.Dec.{eqb, ltb}
use lib.ListN.{length}
use borrow.Author.Tests.{eq-eqb, ne_eqb, eqb-true}
use Rattle.register_words.specs.Block.{bl_width}
use Rattle.registers.specs.Rules.{first_broken}
use Rattle.register_words.specs.Sdr1.{sdr1_shape, table_length, mask_ones}
use Rattle.registers.specs.Set.{is_page, block_pairs, sdr1_of, segments_shape, side_shape, side_apart, register_rules, check_words, register_words}
use Rattle.registers.proofs.Set.{checked}
use Rattle.groups.specs.Page.{InRange}
use Rattle.protection.specs.Access.{fetching}
use Rattle.protection.specs.Fault.{no_match, no_fetch, protection, fault_of}
use Rattle.translation.specs.Steps.{before_search, after_search, answer_of, refused_answer}
use Rattle.translation.specs.Decision.{decided, decision_of}
use Rattle.translation.specs.Operand.{over_edge, stopped}
use Rattle.translation.specs.declared.Early.{Early}
use Rattle.translation.specs.declared.Early.TheVariants.{Decided, Search}
use Rattle.translation.specs.declared.Outcome.{Outcome}
use Rattle.translation.specs.declared.Outcome.TheVariants.{Real, Block, BlockProtection, NoExecute, NoMatch, Guarded, Protection, Done, Refused}
use Rattle.translation.specs.declared.decision.Used.{Used}
use Rattle.translation.specs.declared.Searched.{Searched}
use Rattle.translation.specs.declared.Searched.TheVariants.{Nothing, At, Contradicting}
use Rattle.translation.specs.declared.Wanted.{Wanted}
use Rattle.translation.proofs.Steps.{page_by, wanted_in_range}
use Rattle.theory_calls.specs.Request.{AccessCall, access, sdr1_in, fed}
use Rattle.theory_calls.specs.Rules.{on_long_page, operand_in_range, rules, refusal}
use Rattle.theory_calls.specs.Answers.{refused_bytes, access_answer, answer_refused}
use Rattle.theory_calls.specs.OnBytes.{ended, start_of, early_of, each_part, wanted_page, marked_by, bytes_do, on_bytes}
use Rattle.theory_calls.proofs.OnBytes.{taken, refused}

-- ---- the rules after 11

-- the rules of an access after 11, given the limits and the words of its register page
abbrev pub rules_then : ℕ → ℕ → List ℕ → ℕ → ℕ → ℕ → ℕ → List (Bool × ℕ)
rules_then pairs width words mode kind operand lent =
    (not (ltb mode 8 && ltb kind 3), 6) ∷ (not (operand_in_range operand), 12) ∷ register_rules pairs width words ++ ((not (eqb lent (table_length (sdr1_of words))), 1) ∷ [])

module _ (pairs width : ℕ) (words : List ℕ) (mode kind operand lent : ℕ) where
  -- they are 6, then 12, then the check of the set, then the table's length; none is 11
  rules_are : (first_broken (rules_then pairs width words mode kind operand lent)
      ≡ cond (ltb mode 8 && ltb kind 3)
      (cond (operand_in_range operand)
      (cond (eqb (check_words pairs width words) 0) (cond (eqb lent (table_length (sdr1_of words))) 0 1) (check_words pairs width words))
      12)
      6) × (eqb (first_broken (rules_then pairs width words mode kind operand lent)) 11 ≡ false)
  unfolding check_words
  rules_are =
      go (ltb mode 8 && ltb kind 3) (operand_in_range operand) (sdr1_shape (sdr1_of words)) (side_shape pairs width words false && side_shape pairs width words true)
      (side_apart pairs width words false && side_apart pairs width words true) (segments_shape words) (eqb lent (table_length (sdr1_of words)))
    where
      go : (range bytes sdr1 shape apart segments long : Bool)
          → let set : List (Bool × ℕ) = (not sdr1, 2) ∷ (not shape, 3) ∷ (not apart, 4) ∷ (not segments, 5) ∷ [] in
          let all : List (Bool × ℕ) = (not range, 6) ∷ (not bytes, 12) ∷ set ++ ((not long, 1) ∷ []) in
          (first_broken all ≡ cond range (cond bytes (cond (eqb (first_broken set) 0) (cond long 0 1) (first_broken set)) 12) 6) × (eqb (first_broken all) 11 ≡ false)
      go false bytes sdr1 shape apart segments long = (refl, refl)
      go true false sdr1 shape apart segments long = (refl, refl)
      go true true false shape apart segments long = (refl, refl)
      go true true true false apart segments long = (refl, refl)
      go true true true true false segments long = (refl, refl)
      go true true true true true false long = (refl, refl)
      go true true true true true true false = (refl, refl)
      go true true true true true true true = (refl, refl)

  pub then_range : (ltb mode 8 && ltb kind 3) ≡ false → first_broken (rules_then pairs width words mode kind operand lent) ≡ 6
  then_range out = rw out

  module _ (range : (ltb mode 8 && ltb kind 3) ≡ true) where
    pub then_operand : operand_in_range operand ≡ false → first_broken (rules_then pairs width words mode kind operand lent) ≡ 12
    then_operand out = rw (rules_are.0, range, out)

    module _ (bytes : operand_in_range operand ≡ true) where
      pub then_check : (check_words pairs width words ≡ 0 → ⊥) → first_broken (rules_then pairs width words mode kind operand lent) ≡ check_words pairs width words
      then_check broken = rw (rules_are.0, range, bytes, ne_eqb (check_words pairs width words) 0 broken)

      module _ (passed : check_words pairs width words ≡ 0) where
        pub then_length : (lent ≡ table_length (sdr1_of words) → ⊥) → first_broken (rules_then pairs width words mode kind operand lent) ≡ 1
        then_length wrong = rw (rules_are.0, range, bytes, eq-eqb (check_words pairs width words) 0 passed, ne_eqb lent (table_length (sdr1_of words)) wrong)

        pub then_none : lent ≡ table_length (sdr1_of words) → first_broken (rules_then pairs width words mode kind operand lent) ≡ 0
        then_none right = rw (rules_are.0, range, bytes, eq-eqb (check_words pairs width words) 0 passed, eq-eqb lent (table_length (sdr1_of words)) right)

  pub then_not_11 : eqb (first_broken (rules_then pairs width words mode kind operand lent)) 11 ≡ false
  then_not_11 = rules_are.1

  -- an access that none of them refuses has an operand in range, a table of its SDR1 and a set that passed its check
  pub then_kept : first_broken (rules_then pairs width words mode kind operand lent) ≡ 0
      → (operand_in_range operand ≡ true) × (sdr1_shape (sdr1_of words) ≡ true) × (lent ≡ table_length (sdr1_of words)) × (check_words pairs width words ≡ 0)
  then_kept e =
      go (ltb mode 8 && ltb kind 3) (operand_in_range operand) (eqb (check_words pairs width words) 0) (eqb lent (table_length (sdr1_of words))) refl refl refl
      (sym rules_are.0 ∙ e)
    where
      go : (range bytes passed long : Bool) → operand_in_range operand ≡ bytes → eqb (check_words pairs width words) 0 ≡ passed → eqb lent (table_length (sdr1_of words)) ≡ long
          → cond range (cond bytes (cond passed (cond long 0 1) (check_words pairs width words)) 12) 6 ≡ 0
          → (operand_in_range operand ≡ true) × (sdr1_shape (sdr1_of words) ≡ true) × (lent ≡ table_length (sdr1_of words)) × (check_words pairs width words ≡ 0)
      go true true true true b p l z =
          (b, (checked pairs width words (eqb-true _ 0 p)).sdr1, eqb-true lent (table_length (sdr1_of words)) l, eqb-true (check_words pairs width words) 0 p)
      go true true true false b p l z = absurd (omega arith)
      go true true false long b p l z = absurd (true≢false (sym (eq-eqb _ 0 z) ∙ p))
      go true false passed long b p l z = absurd (omega arith)
      go false bytes passed long b p l z = absurd (omega arith)

-- ---- by cases

pub by_early : {X : Type 0} (early : Early) → ((outcome : Outcome) → early ≡ Decided outcome → X) → ((wanted : Wanted) → early ≡ Search wanted → X) → X
by_early (Decided outcome) decided search = decided outcome refl
by_early (Search wanted) decided search = search wanted refl

-- the page that a part wants is in range
pub part_valid : (pairs width : ℕ) (words : List ℕ) (mode kind address : ℕ) (wanted : Wanted) → before_search pairs width words mode kind address ≡ Search wanted → InRange (wanted_page wanted)
part_valid pairs width words mode kind address wanted e =
    let range = wanted_in_range pairs width words mode kind address wanted e in
    record { vsid_lt = range.0; index_lt = range.1 }

pub wanted_valid : {A : Type 0} (c : AccessCall A) (second : Bool) (wanted : Wanted) → early_of c second ≡ Search wanted → InRange (wanted_page wanted)
wanted_valid c second = part_valid (block_pairs (on_long_page c)) (bl_width (on_long_page c)) (register_words c.registers) c.mode c.kind (start_of c second)

-- ---- the mark

-- a fault's number is not 0
pub fault_number : (cause kind : ℕ) → (fault_of cause kind).result ≡ 0 → ⊥
unfolding fault_of
fault_number cause kind = by (fetching kind)
  where
    by : (t : Bool) → cond {A = ℕ} t 65 64 ≡ 0 → ⊥
    by true e = omega arith
    by false e = omega arith

-- and it is 64 or 65
not_fault : (cause kind : ℕ) → ((fault_of cause kind).result ≡ 64 → ⊥) → ((fault_of cause kind).result ≡ 65 → ⊥) → ⊥
unfolding fault_of
not_fault cause kind = by (fetching kind)
  where
    by : (t : Bool) → (cond {A = ℕ} t 65 64 ≡ 64 → ⊥) → (cond {A = ℕ} t 65 64 ≡ 65 → ⊥) → ⊥
    by true d i = i refl
    by false d i = d refl

-- an outcome that is neither done nor a fault is a refusal, which answers its number and zero words and shows no rule
pub refused_words : (kind address : ℕ) (used : Used) (outcome : Outcome) → let number = (answer_of kind address outcome).result in
    (number ≡ 0 → ⊥) → (number ≡ 64 → ⊥) → (number ≡ 65 → ⊥)
    → (answer_of kind address outcome ≡ refused_answer number) × (decision_of used outcome ≡ decided 0 0)
unfolding answer_of decision_of
refused_words kind address used Real z d i = absurd (z refl)
refused_words kind address used (Block j physical attributes) z d i = absurd (z refl)
refused_words kind address used (BlockProtection j) z d i = absurd (not_fault protection kind d i)
refused_words kind address used NoExecute z d i = absurd (not_fault no_fetch kind d i)
refused_words kind address used NoMatch z d i = absurd (not_fault no_match kind d i)
refused_words kind address used Guarded z d i = absurd (not_fault no_fetch kind d i)
refused_words kind address used (Protection second) z d i = absurd (not_fault protection kind d i)
refused_words kind address used (Done second) z d i = absurd (z refl)
refused_words kind address used (Refused number) z d i = (refl, refl)

-- of the outcomes of a search only that of a done access answers 0
pub late_done : (kind : ℕ) (key : Bool) (address : ℕ) (found : Searched) → (answer_of kind address (after_search kind key found)).result ≡ 0
    → (second : ℕ) × (after_search kind key found ≡ Done second)
unfolding answer_of after_search
late_done kind key address Contradicting z = absurd (omega arith)
late_done kind key address Nothing z = absurd (fault_number no_match kind z)
late_done kind key address (At word) z =
    page_by kind key word (λ (outcome : Outcome). (answer_of kind address outcome).result ≡ 0 → (second : ℕ) × (outcome ≡ Done second))
    (λ g e. absurd (fault_number no_fetch kind e)) (λ g p e. absurd (fault_number protection kind e)) (λ g p e. (word, refl)) z

-- an access that is not done leaves the table
pub unmarked : (k kind : ℕ) (early : Early) (result : ℕ) (t : List ℕ) → (result ≡ 0 → ⊥) → marked_by k kind early result t ≡ t
unfolding marked_by
unmarked k kind (Decided outcome) result t n = refl
unmarked k kind (Search wanted) result t n = rw (ne_eqb result 0 n)

pub parts_unmarked : {A : Type 0} (k : ℕ) (c : AccessCall A) (result : ℕ) (t : List ℕ) → (result ≡ 0 → ⊥)
    → each_part c (λ second. marked_by k c.kind (early_of c second) result) t ≡ t
parts_unmarked k c result t n =
    rw (unmarked k c.kind (early_of c false) result t n, unmarked k c.kind (early_of c true) result t n) (go (over_edge c.address c.length))
  where
    go : (over : Bool) → cond over t t ≡ t
    go true = refl
    go false = refl

pub unmarked_decided : (k kind : ℕ) (outcome : Outcome) (result : ℕ) (t : List ℕ) → marked_by k kind (Decided outcome) result t ≡ t
unfolding marked_by
unmarked_decided k kind outcome result t = refl

-- ---- the call

module _ (c : AccessCall (List ℕ)) (t : List ℕ) where
  pub access_wrong_length : (is_page (length c.registers) && eqb (length c.answer) 48) ≡ false → on_bytes (access c) t ≡ ended 11 t c.answer
  unfolding refusal rules fed answer_refused refused_bytes
  access_wrong_length w = refused (access c) t 11 (rw w) (λ z. omega arith)

  module _ (page : is_page (length c.registers) ≡ true) (answer_length : length c.answer ≡ 48) where
    abbrev rules_left : List (Bool × ℕ)
    rules_left = rules_then (block_pairs (on_long_page c)) (bl_width (on_long_page c)) (register_words c.registers) c.mode c.kind c.length (length t)

    after_11 : refusal (fed (access c)) (length t) ≡ first_broken rules_left
    unfolding refusal rules fed
    after_11 = rw (page, answer_length)

    pub access_refused : (number : ℕ) → number ≡ first_broken rules_left → (number ≡ 0 → ⊥)
        → on_bytes (access c) t ≡ ended number t (access_answer (stopped (refused_answer number) (decided 0 0)))
    unfolding answer_refused refused_bytes access_answer
    access_refused number e n =
        refused (access c) t number (after_11 ∙ sym e) n
        ∙ (rw (ap (λ (k : ℕ). eqb k 11) e ∙ then_not_11 (block_pairs (on_long_page c)) (bl_width (on_long_page c)) (register_words c.registers) c.mode c.kind c.length (length t)))

    pub access_taken : first_broken rules_left ≡ 0
        → on_bytes (access c) t ≡ bytes_do (mask_ones (sdr1_of (register_words c.registers))) (access c) t
    unfolding sdr1_in
    access_taken z = taken (access c) t (after_11 ∙ z)
