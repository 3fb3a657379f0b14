-- One access is as stated: the case laws of its steps, the laws of its answers, and the tables, gathered.
use Rattle.std.proofs.Common.{◌≡◌, ℕ, ◌/◌, ◌%◌, ◌^◌, ◌<◌, ◌≤◌, Bool, true, false, eqb, ltb, List, sym, ap, ◌∙◌, true≢false, le_refl, arith, le-ltb, lt-ltb, eq-eqb, ne_eqb, eqb-true}
use borrow.Author.Tests.{eqb-false, not-true}
use Rattle.entry.specs.Entry.{rpn_of, pp_of, physical_address}
use Rattle.numbers.proofs.Examples.{numbers_tables}
use Rattle.words.proofs.Examples.{words_tables}
use Rattle.entry.proofs.RoundTrip.{packing_agrees}
use Rattle.entry.proofs.Matches.{match_agrees}
use Rattle.entry.proofs.Examples.{entry_tables}
use Rattle.register_words.proofs.Examples.{register_words_tables}
use Rattle.registers.proofs.Examples.{registers_tables}
use Rattle.register_words.specs.Block.{bl_width, block_attributes}
use Rattle.registers.specs.Set.{block_pairs, lower_of, check_words, pair_covers, covering_pair}
use Rattle.registers.proofs.Blocks.{blocks_decide}
use Rattle.registers.proofs.Check.{check_decides, at_most_15, replacing_decides}
use Rattle.protection.specs.Access.{user_mode, fetching, storing, relocated, side_of}
use Rattle.protection.specs.Protection.{page_writable, page_allows}
use Rattle.protection.specs.Fault.{fault_of}
use Rattle.translation.specs.Steps.{block_outcome, before_search, outcome_of, answer_of}
use Rattle.translation.specs.Stated.{StepsBefore, StepsAfter, AnswersStated, AccessAsStated}
use Rattle.translation.specs.declared.Outcome.TheVariants.{Real}
use Rattle.translation.specs.declared.Early.{Early}
use Rattle.translation.specs.declared.Early.TheVariants.{Decided}
use Rattle.translation.specs.declared.Answer.{Answer}
use Rattle.translation.proofs.Parts.{operand_stated}
use Rattle.translation.proofs.Steps.{block_done, block_fault, before_real, before_block, before_no_execute, before_search_law, wanted_in_range, decided_early, no_execute_fetch}
use Rattle.translation.proofs.Steps.{after_contradicting, after_nothing, after_at, page_guarded, page_protected, done_passes, passes_done, after_late, guarded_fetch, outcome_decided}
use Rattle.translation.proofs.Answers.{answer_real, answer_block, answer_done, answer_refused_law, answer_effective, answer_page_same}
use Rattle.translation.proofs.Covering.{covering_none, covering_one, block_offset}
use Rattle.protection.proofs.Examples.{protection_tables}
use Rattle.translation.proofs.Examples.{access_tables}

module _ (pairs width : ℕ) (wide : width ≤ 15) (words : List ℕ) (mode kind address : ℕ) where
  -- the pair that covers the address is the one that step 2 takes
  at_pair : check_words pairs width words ≡ 0 → (i : ℕ) → i < pairs → pair_covers pairs width words (side_of kind) (user_mode mode) address i ≡ true
      → relocated mode kind ≡ true → before_search pairs width words mode kind address ≡ Decided (block_outcome pairs width words kind address i)
  at_pair passed i h covered on =
      let e = covering_one pairs width words (side_of kind) (user_mode mode) address wide passed i h covered in
      before_block pairs width words mode kind address on (ap (λ (pair : ℕ). ltb pair pairs) e ∙ lt-ltb i pairs h)
      ∙ ap (λ (pair : ℕ). Decided (block_outcome pairs width words kind address pair)) e

  bare : ((i : ℕ) → i < pairs → pair_covers pairs width words (side_of kind) (user_mode mode) address i ≡ false)
      → ltb (covering_pair pairs width words (side_of kind) (user_mode mode) address) pairs ≡ false
  bare none =
      ap (λ (pair : ℕ). ltb pair pairs) (covering_none pairs width words (side_of kind) (user_mode mode) address none) ∙ le-ltb pairs pairs (le_refl pairs)

  pub steps_before : StepsBefore pairs width words mode kind address
  steps_before = record {
    real_mode = before_real pairs width words mode kind address;
    block_done = λ on passed i h covered allowed. at_pair passed i h covered on ∙ ap Decided (block_done pairs width words kind address i allowed);
    block_fault = λ on passed i h covered forbidden. at_pair passed i h covered on ∙ ap Decided (block_fault pairs width words kind address i forbidden);
    no_execute_law = λ on none n. before_no_execute pairs width words mode kind address on (bare none) n;
    looks = λ on none n. before_search_law pairs width words mode kind address on (bare none) n;
    in_range_law = wanted_in_range pairs width words mode kind address;
    only_early = decided_early pairs width words mode kind address;
    only_fetches = no_execute_fetch pairs width words mode kind address;
  }

-- what the right to write says of PP
writable : (key : Bool) (pp kind : ℕ) → kind ≡ 2 → page_allows key pp kind ≡ true → (key ≡ false → pp ≡ 3 → ⊥) × (key ≡ true → pp ≡ 2)
unfolding page_allows page_writable storing
writable true pp kind e allowed = ((λ q. absurd (true≢false q)), λ q. eqb-true pp 2 (rw (eq-eqb kind 2 e) at allowed))
writable false pp kind e allowed = ((λ q. eqb-false pp 3 (not-true (eqb pp 3) (rw (eq-eqb kind 2 e) at allowed))), λ q. absurd (true≢false (sym q)))

pub steps_after : (kind : ℕ) (key : Bool) → StepsAfter kind key
steps_after kind key = record {
  contradiction = after_contradicting kind key;
  no_match_law = after_nothing kind key;
  guarded_fetch = λ second g. after_at kind key second ∙ page_guarded kind key second g;
  page_fault = λ second g p. after_at kind key second ∙ page_protected kind key second g p;
  page_done = λ searched second. (
    (λ e. let past = done_passes kind key searched second e in (past.found, (past.passes, past.allowed))),
    (λ p. passes_done kind key searched second (record { found = p.0; passes = p.1.0; allowed = p.1.1 })),
  );
  store_done = λ searched second store e. writable key (pp_of second) kind store (done_passes kind key searched second e).allowed;
  only_late = after_late kind key;
  only_fetches = guarded_fetch kind key;
  by_fields = λ address u w rpn wimg pp.
      ap (answer_of kind address) (after_at kind key u) ∙ answer_page_same u w rpn wimg pp kind key address ∙ ap (answer_of kind address) (sym (after_at kind key w));
}

module _ (kind address : ℕ) where
  frame : (second : ℕ) → physical_address second address / 2 ^ 12 ≡ rpn_of second
  unfolding physical_address
  frame second = omega arith

  byte : (second : ℕ) → physical_address second address % 2 ^ 12 ≡ address % 2 ^ 12
  unfolding physical_address
  byte second = omega arith

  fetch_fault : (cause : ℕ) → kind ≡ 0 → ((fault_of cause kind).result ≡ 65) × ((fault_of cause kind).offset ≡ 0x400)
  unfolding fault_of fetching
  fetch_fault cause e = (rw (eq-eqb kind 0 e), rw (eq-eqb kind 0 e))

  data_fault_rows : (cause : ℕ) → (kind ≡ 0 → ⊥) → ((fault_of cause kind).result ≡ 64) × ((fault_of cause kind).offset ≡ 0x300)
  unfolding fault_of fetching
  data_fault_rows cause n = (rw (ne_eqb kind 0 n), rw (ne_eqb kind 0 n))

  pub answers_stated : AnswersStated kind address
  answers_stated = record {
    real_mode = λ pairs width words mode search off.
        ap (λ (early : Early). answer_of kind address (outcome_of kind search early)) (before_real pairs width words mode kind address off)
        ∙ ap (answer_of kind address) (outcome_decided kind search Real)
        ∙ answer_real kind address;
    done = λ second. ap (λ (a : Answer). a.result) (answer_done kind address second);
    frame = λ second. ap (λ (a : Answer). a.address / 2 ^ 12) (answer_done kind address second) ∙ frame second;
    byte = λ second. ap (λ (a : Answer). a.address % 2 ^ 12) (answer_done kind address second) ∙ byte second;
    attributes = λ second. ap (λ (a : Answer). a.attributes) (answer_done kind address second);
    by_block = λ long words mode search i on passed h covers allows.
        let lower = lower_of (block_pairs long) words (side_of kind) i in
        ap (λ (early : Early). answer_of kind address (outcome_of kind search early))
        ((steps_before (block_pairs long) (bl_width long) (at_most_15 long) words mode kind address).block_done on passed i h covers allows)
        ∙ ap (answer_of kind address) (outcome_decided kind search _)
        ∙ answer_block kind address i _ (block_attributes lower);
    fetch_fault = fetch_fault;
    data_fault_rows = data_fault_rows;
    effective = answer_effective kind address;
    refused = answer_refused_law kind address;
  }

pub access_as_stated : AccessAsStated
access_as_stated = record {
  numbers = numbers_tables;
  words = words_tables;
  packing = packing_agrees;
  matching = match_agrees;
  entries = entry_tables;
  register_words_law = register_words_tables;
  registers = registers_tables;
  check = check_decides;
  replacing = replacing_decides;
  blocks = λ long. blocks_decide (block_pairs long) (bl_width long) (at_most_15 long);
  block_physical_law = λ long side upper lower address shape-u shape-l. block_offset (bl_width long) (at_most_15 long) side upper lower address shape-u shape-l;
  before = λ long. steps_before (block_pairs long) (bl_width long) (at_most_15 long);
  after = steps_after;
  answers = answers_stated;
  operands = operand_stated;
  protection = protection_tables;
  tables = access_tables;
}
