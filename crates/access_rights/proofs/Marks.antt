-- What an access within one page ends in, and the marks that it newly sets: none where it leaves the table, and else what the marks add to the second
-- word of the page's first match.
use Prim.Native.Nat.{ℕ, ◌+◌, ◌-◌, ◌^◌, ◌≤◌, ◌<◌}
use mathlib.Core.Path.{◌≡◌, refl, sym, ap, ◌∙◌}
use mathlib.Core.Bool.{Bool, true, false, cond, true≢false}
use mathlib.Core.List.{List, ◌∷◌}
use lib.Pow.{pow_mono}
use native.Mathlib.Omega.{arith}
use lib.Dec.{leb, lit<}
use lib.ListN.{length}
use Rattle.words.specs.Words.{word_bytes, word_at, bytes_of}
use Rattle.words.proofs.Words.{own_bytes}
use Rattle.entry.specs.Entry.{set_if, with_marks}
use Rattle.register_words.specs.Sdr1.{sdr1_shape, mask_ones}
use Rattle.register_words.proofs.Sdr1.{ones_at_most_9}
use Rattle.groups.specs.Group.{second_of}
use Rattle.groups.proofs.Hash.{group_lt}
use Rattle.theory_tables.specs.Matches.{Match}
use Rattle.protection.specs.Access.{storing}
use Rattle.translation.specs.Steps.{outcome_of, answer_of}
use Rattle.translation.specs.Decision.{by_entry, key_and_pp, decision_of}
use Rattle.translation.specs.Operand.{over_edge, stopped, within}
use Rattle.translation.specs.declared.Answer.{Answer}
use Rattle.translation.specs.declared.decision.Decision.{Decision}
use Rattle.translation.specs.declared.operand.OperandAnswer.{OperandAnswer}
use Rattle.translation.specs.declared.Early.{Early}
use Rattle.translation.specs.declared.Early.TheVariants.{Decided, Search}
use Rattle.translation.specs.declared.Outcome.{Outcome}
use Rattle.translation.specs.declared.Searched.TheVariants.{Nothing, At, Contradicting}
use Rattle.translation.specs.declared.Wanted.{Wanted}
use Rattle.translation.proofs.Steps.{done_passes}
use Rattle.translation.proofs.Parts.{first_stops, one_done}
use Rattle.theory_calls.specs.Request.{AccessCall, access, sdr1_in, fed}
use Rattle.theory_calls.specs.Answers.{access_answer}
use Rattle.theory_calls.specs.OnBytes.{Ended, ended, by_matches, start_of, early_of, part_answer, part_decision, used_by, wanted_page, searched, search_in, first_place_in, marked_by, bytes_do, on_bytes}
use Rattle.theory_calls.specs.AnyTable.{group_at, Taken}
use Rattle.theory_calls.proofs.Rules.{fitting}
use Rattle.theory_calls.proofs.Histories.{sdr1_fed}
use Rattle.theory_calls.proofs.TakenCalls.{good_table, does, state_of}
use Rattle.theory_calls.proofs.Access.{by_early, late_done, unmarked, unmarked_decided}
use Rattle.theory_calls.proofs.AnyEntries.{by_matches_law, own, first_of_law}
use Rattle.theory_calls.proofs.TwoMarks.{mark_reads, own_match}
use Rattle.access_rights.proofs.ByTable.{OfFirst, ByTable}
use Rattle.table_access.specs.declared.Part.{Part}
use Rattle.table_access.specs.Part.{table_found}
use Rattle.table_access.specs.declared.Found.TheVariants.{Unmatched}
use Rattle.table_access.proofs.Finds.{first_found, first_against, in_some}
use Rattle.matches.specs.Search.{contradict}
use Rattle.words.proofs.Tests.{by_test}
use Rattle.access_rights.specs.Rights.{new_marks}
use Rattle.access_rights.specs.Held.{newly_marked}

-- ---- the marks of a word

-- a bit that is set makes the word larger, or leaves it
set_grows : (t : Bool) (w : ℕ) → (w ≤ set_if t 23 w) × (w ≤ set_if t 24 w)
set_grows true w = (omega arith, omega arith)
set_grows false w = (omega arith, omega arith)

pub marks_grow : (r c : Bool) (w : ℕ) → w ≤ with_marks r c w
unfolding with_marks
marks_grow r c w =
    let first = (set_grows r w).0 in
    let then = (set_grows c (set_if r 23 w)).1 in
    omega arith

-- ---- where nothing is changed

pub unchanged_none : (t : List ℕ) (e : Ended (List ℕ)) → e.state ≡ t → new_marks t e ≡ 0
unfolding new_marks
unchanged_none t e same = rw same (go (leb 4 (word_at e.answer 32)) (second_of t (word_at e.answer 40) (word_at e.answer 44)))
  where
    go : (b : Bool) (w : ℕ) → cond b (w - w) 0 ≡ 0
    go true w = omega arith
    go false w = refl

-- ---- the words of an answer that name an entry

module _ (a : OperandAnswer) where
  rule_read : a.decision.rule < 2 ^ 32 → word_at (access_answer a) 32 ≡ a.decision.rule
  unfolding access_answer bytes_of word_bytes word_at
  rule_read l = own_bytes a.decision.rule l

  group_read : a.decision.group < 2 ^ 32 → word_at (access_answer a) 40 ≡ a.decision.group
  unfolding access_answer bytes_of word_bytes word_at
  group_read l = own_bytes a.decision.group l

  entry_read : a.decision.entry < 2 ^ 32 → word_at (access_answer a) 44 ≡ a.decision.entry
  unfolding access_answer bytes_of word_bytes word_at
  entry_read l = own_bytes a.decision.entry l

-- ---- an access within one page

module _ (c : AccessCall (List ℕ)) (t : List ℕ) (taken : Taken (access c) t) (one : over_edge c.address c.length ≡ false) where
  abbrev pub k : ℕ
  k = mask_ones (sdr1_in (access c))

  abbrev pub part : Answer
  part = part_answer c (search_in k t) false

  abbrev pub decision : Decision
  decision = part_decision c (search_in k t) (first_place_in k t) false

  pub ends_done : part.result ≡ 0
      → on_bytes (access c) t ≡ ended 0 (marked_by k c.kind (early_of c false) 0 t) (access_answer (within part decision c.length))
  unfolding bytes_do
  ends_done z =
      does (access c) t taken
      ∙ rw (one_done c.address c.length (part_answer c (search_in k t)) (part_decision c (search_in k t) (first_place_in k t)) z one, one, z)

  pub ends_stopped : (part.result ≡ 0 → ⊥) → on_bytes (access c) t ≡ ended part.result t (access_answer (stopped part decision))
  unfolding bytes_do
  ends_stopped n =
      does (access c) t taken
      ∙ rw (
        first_stops c.address c.length (part_answer c (search_in k t)) (part_decision c (search_in k t) (first_place_in k t)) n,
        one,
        unmarked k c.kind (early_of c false) part.result t n,
      )

  -- done by a page: the marks are what they add to the first match's second word
  module _ (wanted : Wanted) (reaches : early_of c false ≡ Search wanted) (z : part.result ≡ 0) (x : Match) (xs : List Match)
      (are : own k t (wanted_page wanted) ≡ x ∷ xs) where
    abbrev group : ℕ
    group = group_at k (wanted_page wanted) x.secondary

    -- what decided it
    shows : (second : ℕ) × (decision ≡ by_entry 6 (key_and_pp wanted.key second) (record { key = wanted.key; group = group; entry = x.entry }))
    unfolding outcome_of decision_of
    shows =
        let result = sym (ap (λ (e : Early). (answer_of c.kind (start_of c false) (outcome_of c.kind (search_in k t) e)).result) reaches) ∙ z in
        let (second, is) = late_done c.kind wanted.key (start_of c false) (search_in k t wanted) result in (
          second,
          ap (λ (e : Early). decision_of (used_by (first_place_in k t) e) (outcome_of c.kind (search_in k t) e)) reaches
              ∙ ap (decision_of (used_by (first_place_in k t) (Search wanted))) is
              ∙ ap (λ (place : ℕ × ℕ). by_entry 6 (key_and_pp wanted.key second) (record { key = wanted.key; group = place.0; entry = place.1 }))
              (ap (λ (ms : List Match). by_matches ms (0, 0) (λ y ys. (group_at k (wanted_page wanted) y.secondary, y.entry))) are),
        )

    -- a group's number is a word
    group_fits : group < 2 ^ 32
    group_fits =
        let few = ones_at_most_9 (sdr1_in (access c)) (ap sdr1_shape (sym (sdr1_fed (access c))) ∙ (fitting (fed (access c)) (length t) taken.not_refused).shape) in
        let more : 10 + k ≤ 19 = omega arith in
        omega (arith, group_lt (10 + k) (wanted_page wanted) x.secondary, pow_mono more)

    pub page_marks : new_marks t (on_bytes (access c) t) ≡ with_marks true (storing c.kind) x.second - x.second
    unfolding new_marks
    page_marks =
        let good = good_table (access c) t taken in
        let m = own_match k c.kind wanted t x xs are in
        let told = within part decision c.length in
        let (second, is) = shows in
        let rule : decision.rule ≡ 6 = ap (λ (d : Decision). d.rule) is in
        let at : decision.group ≡ group = ap (λ (d : Decision). d.group) is in
        let number : decision.entry ≡ x.entry = ap (λ (d : Decision). d.entry) is in
        let rule_told : word_at (access_answer told) 32 ≡ 6 = rule_read told (rw rule (lit< tt)) ∙ rule in
        let group-told : word_at (access_answer told) 40 ≡ group = group_read told (rw at group_fits) ∙ at in
        let entry-told : word_at (access_answer told) 44 ≡ x.entry = entry_read told (rw number (omega (arith, m.in_range_law))) ∙ number in
        let (first, after) = mark_reads k c.kind wanted t good x.secondary x.entry (first_of_law k t (wanted_page wanted) x xs are) in
        rw (ends_done z, rule_told, group-told, entry-told, reaches, after, ← m.second_word)

  -- what a part holds of its entry tells the marks of a done access
  pub part_marks : (p : Part) → ByTable k t c.kind (start_of c false) (early_of c false) p → p.answer.result ≡ 0
      → newly_marked c.kind p.found ≡ new_marks t (on_bytes (access c) t)
  unfolding OfFirst searched outcome_of
  part_marks p is done = by_early (early_of c false) decided searching
    where
      z : part.result ≡ 0
      z = sym (ap (λ (x : Answer). x.result) is.answers) ∙ done

      left : (u : List ℕ) → marked_by k c.kind (early_of c false) 0 t ≡ u → (on_bytes (access c) t).state ≡ u
      left u e = state_of (ends_done z) ∙ e

      decided : (outcome : Outcome) → early_of c false ≡ Decided outcome
          → newly_marked c.kind p.found ≡ new_marks t (on_bytes (access c) t)
      decided outcome e =
          let none : p.found ≡ Unmatched = rw e at is.first in
          rw none (sym (unchanged_none t (on_bytes (access c) t) (left t (rw e (unmarked_decided k c.kind outcome 0 t)))))

      searching : (wanted : Wanted) → early_of c false ≡ Search wanted
          → newly_marked c.kind p.found ≡ new_marks t (on_bytes (access c) t)
      searching wanted e =
          by_matches_law (own k t (wanted_page wanted)) (λ none. absurd (let other : Nothing ≡ At at_word.0 = sym (ap searched none) ∙ at_word.1 in true≢false (cc)))
          (λ x xs are.
          let told : (b : Bool) → contradict x xs ≡ b → cond b Contradicting (At x.second) ≡ At at_word.0
          = λ b d. sym (ap searched are ∙ ap (λ (b : Bool). cond b Contradicting (At x.second)) d) ∙ at_word.1 in
          let found : p.found ≡ table_found k t wanted = rw e at is.first in
          by_test (contradict x xs) (λ d. absurd (let other = told true d in true≢false (cc)))
          (λ d.
          rw (found ∙ in_some k t wanted x xs are ∙ ap (λ (b : Bool). cond b (first_against k t wanted x xs are) (first_found k t wanted x xs are)) d)
          (sym (page_marks wanted e z x xs are))))
        where
          -- a done part was found by a second word
          at_word : (second : ℕ) × (searched (own k t (wanted_page wanted)) ≡ At second)
          at_word =
              let result = sym (ap (λ (x : Early). (answer_of c.kind (start_of c false) (outcome_of c.kind (search_in k t) x)).result) e) ∙ z in
              let (second, told) = late_done c.kind wanted.key (start_of c false) (search_in k t wanted) result in
              (second, (done_passes c.kind wanted.key (search_in k t wanted) second told).found)
