-- What an access does to any table of bytes: each part answers by the list of its page's matches on the table as lent, and a done operand marks the
-- first match of each part.
use Prim.Native.Nat.{ℕ, ◌+◌, ◌%◌, ◌^◌, ◌<◌}
use mathlib.Core.Path.{◌≡◌, refl, sym, ap, ◌∙◌, subst}
use mathlib.Core.Bool.{Bool, true, false, cond, true≢false}
use mathlib.Core.Logic.{◌↔◌}
use mathlib.Core.List.{List, [], ◌∷◌}
use native.Mathlib.Omega.{arith}
use lib.Dec.{eqb, lit<, lit≤}
use lib.ListN.{take}
use borrow.Author.Tests.{eqb-true, eqb-false, eq-eqb, ne_eqb}
use Rattle.words.proofs.Tests.{by_test}
use Rattle.register_words.specs.Block.{bl_width}
use Rattle.theory_calls.specs.Rules.{on_long_page}
use Rattle.words.specs.Bits.{bits}
use Rattle.words.specs.Words.{word_bytes, bytes_of}
use Rattle.entry.specs.Entry.{referenced, changed, with_marks}
use Rattle.entry.proofs.Marks.{marks_above, marks_below, marks_referenced, marks_changed}
use Rattle.register_words.specs.Sdr1.{mask_ones}
use Rattle.registers.specs.Set.{block_pairs, register_words}
use Rattle.groups.specs.declared.Page.{Page}
use Rattle.groups.specs.Page.{same_page}
use Rattle.groups.specs.Group.{first_of, second_of}
use Rattle.groups.proofs.Hash.{group_lt}
use Rattle.matches.specs.Search.{contradict}
use Rattle.theory_tables.specs.Matches.{Match}
use Rattle.protection.specs.Access.{fetching, storing}
use Rattle.protection.specs.Fault.{no_match, no_fetch, protection, fault_of}
use Rattle.translation.specs.Steps.{after_search, outcome_of, answer_of}
use Rattle.translation.specs.Operand.{first_bytes, over_edge, stopped, within, across_edge}
use Rattle.translation.specs.declared.Answer.{Answer}
use Rattle.translation.specs.declared.decision.Decision.{Decision}
use Rattle.translation.specs.declared.operand.OperandAnswer.{OperandAnswer}
use Rattle.translation.specs.declared.Early.TheVariants.{Decided, Search}
use Rattle.translation.specs.declared.Outcome.{Outcome}
use Rattle.translation.specs.declared.Outcome.TheVariants.{NoMatch}
use Rattle.translation.specs.declared.Searched.{Searched}
use Rattle.translation.specs.declared.Searched.TheVariants.{Nothing, At, Contradicting}
use Rattle.translation.specs.declared.Wanted.{Wanted}
use Rattle.translation.proofs.Steps.{page_by, after_nothing}
use Rattle.translation.proofs.Parts.{one_part, two_parts, first_bytes_are, first_stops, one_done, second_stops, both_done, one_answers}
use Rattle.theory_calls.specs.Request.{AccessCall, access, sdr1_in}
use Rattle.theory_calls.specs.Answers.{part_words, access_answer}
use Rattle.theory_calls.specs.OnBytes.{ended, start_of, early_of, whole_answer, each_part, wanted_page, searched, search_in, first_place_in, marked_by, bytes_do, on_bytes}
use Rattle.theory_calls.specs.Represents.{GoodTable}
use Rattle.theory_calls.specs.AnyTable.{SameEntry, group_at, first_here, second_here, SomeMatch, Disagreeing, FirstMatch, Marked, Taken}
use Rattle.theory_calls.specs.AnyTable.{HasPart, answered, decided_by, FirstOfPart, AccessOnAny}
use Rattle.theory_calls.proofs.TakenCalls.{good_table, does, number_of, state_of, answer_of_law, bit_set, r_is, c_is}
use Rattle.theory_calls.proofs.Access.{by_early, wanted_valid, parts_unmarked, unmarked_decided}
use Rattle.theory_calls.proofs.AnyRule.{rule_stated, undecided}
use Rattle.theory_calls.proofs.AnyEntries.{by_matches_law, own, some_match, no_match_law, head_is, disagree, contradicts, disagreeing_some}
use Rattle.theory_calls.proofs.TwoMarks.{pages_apart, second_kept, mark_good, mark_reads, mark_others, match_kept, first_kept, no_common, marks_commute}

-- ---- what the search's outcomes answer

-- a fault or a done access is not refused 10
not_ten : (cause kind : ℕ) → (fault_of cause kind).result ≡ 10 → ⊥
unfolding fault_of
not_ten cause kind = go (fetching kind)
  where
    go : (t : Bool) → cond {A = ℕ} t 65 64 ≡ 10 → ⊥
    go true e = omega arith
    go false e = omega arith

module _ (kind : ℕ) (key : Bool) (address : ℕ) where
  found_not_ten : (word : ℕ) → (answer_of kind address (after_search kind key (At word))).result ≡ 10 → ⊥
  unfolding answer_of after_search
  found_not_ten word =
      page_by kind key word (λ (outcome : Outcome). (answer_of kind address outcome).result ≡ 10 → ⊥)
      (λ g e. not_ten no_fetch kind e) (λ g p e. not_ten protection kind e) (λ g p e. omega arith)

  missing_not_ten : (answer_of kind address (after_search kind key Nothing)).result ≡ 10 → ⊥
  unfolding answer_of after_search
  missing_not_ten e = not_ten no_match kind e

  contradicting_ten : (answer_of kind address (after_search kind key Contradicting)).result ≡ 10
  unfolding answer_of after_search
  contradicting_ten = refl

-- ---- a marked word

storing_store : (kind : ℕ) → kind ≡ 2 → storing kind ≡ true
unfolding storing
storing_store kind e = eq-eqb kind 2 e

storing_other : (kind : ℕ) → (kind ≡ 2 → ⊥) → storing kind ≡ false
unfolding storing
storing_other kind n = ne_eqb kind 2 n

-- R alone leaves C
only_r : (w : ℕ) → bits 24 24 (with_marks true false w) ≡ bits 24 24 w
unfolding with_marks
only_r w = omega arith

-- step 7 sets R, and C on a store, and leaves every other bit
marked_word : (kind w : ℕ) → Marked kind w (with_marks true (storing kind) w)
marked_word kind w = record {
  referenced = (bit_set 23 referenced r_is (with_marks true (storing kind) w)).1 (marks_referenced true (storing kind) w);
  changed = λ e. (bit_set 24 changed c_is (with_marks true (storing kind) w)).1 (marks_changed true (storing kind) w ∙ (rw (storing_store kind e)));
  not_changed = λ n. rw (storing_other kind n) (only_r w);
  above = marks_above true (storing kind) w 0 22 (lit< tt);
  below = marks_below true (storing kind) w 25 31 (lit< tt) (lit≤ tt) (lit< tt);
}

-- the first 16 bytes of an answer are the words of the part that answers
front : (a : OperandAnswer) → take 16 (access_answer a) ≡ bytes_of (part_words a.part)
unfolding access_answer bytes_of word_bytes
front a = refl

module _ (c : AccessCall (List ℕ)) (t : List ℕ) (a : Taken (access c) t) where
  abbrev k : ℕ
  k = mask_ones (sdr1_in (access c))

  good : GoodTable k t
  good = good_table (access c) t a

  abbrev told : OperandAnswer
  told = whole_answer c (search_in k t) (first_place_in k t)

  -- a part's mark, where the operand's result is this
  abbrev marking : ℕ → Bool → List ℕ → List ℕ
  marking result second u = marked_by k c.kind (early_of c second) result u

  access_does : on_bytes (access c) t ≡ ended told.part.result (each_part c (marking told.part.result) t) (access_answer told)
  unfolding bytes_do
  access_does = does (access c) t a

  -- ---- a part that reaches step 4

  module _ (second : Bool) (wanted : Wanted) (reaches : early_of c second ≡ Search wanted) where
    abbrev page : Page
    page = wanted_page wanted

    abbrev told_by : Searched → Answer
    told_by found = answer_of c.kind (start_of c second) (after_search c.kind wanted.key found)

    part_does : answered c t k second ≡ told_by (searched (own k t page))
    unfolding outcome_of
    part_does = rw reaches

    by_none : own k t page ≡ [] → answered c t k second ≡ told_by Nothing
    unfolding searched
    by_none e = part_does ∙ ap (λ (ms : List Match). told_by (searched ms)) e

    by_ten : (x : Match) (xs : List Match) → own k t page ≡ x ∷ xs → contradict x xs ≡ true → answered c t k second ≡ told_by Contradicting
    unfolding searched
    by_ten x xs e d = part_does ∙ ap (λ (ms : List Match). told_by (searched ms)) e ∙ ap (λ (z : Bool). told_by (cond z Contradicting (At x.second))) d

    by_one : (x : Match) (xs : List Match) → own k t page ≡ x ∷ xs → contradict x xs ≡ false → answered c t k second ≡ told_by (At x.second)
    unfolding searched
    by_one x xs e d = part_does ∙ ap (λ (ms : List Match). told_by (searched ms)) e ∙ ap (λ (z : Bool). told_by (cond z Contradicting (At x.second))) d

    result_of : {x : Answer} → answered c t k second ≡ x → (answered c t k second).result ≡ x.result
    result_of q = ap (λ (y : Answer). y.result) q

    -- no match, matches that contradict, or a first match that all agree with
    search_by : {X : Type 0} → (own k t page ≡ [] → X) → ((x : Match) (xs : List Match) → own k t page ≡ x ∷ xs → contradict x xs ≡ true → X)
        → ((x : Match) (xs : List Match) → own k t page ≡ x ∷ xs → contradict x xs ≡ false → X) → X
    search_by missing ten one = by_matches_law (own k t page) missing (λ x xs e. by_test (contradict x xs) (ten x xs e) (one x xs e))

    refused_ten : ((answered c t k second).result ≡ 10) ↔ Disagreeing k t page
    refused_ten = (
      λ z.
          search_by (λ e. absurd (missing_not_ten c.kind wanted.key (start_of c second) (sym (result_of (by_none e)) ∙ z)))
          (λ x xs e d. disagree k t page x xs e d)
          (λ x xs e d. absurd (found_not_ten c.kind wanted.key (start_of c second) x.second (sym (result_of (by_one x xs e d)) ∙ z))),
      λ dis.
          search_by (λ e. absurd (no_match_law k t page e (disagreeing_some k t page dis)))
          (λ x xs e d. result_of (by_ten x xs e d) ∙ contradicting_ten c.kind wanted.key (start_of c second))
          (λ x xs e d. absurd (true≢false (sym (contradicts k t page x xs e dis) ∙ d))),
    )

    not_found : (SomeMatch k t page → ⊥) → answered c t k second ≡ answer_of c.kind (start_of c second) NoMatch
    not_found out =
        by_matches_law (own k t page)
        (λ e. by_none e ∙ ap (λ (o : Outcome). answer_of c.kind (start_of c second) o) (after_nothing c.kind wanted.key))
        (λ x xs e. absurd (out (some_match k t page x xs e)))

    by_the_first : (Disagreeing k t page → ⊥) → (b : Bool) (i : ℕ) → FirstMatch k t page b i → answered c t k second ≡ told_by (At (second_here k t page b i))
    by_the_first agreed b i f =
        let h = head_is k t page b i f in
        search_by (λ e. absurd (no_match_law k t page e (b, i, f.matching))) (λ x xs e d. absurd (agreed (disagree k t page x xs e d)))
        (λ x xs e d.
        let same : x ∷ xs ≡ h.x ∷ h.xs = sym e ∙ h.are in
        let is : x ≡ h.x = cc in
        by_one x xs e d ∙ ap (λ (w : ℕ). told_by (At w)) (ap (λ (m : Match). m.second) is ∙ h.second_is))

  -- ---- the marks of the parts

  abbrev over : Bool
  over = over_edge c.address c.length

  -- a mark leaves a table of bytes
  marking_good : (result : ℕ) (second : Bool) (u : List ℕ) → GoodTable k u → GoodTable k (marking result second u)
  marking_good result second u fine =
      by_early (early_of c second) (λ outcome e. rw (e, unmarked_decided k c.kind outcome result u) fine)
      (λ wanted e. rw e (mark_good k c.kind wanted u fine result))

  -- every entry but the first match of the part's page reads as before
  marking_others : (result : ℕ) (second : Bool) (u : List ℕ) → GoodTable k u → (g j : ℕ) → g < 2 ^ (10 + k) → j < 8
      → ((wanted : Wanted) → early_of c second ≡ Search wanted → (b : Bool) → g ≡ group_at k (wanted_page wanted) b → FirstMatch k u (wanted_page wanted) b j → ⊥)
      → SameEntry u (marking result second u) g j
  marking_others result second u fine g j lg lj not =
      by_early (early_of c second) (λ outcome e. rw (e, unmarked_decided k c.kind outcome result u) (refl, refl))
      (λ wanted e. rw e (mark_others k c.kind wanted u fine result g j lg lj (not wanted e)))

  abbrev words : List ℕ
  words = register_words c.registers

  -- the first part's mark leaves the matches of the second's page
  kept_second : (result : ℕ) → over ≡ true → (wanted : Wanted) → early_of c true ≡ Search wanted
      → own k (marking result false t) (wanted_page wanted) ≡ own k t (wanted_page wanted)
  kept_second result is wanted e = second_kept (block_pairs (on_long_page c)) (bl_width (on_long_page c)) words c.mode c.kind c.address c.length is k result t good wanted e

  two_pages : over ≡ true → (v w : Wanted) → early_of c false ≡ Search v → early_of c true ≡ Search w → same_page (wanted_page v) (wanted_page w) ≡ false
  two_pages is = pages_apart (block_pairs (on_long_page c)) (bl_width (on_long_page c)) words c.mode c.kind c.address c.length is

  state_is : (on_bytes (access c) t).state ≡ each_part c (marking told.part.result) t
  state_is = state_of access_does

  done_state : (on_bytes (access c) t).number ≡ 0 → (on_bytes (access c) t).state ≡ each_part c (marking 0) t
  done_state z = state_is ∙ ap (λ (r : ℕ). each_part c (marking r) t) (sym (number_of access_does) ∙ z)

  -- the first match of a part's page, as a done operand leaves it
  abbrev IsMarked : Wanted → Bool → ℕ → List ℕ → Type 0
  IsMarked wanted b i u =
      (first_of u (group_at k (wanted_page wanted) b) i ≡ first_here k t (wanted_page wanted) b i)
      × Marked c.kind (second_here k t (wanted_page wanted) b i) (second_of u (group_at k (wanted_page wanted) b) i)

  as_marked : (wanted : Wanted) (b : Bool) (i : ℕ) (u : List ℕ)
      → first_of u (group_at k (wanted_page wanted) b) i ≡ first_here k t (wanted_page wanted) b i
      → second_of u (group_at k (wanted_page wanted) b) i ≡ with_marks true (storing c.kind) (second_here k t (wanted_page wanted) b i) → IsMarked wanted b i u
  as_marked wanted b i u first word =
      (first, subst (Marked c.kind (second_here k t (wanted_page wanted) b i)) (sym word) (marked_word c.kind (second_here k t (wanted_page wanted) b i)))

  module _ (wanted : Wanted) (b : Bool) (i : ℕ) (f : FirstMatch k t (wanted_page wanted) b i) where
    -- by the first part's mark
    first_marked : early_of c false ≡ Search wanted → IsMarked wanted b i (marking 0 false t)
    first_marked e = rw e (let r = mark_reads k c.kind wanted t good b i f in as_marked wanted b i (marked_by k c.kind (Search wanted) 0 t) r.0 r.1)

    -- and the second part's mark leaves it
    first_stays : over ≡ true → early_of c false ≡ Search wanted → IsMarked wanted b i (marking 0 true (marking 0 false t))
    first_stays is e =
        let u = marking 0 false t in
        let (first, word) = first_marked e in
        let (same_first, same_second) =
        marking_others 0 true u (marking_good 0 false t good) (group_at k (wanted_page wanted) b) i (group_lt (10 + k) (wanted_page wanted) b) f.matching.0
        (λ other e' b' same f'.
        no_common k t (wanted_page wanted) (wanted_page other) (wanted_valid c false wanted e) (wanted_valid c true other e') (two_pages is wanted other e e')
        b b' i i f.matching (match_kept k u t (wanted_page other) (sym (kept_second 0 is other e')) b' i f'.matching).matching same refl) in
        (same_first ∙ first, subst (Marked c.kind (second_here k t (wanted_page wanted) b i)) (sym same_second) word)

    second_marked : over ≡ true → early_of c true ≡ Search wanted → IsMarked wanted b i (marking 0 true (marking 0 false t))
    second_marked is e =
        let u = marking 0 false t in
        let kept = kept_second 0 is wanted e in
        let m = match_kept k t u (wanted_page wanted) kept b i f.matching in
        let r = mark_reads k c.kind wanted u (marking_good 0 false t good) b i (first_kept k t u (wanted_page wanted) kept b i f) in
        rw e (as_marked wanted b i (marked_by k c.kind (Search wanted) 0 u) (r.0 ∙ m.first_word_law) (r.1 ∙ ap (with_marks true (storing c.kind)) m.second_word))

  part_marked : (second : Bool) → HasPart c t second → (wanted : Wanted) → early_of c second ≡ Search wanted → (on_bytes (access c) t).number ≡ 0
      → (b : Bool) (i : ℕ) → FirstMatch k t (wanted_page wanted) b i → IsMarked wanted b i (on_bytes (access c) t).state
  part_marked false has wanted e z b i f =
      rw (done_state z) (by_test over (λ is. rw is (first_stays wanted b i f is e)) (λ not. rw not (first_marked wanted b i f e)))
  part_marked true has wanted e z b i f = rw (done_state z, has refl) (second_marked wanted b i f (has refl) e)

  -- every entry but the parts' first matches reads as before
  others_kept : (g i : ℕ) → g < 2 ^ (10 + k) → i < 8 → (FirstOfPart c t k g i → ⊥) → SameEntry t (on_bytes (access c) t).state g i
  others_kept g i lg li not =
      rw state_is (by_test over (λ is. rw is (both is)) (λ one. rw one first))
    where
      result : ℕ
      result = told.part.result

      first : SameEntry t (marking result false t) g i
      first =
          marking_others result false t good g i lg li
          (λ wanted e b same f.
          not (record { second = false; has = λ n. absurd (true≢false (sym n)); wanted = wanted; reaches = e; b = b; group = same; first = f }))

      both : over ≡ true → SameEntry t (marking result true (marking result false t)) g i
      both is =
          let u = marking result false t in
          let (e₁, e₂) = marking_others result true u (marking_good result false t good) g i lg li
          (λ wanted e b same f.
          not (record {
            second = true;
            has = λ n. is;
            wanted = wanted;
            reaches = e;
            b = b;
            group = same;
            first = first_kept k u t (wanted_page wanted) (sym (kept_second result is wanted e)) b i f;
          })) in
          (e₁ ∙ first.0, e₂ ∙ first.1)

  none_marked : ((second : Bool) → HasPart c t second → (outcome : Outcome) × (early_of c second ≡ Decided outcome)) → (on_bytes (access c) t).state ≡ t
  none_marked decided = rw state_is (by_test over (λ is. rw is (two is)) (λ one. rw one first))
    where
      result : ℕ
      result = told.part.result

      left : (second : Bool) → HasPart c t second → (u : List ℕ) → marking result second u ≡ u
      left second has u = let (outcome, e) = decided second has in rw e (unmarked_decided k c.kind outcome result u)

      first : marking result false t ≡ t
      first = left false (λ n. absurd (true≢false (sym n))) t

      two : over ≡ true → marking result true (marking result false t) ≡ t
      two is = left true (λ n. is) (marking result false t) ∙ first

  in_either_order : over ≡ true → (result : ℕ) → marking result true (marking result false t) ≡ marking result false (marking result true t)
  in_either_order is result =
      by_early (early_of c false)
      (λ outcome e. rw (e, unmarked_decided k c.kind outcome result t, unmarked_decided k c.kind outcome result (marking result true t)))
      (λ v e.
      by_early (early_of c true)
      (λ outcome f. rw (f, unmarked_decided k c.kind outcome result t, unmarked_decided k c.kind outcome result (marking result false t)))
      (λ w f. rw (e, f) (marks_commute k c.kind v w t good (wanted_valid c false v e) (wanted_valid c true w f) (two_pages is v w e f) result)))

  -- ---- what the operand answers

  abbrev parts : Bool → Answer
  parts = answered c t k

  abbrev decisions : Bool → Decision
  decisions = decided_by c t k

  answer_is : (x : OperandAnswer) → told ≡ x → (on_bytes (access c) t).answer ≡ access_answer x
  answer_is x e = answer_of_law access_does ∙ ap access_answer e

  -- the result is that of the part that answers
  result_is : (x : OperandAnswer) → told ≡ x → (on_bytes (access c) t).number ≡ x.part.result
  result_is x e = number_of access_does ∙ ap (λ (a : OperandAnswer). a.part.result) e

  parts_done : (on_bytes (access c) t).number ≡ 0 → ((parts false).result ≡ 0) × (HasPart c t true → (parts true).result ≡ 0)
  parts_done z =
      let first : (parts false).result ≡ 0 =
      by_test (eqb (parts false).result 0) (λ e. eqb-true (parts false).result 0 e)
      (λ e. let n = eqb-false (parts false).result 0 e in absurd (n (sym (result_is _ (first_stops c.address c.length parts decisions n)) ∙ z))) in (
        first,
        λ has.
            by_test (eqb (parts true).result 0) (λ e. eqb-true (parts true).result 0 e)
            (λ e. let n = eqb-false (parts true).result 0 e in absurd (n (sym (result_is _ (second_stops c.address c.length parts decisions first (has refl) n)) ∙ z))),
      )

  done_parts : (parts false).result ≡ 0 → (HasPart c t true → (parts true).result ≡ 0) → (on_bytes (access c) t).number ≡ 0
  done_parts first second =
      by_test over (λ is. result_is _ (both_done c.address c.length parts decisions first is (second (λ q. is))) ∙ first)
      (λ one. result_is _ (one_done c.address c.length parts decisions first one) ∙ first)

  -- over an edge and done, the bytes are those up to the edge and the others
  both_told : 4096 < c.address % 4096 + c.length → (parts false).result ≡ 0 → (parts true).result ≡ 0 → (n m : ℕ) → c.address % 4096 + n ≡ 4096 → n + m ≡ c.length
      → told ≡ record { part = parts false; decision = decisions false; address = (parts true).address; attributes = (parts true).attributes; bytes = n; rest = m }
  both_told more first second n m up all =
      let bytes : first_bytes c.address c.length ≡ n = first_bytes_are c.address c.length more ∙ (omega arith) in
      both_done c.address c.length parts decisions first (two_parts c.address c.length more) second
      ∙ ap (λ (x : ℕ). across_edge (parts false) (decisions false) (parts true) x c.length) bytes
      ∙ ap (λ (x : ℕ). record { part = parts false; decision = decisions false; address = (parts true).address; attributes = (parts true).attributes; bytes = n; rest = x }) (omega arith)

  pub access_on_any : AccessOnAny c t k
  unfolding access_answer outcome_of
  access_on_any = record {
    done_where = (parts_done, λ (first, second). done_parts first second);
    own_steps = λ second. refl;
    decided_early = λ second outcome e. rw e;
    rules = rule_stated c t k;
    no_rule_law = undecided c t k;
    by_page_law = λ second has wanted e. record {
      refused_10 = refused_ten second wanted e;
      no_match_law = not_found second wanted e;
      by_first = by_the_first second wanted e;
      marks = part_marked second has wanted e;
    };
    first_stops = λ n. answer_is (stopped (parts false) (decisions false)) (first_stops c.address c.length parts decisions n);
    second_stops = λ first has n. answer_is (stopped (parts true) (decisions true)) (second_stops c.address c.length parts decisions first (has refl) n);
    one_page = λ fits.
        let one = one_part c.address c.length fits in (
          ap (take 16) (answer_of_law access_does) ∙ front told ∙ ap (λ (x : Answer). bytes_of (part_words x)) (one_answers c.address c.length parts decisions one),
          state_is ∙ rw one (ap (λ (x : Answer). marking x.result false t) (one_answers c.address c.length parts decisions one)),
          λ done. answer_is (within (parts false) (decisions false) c.length) (one_done c.address c.length parts decisions done one),
        );
    two_pages = λ more first second n m up all. answer_is _ (both_told more first second n m up all);
    not_done = λ n. state_is ∙ parts_unmarked k c told.part.result t (λ z. n (number_of access_does ∙ z));
    no_page = none_marked;
    others = others_kept;
    either_order = λ has. in_either_order (has refl);
  }
