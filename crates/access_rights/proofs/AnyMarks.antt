-- The marks of one access on any table of bytes: it leaves the table and has none, or it is done by a page and has those that the first match lacks.
use Prim.Native.Nat.{ℕ, ◌-◌, ◌^◌, ◌≤◌, ◌<◌}
use mathlib.Core.Path.{◌≡◌, refl, sym, ap, ap₂, ◌∙◌}
use mathlib.Core.Bool.{true, false, true≢false}
use mathlib.Core.List.{List, ◌∷◌}
use native.Mathlib.Omega.{arith}
use lib.Dec.{eqb, lit≤}
use lib.ListN.{length, get_or}
use borrow.Author.Tests.{eqb-true, eqb-false}
use Rattle.words.specs.Bits.{bits}
use Rattle.words.proofs.Tests.{by_test}
use Rattle.entry.specs.Entry.{with_marks}
use Rattle.register_words.specs.Sdr1.{mask_ones}
use Rattle.groups.proofs.Stored.{stored_own}
use Rattle.theory_tables.specs.Matches.{Match}
use Rattle.theory_tables.specs.Layout.{overwrite}
use Rattle.protection.specs.Access.{storing}
use Rattle.translation.specs.declared.Early.TheVariants.{Decided, Search}
use Rattle.translation.specs.declared.Wanted.{Wanted}
use Rattle.theory_calls.specs.Request.{access, sdr1_in, fed}
use Rattle.theory_calls.specs.Rules.{refusal}
use Rattle.theory_calls.specs.OnBytes.{layout, early_of, part_answer, wanted_page, search_in}
use Rattle.theory_calls.specs.AnyTable.{group_at, Taken}
use Rattle.theory_calls.proofs.OnBytes.{refused}
use Rattle.theory_calls.proofs.Access.{by_early, unmarked_decided}
use Rattle.theory_calls.proofs.AnyEntries.{by_matches_law, own, head_is}
use Rattle.theory_calls.proofs.TwoMarks.{mark_first, mark_none, own_match}
use Rattle.theory_calls.proofs.TakenCalls.{number_of, state_of}
use Rattle.theory_calls.proofs.Refusals.{refusals_leave}
use Rattle.access_rights.specs.Rights.{RightsCall, asking, would_end, new_marks}
use Rattle.access_rights.specs.Stated.{newly_set, MarksOnAny}
use Rattle.access_rights.proofs.Marks.{marks_grow, unchanged_none, ends_done, ends_stopped, page_marks}
use Rattle.access_rights.proofs.Shared.{one_byte}
use Rattle.access_rights.proofs.Words.{lacking, marks_add, lacking_only}

module _ (c : RightsCall) (t : List ℕ) (bytes : (i : ℕ) → get_or t i 0 < 2 ^ 8) (kind : ℕ) where
  abbrev k : ℕ
  k = mask_ones (sdr1_in (access (asking c kind)))

  -- what the only part answers
  abbrev told : ℕ
  told = (part_answer (asking c kind) (search_in k t) false).result

  -- done by a page
  pub record ByPage : Type 0 where
    pub taken : Taken (access (asking c kind)) t
    pub done : told ≡ 0
    pub wanted : Wanted
    pub reaches : early_of (asking c kind) false ≡ Search wanted
    pub x : Match
    pub xs : List Match
    pub are : own k t (wanted_page wanted) ≡ x ∷ xs

  -- it leaves the table, or is done by a page
  either : {X : Type 0} → ((would_end c t kind).state ≡ t → X) → (ByPage → X) → X
  either {X} left page = by_test (eqb (refusal (fed (access (asking c kind))) (length t)) 0) kept broken
    where
      broken : eqb (refusal (fed (access (asking c kind))) (length t)) 0 ≡ false → X
      broken e = left (state_of (refused (access (asking c kind)) t (refusal (fed (access (asking c kind))) (length t)) refl (eqb-false _ 0 e)))

      kept : eqb (refusal (fed (access (asking c kind))) (length t)) 0 ≡ true → X
      kept e =
          let taken : Taken (access (asking c kind)) t = record { not_refused = eqb-true _ 0 e; bytes = bytes } in
          by_test (eqb told 0)
          (λ d.
          let z = eqb-true told 0 d in
          let ends = ends_done (asking c kind) t taken (one_byte c.address) z in
          by_early (early_of (asking c kind) false)
          (λ outcome q. left (state_of ends ∙ rw q (unmarked_decided k kind outcome 0 t)))
          (λ wanted q.
          by_matches_law (own k t (wanted_page wanted)) (λ none. left (state_of ends ∙ rw q (mark_none k kind wanted t 0 none)))
          (λ x xs are. page (record { taken = taken; done = z; wanted = wanted; reaches = q; x = x; xs = xs; are = are }))))
          (λ d. left (state_of (ends_stopped (asking c kind) t taken (one_byte c.address) (eqb-false told 0 d))))

  -- the marks of one that is done by a page
  pub by_page_law : (p : ByPage) → new_marks t (would_end c t kind) ≡ with_marks true (storing kind) p.x.second - p.x.second
  by_page_law p = page_marks (asking c kind) t p.taken (one_byte c.address) p.wanted p.reaches p.done p.x p.xs p.are

  -- where these are none it leaves the table too
  page_left : (p : ByPage) → new_marks t (would_end c t kind) ≡ 0 → (would_end c t kind).state ≡ t
  unfolding overwrite
  page_left p z =
      let m = own_match k kind p.wanted t p.x p.xs p.are in
      let grows = marks_grow true (storing kind) p.x.second in
      let none = sym (by_page_law p) ∙ z in
      let same : with_marks true (storing kind) p.x.second ≡ p.x.second = omega arith in
      let g = group_at k (wanted_page p.wanted) p.x.secondary in
      state_of (ends_done (asking c kind) t p.taken (one_byte c.address) p.done)
      ∙ rw p.reaches
      (mark_first k kind p.wanted t p.x p.xs p.are
      ∙ ap₂ (λ (u v : ℕ). (layout k).put t g p.x.entry u v) m.first_word_law (same ∙ m.second_word)
      ∙ stored_own t g p.x.entry bytes)

  -- one that is done was not refused, and its part is done
  done_taken : (would_end c t kind).number ≡ 0 → Taken (access (asking c kind)) t × (told ≡ 0)
  done_taken z = by_test (eqb (refusal (fed (access (asking c kind))) (length t)) 0) kept broken
    where
      broken : eqb (refusal (fed (access (asking c kind))) (length t)) 0 ≡ false → Taken (access (asking c kind)) t × (told ≡ 0)
      broken e =
          let n = eqb-false _ 0 e in
          absurd (n (sym (number_of (refused (access (asking c kind)) t (refusal (fed (access (asking c kind))) (length t)) refl n)) ∙ z))

      kept : eqb (refusal (fed (access (asking c kind))) (length t)) 0 ≡ true → Taken (access (asking c kind)) t × (told ≡ 0)
      kept e =
          let taken : Taken (access (asking c kind)) t = record { not_refused = eqb-true _ 0 e; bytes = bytes } in
          by_test (eqb told 0) (λ d. (taken, eqb-true told 0 d))
          (λ d. let n = eqb-false told 0 d in absurd (n (sym (number_of (ends_stopped (asking c kind) t taken (one_byte c.address) n)) ∙ z)))

  -- the marks of one that is done and reaches the search, by the page's matches
  pub matched_marks : (would_end c t kind).number ≡ 0 → (wanted : Wanted) → early_of (asking c kind) false ≡ Search wanted → (x : Match) (xs : List Match)
      → own k t (wanted_page wanted) ≡ x ∷ xs → new_marks t (would_end c t kind) ≡ lacking (storing kind) x.second
  matched_marks z wanted reaches x xs are =
      let (taken, done) = done_taken z in
      by_page_law (record { taken = taken; done = done; wanted = wanted; reaches = reaches; x = x; xs = xs; are = are }) ∙ marks_add (storing kind) x.second

  -- they are R and C alone
  pub few_marks : (bits 0 22 (newly_set c t kind) ≡ 0) × (bits 25 31 (newly_set c t kind) ≡ 0) × (newly_set c t kind ≤ 384)
  few_marks =
      either (λ left. rw (unchanged_none t (would_end c t kind) left) (refl, refl, lit≤ tt))
      (λ p. rw (by_page_law p ∙ marks_add (storing kind) p.x.second) (lacking_only (storing kind) p.x.second))

  pub marks_on_any : MarksOnAny c t kind
  marks_on_any = record {
    none = (λ z. either (λ left. left) (λ p. page_left p z), unchanged_none t (would_end c t kind));
    not_done = λ n. unchanged_none t (would_end c t kind) (refusals_leave.table (access (asking c kind)) t n);
    decided = λ outcome q.
        either (unchanged_none t (would_end c t kind)) (λ p. let other : Decided outcome ≡ Search p.wanted = sym q ∙ p.reaches in absurd (true≢false (cc)));
    by_page_law = λ z wanted reaches b i f.
        let h = head_is k t (wanted_page wanted) b i f in
        matched_marks z wanted reaches h.x h.xs h.are ∙ ap (lacking (storing kind)) h.second_is;
    only = (few_marks.0, few_marks.1);
  }
