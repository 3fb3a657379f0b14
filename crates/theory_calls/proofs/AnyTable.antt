-- What each call does to any table of bytes: by the list of the page's matches, whose members are the entries that match and whose head is the first.
use Prim.Native.Nat.{ℕ, ◌+◌, ◌*◌, ◌/◌, ◌^◌, ◌<◌}
use mathlib.Core.Path.{◌≡◌, refl, sym, ap, ap₂, ◌∙◌}
use mathlib.Core.Bool.{Bool, true, false, true≢false}
use mathlib.Core.Logic.{◌↔◌}
use mathlib.Core.List.{List, [], ◌∷◌}
use mathlib.Core.Option.{Option, none, some}
use native.Mathlib.Omega.{arith}
use lib.Dec.{eqb, lit<, lit≤}
use lib.ListN.{length}
use Rattle.words.specs.Bits.{bits}
use Rattle.entry.specs.Entry.{second_word, referenced, changed, with_pp}
use Rattle.entry.proofs.Marks.{marks_above, marks_below}
use Rattle.entry.proofs.Packing.{second_lt}
use Rattle.register_words.specs.Sdr1.{mask_ones}
use Rattle.groups.specs.declared.Page.{Page}
use Rattle.groups.proofs.Stored.{words_fit}
use Rattle.matches.specs.Search.{any_match, contradict, merged}
use Rattle.matches.proofs.Agreement.{any_true, any_member}
use Rattle.matches.proofs.Merged.{merged_referenced, merged_changed}
use Rattle.theory_tables.specs.Matches.{Match}
use Rattle.theory_tables.specs.Layout.{free_place, overwrite_each}
use Rattle.theory_tables.proofs.Groups.{MatchOf}
use Rattle.translation.proofs.Stated.{access_as_stated}
use Rattle.theory_calls.specs.Request.{ClearCall, MapCall, ProtectCall, AnsweredCall, clear, map_page, unmap, protect, look, sdr1_in, fed}
use Rattle.theory_calls.specs.Answers.{word_answer}
use Rattle.theory_calls.specs.OnBytes.{layout, ended, entry_word, bytes_do, on_bytes}
use Rattle.theory_calls.specs.Represents.{GoodTable}
use Rattle.theory_calls.specs.AnyTable.{group_at, second_here, SomeMatch, SomeMatchHas, FirstMatch, FirstFree, Taken}
use Rattle.theory_calls.specs.AnyTable.{ClearOnAny, MapOnAny, UnmapOnAny, ProtectOnAny, LookOnAny, CallsOnAnyTable, AccessStated}
use Rattle.theory_calls.proofs.TakenCalls.{good_table, does, number_of, state_of, answer_of_law, bit_set, r_is, c_is}
use Rattle.theory_calls.proofs.Rules.{map_kept, protect_kept}
use Rattle.theory_calls.proofs.TableLaws.{Word}
use Rattle.theory_calls.proofs.Step.{own_fits}
use Rattle.theory_calls.proofs.AnyAccess.{access_on_any}
use Rattle.theory_calls.proofs.AnyEntries.{by_matches_law, own, member_matching, member_second, as_match, matching_member, some_match, no_match_law, head_is}
use Rattle.theory_calls.proofs.AnyEntries.{disagree, contradicts, disagreeing_some, place_free, free_is, none_free, match_edited, others_kept, entry_put, all_but_kept}

-- by an option, keeping the equation
by_place : {A X : Type 0} (o : Option A) → (o ≡ none → X) → ((a : A) → o ≡ some a → X) → X
by_place none missing found = missing refl
by_place (some a) missing found = found a refl

-- ---- map

module _ (c : MapCall) (t : List ℕ) (a : Taken (map_page c) t) where
  abbrev mk : ℕ
  mk = mask_ones c.sdr1

  map_good : GoodTable mk t
  unfolding sdr1_in
  map_good = good_table (map_page c) t a

  map_matched : (x : Match) (xs : List Match) → own mk t c.page ≡ x ∷ xs → on_bytes (map_page c) t ≡ ended 7 t []
  unfolding sdr1_in bytes_do
  map_matched x xs e = does (map_page c) t a ∙ (rw e)

  map_full : own mk t c.page ≡ [] → free_place (layout mk) t c.page ≡ none → on_bytes (map_page c) t ≡ ended 9 t []
  unfolding sdr1_in bytes_do
  map_full e f = does (map_page c) t a ∙ (rw (e, f))

  map_free : own mk t c.page ≡ [] → (b : Bool) (i : ℕ) → free_place (layout mk) t c.page ≡ some (b, i)
      → on_bytes (map_page c) t ≡ ended 0 ((layout mk).put t (group_at mk c.page b) i (entry_word b c.page) (second_word c.rpn 0 0 c.wimg c.pp)) []
  unfolding sdr1_in bytes_do
  map_free e b i f = does (map_page c) t a ∙ (rw (e, f))

  -- a done map wrote the first free entry
  map_wrote : (on_bytes (map_page c) t).number ≡ 0 → (b : Bool) (i : ℕ) → FirstFree mk t c.page b i
      → on_bytes (map_page c) t ≡ ended 0 ((layout mk).put t (group_at mk c.page b) i (entry_word b c.page) (second_word c.rpn 0 0 c.wimg c.pp)) []
  map_wrote z b i f =
      by_matches_law (own mk t c.page)
      (λ e.
      by_place (free_place (layout mk) t c.page) (λ n. absurd (let q = sym (number_of (map_full e n)) ∙ z in omega arith))
      (λ place n.
      let (side, at) = free_is mk t c.page b place.0 i place.1 f n in
      map_free e b i (n ∙ ap₂ (λ (s : Bool) (j : ℕ). some (s, j)) (sym side) (sym at))))
      (λ x xs e. absurd (let q = sym (number_of (map_matched x xs e)) ∙ z in omega arith))

  map_on_any : MapOnAny c t mk
  unfolding entry_word fed
  map_on_any =
      let kept = map_kept (length t) c a.not_refused in
      record {
        done_where = (
          λ z.
              by_matches_law (own mk t c.page)
              (λ e.
              by_place (free_place (layout mk) t c.page) (λ n. absurd (let q = sym (number_of (map_full e n)) ∙ z in omega arith))
              (λ place n. (no_match_law mk t c.page e, (place.0, place.1, (place_free mk t c.page place.0 place.1 n).is_free))))
              (λ x xs e. absurd (let q = sym (number_of (map_matched x xs e)) ∙ z in omega arith)),
          λ (out, (b, i, f)).
              by_matches_law (own mk t c.page)
              (λ e.
              by_place (free_place (layout mk) t c.page) (λ n. absurd (none_free mk t c.page n b i f))
              (λ place n. number_of (map_free e place.0 place.1 n)))
              (λ x xs e. absurd (out (some_match mk t c.page x xs e))),
        );
        refused_7 = (
          λ z.
              by_matches_law (own mk t c.page)
              (λ e.
              by_place (free_place (layout mk) t c.page) (λ n. absurd (let q = sym (number_of (map_full e n)) ∙ z in omega arith))
              (λ place n. absurd (let q = sym (number_of (map_free e place.0 place.1 n)) ∙ z in omega arith)))
              (λ x xs e. some_match mk t c.page x xs e),
          λ s. by_matches_law (own mk t c.page) (λ e. absurd (no_match_law mk t c.page e s)) (λ x xs e. number_of (map_matched x xs e)),
        );
        refused_9 = (
          λ z.
              by_matches_law (own mk t c.page)
              (λ e.
              by_place (free_place (layout mk) t c.page) (λ n. (no_match_law mk t c.page e, none_free mk t c.page n))
              (λ place n. absurd (let q = sym (number_of (map_free e place.0 place.1 n)) ∙ z in omega arith)))
              (λ x xs e. absurd (let q = sym (number_of (map_matched x xs e)) ∙ z in omega arith)),
          λ (out, full).
              by_matches_law (own mk t c.page)
              (λ e.
              by_place (free_place (layout mk) t c.page) (λ n. number_of (map_full e n))
              (λ place n. absurd (full place.0 place.1 (place_free mk t c.page place.0 place.1 n).is_free)))
              (λ x xs e. absurd (out (some_match mk t c.page x xs e))),
        );
        entered = λ z b i f.
            rw (map_wrote z b i f)
            (entry_put mk t c.page map_good b i _ _ f.is_free.0 (own_fits b c.page kept.0)
            (second_lt c.rpn 0 0 c.wimg c.pp kept.1.0 (lit< tt) (lit< tt) kept.1.1.0 kept.1.1.1));
        others = λ z b i f. rw (map_wrote z b i f) (all_but_kept mk t c.page map_good b i _ _ f.is_free.0);
      }

-- ---- unmap, protect and look

-- where a call is done exactly if the page has a match, and else refused 8
module _ (k : ℕ) (t : List ℕ) (page : Page) (number : ℕ) (missing : own k t page ≡ [] → number ≡ 8)
    (found : (x : Match) (xs : List Match) → own k t page ≡ x ∷ xs → number ≡ 0) where
  done_by_match : (number ≡ 0) ↔ SomeMatch k t page
  done_by_match = (
    λ z. by_matches_law (own k t page) (λ e. absurd (let q = missing e in omega arith)) (λ x xs e. some_match k t page x xs e),
    λ s. by_matches_law (own k t page) (λ e. absurd (no_match_law k t page e s)) found,
  )

  refused_by_none : (number ≡ 8) ↔ (SomeMatch k t page → ⊥)
  refused_by_none = (
    λ z. by_matches_law (own k t page) (no_match_law k t page) (λ x xs e. absurd (let q = found x xs e in omega arith)),
    λ out. by_matches_law (own k t page) missing (λ x xs e. absurd (out (some_match k t page x xs e))),
  )

-- the bit that a test reads
-- some match of the list passes a test exactly where some matching entry's second word has the bit
any_has : (k : ℕ) (t : List ℕ) (page : Page) (n : ℕ) (test : ℕ → Bool) → ((w : ℕ) → test w ≡ eqb (bits n n w) 1)
    → (any_match (λ (m : Match). test m.second) (own k t page) ≡ true) ↔ SomeMatchHas k t page n
any_has k t page n test is = (
  λ e.
      let (y, at, passes) = any_true (λ (m : Match). test m.second) (own k t page) e in (
        y.secondary,
        y.entry,
        member_matching k t page y at,
        (bit_set n test is (second_here k t page y.secondary y.entry)).1 (ap test (sym (member_second k t page y at)) ∙ passes),
      ),
  λ (b, i, m, has).
      any_member (λ (m : Match). test m.second) (own k t page) (as_match k t page b i) (matching_member k t page b i m)
      ((bit_set n test is (second_here k t page b i)).0 has),
)

module _ (c : AnsweredCall (List ℕ)) (t : List ℕ) (a : Taken (unmap c) t) where
  abbrev uk : ℕ
  uk = mask_ones c.sdr1

  unmap_good : GoodTable uk t
  unfolding sdr1_in
  unmap_good = good_table (unmap c) t a

  unmap_none : own uk t c.page ≡ [] → on_bytes (unmap c) t ≡ ended 8 t (word_answer 8 0)
  unfolding sdr1_in bytes_do
  unmap_none e = does (unmap c) t a ∙ (rw e)

  unmap_some : (x : Match) (xs : List Match) → own uk t c.page ≡ x ∷ xs
      → on_bytes (unmap c) t ≡ ended 0 (overwrite_each (layout uk) c.page (λ y. (0, 0)) (own uk t c.page) t) (word_answer 0 (merged x xs))
  unfolding sdr1_in bytes_do
  unmap_some x xs e = does (unmap c) t a ∙ (rw e)

  zeros_fit : (x : Match) → MatchOf (layout uk) t c.page x → Word 0 × Word 0
  zeros_fit x m = (lit< tt, lit< tt)

  unmap_left : (on_bytes (unmap c) t).number ≡ 0 → (on_bytes (unmap c) t).state ≡ overwrite_each (layout uk) c.page (λ y. (0, 0)) (own uk t c.page) t
  unmap_left z =
      by_matches_law (own uk t c.page) (λ e. absurd (let q = sym (number_of (unmap_none e)) ∙ z in omega arith)) (λ x xs e. state_of (unmap_some x xs e))

  -- the word answered: the first match's, with the marks of all
  unmap_word : (b : Bool) (i : ℕ) → FirstMatch uk t c.page b i → (w : ℕ) × ((on_bytes (unmap c) t).answer ≡ word_answer 0 w)
      × ((bits 23 23 w ≡ 1) ↔ SomeMatchHas uk t c.page 23) × ((bits 24 24 w ≡ 1) ↔ SomeMatchHas uk t c.page 24)
      × (bits 0 22 w ≡ bits 0 22 (second_here uk t c.page b i)) × (bits 25 31 w ≡ bits 25 31 (second_here uk t c.page b i))
  unfolding merged
  unmap_word b i f =
      let h = head_is uk t c.page b i f in
      let x = h.x in
      let xs = h.xs in
      let r = any_match (λ (m : Match). referenced m.second) (x ∷ xs) in
      let d = any_match (λ (m : Match). changed m.second) (x ∷ xs) in (
        merged x xs,
        answer_of_law (unmap_some x xs h.are),
        marks_iff 23 referenced r_is (merged x xs) x xs h.are (merged_referenced x xs),
        marks_iff 24 changed c_is (merged x xs) x xs h.are (merged_changed x xs),
        marks_above r d x.second 0 22 (lit< tt) ∙ ap (bits 0 22) h.second_is,
        marks_below r d x.second 25 31 (lit< tt) (lit≤ tt) (lit< tt) ∙ ap (bits 25 31) h.second_is,
      )
    where
      marks_iff : (n : ℕ) (test : ℕ → Bool) → ((w : ℕ) → test w ≡ eqb (bits n n w) 1) → (w : ℕ) (x : Match) (xs : List Match) → own uk t c.page ≡ x ∷ xs
          → test w ≡ any_match (λ (m : Match). test m.second) (x ∷ xs) → (bits n n w ≡ 1) ↔ SomeMatchHas uk t c.page n
      marks_iff n test is w x xs e told =
          let all : test w ≡ any_match (λ (m : Match). test m.second) (own uk t c.page) = told ∙ ap (any_match (λ (m : Match). test m.second)) (sym e) in (
            λ q. (any_has uk t c.page n test is).0 (sym all ∙ (bit_set n test is w).0 q),
            λ s. (bit_set n test is w).1 (all ∙ (any_has uk t c.page n test is).1 s),
          )

  unmap_on_any : UnmapOnAny c t uk
  unmap_on_any = record {
    done_where = done_by_match uk t c.page (on_bytes (unmap c) t).number (λ e. number_of (unmap_none e)) (λ x xs e. number_of (unmap_some x xs e));
    refused_8 = refused_by_none uk t c.page (on_bytes (unmap c) t).number (λ e. number_of (unmap_none e)) (λ x xs e. number_of (unmap_some x xs e));
    zeroed = λ z b i m. rw (unmap_left z) (match_edited uk t c.page unmap_good (λ y. (0, 0)) zeros_fit b i m);
    others = λ z. rw (unmap_left z) (others_kept uk t c.page unmap_good (λ y. (0, 0)) zeros_fit);
    word = unmap_word;
  }

module _ (c : ProtectCall) (t : List ℕ) (a : Taken (protect c) t) where
  abbrev pk : ℕ
  pk = mask_ones c.sdr1

  abbrev another : Match → ℕ × ℕ
  another y = (y.first, with_pp c.pp y.second)

  protect_good : GoodTable pk t
  unfolding sdr1_in
  protect_good = good_table (protect c) t a

  protect_none : own pk t c.page ≡ [] → on_bytes (protect c) t ≡ ended 8 t []
  unfolding sdr1_in bytes_do
  protect_none e = does (protect c) t a ∙ (rw e)

  protect_some : (x : Match) (xs : List Match) → own pk t c.page ≡ x ∷ xs
      → on_bytes (protect c) t ≡ ended 0 (overwrite_each (layout pk) c.page another (own pk t c.page) t) []
  unfolding sdr1_in bytes_do
  protect_some x xs e = does (protect c) t a ∙ (rw e)

  pp_lt : c.pp < 2 ^ 2
  unfolding fed
  pp_lt = (protect_kept (length t) c a.not_refused).1

  pp_is : (w : ℕ) → with_pp c.pp w ≡ w / 4 * 4 + c.pp
  unfolding with_pp
  pp_is w = omega arith

  words_fit_here : (x : Match) → MatchOf (layout pk) t c.page x → Word x.first × Word (with_pp c.pp x.second)
  words_fit_here x m =
      let (f, s) = words_fit t (group_at pk c.page x.secondary) x.entry a.bytes in
      let e = m.first_word_law in
      let d = m.second_word in
      let p = pp_lt in
      (rw e f, rw (pp_is x.second, d) (omega arith))

  protect_left : (on_bytes (protect c) t).number ≡ 0 → (on_bytes (protect c) t).state ≡ overwrite_each (layout pk) c.page another (own pk t c.page) t
  protect_left z =
      by_matches_law (own pk t c.page) (λ e. absurd (let q = sym (number_of (protect_none e)) ∙ z in omega arith)) (λ x xs e. state_of (protect_some x xs e))

  protect_on_any : ProtectOnAny c t pk
  protect_on_any = record {
    done_where = done_by_match pk t c.page (on_bytes (protect c) t).number (λ e. number_of (protect_none e)) (λ x xs e. number_of (protect_some x xs e));
    refused_8 = refused_by_none pk t c.page (on_bytes (protect c) t).number (λ e. number_of (protect_none e)) (λ x xs e. number_of (protect_some x xs e));
    put = λ z b i m.
        let r = match_edited pk t c.page protect_good another words_fit_here b i m in
        rw (protect_left z) (r.0, r.1 ∙ pp_is (second_here pk t c.page b i));
    others = λ z. rw (protect_left z) (others_kept pk t c.page protect_good another words_fit_here);
  }

module _ (c : AnsweredCall (List ℕ)) (t : List ℕ) (a : Taken (look c) t) where
  abbrev lk : ℕ
  lk = mask_ones c.sdr1

  look_none : own lk t c.page ≡ [] → on_bytes (look c) t ≡ ended 8 t (word_answer 8 0)
  unfolding sdr1_in bytes_do
  look_none e = does (look c) t a ∙ (rw e)

  look_ten : (x : Match) (xs : List Match) → own lk t c.page ≡ x ∷ xs → contradict x xs ≡ true → on_bytes (look c) t ≡ ended 10 t (word_answer 10 0)
  unfolding sdr1_in bytes_do
  look_ten x xs e d = does (look c) t a ∙ (rw (e, d))

  look_one : (x : Match) (xs : List Match) → own lk t c.page ≡ x ∷ xs → contradict x xs ≡ false → on_bytes (look c) t ≡ ended 0 t (word_answer 0 x.second)
  unfolding sdr1_in bytes_do
  look_one x xs e d = does (look c) t a ∙ (rw (e, d))

  -- in each case, by the matches and whether they contradict
  look_by : {X : Type 0} → (own lk t c.page ≡ [] → X) → ((x : Match) (xs : List Match) → own lk t c.page ≡ x ∷ xs → contradict x xs ≡ true → X)
      → ((x : Match) (xs : List Match) → own lk t c.page ≡ x ∷ xs → contradict x xs ≡ false → X) → X
  look_by {X} missing ten one = by_matches_law (own lk t c.page) missing (λ x xs e. go x xs e (contradict x xs) refl)
    where
      go : (x : Match) (xs : List Match) → own lk t c.page ≡ x ∷ xs → (d : Bool) → contradict x xs ≡ d → X
      go x xs e true d = ten x xs e d
      go x xs e false d = one x xs e d

  look_on_any : LookOnAny c t lk
  look_on_any = record {
    done_where = (
      λ z.
          look_by (λ e. absurd (let q = sym (number_of (look_none e)) ∙ z in omega arith))
          (λ x xs e d. absurd (let q = sym (number_of (look_ten x xs e d)) ∙ z in omega arith))
          (λ x xs e d. (some_match lk t c.page x xs e, λ dis. true≢false (sym (contradicts lk t c.page x xs e dis) ∙ d))),
      λ (matched, agreed).
          look_by (λ e. absurd (no_match_law lk t c.page e matched)) (λ x xs e d. absurd (agreed (disagree lk t c.page x xs e d)))
          (λ x xs e d. number_of (look_one x xs e d)),
    );
    refused_10 = (
      λ z.
          look_by (λ e. absurd (let q = sym (number_of (look_none e)) ∙ z in omega arith)) (λ x xs e d. disagree lk t c.page x xs e d)
          (λ x xs e d. absurd (let q = sym (number_of (look_one x xs e d)) ∙ z in omega arith)),
      λ dis.
          look_by (λ e. absurd (no_match_law lk t c.page e (disagreeing_some lk t c.page dis))) (λ x xs e d. number_of (look_ten x xs e d))
          (λ x xs e d. absurd (true≢false (sym (contradicts lk t c.page x xs e dis) ∙ d))),
    );
    refused_8 = (
      λ z.
          look_by (no_match_law lk t c.page) (λ x xs e d. absurd (let q = sym (number_of (look_ten x xs e d)) ∙ z in omega arith))
          (λ x xs e d. absurd (let q = sym (number_of (look_one x xs e d)) ∙ z in omega arith)),
      λ out. by_matches_law (own lk t c.page) (λ e. number_of (look_none e)) (λ x xs e. absurd (out (some_match lk t c.page x xs e))),
    );
    word = λ z b i f.
        let h = head_is lk t c.page b i f in
        look_by (λ e. absurd (let q = sym (number_of (look_none e)) ∙ z in omega arith))
        (λ x xs e d. absurd (let q = sym (number_of (look_ten x xs e d)) ∙ z in omega arith))
        (λ x xs e d.
        let same : x ∷ xs ≡ h.x ∷ h.xs = sym e ∙ h.are in
        let is : x ≡ h.x = cc in
        answer_of_law (look_one x xs e d) ∙ ap (λ (m : Match). word_answer 0 m.second) is ∙ ap (word_answer 0) h.second_is);
    left = look_by (λ e. state_of (look_none e)) (λ x xs e d. state_of (look_ten x xs e d)) (λ x xs e d. state_of (look_one x xs e d));
  }

-- ---- clear

clear_on_any : (c : ClearCall) (t : List ℕ) → Taken (clear c) t → ClearOnAny c t
unfolding bytes_do
clear_on_any c t was = let left = does (clear c) t was in record { is_done = number_of left; zeroed = state_of left }

-- ---- every call

pub calls_on_any_table : CallsOnAnyTable
calls_on_any_table = record { clears = clear_on_any; maps = map_on_any; unmaps = unmap_on_any; protects = protect_on_any; looks = look_on_any; accesses = access_on_any }

pub access_stated : AccessStated
access_stated = record { steps = access_as_stated; on_tables = access_on_any }
