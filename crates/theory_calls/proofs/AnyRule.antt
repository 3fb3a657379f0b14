-- The rule that decided a part of an access, on any table: each case of the steps is the first whose condition holds, and shows what it went by.
use Prim.Native.Nat.{ℕ, ◌+◌, ◌*◌, ◌≤◌, ◌<◌}
use mathlib.Core.Path.{◌≡◌, refl, sym, ap, ◌∙◌, subst}
use mathlib.Core.Bool.{Bool, true, false, cond, ◌&&◌, true≢false}
use mathlib.Core.Logic.{◌↔◌, ⊎_elim}
use mathlib.Core.List.{List, [], ◌∷◌}
use native.Mathlib.Omega.{arith}
use lib.Dec.{ltb}
use borrow.Author.Tests.{ltb-true, ltb-false, eq-eqb}
use Rattle.register_words.specs.Block.{bl_width}
use Rattle.theory_calls.specs.Rules.{on_long_page}
use Rattle.words.proofs.Below.{first_passes, first_before}
use Rattle.words.proofs.Tests.{three, both, by_test}
use Rattle.entry.specs.Entry.{wimg_of, pp_of}
use Rattle.register_words.specs.Segment.{no_execute}
use Rattle.registers.specs.Set.{block_pairs, register_words, covering_pair, pair_covers}
use Rattle.groups.specs.declared.Page.{Page}
use Rattle.groups.specs.Hash.{group_number}
use Rattle.matches.specs.Search.{contradict}
use Rattle.theory_tables.specs.Matches.{Match}
use Rattle.protection.specs.Access.{user_mode, fetching, relocated, side_of}
use Rattle.protection.specs.Protection.{page_allows, guarded}
use Rattle.translation.specs.Steps.{wanted_of, block_outcome, page_outcome, after_search, outcome_of, answer_of}
use Rattle.translation.specs.Decision.{decided, key_and_pp, decision_of}
use Rattle.translation.specs.Operand.{part_start}
use Rattle.translation.specs.declared.Early.{Early}
use Rattle.translation.specs.declared.Early.TheVariants.{Decided, Search}
use Rattle.translation.specs.declared.Outcome.{Outcome}
use Rattle.translation.specs.declared.Outcome.TheVariants.{Real, NoExecute, Guarded, Protection, Done}
use Rattle.translation.specs.declared.Searched.{Searched}
use Rattle.translation.specs.declared.Searched.TheVariants.{At, Contradicting}
use Rattle.translation.specs.declared.Wanted.{Wanted}
use Rattle.translation.specs.declared.decision.Decision.{Decision}
use Rattle.translation.specs.declared.decision.Used.{Used}
use Rattle.translation.proofs.Steps.{fetch_is, block_by, before_real, before_block, before_no_execute, before_search_law, page_by}
use Rattle.theory_calls.specs.Request.{AccessCall}
use Rattle.theory_calls.specs.OnBytes.{by_matches, early_of, used_by, searched, search_in, first_place_in}
use Rattle.theory_calls.specs.AnyTable.{group_at, second_here, SomeMatch, FirstMatch, answered, decided_by, segment_here, page_here, key_here, Covered, Condition, RuleStated}
use Rattle.theory_calls.specs.AnyTable.{untranslated, by_block, not_executable, unmatched, guarded_fetch, forbidden, allowed}
use Rattle.theory_calls.proofs.Access.{refused_words}
use Rattle.theory_calls.proofs.AnyEntries.{by_matches_law, own, some_match, no_match_law, head_is, first_of_law}

-- a number at which something holds, and at none before it, is the only such
only : (C : ℕ → Type 0) (r : ℕ) → C r → ((s : ℕ) → s < r → C s → ⊥) → (n : ℕ) → (r ≡ n) ↔ (C n × ((s : ℕ) → s < n → C s → ⊥))
only C r holds before n = (
  λ e. (subst C e holds, λ s l. before s (omega arith)),
  λ other.
      ⊎_elim (λ l. absurd (other.1 r l holds)) (⊎_elim (λ e. e) (λ l. absurd (before n l other.0))) (three r n),
)

module _ (c : AccessCall (List ℕ)) (t : List ℕ) (k : ℕ) (second : Bool) where
  abbrev words : List ℕ
  words = register_words c.registers

  abbrev start : ℕ
  start = part_start c.address c.length second

  abbrev page : Page
  page = page_here c t k second

  abbrev key : Bool
  key = key_here c t k second

  abbrev Holds : ℕ → Type 0
  Holds = Condition c t k second

  -- what is stated of a decision
  record Stated (d : Decision) : Type 0 where
    holds : Holds d.rule
    none_before : (s : ℕ) → s < d.rule → Holds s → ⊥
    block : d.rule ≡ 1 → Covered c t k second d.detail
    right : 5 ≤ d.rule → (b : Bool) (i : ℕ) → FirstMatch k t page b i → d.detail ≡ 4 * cond key 1 0 + pp_of (second_here k t page b i)
    no_detail : (d.rule ≡ 1 → ⊥) → d.rule < 5 → d.detail ≡ 0
    place : 4 ≤ d.rule → (b : Bool) (i : ℕ) → FirstMatch k t page b i → (d.group ≡ group_at k page b) × (d.entry ≡ i)
    no_place : d.rule < 4 → (d.group ≡ 0) × (d.entry ≡ 0)

  -- no condition below a rule holds where each by itself does not
  record Fail (r : ℕ) : Type 0 where
    translated : 0 < r → relocated c.mode c.kind ≡ false → ⊥
    bare : 1 < r → (i : ℕ) → Covered c t k second i → ⊥
    executable : 2 < r → c.kind ≡ 0 → no_execute (segment_here c t k second) ≡ true → ⊥
    matched : 3 < r → (SomeMatch k t page → ⊥) → ⊥
    unguarded : 4 < r → (b : Bool) (i : ℕ) → FirstMatch k t page b i → c.kind ≡ 0 → guarded (wimg_of (second_here k t page b i)) ≡ true → ⊥
    permitted : 5 < r → (b : Bool) (i : ℕ) → FirstMatch k t page b i → page_allows key (pp_of (second_here k t page b i)) c.kind ≡ false → ⊥
    last : 6 < r → ⊥

  fails : (r : ℕ) → Fail r → (s : ℕ) → s < r → Holds s → ⊥
  fails r f s l (untranslated off) = f.translated l off
  fails r f s l (by_block i covered) = f.bare l i covered
  fails r f s l (not_executable fetch n) = f.executable l fetch n
  fails r f s l (unmatched none) = f.matched l none
  fails r f s l (guarded_fetch b i first fetch g) = f.unguarded l b i first fetch g
  fails r f s l (forbidden b i first p) = f.permitted l b i first p
  fails r f s l (allowed b i first p) = f.last l

  abbrev early : Early
  early = early_of c second

  abbrev search : Wanted → Searched
  search = search_in k t

  -- the decision, by what the steps before the search come to
  decision_of_law : (e : Early) → early ≡ e → decided_by c t k second ≡ decision_of (used_by (first_place_in k t) e) (outcome_of c.kind search e)
  decision_of_law e is = ap (λ (x : Early). decision_of (used_by (first_place_in k t) x) (outcome_of c.kind search x)) is

  -- ---- before the search

  -- the limits of the register page
  abbrev pairs : ℕ
  pairs = block_pairs (on_long_page c)

  abbrev width : ℕ
  width = bl_width (on_long_page c)

  abbrev pair : ℕ
  pair = covering_pair pairs width words (side_of c.kind) (user_mode c.mode) start

  real_stated : relocated c.mode c.kind ≡ false → Stated (decided_by c t k second)
  unfolding decision_of outcome_of
  real_stated off =
      rw (decision_of_law (Decided Real) (before_real pairs width words c.mode c.kind start off))
      (record {
        holds = untranslated off;
        none_before = λ s l h. absurd (omega arith);
        block = λ e. absurd (omega arith);
        right = λ l b i f. absurd (omega arith);
        no_detail = λ n l. refl;
        place = λ l b i f. absurd (omega arith);
        no_place = λ l. (refl, refl);
      })

  module _ (on : relocated c.mode c.kind ≡ true) where
    translated : relocated c.mode c.kind ≡ false → ⊥
    translated off = true≢false (sym on ∙ off)

    block_stated : ltb pair pairs ≡ true → Stated (decided_by c t k second)
    unfolding decision_of outcome_of covering_pair
    block_stated covered =
        let less = ltb-true pair pairs covered in
        let own_pair : Covered c t k second pair = (less, first_passes (pair_covers pairs width words (side_of c.kind) (user_mode c.mode) start) pairs less) in
        let shown : decided_by c t k second ≡ decided 1 pair =
        decision_of_law (Decided (block_outcome pairs width words c.kind start pair)) (before_block pairs width words c.mode c.kind start on covered)
        ∙ block_by pairs width words c.kind start pair (λ (o : Outcome). decision_of (used_by (first_place_in k t) (Decided o)) o ≡ decided 1 pair) (λ p a. refl) refl in
        rw shown
        (record {
          holds = by_block pair own_pair;
          none_before = fails 1 (record {
            translated = λ l. translated;
            bare = λ l. absurd (omega arith);
            executable = λ l. absurd (omega arith);
            matched = λ l. absurd (omega arith);
            unguarded = λ l. absurd (omega arith);
            permitted = λ l. absurd (omega arith);
            last = λ l. omega arith;
          });
          block = λ e. own_pair;
          right = λ l b i f. absurd (omega arith);
          no_detail = λ n l. absurd (n refl);
          place = λ l b i f. absurd (omega arith);
          no_place = λ l. (refl, refl);
        })

    module _ (none : ltb pair pairs ≡ false) where
      bare : (i : ℕ) → Covered c t k second i → ⊥
      unfolding covering_pair
      bare i (l, covers) =
          let all = ltb-false pair pairs none in
          true≢false (sym covers ∙ first_before (pair_covers pairs width words (side_of c.kind) (user_mode c.mode) start) pairs i (omega arith))

      no_execute_stated : fetching c.kind && no_execute (segment_here c t k second) ≡ true → Stated (decided_by c t k second)
      unfolding decision_of outcome_of
      no_execute_stated n =
          rw (decision_of_law (Decided NoExecute) (before_no_execute pairs width words c.mode c.kind start on none n))
          (record {
            holds = not_executable (fetch_is c.kind _ n) (both (fetching c.kind) _ n).1;
            none_before = fails 2 (record {
              translated = λ l. translated;
              bare = λ l. bare;
              executable = λ l. absurd (omega arith);
              matched = λ l. absurd (omega arith);
              unguarded = λ l. absurd (omega arith);
              permitted = λ l. absurd (omega arith);
              last = λ l. omega arith;
            });
            block = λ e. absurd (omega arith);
            right = λ l b i f. absurd (omega arith);
            no_detail = λ n l. refl;
            place = λ l b i f. absurd (omega arith);
            no_place = λ l. (refl, refl);
          })

      -- ---- the search

      module _ (passes : fetching c.kind && no_execute (segment_here c t k second) ≡ false) where
        abbrev wanted : Wanted
        wanted = wanted_of (user_mode c.mode) (segment_here c t k second) start

        searches : early ≡ Search wanted
        searches = before_search_law pairs width words c.mode c.kind start on none passes

        executable : c.kind ≡ 0 → no_execute (segment_here c t k second) ≡ true → ⊥
        unfolding fetching
        executable fetch n = true≢false (sym (rw (eq-eqb c.kind 0 fetch, n)) ∙ passes)

        -- the decision, by the list of the page's matches
        abbrev of_list : List Match → Decision
        of_list ms =
            let place : ℕ × ℕ = by_matches ms (0, 0) (λ x xs. (group_number (10 + k) x.secondary page, x.entry)) in
            decision_of (record { key = key; group = place.0; entry = place.1 }) (after_search c.kind key (searched ms))

        decision_by : (ms : List Match) → own k t page ≡ ms → decided_by c t k second ≡ of_list ms
        unfolding outcome_of
        decision_by ms e = decision_of_law (Search wanted) searches ∙ ap of_list e

        none_stated : own k t page ≡ [] → Stated (decided_by c t k second)
        unfolding decision_of searched after_search
        none_stated e =
            rw (decision_by [] e)
            (record {
              holds = unmatched (no_match_law k t page e);
              none_before = fails 3 (record {
                translated = λ l. translated;
                bare = λ l. bare;
                executable = λ l. executable;
                matched = λ l. absurd (omega arith);
                unguarded = λ l. absurd (omega arith);
                permitted = λ l. absurd (omega arith);
                last = λ l. omega arith;
              });
              block = λ z. absurd (omega arith);
              right = λ l b i f. absurd (omega arith);
              no_detail = λ n l. refl;
              place = λ l b i f. absurd (omega arith);
              no_place = λ l. (refl, refl);
            })

        module _ (x : Match) (xs : List Match) (e : own k t page ≡ x ∷ xs) (agreed : contradict x xs ≡ false) where
          abbrev used : Used
          used = record { key = key; group = group_number (10 + k) x.secondary page; entry = x.entry }

          decision_at : decided_by c t k second ≡ decision_of used (page_outcome c.kind key x.second)
          unfolding searched after_search
          decision_at =
              decision_by (x ∷ xs) e
              ∙ ap (λ (z : Bool). decision_of used (after_search c.kind key (cond z Contradicting (At x.second)))) agreed

          first : FirstMatch k t page x.secondary x.entry
          first = first_of_law k t page x xs e

          -- a first match is this one
          record IsFirst (b : Bool) (i : ℕ) : Type 0 where
            side : x.secondary ≡ b
            at : x.entry ≡ i
            word : x.second ≡ second_here k t page b i

          is_first : (b : Bool) (i : ℕ) → FirstMatch k t page b i → IsFirst b i
          is_first b i f =
              let h = head_is k t page b i f in
              let same : x ∷ xs ≡ h.x ∷ h.xs = sym e ∙ h.are in
              let is : x ≡ h.x = cc in
              record {
                side = ap (λ (m : Match). m.secondary) is ∙ h.side;
                at = ap (λ (m : Match). m.entry) is ∙ h.at;
                word = ap (λ (m : Match). m.second) is ∙ h.second_is;
              }

          own_word : x.second ≡ second_here k t page x.secondary x.entry
          own_word = (is_first x.secondary x.entry first).word

          -- what an entry's decision says of key, PP and place
          rights : (b : Bool) (i : ℕ) → FirstMatch k t page b i → key_and_pp key x.second ≡ 4 * cond key 1 0 + pp_of (second_here k t page b i)
          unfolding key_and_pp
          rights b i f = ap (λ (w : ℕ). 4 * cond key 1 0 + pp_of w) (is_first b i f).word

          places : (b : Bool) (i : ℕ) → FirstMatch k t page b i → (used.group ≡ group_at k page b) × (used.entry ≡ i)
          places b i f = (ap (λ (s : Bool). group_number (10 + k) s page) (is_first b i f).side, (is_first b i f).at)

          unguarded : fetching c.kind && guarded (wimg_of x.second) ≡ false → (b : Bool) (i : ℕ) → FirstMatch k t page b i → c.kind ≡ 0
              → guarded (wimg_of (second_here k t page b i)) ≡ true → ⊥
          unfolding fetching
          unguarded g b i f fetch guards =
              true≢false (sym (rw (eq-eqb c.kind 0 fetch, ap (λ (w : ℕ). guarded (wimg_of w)) (is_first b i f).word ∙ guards)) ∙ g)

          permitted : page_allows key (pp_of x.second) c.kind ≡ true → (b : Bool) (i : ℕ) → FirstMatch k t page b i
              → page_allows key (pp_of (second_here k t page b i)) c.kind ≡ false → ⊥
          permitted p b i f q = true≢false (sym p ∙ ap (λ (w : ℕ). page_allows key (pp_of w) c.kind) (is_first b i f).word ∙ q)

          matched : (SomeMatch k t page → ⊥) → ⊥
          matched n = n (some_match k t page x xs e)

          guarded_stated : fetching c.kind && guarded (wimg_of x.second) ≡ true → Stated (decision_of used Guarded)
          unfolding decision_of
          guarded_stated g = record {
            holds =
                guarded_fetch x.secondary x.entry first (fetch_is c.kind _ g)
                (ap (λ (w : ℕ). guarded (wimg_of w)) (sym own_word) ∙ (both (fetching c.kind) _ g).1);
            none_before = fails 4 (record {
              translated = λ l. translated;
              bare = λ l. bare;
              executable = λ l. executable;
              matched = λ l. matched;
              unguarded = λ l. absurd (omega arith);
              permitted = λ l. absurd (omega arith);
              last = λ l. omega arith;
            });
            block = λ z. absurd (omega arith);
            right = λ l b i f. absurd (omega arith);
            no_detail = λ n l. refl;
            place = λ l. places;
            no_place = λ l. absurd (omega arith);
          }

          protected_stated : fetching c.kind && guarded (wimg_of x.second) ≡ false → page_allows key (pp_of x.second) c.kind ≡ false
              → Stated (decision_of used (Protection x.second))
          unfolding decision_of
          protected_stated g p = record {
            holds = forbidden x.secondary x.entry first (ap (λ (w : ℕ). page_allows key (pp_of w) c.kind) (sym own_word) ∙ p);
            none_before = fails 5 (record {
              translated = λ l. translated;
              bare = λ l. bare;
              executable = λ l. executable;
              matched = λ l. matched;
              unguarded = λ l. unguarded g;
              permitted = λ l. absurd (omega arith);
              last = λ l. omega arith;
            });
            block = λ z. absurd (omega arith);
            right = λ l. rights;
            no_detail = λ n l. absurd (omega arith);
            place = λ l. places;
            no_place = λ l. absurd (omega arith);
          }

          done_stated : fetching c.kind && guarded (wimg_of x.second) ≡ false → page_allows key (pp_of x.second) c.kind ≡ true
              → Stated (decision_of used (Done x.second))
          unfolding decision_of
          done_stated g p = record {
            holds = allowed x.secondary x.entry first (ap (λ (w : ℕ). page_allows key (pp_of w) c.kind) (sym own_word) ∙ p);
            none_before = fails 6 (record {
              translated = λ l. translated;
              bare = λ l. bare;
              executable = λ l. executable;
              matched = λ l. matched;
              unguarded = λ l. unguarded g;
              permitted = λ l. permitted p;
              last = λ l. omega arith;
            });
            block = λ z. absurd (omega arith);
            right = λ l. rights;
            no_detail = λ n l. absurd (omega arith);
            place = λ l. places;
            no_place = λ l. absurd (omega arith);
          }

          found_stated : Stated (decided_by c t k second)
          found_stated =
              rw decision_at
              (page_by c.kind key x.second (λ (o : Outcome). Stated (decision_of used o)) guarded_stated protected_stated done_stated)

        -- contradicting matches are refused, and show nothing
        ten_refused : (x : Match) (xs : List Match) → own k t page ≡ x ∷ xs → contradict x xs ≡ true → (answered c t k second).result ≡ 10
        unfolding outcome_of searched after_search answer_of
        ten_refused x xs e d = rw (searches, e, d)

        searched_stated : ((answered c t k second).result ≡ 10 → ⊥) → Stated (decided_by c t k second)
        searched_stated n =
            by_matches_law (own k t page) none_stated
            (λ x xs e. by_test (contradict x xs) (λ d. absurd (n (ten_refused x xs e d))) (λ d. found_stated x xs e d))

  stated : ((answered c t k second).result ≡ 10 → ⊥) → Stated (decided_by c t k second)
  stated n =
      by_test (relocated c.mode c.kind)
      (λ on.
      by_test (ltb pair pairs) (λ covered. block_stated on covered)
      (λ none.
      by_test (fetching c.kind && no_execute (segment_here c t k second)) (λ stop. no_execute_stated on none stop) (λ go. searched_stated on none go n)))
      (λ off. real_stated off)

  pub rule_stated : ((answered c t k second).result ≡ 10 → ⊥) → RuleStated c t k second
  rule_stated n =
      let s = stated n in
      record {
        rule = only Holds (decided_by c t k second).rule s.holds s.none_before;
        block = s.block;
        right = s.right;
        no_detail = s.no_detail;
        place = s.place;
        no_place = s.no_place;
      }

  pub undecided : (answered c t k second).result ≡ 10 → decided_by c t k second ≡ decided 0 0
  undecided ten =
      (refused_words c.kind start (used_by (first_place_in k t) early) (outcome_of c.kind search early) (λ z. omega arith) (λ z. omega arith) (λ z. omega arith)).1
