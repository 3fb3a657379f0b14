-- What calls leave in the two groups that their pages have, from those two groups' bytes alone: 128 bytes compute at once, where a table does not.
use Prim.Native.Nat.{ℕ, suc, ◌+◌, ◌-◌, ◌*◌, ◌%◌, ◌^◌, ◌≤◌}
use mathlib.Core.Path.{◌≡◌, refl, sym, ap, ap₂, ◌∙◌, subst}
use mathlib.Core.Bool.{Bool, true, false, cond, not, ◌&&◌}
use mathlib.Core.List.{List, [], ◌∷◌, ◌++◌, map}
use mathlib.Core.Logic.{◌≢◌}
use mathlib.Core.Option.{Option, none, some}
use native.Mathlib.Nat.{pow-suc}
use native.Mathlib.Omega.{arith}
use lib.Dec.{eqb}
use lib.ListN.{length, take, drop, replicate, length-replicate, replicate-append-replicate}
use lib.Seq.{take_at, drop_at}
use borrow.Author.Tests.{eqb-true, not-true}
use Rattle.words.specs.Words.{bytes_of}
use Rattle.words.proofs.Tests.{both, cond_by}
use Rattle.entry.specs.Entry.{second_word, matches, free, api_of, with_marks, with_pp}
use Rattle.register_words.specs.Sdr1.{table_length, mask_ones}
use Rattle.register_words.proofs.Sdr1.{made_ones, made_length}
use Rattle.groups.specs.declared.Page.{Page}
use Rattle.groups.specs.Hash.{group_number}
use Rattle.groups.specs.Group.{group_of, first_at, second_at, first_of, second_of, put_entry, put_at}
use Rattle.matches.specs.Search.{h_of, contradict, merged}
use Rattle.groups.proofs.Hash.{within_bytes}
use Rattle.groups.proofs.Stored.{stored_length, stored_group, stored_other_group}
use Rattle.theory_tables.specs.Matches.{Match}
use Rattle.theory_tables.specs.Layout.{Layout, matches_in, matches_of, free_entry, free_place, overwrite, overwrite_each}
use Rattle.theory_tables.specs.Runs.{after}
use Rattle.protection.specs.Access.{storing}
use Rattle.translation.specs.Steps.{outcome_of, after_search, answer_of}
use Rattle.translation.specs.Operand.{over_edge}
use Rattle.translation.proofs.Parts.{one_answers}
use Rattle.translation.specs.declared.Early.{Early}
use Rattle.translation.specs.declared.Early.TheVariants.{Decided, Search}
use Rattle.theory_calls.specs.Made.{to_clear}
use Rattle.theory_calls.specs.Request.{MapCall, AnsweredCall, Request, clear, map_page, unmap, protect, look, access, sdr1_in, fed}
use Rattle.theory_calls.specs.Rules.{refusal}
use Rattle.theory_calls.specs.Answers.{word_answer}
use Rattle.theory_calls.specs.OnBytes.{layout, Ended, ended, by_matches, by_option, entry_word, start_of, early_of, part_answer, part_decision, wanted_page, searched, search_in, first_place_in, marked_by, bytes_do, on_bytes}
use Rattle.theory_calls.specs.FirstClear.{sdr1_with}
use Rattle.theory_calls.proofs.OnBytes.{taken}
use Rattle.theory_histories.specs.Calls.{State, on_lent, calling}
use Rattle.theory_histories.specs.Fed.{bytes_step}
use Rattle.test_case_rows.specs.Cases.{OnTable, clear_then, stored, Holds}

-- ---- the step on two groups

-- the bytes of a primary group and of its secondary group
abbrev pub Pair : Type 0
Pair = List ℕ × List ℕ

-- a table of just these: group 0, the primary, and group 1
abbrev pub pair_layout : Layout Page Pair
pair_layout = record {
  group = λ secondary page. h_of secondary;
  half = 1;
  capacity = 8;
  matching = λ secondary page first. matches page.vsid (h_of secondary) (api_of page.index) first;
  free = free;
  first = λ x g i. first_at (cond (eqb g 0) x.0 x.1) i;
  second = λ x g i. second_at (cond (eqb g 0) x.0 x.1) i;
  put = λ x g i u v. cond (eqb g 0) (put_entry x.0 i u v, x.1) (x.0, put_entry x.1 i u v);
}

abbrev pub zeros : Pair
zeros = (replicate 64 0, replicate 64 0)

-- step 7 of an access on them
unfoldable pub pair_marked : ℕ → Early → ℕ → Pair → Pair
pair_marked kind (Decided outcome) result x = x
pair_marked kind (Search wanted) result x =
    let page = wanted_page wanted in
    cond (eqb result 0)
    (by_matches (matches_of pair_layout x page) x (λ m ms. overwrite pair_layout page m m.first (with_marks true (storing kind) m.second) x))
    x

-- what a call that its arguments do not refuse leaves of them
unfoldable pub pair_do : Request (List ℕ) → Pair → Pair
pair_do (clear c) x = zeros
pair_do (map_page c) x =
    by_matches (matches_of pair_layout x c.page)
    (by_option (free_place pair_layout x c.page) x
    (λ place. pair_layout.put x (h_of place.0) place.1 (entry_word place.0 c.page) (second_word c.rpn 0 0 c.wimg c.pp)))
    (λ m ms. x)
pair_do (unmap c) x = overwrite_each pair_layout c.page (λ m. (0, 0)) (matches_of pair_layout x c.page) x
pair_do (protect c) x = overwrite_each pair_layout c.page (λ m. (m.first, with_pp c.pp m.second)) (matches_of pair_layout x c.page) x
pair_do (look c) x = x
pair_do (access c) x =
    let outcome = outcome_of c.kind (λ wanted. searched (matches_of pair_layout x (wanted_page wanted))) (early_of c false) in
    pair_marked c.kind (early_of c false) (answer_of c.kind (start_of c false) outcome).result x

abbrev pub pair_after : List (Request (List ℕ)) → Pair → Pair
pair_after [] x = x
pair_after (request ∷ requests) x = pair_after requests (pair_do request x)

-- ---- a group of zeros

part_of_run : (z a m r : ℕ) → take m (drop a (replicate (a + (m + r)) z)) ≡ replicate m z
part_of_run z a m r =
    let parts : replicate (a + (m + r)) z ≡ replicate a z ++ (replicate m z ++ replicate r z) =
    sym (ap (λ (l : List ℕ). replicate a z ++ l) (replicate-append-replicate m r z) ∙ replicate-append-replicate a (m + r) z) in
    ap (λ (l : List ℕ). take m (drop a l)) parts
    ∙ ap (take m) (drop_at (replicate a z) (replicate m z ++ replicate r z) a (length-replicate a z))
    ∙ take_at (replicate m z) (replicate r z) m (length-replicate m z)

zero_group : (n g : ℕ) → 64 * g + 64 ≤ n → group_of (replicate n 0) g ≡ replicate 64 0
unfolding group_of
zero_group n g h =
    let rest : ℕ = n - (64 * g + 64) in
    let sum : 64 * g + (64 + rest) ≡ n = omega arith in
    ap (λ (m : ℕ). group_of (replicate m 0) g) (sym sum) ∙ part_of_run 0 (64 * g) 64 rest

-- ---- it is the table's step, for pages whose groups have the numbers p and s

module _ (k p s : ℕ) where
  -- a page has these groups; so has the page that a search wants; so has the page of a call, whose operand is within it
  abbrev pub own_page : Page → Bool
  own_page page = eqb (group_number (10 + k) false page) p && eqb (group_number (10 + k) true page) s

  abbrev pub own_early : Early → Bool
  own_early (Decided outcome) = true
  own_early (Search wanted) = own_page (wanted_page wanted)

  abbrev pub own_call : Request (List ℕ) → Bool
  own_call (clear c) = true
  own_call (map_page c) = own_page c.page
  own_call (unmap c) = own_page c.page
  own_call (protect c) = own_page c.page
  own_call (look c) = own_page c.page
  own_call (access c) = not (over_edge c.address c.length) && own_early (early_of c false)

  -- each request of a list is of these groups, brings the SDR1 and is not refused
  abbrev pub all_own : ℕ → List (Request (List ℕ)) → Bool
  all_own sdr1 [] = true
  all_own sdr1 (request ∷ requests) =
      (own_call request && (eqb (sdr1_in request) sdr1 && eqb (refusal (fed request) (65536 * 2 ^ k)) 0)) && all_own sdr1 requests

  abbrev pub pair_of : List ℕ → Pair
  pair_of t = (group_of t p, group_of t s)

  -- a table of right length with these two groups
  pub record Shows (t : List ℕ) (x : Pair) : Type 0 where
    pub long : length t ≡ 65536 * 2 ^ k
    pub groups : pair_of t ≡ x

  -- the two numbers are complements in 10 + k bits
  module _ (mirror : s + suc p ≡ 2 ^ (9 + k) + 2 ^ (9 + k)) where
    twice : 2 ^ (10 + k) ≡ 2 ^ (9 + k) + 2 ^ (9 + k)
    twice = let e : 10 + k ≡ suc (9 + k) = omega arith in rw (e, pow-suc) (omega arith)

    p_within : 64 * p + 64 ≤ 65536 * 2 ^ k
    p_within = within_bytes k p (omega (arith, twice))

    s_within : 64 * s + 64 ≤ 65536 * 2 ^ k
    s_within = within_bytes k s (omega (arith, twice))

    apart : p ≢ s
    apart e = omega arith

    module _ (page : Page) (own : own_page page ≡ true) where
      p_is : group_number (10 + k) false page ≡ p
      p_is = eqb-true (group_number (10 + k) false page) p (both (eqb (group_number (10 + k) false page) p) (eqb (group_number (10 + k) true page) s) own).0

      s_is : group_number (10 + k) true page ≡ s
      s_is = eqb-true (group_number (10 + k) true page) s (both (eqb (group_number (10 + k) false page) p) (eqb (group_number (10 + k) true page) s) own).1

      same_matches : (t : List ℕ) → matches_of (layout k) t page ≡ matches_of pair_layout (pair_of t) page
      unfolding matches_of matches_in first_of second_of
      same_matches t = rw (p_is, s_is)

      same_place : (t : List ℕ) → free_place (layout k) t page ≡ free_place pair_layout (pair_of t) page
      unfolding free_place free_entry first_of
      same_place t = rw (p_is, s_is)

      put_shows : (t : List ℕ) → length t ≡ 65536 * 2 ^ k → (b : Bool) (i u v : ℕ)
          → Shows (put_at t (group_number (10 + k) b page) i u v) (pair_layout.put (pair_of t) (h_of b) i u v)
      put_shows t long false i u v =
          let inside : 64 * p + 64 ≤ length t = rw long p_within in
          rw p_is
          (record {
            long = stored_length t p i u v inside ∙ long;
            groups = ap₂ (λ (a b : List ℕ). (a, b)) (stored_group t p i u v inside) (stored_other_group t p i u v inside s (λ e. apart (sym e)));
          })
      put_shows t long true i u v =
          let inside : 64 * s + 64 ≤ length t = rw long s_within in
          rw s_is
          (record {
            long = stored_length t s i u v inside ∙ long;
            groups = ap₂ (λ (a b : List ℕ). (a, b)) (stored_other_group t s i u v inside p apart) (stored_group t s i u v inside);
          })

      overwritten_shows : (m : Match) (u v : ℕ) (t : List ℕ) → length t ≡ 65536 * 2 ^ k
          → Shows (overwrite (layout k) page m u v t) (overwrite pair_layout page m u v (pair_of t))
      unfolding overwrite
      overwritten_shows m u v t long = put_shows t long m.secondary m.entry u v

      each_shows : (edit : Match → ℕ × ℕ) (ms : List Match) (t : List ℕ) → length t ≡ 65536 * 2 ^ k
          → Shows (overwrite_each (layout k) page edit ms t) (overwrite_each pair_layout page edit ms (pair_of t))
      unfolding overwrite_each
      each_shows edit [] t long = record { long = long; groups = refl }
      each_shows edit (m ∷ ms) t long =
          let next = overwritten_shows m (edit m).0 (edit m).1 t long in
          let now = overwrite (layout k) page m (edit m).0 (edit m).1 t in
          subst (λ x. Shows (overwrite_each (layout k) page edit ms now) (overwrite_each pair_layout page edit ms x)) next.groups (each_shows edit ms now next.long)

    zeros_show : (n : ℕ) → n ≡ 65536 * 2 ^ k → Shows (replicate n 0) zeros
    zeros_show n e = record {
      long = length-replicate n 0 ∙ e;
      groups = ap₂ (λ (a b : List ℕ). (a, b)) (zero_group n p (rw e p_within)) (zero_group n s (rw e s_within));
    }

    module _ (t : List ℕ) (long : length t ≡ 65536 * 2 ^ k) where
      -- a table that stays
      stays : Shows t (pair_of t)
      stays = record { long = long; groups = refl }

      map_shows : (c : MapCall) → own_page c.page ≡ true → Shows (bytes_do k (map_page c) t).state (pair_do (map_page c) (pair_of t))
      unfolding bytes_do pair_do
      map_shows c own =
          rw (same_matches c.page own t, same_place c.page own t) (go (matches_of pair_layout (pair_of t) c.page) (free_place pair_layout (pair_of t) c.page))
        where
          first : Bool → ℕ
          first b = entry_word b c.page

          second : ℕ
          second = second_word c.rpn 0 0 c.wimg c.pp

          go : (ms : List Match) (free : Option (Bool × ℕ)) → Shows
              (by_matches ms (by_option free (ended 9 t [])
              (λ place. ended 0 (put_at t (group_number (10 + k) place.0 c.page) place.1 (first place.0) second) []))
              (λ m rest. ended 7 t [])).state
              (by_matches ms (by_option free (pair_of t) (λ place. pair_layout.put (pair_of t) (h_of place.0) place.1 (first place.0) second)) (λ m rest. pair_of t))
          go [] none = stays
          go [] (some place) = put_shows c.page own t long place.0 place.1 (first place.0) second
          go (m ∷ ms) free = stays

      -- unmap and protect: each match is edited
      edited_shows : (page : Page) → own_page page ≡ true → (edit : Match → ℕ × ℕ) (missing : List ℕ) (answer : Match → List Match → List ℕ)
          → Shows (by_matches (matches_of (layout k) t page) (ended 8 t missing)
          (λ m ms. ended 0 (overwrite_each (layout k) page edit (m ∷ ms) t) (answer m ms))).state
          (overwrite_each pair_layout page edit (matches_of pair_layout (pair_of t) page) (pair_of t))
      unfolding overwrite_each
      edited_shows page own edit missing answer = rw (same_matches page own t) (go (matches_of pair_layout (pair_of t) page))
        where
          go : (ms : List Match)
              → Shows (by_matches ms (ended 8 t missing) (λ m rest. ended 0 (overwrite_each (layout k) page edit (m ∷ rest) t) (answer m rest))).state
              (overwrite_each pair_layout page edit ms (pair_of t))
          go [] = each_shows page own edit [] t long
          go (m ∷ ms) = each_shows page own edit (m ∷ ms) t long

      look_stays : (c : AnsweredCall (List ℕ)) → (bytes_do k (look c) t).state ≡ t
      unfolding bytes_do
      look_stays c = go (matches_of (layout k) t c.page)
        where
          go : (ms : List Match)
              → (by_matches ms (ended 8 t (word_answer 8 0)) (λ m rest. cond (contradict m rest) (ended 10 t (word_answer 10 0)) (ended 0 t (word_answer 0 m.second)))).state ≡ t
          go [] = refl
          go (m ∷ ms) = cond_by (λ (e : Ended (List ℕ)). e.state ≡ t) (contradict m ms) _ _ (λ h. refl) (λ h. refl)

      marked_shows : (kind address : ℕ) (early : Early) → own_early early ≡ true
          → let OnTable = outcome_of kind (λ wanted. searched (matches_of (layout k) t (wanted_page wanted))) early in
          let onPair = outcome_of kind (λ wanted. searched (matches_of pair_layout (pair_of t) (wanted_page wanted))) early in
          Shows (marked_by k kind early (answer_of kind address OnTable).result t) (pair_marked kind early (answer_of kind address onPair).result (pair_of t))
      unfolding marked_by pair_marked outcome_of
      marked_shows kind address (Decided outcome) own = stays
      marked_shows kind address (Search wanted) own =
          let page = wanted_page wanted in
          let found = matches_of pair_layout (pair_of t) page in
          rw (same_matches page own t) (go (eqb (answer_of kind address (after_search kind wanted.key (searched found))).result 0) found)
        where
          go : (done : Bool) (ms : List Match)
              → Shows
              (cond done (by_matches ms t (λ m rest. overwrite (layout k) (wanted_page wanted) m m.first (with_marks true (storing kind) m.second) t)) t)
              (cond done (by_matches ms (pair_of t) (λ m rest. overwrite pair_layout (wanted_page wanted) m m.first (with_marks true (storing kind) m.second) (pair_of t))) (pair_of t))
          go true [] = stays
          go true (m ∷ ms) = overwritten_shows (wanted_page wanted) own m m.first (with_marks true (storing kind) m.second) t long
          go false ms = stays

      do_shows : (request : Request (List ℕ)) → own_call request ≡ true → Shows (bytes_do k request t).state (pair_do request (pair_of t))
      unfolding bytes_do pair_do
      do_shows (clear c) own = zeros_show (length t) long
      do_shows (map_page c) own = map_shows c own
      do_shows (unmap c) own = edited_shows c.page own (λ m. (0, 0)) (word_answer 8 0) (λ m ms. word_answer 0 (merged m ms))
      do_shows (protect c) own = edited_shows c.page own (λ m. (m.first, with_pp c.pp m.second)) [] (λ m ms. [])
      do_shows (look c) own = subst (λ u. Shows u (pair_of t)) (sym (look_stays c)) stays
      do_shows (access c) own =
          let (within, early) = both (not (over_edge c.address c.length)) (own_early (early_of c false)) own in
          let one = not-true (over_edge c.address c.length) within in
          rw (one, one_answers c.address c.length (part_answer c (search_in k t)) (part_decision c (search_in k t) (first_place_in k t)) one) (marked_shows c.kind (start_of c false) (early_of c false) early)

    module _ (o : ℕ) (few : k ≤ 9) (whole : o % 2 ^ k ≡ 0) where
      after_shows : (requests : List (Request (List ℕ))) → all_own (sdr1_with o k) requests ≡ true → (s : State) → length s.table ≡ 65536 * 2 ^ k
          → Shows (after bytes_step (map OnTable requests) s).table (pair_after requests (pair_of s.table))
      unfolding bytes_step calling on_lent
      after_shows [] own s long = stays s.table long
      after_shows (request ∷ requests) own s long =
          let t = s.table in
          let (here, rest) = both (own_call request && (eqb (sdr1_in request) (sdr1_with o k) && eqb (refusal (fed request) (65536 * 2 ^ k)) 0)) (all_own (sdr1_with o k) requests) own in
          let (mine, more) = both (own_call request) (eqb (sdr1_in request) (sdr1_with o k) && eqb (refusal (fed request) (65536 * 2 ^ k)) 0) here in
          let (same, kept) = both (eqb (sdr1_in request) (sdr1_with o k)) (eqb (refusal (fed request) (65536 * 2 ^ k)) 0) more in
          let ones : mask_ones (sdr1_in request) ≡ k = ap mask_ones (eqb-true (sdr1_in request) (sdr1_with o k) same) ∙ made_ones o k few whole in
          let does : on_bytes request t ≡ bytes_do k request t =
          taken request t (ap (refusal (fed request)) long ∙ eqb-true (refusal (fed request) (65536 * 2 ^ k)) 0 kept)
          ∙ ap (λ (n : ℕ). bytes_do n request t) ones in
          let next : Shows (on_bytes request t).state (pair_do request (pair_of t)) = rw does (do_shows t long request mine) in
          let left = (calling (OnTable request) s).state in
          subst (λ x. Shows (after bytes_step (map OnTable requests) left).table (pair_after requests x)) next.groups (after_shows requests rest left next.long)

      -- the two groups after a clear and calls of theirs
      module _ (requests : List (Request (List ℕ))) (stated : List ℕ) (own : all_own (sdr1_with o k) (to_clear (sdr1_with o k) ∷ requests) ≡ true) where
        groups_after : (s : State) → length s.table ≡ table_length (sdr1_with o k)
            → pair_of (after bytes_step (clear_then (sdr1_with o k) requests) s).table ≡ pair_after requests zeros
        unfolding pair_do
        groups_after s long = (after_shows (to_clear (sdr1_with o k) ∷ requests) own s (long ∙ made_length o k few whole)).groups

        pub primary_holds : (pair_after requests zeros).0 ≡ bytes_of stated → Holds (stored (sdr1_with o k) requests p stated)
        primary_holds e s long = ap (λ (x : Pair). x.0) (groups_after s long) ∙ e

        pub secondary_holds : (pair_after requests zeros).1 ≡ bytes_of stated → Holds (stored (sdr1_with o k) requests s stated)
        secondary_holds e s long = ap (λ (x : Pair). x.1) (groups_after s long) ∙ e
