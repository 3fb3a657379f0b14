-- Every instance is met: its calls are under SDR1 0 and keep the cache's discipline by the tests on the finite map, and a call of it was done where the map
-- has it done.
use Prim.Native.Nat.{ℕ}
use mathlib.Core.Path.{◌≡◌, refl, sym, ap, ◌∙◌, subst}
use mathlib.Core.Bool.{true, false, true≢false}
use mathlib.Core.List.{List, [], ◌∷◌, ◌++◌, map}
use mathlib.Core.Logic.{ite, if_pos}
use mathlib.Core.Option.{none}
use native.Mathlib.Omega.{arith}
use lib.Dec.{lit≤, lit<}
use lib.ListN.{replicate}
use Rattle.theory_placement.specs.FiniteMap.{fields_at, mapped_pages}
use Rattle.theory_placement.proofs.Decision.{arrangement?}
use Rattle.theory_tables.specs.Runs.{after, Each}
use Rattle.groups.specs.Page.{same_page}
use Rattle.theory_calls.specs.Request.{AnsweredCall, Request, unmap}
use Rattle.theory_calls.specs.OnMap.{Map, Arranged, arranged?}
use Rattle.theory_calls.proofs.FirstClear.{start_done}
use Rattle.theory_cache.specs.Rows.{load}
use Rattle.theory_histories.specs.Calls.{Asked, plain, cached, invalidate, Slices, slices, State, Call, calling, lengths_of, lent_lengths, refusal_of, Under}
use Rattle.theory_histories.specs.Fed.{fed_asked, fed_of, map_calling, bytes_step, map_step}
use Rattle.theory_histories.specs.Discipline.{Disciplined, filled}
use Rattle.theory_histories.specs.Histories.{own_call, History, own, begun, CacheKept}
use Rattle.theory_histories.specs.Theorem.{mapped_to, ArrangedWith, MapInRange, Maps, by_map, TakesOut, by_unmap, DoneSince, Reaches, with_cache}
use Rattle.theory_histories.specs.Rows.{on, invalidate_set_of}
use Rattle.theory_histories.specs.Instances.{page_at, maps_at, unmaps_at, invalidates_below, unmapped_both, disciplined, exceptions, map_of, maps_below, Met, InstanceRows}
use Rattle.theory_histories.proofs.Along.{along, steps}
use Rattle.theory_histories.proofs.Theorem.{fits, begins}
use Rattle.theory_histories.proofs.Tested.{every_under, all_under, kept_test, kept_tested}
use Rattle.theory_histories.proofs.Computes.{histories_compute}

-- the lengths of table and cache
abbrev pub sizes : Slices ℕ
sizes = slices 65536 2048

-- by the tests
abbrev pub TestedUnder : List Call → Type 0
TestedUnder calls = every_under 0 sizes calls ≡ true

abbrev TestedKept : List Call → Type 0
TestedKept calls = kept_test 0 sizes calls [] (λ set. true) ≡ true

-- the finite map after a list of calls, and what it tells of a call that follows
abbrev pub map_behind : Slices ℕ → List Call → Map
map_behind lengths calls = after map_step (map (fed_of lengths) calls) []

abbrev number_behind : Slices ℕ → List Call → Call → ℕ
number_behind lengths calls c = (map_calling (fed_asked c.asked) (lent_lengths lengths c) (map_behind lengths calls)).number

-- what a decision that computes says
not_arranged : {P : Type 0} (d : Dec P) → ite {C = ℕ} d 0 9 ≡ 9 → P → ⊥
not_arranged d e p = let z : ◌≡◌ {A = ℕ} 0 9 = sym (if_pos d p 0 9) ∙ e in omega arith

is_arranged : {P : Type 0} (d : Dec P) → ite {C = ℕ} d 0 9 ≡ 0 → P
is_arranged (yes p) e = p
is_arranged (no n) e = absurd (let z : ◌≡◌ {A = ℕ} 9 0 = e in omega arith)

-- an unmap and an invalidate map nothing
abbrev AsksNoMap : Asked (List ℕ) → ℕ → Type 0
AsksNoMap asked number = (request : Request (List ℕ)) → asked ≡ plain request → Maps (page_at 0) request → number ≡ 0 → ⊥

unmap_maps_none : {c : AnsweredCall (List ℕ)} {number : ℕ} → AsksNoMap (plain (unmap c)) number
unmap_maps_none request is (by_map m e) zero = let z : ◌≡◌ {A = ℕ} 0 1 = cc in omega arith

invalidate_asks_none : (index : ℕ) {number : ℕ} → AsksNoMap (invalidate index) number
invalidate_asks_none index request is maps zero = let z : ◌≡◌ {A = ℕ} 0 1 = cc in omega arith

-- the tests of the two lists, which compute
disciplined_under : TestedUnder disciplined
unfolding histories_compute
disciplined_under = refl

disciplined_tested : TestedKept disciplined
unfolding histories_compute arrangement?
disciplined_tested = refl

exceptions_under : TestedUnder exceptions
unfolding histories_compute
exceptions_under = refl

exceptions_tested : TestedKept exceptions
unfolding histories_compute arrangement?
exceptions_tested = refl

-- a table and a cache of these lengths
module _ (s : State) (long : lengths_of s ≡ sizes) where
  pub under_each : (calls : List Call) → TestedUnder calls → Each (Under 0 (lengths_of s)) calls
  under_each calls e = subst (λ (lengths : Slices ℕ). Each (Under 0 lengths) calls) (sym long) (all_under 0 sizes calls e)

  -- the history of a list of calls on them
  abbrev pub history_of : (calls : List Call) → TestedUnder calls → History
  history_of calls e = record {
    sdr1 = 0;
    start = s;
    clear_done = start_done 0 0 s.table (record { few = lit≤ tt; whole = refl; long = ap (λ (lengths : Slices ℕ). lengths.table) long });
    calls = calls;
    under = under_each calls e;
  }

  module _ (calls : List Call) (under : TestedUnder calls) where
    abbrev h : History
    h = history_of calls under

    -- a list that begins as the history does keeps the discipline
    kept : (list : List Call) → TestedUnder list → TestedKept list → Disciplined list (begun h) (filled s.cache)
    kept list e test =
        kept_tested 0 (own h) (fits h).shape (fits h).long list (under_each list e) (begun h) [] (filled s.cache) (λ set. true) (begins h)
        (λ set never. absurd (true≢false never)) (subst (λ (lengths : Slices ℕ). kept_test 0 lengths list [] (λ set. true) ≡ true) (sym long) test)

    -- a call of it was done, where the map has it done
    was_done : (before : List Call) (c : Call) (behind : List Call) → TestedUnder before → TestedUnder (c ∷ []) → TestedUnder (before ++ c ∷ behind)
        → TestedKept (before ++ c ∷ behind) → number_behind sizes before c ≡ 0 → (calling c (after bytes_step before (begun h))).number ≡ 0
    was_done before c behind first one all test does =
        let g = along 0 (own h) (fits h).shape (fits h).long before (c ∷ behind) (under_each before first) (begun h) [] (filled s.cache) (begins h) (kept (before ++ c ∷ behind) all test) in
        (steps 0 (own h) (fits h).shape (fits h).long c (after bytes_step before (begun h)) (map_behind (own h) before) (under_each (c ∷ []) one).0 g.waits g.linked g.kept.0).number
        ∙ subst (λ (lengths : Slices ℕ). number_behind lengths before c ≡ 0) (sym long) does

  -- ---- the instances

  met : (calls : List Call) (e : TestedUnder calls) (Holds : History → Type 0) → Holds (history_of calls e) → Met calls Holds s
  met calls e Holds holds = record { history = history_of calls e; its_sdr1 = refl; its_start = refl; its_calls = refl; holds = holds }

  kept_list : (calls : List Call) → TestedUnder calls → TestedKept calls → Met calls CacheKept s
  kept_list calls e test = met calls e CacheKept (kept calls e calls e test)

  -- a map of the page 16 of case 11
  in_range_law : (calls : List Call) (e : TestedUnder calls) → MapInRange (history_of calls e) (map_of 16)
  in_range_law calls e = record {
    same_sdr1 = refl;
    vsid_lt = lit< tt;
    index_lt = lit< tt;
    rpn_lt = lit< tt;
    wimg_lt = lit< tt;
    not_both = λ e. let z : ◌≡◌ {A = ℕ} 0 3 = e in omega arith;
    pp_lt = lit< tt;
  }

  -- what the map has after such calls, whatever the lengths are called
  by_sizes : (P : Map → Type 0) (calls : List Call) → P (map_behind sizes calls) → P (map_behind (lengths_of s) calls)
  by_sizes P calls = subst (λ (lengths : Slices ℕ). P (map_behind lengths calls)) (sym long)

  full : Met (maps_below 16) (λ h. MapInRange h (map_of 16) × (mapped_to h (map_of 16).page ≡ none) × (ArrangedWith h (map_of 16).page → ⊥)) s
  unfolding histories_compute arrangement?
  full =
      let page = (map_of 16).page in
      let calls = maps_below 16 in
      met calls refl _ (
        in_range_law calls refl,
        by_sizes (λ (m : Map). fields_at same_page page m ≡ none) calls refl,
        by_sizes (λ (m : Map). Arranged 0 (page ∷ mapped_pages m) → ⊥) calls (not_arranged (arranged? 0 (page ∷ mapped_pages (map_behind sizes calls))) refl),
      )

  room : Met [] (λ h. MapInRange h (map_of 16) × (mapped_to h (map_of 16).page ≡ none) × ArrangedWith h (map_of 16).page) s
  unfolding histories_compute arrangement?
  room = met [] refl _ (in_range_law [] refl, refl, is_arranged (arranged? 0 ((map_of 16).page ∷ [])) refl)

  -- an access with the cache reaches the page
  reached : (calls : List Call) (e : TestedUnder calls) → TestedUnder (calls ++ own_call (cached (load 0)) ∷ []) → TestedKept (calls ++ own_call (cached (load 0)) ∷ [])
      → Reaches (history_of calls e) (cached (load 0)) (load 0) false (page_at 0)
  unfolding histories_compute
  reached calls e longer test = record {
    accesses = with_cache;
    same_sdr1 = refl;
    taken = subst (λ (lengths : Slices ℕ). refusal_of (cached (load 0)) lengths ≡ 0) (sym long) refl;
    kept = kept calls e (calls ++ own_call (cached (load 0)) ∷ []) longer test;
    has_part = λ second. absurd (true≢false (sym second));
    wanted = record { vsid = 0x0C701C; index = 0; key = false };
    searches = refl;
    wants = refl;
  }

  unmapped : Met (invalidates_below 64 ++ (on (maps_at 0) ∷ on (maps_at 1) ∷ unmapped_both))
      (λ h. DoneSince h (TakesOut (page_at 0)) (Maps (page_at 0)) × Reaches h (cached (load 0)) (load 0) false (page_at 0)) s
  unfolding histories_compute arrangement?
  unmapped =
      let before = invalidates_below 64 ++ (on (maps_at 0) ∷ on (maps_at 1) ∷ []) in
      let behind = on (unmaps_at 1) ∷ invalidate_set_of 0 ∷ invalidate_set_of 1 ∷ [] in
      let calls = before ++ on (unmaps_at 0) ∷ behind in
      met calls refl _ (
        record {
          before = before;
          call = on (unmaps_at 0);
          behind = behind;
          parts = refl;
          request = unmaps_at 0;
          asks = refl;
          one_of_these = by_unmap (record { sdr1 = 0; page = page_at 0; answer = replicate 16 0 }) refl;
          was_done = was_done calls refl before (on (unmaps_at 0)) behind refl refl refl refl refl;
          none_of_those = (unmap_maps_none, (invalidate_asks_none 0, (invalidate_asks_none 1, tt)));
        },
        reached calls refl refl refl,
      )

  mapped : Met (invalidates_below 64 ++ (on (maps_at 0) ∷ []))
      (λ h. DoneSince h (λ request. request ≡ maps_at 0) (TakesOut (page_at 0)) × Reaches h (cached (load 0)) (load 0) false (page_at 0)) s
  unfolding histories_compute arrangement?
  mapped =
      let before = invalidates_below 64 in
      let calls = before ++ on (maps_at 0) ∷ [] in
      met calls refl _ (
        record {
          before = before;
          call = on (maps_at 0);
          behind = [];
          parts = refl;
          request = maps_at 0;
          asks = refl;
          one_of_these = refl;
          was_done = was_done calls refl before (on (maps_at 0)) [] refl refl refl refl refl;
          none_of_those = tt;
        },
        reached calls refl refl refl,
      )

pub instance_rows : InstanceRows
instance_rows = record {
  disciplined_list = λ s long. kept_list s long disciplined disciplined_under disciplined_tested;
  both_exceptions = λ s long. kept_list s long exceptions exceptions_under exceptions_tested;
  full_pair = full;
  room_left = room;
  unmapped_page = unmapped;
  mapped_page = mapped;
}
