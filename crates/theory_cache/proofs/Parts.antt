-- The parts of an access with a cache whose places are backed by the table: each answers as without the cache and shows the same but for a hit's entry
-- number; the table is left as without it; and the places of the cache that is left are backed by the table that is left.
use Prim.Native.Nat.{ℕ, ◌+◌}
use mathlib.Core.Path.{◌≡◌, refl, sym, ap, ap₂, ◌∙◌, subst}
use mathlib.Core.Bool.{Bool, true, false, not, cond, ◌&&◌}
use mathlib.Core.List.{List}
use mathlib.Core.Logic.{◌⊎◌, inl, inr}
use mathlib.Core.Option.{none, some}
use lib.Dec.{eqb}
use lib.ListN.{length}
use borrow.Author.Tests.{eqb-true}
use Rattle.words.specs.Bits.{bits}
use Rattle.words.proofs.Tests.{by_test}
use Rattle.entry.specs.Entry.{wimg_of, pp_of, changed}
use Rattle.entry.proofs.Marks.{marks_referenced}
use Rattle.register_words.specs.Block.{bl_width}
use Rattle.registers.specs.Set.{block_pairs, register_words}
use Rattle.groups.specs.declared.Page.{Page}
use Rattle.groups.specs.Page.{InRange}
use Rattle.groups.specs.Hash.{group_number}
use Rattle.matches.proofs.Agreement.{agree_self}
use Rattle.theory_tables.specs.Matches.{Match}
use Rattle.theory_tables.specs.Layout.{matches_of}
use Rattle.protection.specs.Access.{fetching, storing}
use Rattle.protection.specs.Protection.{page_allows, guarded}
use Rattle.translation.specs.Steps.{page_outcome, after_search, outcome_of, answer_of}
use Rattle.translation.specs.Decision.{decision_of}
use Rattle.translation.specs.Operand.{over_edge, operand_answer}
use Rattle.translation.specs.declared.Early.{Early}
use Rattle.translation.specs.declared.Early.TheVariants.{Search}
use Rattle.translation.specs.declared.Searched.{Searched}
use Rattle.translation.specs.declared.Searched.TheVariants.{At}
use Rattle.translation.specs.declared.Wanted.{Wanted}
use Rattle.translation.specs.declared.decision.Decision.{Decision}
use Rattle.translation.specs.declared.decision.Used.{Used}
use Rattle.translation.specs.declared.operand.OperandAnswer.{OperandAnswer}
use Rattle.translation.specs.declared.Outcome.{Outcome}
use Rattle.translation.proofs.Parts.{SameButPlace, operand_same, operand_related, parts_done, decisions_agree}
use Rattle.cache.specs.Cache.{first_in, second_in, holds, hit, loaded}
use Rattle.cache.proofs.Cache.{hit_place, length_loaded, loaded_holds}
use Rattle.theory_calls.specs.Request.{AccessCall}
use Rattle.theory_calls.specs.Rules.{on_long_page}
use Rattle.theory_calls.specs.Answers.{access_answer, without_place, compared}
use Rattle.theory_calls.specs.OnBytes.{layout, by_matches, start_of, early_of, part_answer, used_by, part_decision, whole_answer, each_part, wanted_page, search_in, first_place_in, marked_by}
use Rattle.theory_calls.specs.Represents.{GoodTable}
use Rattle.theory_calls.proofs.Access.{by_early, wanted_valid, unmarked_decided}
use Rattle.theory_calls.proofs.Compared.{compared_same}
use Rattle.theory_calls.proofs.TwoMarks.{mark_good, second_kept}
use Rattle.theory_cache.specs.Cached.{cached_search, cached_place, missed, loaded_by, taken, taken_part}
use Rattle.theory_cache.specs.Shown.{is_hit}
use Rattle.theory_cache.proofs.Backed.{Backed, backed_marked, contradict_marks}
use Rattle.theory_cache.proofs.Found.{by_cases, Found, done_at, found_at, now as markedFirst, now_are, now_fits, now_fields}
use Rattle.theory_cache.proofs.Hits.{answer_agrees, decision_agrees, search_is, place_is, group_is_law, mark_idle}
use Rattle.theory_cache.proofs.Operands.{eighth, with_entry, operand_told}

-- every place of a cache is backed by the table
abbrev pub AllBacked : ℕ → List ℕ → List ℕ → Type 0
AllBacked k t cache =
    (page : Page) → InRange page → (place : Bool) → holds cache page place ≡ true → Backed k t page (first_in cache page.index place) (second_in cache page.index place)

-- an entry that was found shows its place and nothing else of it
shown_eighth : (kind : ℕ) (key : Bool) (word group entry : ℕ)
    → decision_of (record { key = key; group = group; entry = 8 }) (after_search kind key (At word))
    ≡ eighth (decision_of (record { key = key; group = group; entry = entry }) (after_search kind key (At word)))
unfolding after_search page_outcome decision_of
shown_eighth kind key word group entry =
    by_test (fetching kind && guarded (wimg_of word)) (λ g. rw g) (λ g. rw g (by_test (page_allows key (pp_of word) kind) (λ h. rw h) (λ h. rw h)))

-- what a part went by that no page decided
abbrev nothing : Used
nothing = record { key = false; group = 0; entry = 0 }

module _ (k : ℕ) (c : AccessCall (List ℕ)) (t cache : List ℕ) (good : GoodTable k t) (all : AllBacked k t cache) where
  abbrev kind : ℕ
  kind = c.kind

  -- a hit is backed, and a store is hit only where C is set
  pub hit_backed : (page : Page) → InRange page → (words : ℕ × ℕ) → hit (storing kind) cache page ≡ some words
      → Backed k t page words.0 words.1 × (storing kind ≡ true → changed words.1 ≡ true)
  hit_backed page valid words e =
      let (place, held, first, second, has_c) = hit_place (storing kind) cache page words.0 words.1 e in
      (subst (λ (v : ℕ). Backed k t page v words.1) first (subst (λ (v : ℕ). Backed k t page (first_in cache page.index place) v) second (all page valid place held)), has_c)

  -- ---- what the parts answer

  pub part_same : (second : Bool) → part_answer c (cached_search k kind t cache) second ≡ part_answer c (search_in k t) second
  unfolding outcome_of cached_search
  part_same second =
      by_early (early_of c second) (λ outcome e. rw e)
      (λ wanted e.
      by_cases (hit (storing kind) cache (wanted_page wanted)) (λ n. rw (e, n))
      (λ words h.
      let (b, has_c) = hit_backed (wanted_page wanted) (wanted_valid c second wanted e) words h in
      rw (e, h)
      (answer_agrees words.1 b.x.second b.agrees kind wanted.key (start_of c second)
      ∙ ap (λ (s : Searched). answer_of kind (start_of c second) (after_search kind wanted.key s)) (sym (search_is k t wanted words.0 words.1 b)))))

  -- what decided a part without the cache
  abbrev plainly : Bool → Decision
  plainly second = part_decision c (search_in k t) (first_place_in k t) second

  pub decision_same : (second : Bool)
      → part_decision c (cached_search k kind t cache) (cached_place k kind t cache) second ≡ cond (is_hit c t cache (early_of c second)) (eighth (plainly second)) (plainly second)
  unfolding outcome_of cached_search cached_place
  decision_same second =
      by_early (early_of c second) (λ outcome e. rw e)
      (λ wanted e.
      by_cases (hit (storing kind) cache (wanted_page wanted)) (λ n. rw (e, n))
      (λ words h.
      let valid = wanted_valid c second wanted e in
      let (b, has_c) = hit_backed (wanted_page wanted) valid words h in
      let group : Bool → ℕ = λ (s : Bool). group_number (10 + k) s (wanted_page wanted) in
      let used : ℕ → ℕ → Used = λ (g i : ℕ). record { key = wanted.key; group = g; entry = i } in
      rw (e, h)
      (ap (λ (s : Bool). decision_of (used (group s) 8) (after_search kind wanted.key (At words.1))) (group_is_law k t wanted words.0 words.1 b valid)
      ∙ decision_agrees words.1 b.x.second b.agrees kind wanted.key (used (group b.x.secondary) 8)
      ∙ shown_eighth kind wanted.key b.x.second (group b.x.secondary) b.x.entry
      ∙ ap₂ (λ (place : ℕ × ℕ) (s : Searched). eighth (decision_of (used place.0 place.1) (after_search kind wanted.key s)))
      (sym (place_is k t wanted words.0 words.1 b)) (sym (search_is k t wanted words.0 words.1 b)))))

  -- what decided a part is the same but for the place of its entry
  pub decision_related : (second : Bool) → SameButPlace (part_decision c (cached_search k kind t cache) (cached_place k kind t cache) second) (plainly second)
  unfolding outcome_of cached_search cached_place
  decision_related second =
      by_early (early_of c second) (λ outcome e. rw e (alone outcome))
      (λ wanted e.
      by_cases (hit (storing kind) cache (wanted_page wanted))
      (λ n. rw (e, n) (decisions_agree (used_by (first_place_in k t) (Search wanted)) (used_by (first_place_in k t) (Search wanted)) refl (after_search kind wanted.key (search_in k t wanted))))
      (λ words h.
      let (b, has_c) = hit_backed (wanted_page wanted) (wanted_valid c second wanted e) words h in
      let found = search_is k t wanted words.0 words.1 b in
      let through : Used = record { key = wanted.key; group = group_number (10 + k) (eqb (bits 25 25 words.0) 1) (wanted_page wanted); entry = 8 } in
      rw (e, h, found, decision_agrees words.1 b.x.second b.agrees kind wanted.key through)
      (decisions_agree through (used_by (first_place_in k t) (Search wanted)) refl (after_search kind wanted.key (At b.x.second)))))
    where
      alone : (outcome : Outcome) → SameButPlace (decision_of nothing outcome) (decision_of nothing outcome)
      alone outcome = decisions_agree nothing nothing refl outcome

  -- ---- what is left

  -- a table and a cache on the way: every hit of the cache that was lent is backed, and every place of the cache that is there
  pub record Midway (u d : List ℕ) : Type 0 where
    pub fine : GoodTable k u
    pub size : length d ≡ 2048
    pub hits : (page : Page) → InRange page → (words : ℕ × ℕ) → hit (storing kind) cache page ≡ some words → Backed k u page words.0 words.1
    pub backed : AllBacked k u d

  -- a mark on the way, the cache as it is
  marked_midway : (u d : List ℕ) → Midway u d → (wanted : Wanted) (result : ℕ) → InRange (wanted_page wanted) → Midway (marked_by k kind (Search wanted) result u) d
  marked_midway u d m wanted result valid = record {
    fine = mark_good k kind wanted u m.fine result;
    size = m.size;
    hits = λ page v words h. backed_marked (m.hits page v words h) m.fine v kind wanted result valid;
    backed = λ page v place h. backed_marked (m.backed page v place h) m.fine v kind wanted result valid;
  }

  -- a page of a done operand that went to the table
  module _ (u d : List ℕ) (m : Midway u d) (wanted : Wanted) (valid : InRange (wanted_page wanted)) (found : Found (matches_of (layout k) u (wanted_page wanted))) where
    abbrev page : Page
    page = wanted_page wanted

    abbrev marked : List ℕ
    marked = marked_by k kind (Search wanted) 0 u

    -- its first match, marked
    abbrev now : Match
    now = markedFirst k kind u m.fine wanted found

    now_backed : Backed k marked page now.first now.second
    now_backed = record {
      x = now;
      xs = found.xs;
      are = now_are k kind u m.fine wanted found;
      word = refl;
      agrees = agree_self now.second;
      agreed = contradict_marks true (storing kind) found.x found.xs ∙ found.agreed;
      r_set = marks_referenced true (storing kind) found.x.second;
      c_set = λ c. c;
    }

    abbrev there : List ℕ
    there = loaded page now.first now.second d

    loaded_midway : Midway marked (loaded page now.first now.second d)
    loaded_midway =
        let after = marked_midway u d m wanted 0 valid in
        let (first, second) = now_fits k kind u m.fine wanted found in
        let fields = now_fields k kind u m.fine wanted found valid in
        record {
          fine = after.fine;
          size = length_loaded page now.first now.second d ∙ m.size;
          hits = after.hits;
          backed = λ q v place held. go q v place (loaded_holds page q now.first now.second d place m.size valid first second fields.has_vsid held);
        }
      where
        go : (q : Page) → InRange q → (place : Bool)
            → ((q ≡ page) × (first_in there q.index place ≡ now.first) × (second_in there q.index place ≡ now.second))
            ⊎ ((holds d q place ≡ true) × (first_in there q.index place ≡ first_in d q.index place) × (second_in there q.index place ≡ second_in d q.index place))
            → Backed k marked q (first_in there q.index place) (second_in there q.index place)
        go q v place (inl (same, first, second)) = rw (first, second) (subst (λ (p : Page). Backed k marked p now.first now.second) (sym same) now_backed)
        go q v place (inr (held, first, second)) = rw (first, second) ((marked_midway u d m wanted 0 valid).backed q v place held)

  -- a part leaves on the table what it leaves without the cache
  module _ (second : Bool) (result : ℕ) (u d : List ℕ) (m : Midway u d) (own-done : result ≡ 0 → (part_answer c (search_in k t) second).result ≡ 0)
      (fresh : (wanted : Wanted) → early_of c second ≡ Search wanted → matches_of (layout k) u (wanted_page wanted) ≡ matches_of (layout k) t (wanted_page wanted)) where
    -- the part of the operand, with steps 1 to 3 come to `early`
    abbrev after : Early → List ℕ × List ℕ
    after early = cond (missed k kind t cache early) (taken k kind early result (u, d)) (u, d)

    abbrev Steps : Early → Type 0
    Steps early = ((after early).0 ≡ marked_by k kind early result u) × Midway (after early).0 (after early).1

    by_search : (wanted : Wanted) → early_of c second ≡ Search wanted → hit (storing kind) cache (wanted_page wanted) ≡ none → Steps (Search wanted)
    unfolding missed taken loaded_by outcome_of
    by_search wanted e n = rw n (go (eqb result 0) refl)
      where
        valid : InRange (wanted_page wanted)
        valid = wanted_valid c second wanted e

        Left : Type 0
        Left =
            let table = marked_by k kind (Search wanted) result u in
            (table ≡ table) × Midway table (cond (eqb result 0) (by_matches (matches_of (layout k) table (wanted_page wanted)) d (λ x xs. loaded (wanted_page wanted) x.first x.second d)) d)

        go : (z : Bool) → eqb result 0 ≡ z → Left
        go true z =
            let zero = eqb-true result 0 z in
            let told = own-done zero in
            let found = found_at (matches_of (layout k) t (wanted_page wanted)) (done_at kind wanted.key (start_of c second) (search_in k t wanted) (rw e at told)) in
            let here : Found (matches_of (layout k) u (wanted_page wanted)) = subst Found (sym (fresh wanted e)) found in
            rw zero (refl, rw (now_are k kind u m.fine wanted here) (loaded_midway u d m wanted valid here))
        go false z = rw z (refl, marked_midway u d m wanted result valid)

    by_hit : (wanted : Wanted) → early_of c second ≡ Search wanted → (words : ℕ × ℕ) → hit (storing kind) cache (wanted_page wanted) ≡ some words → Steps (Search wanted)
    unfolding missed
    by_hit wanted e words h =
        let valid = wanted_valid c second wanted e in
        rw h
        (sym (mark_idle k u wanted words.0 words.1 (m.hits (wanted_page wanted) valid words h) kind result m.fine (hit_backed (wanted_page wanted) valid words h).1), m)

    pub part_left : ((taken_part k c (t, cache) result second (u, d)).0 ≡ marked_by k kind (early_of c second) result u)
        × Midway (taken_part k c (t, cache) result second (u, d)).0 (taken_part k c (t, cache) result second (u, d)).1
    unfolding taken_part missed
    part_left =
        by_early (early_of c second) (λ outcome e. rw (e, unmarked_decided k kind outcome result u) (refl, m))
        (λ wanted e. rw e (by_cases (hit (storing kind) cache (wanted_page wanted)) (λ n. by_search wanted e n) (λ words h. by_hit wanted e words h)))

  -- ---- the operand

  abbrev plain_whole : OperandAnswer
  plain_whole = whole_answer c (search_in k t) (first_place_in k t)

  abbrev cached_whole : OperandAnswer
  cached_whole = whole_answer c (cached_search k kind t cache) (cached_place k kind t cache)

  -- what decided its parts with the cache
  abbrev through_cache : Bool → Decision
  through_cache second = part_decision c (cached_search k kind t cache) (cached_place k kind t cache) second

  parts_same : cached_whole ≡ operand_answer c.address c.length (part_answer c (search_in k t)) through_cache
  parts_same =
      operand_same c.address c.length (part_answer c (cached_search k kind t cache)) (part_answer c (search_in k t)) through_cache (part_same false) (part_same true)

  pub result_same : cached_whole.part.result ≡ plain_whole.part.result
  result_same =
      ap (λ (a : OperandAnswer). a.part.result) parts_same
      ∙ operand_related (λ x y. x.part.result ≡ y.part.result) c.address c.length (part_answer c (search_in k t)) through_cache plainly (λ second part p a b rest. refl)

  pub answer_same : access_answer cached_whole ≡ with_entry (is_hit c t cache (early_of c (over_edge c.address c.length
      && eqb (part_answer c (cached_search k kind t cache) false).result 0 && not (eqb (part_answer c (cached_search k kind t cache) true).result 0)))) (access_answer plain_whole)
  answer_same =
      rw (part_same false, part_same true)
      (ap access_answer parts_same
      ∙ operand_told c.address c.length (part_answer c (search_in k t)) plainly through_cache (λ second. is_hit c t cache (early_of c second)) decision_same)

  -- what is compared of the answer is the same
  pub compared_alike : compared without_place cached_whole.part.result (access_answer cached_whole) ≡ compared without_place plain_whole.part.result (access_answer plain_whole)
  compared_alike =
      ap (λ (a : OperandAnswer). compared without_place a.part.result (access_answer a)) parts_same
      ∙ operand_related (λ x y. compared without_place x.part.result (access_answer x) ≡ compared without_place y.part.result (access_answer y)) c.address c.length
      (part_answer c (search_in k t)) through_cache plainly
      (λ second part physical attributes bytes rest. compared_same part physical attributes bytes rest part.result (through_cache second) (plainly second) (decision_related second))

  -- the table that is left, and the cache beside it
  pub whole_left : length cache ≡ 2048 →
      let left = each_part c (taken_part k c (t, cache) cached_whole.part.result) (t, cache) in
      (left.0 ≡ each_part c (λ second. marked_by k kind (early_of c second) plain_whole.part.result) t) × Midway left.0 left.1
  whole_left size = rw result_same (go (over_edge c.address c.length) refl)
    where
      result : ℕ
      result = plain_whole.part.result

      start : Midway t cache
      start = record { fine = good; size = size; hits = λ page v words h. (hit_backed page v words h).0; backed = all }

      dones : result ≡ 0 → ((part_answer c (search_in k t) false).result ≡ 0) × (over_edge c.address c.length ≡ true → (part_answer c (search_in k t) true).result ≡ 0)
      dones = parts_done c.address c.length (part_answer c (search_in k t)) plainly

      one : ((taken_part k c (t, cache) result false (t, cache)).0 ≡ marked_by k kind (early_of c false) result t)
          × Midway (taken_part k c (t, cache) result false (t, cache)).0 (taken_part k c (t, cache) result false (t, cache)).1
      one = part_left false result t cache start (λ z. (dones z).0) (λ wanted e. refl)

      go : (over : Bool) → over_edge c.address c.length ≡ over →
          let left = cond over (taken_part k c (t, cache) result true (taken_part k c (t, cache) result false (t, cache))) (taken_part k c (t, cache) result false (t, cache)) in
          (left.0 ≡ cond over (marked_by k kind (early_of c true) result (marked_by k kind (early_of c false) result t)) (marked_by k kind (early_of c false) result t)) × Midway left.0 left.1
      go true over =
          let u = taken_part k c (t, cache) result false (t, cache) in
          let two = part_left true result u.0 u.1 one.1 (λ z. (dones z).1 over)
          (λ wanted e. ap (λ (v : List ℕ). matches_of (layout k) v (wanted_page wanted)) one.0
          ∙ second_kept (block_pairs (on_long_page c)) (bl_width (on_long_page c)) (register_words c.registers) c.mode c.kind c.address c.length over k result t good wanted e) in
          (two.0 ∙ ap (marked_by k kind (early_of c true) result) one.0, two.1)
      go false over = one
