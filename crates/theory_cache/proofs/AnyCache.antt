-- An access with any cache: where it is not done, or no part goes to the table, each part's step is idle; where no part is a hit, each part's search is
-- that of the table; and where it is done, `Loads` tells what is loaded. An invalidate zeroes one set.
use Prim.Native.Nat.{ℕ, ◌+◌, ◌/◌, ◌^◌, ◌<◌}
use mathlib.Core.Path.{◌≡◌, refl, sym, ap, ◌∙◌}
use mathlib.Core.Bool.{Bool, true, false, not, true≢false}
use mathlib.Core.List.{List, [], ◌∷◌}
use mathlib.Core.Logic.{◌↔◌}
use mathlib.Core.Option.{Option, none}
use native.Mathlib.Omega.{arith}
use lib.Dec.{eqb, ltb}
use lib.ListN.{length, get_or, replicate}
use borrow.Author.Tests.{not-false, eqb-true, eqb-false, eq-eqb, ne_eqb, ltb-true, lt-ltb}
use Rattle.words.proofs.Tests.{by_test}
use Rattle.words.specs.Bits.{bits}
use Rattle.words.specs.Words.{bytes_of}
use Rattle.register_words.specs.Sdr1.{mask_ones}
use Rattle.groups.specs.declared.Page.{Page}
use Rattle.groups.specs.Hash.{group_number}
use Rattle.protection.specs.Access.{storing}
use Rattle.translation.specs.Steps.{after_search, outcome_of, answer_of}
use Rattle.translation.specs.Decision.{decision_of}
use Rattle.translation.specs.Operand.{over_edge, operand_answer}
use Rattle.translation.specs.declared.Answer.{Answer}
use Rattle.translation.specs.declared.Early.TheVariants.{Decided, Search}
use Rattle.translation.specs.declared.Searched.TheVariants.{At}
use Rattle.translation.specs.declared.Wanted.{Wanted}
use Rattle.translation.specs.declared.decision.Decision.{Decision}
use Rattle.translation.specs.declared.operand.OperandAnswer.{OperandAnswer}
use Rattle.cache.specs.Cache.{set_of, hit, set_zeroed}
use Rattle.cache.proofs.Cache.{zeroed_in, zeroed_out}
use Rattle.cache.proofs.Hits.{zeroed_none, zeroed_apart}
use Rattle.theory_calls.specs.Request.{AccessCall, access, sdr1_in, fed}
use Rattle.theory_calls.specs.Rules.{rules}
use Rattle.theory_calls.specs.Answers.{refused_bytes, answer_refused, access_answer}
use Rattle.theory_calls.specs.OnBytes.{Ended, ended, by_option, start_of, early_of, part_answer, part_decision, whole_answer, each_part, wanted_page, search_in, first_place_in, marked_by, bytes_do, on_bytes}
use Rattle.theory_calls.specs.Represents.{GoodTable}
use Rattle.theory_calls.specs.AnyTable.{HasPart}
use Rattle.theory_calls.specs.Arguments.{PastRules, AccessGood}
use Rattle.theory_calls.proofs.OnBytes.{taken, refused}
use Rattle.theory_calls.proofs.TakenCalls.{good_table}
use Rattle.theory_calls.proofs.Refusals.{whole_past, whole_zeros}
use Rattle.theory_calls.proofs.Arguments.{past_kept, kept_none, none_kept, low, eleven, numbered, access_decides}
use Rattle.theory_calls.proofs.Access.{by_early, unmarked, unmarked_decided}
use Rattle.theory_cache.specs.Cached.{cached_search, cached_place, missed, loaded_by, taken as takenFrom, taken_part, cached_does, cached_refusal, on_cached, invalidate_call, invalidate_refusal}
use Rattle.theory_cache.specs.Shown.{is_hit}
use Rattle.theory_cache.specs.AnyCache.{goes_to_table, FromTable, IsLoaded, answered_by, shown_by, PartHeld, CallsOnAnyCache}
use Rattle.theory_cache.proofs.Found.{by_cases}
use Rattle.theory_cache.proofs.Loads.{missing, going, kept_part, bytes_left, stands_first, pages_stand}
use Rattle.theory_cache.proofs.Refusals.{right_refusal, wrong_refusal, cached_taken, cached_refused}

module _ (k : ℕ) (c : AccessCall (List ℕ)) (lent : List ℕ × List ℕ) (result : ℕ) where
  -- a part of an operand that is not done leaves what is there
  idle_part : (second : Bool) (left : List ℕ × List ℕ) → (result ≡ 0 → ⊥) → taken_part k c lent result second left ≡ left
  unfolding taken_part takenFrom loaded_by
  idle_part second left n =
      by_test (missed k c.kind lent.0 lent.1 (early_of c second))
      (λ e. rw e (by_early (early_of c second) (λ outcome f. rw (f, unmarked k c.kind (Decided outcome) result left.0 n))
      (λ wanted f. rw (f, unmarked k c.kind (Search wanted) result left.0 n, ne_eqb result 0 n))))
      (λ e. rw e)

  both_kept : ((second : Bool) (left : List ℕ × List ℕ) → HasPart c lent.0 second → taken_part k c lent result second left ≡ left)
      → each_part c (taken_part k c lent result) lent ≡ lent
  both_kept each =
      by_test (over_edge c.address c.length)
      (λ over. rw over (ap (taken_part k c lent result true) (each false lent (λ z. over)) ∙ each true lent (λ z. over)))
      (λ one. rw one (each false lent (λ z. absurd (true≢false (sym z)))))

-- an operand of one part depends on it alone
one_part : (address length : ℕ) (a b : Bool → Answer) (d e : Bool → Decision) → over_edge address length ≡ false → a false ≡ b false → d false ≡ e false
    → operand_answer address length a d ≡ operand_answer address length b e
unfolding operand_answer
one_part address length a b d e one f g = rw (one, f, g)

two_parts : (address length : ℕ) (a b : Bool → Answer) (d e : Bool → Decision) → ((second : Bool) → (a second ≡ b second) × (d second ≡ e second))
    → operand_answer address length a d ≡ operand_answer address length b e
unfolding operand_answer
two_parts address length a b d e same =
    let (f, g) = same false in
    let (h, i) = same true in
    rw (f, g, h, i)

module _ (c : AccessCall (List ℕ)) (t cache : List ℕ) where
  abbrev k : ℕ
  k = mask_ones (sdr1_in (access c))

  -- a part that is no hit comes to what it comes to without the cache
  plain_part : (second : Bool) → is_hit c t cache (early_of c second) ≡ false
      → (part_answer c (cached_search k c.kind t cache) second ≡ part_answer c (search_in k t) second)
      × (part_decision c (cached_search k c.kind t cache) (cached_place k c.kind t cache) second ≡ part_decision c (search_in k t) (first_place_in k t) second)
  unfolding outcome_of cached_search cached_place
  plain_part second missing =
      by_early (early_of c second) (λ outcome e. rw e (refl, refl))
      (λ wanted e.
      by_cases (hit (storing c.kind) cache (wanted_page wanted)) (λ n. rw (e, n) (refl, refl))
      (λ words h. absurd (true≢false (ap (λ (o : Option (ℕ × ℕ)). by_option o false (λ (w : ℕ × ℕ). true)) (sym h) ∙ (rw e at missing)))))

  -- so does an operand without a hit
  plain_whole_law : ((second : Bool) → HasPart c t second → is_hit c t cache (early_of c second) ≡ false)
      → whole_answer c (cached_search k c.kind t cache) (cached_place k c.kind t cache) ≡ whole_answer c (search_in k t) (first_place_in k t)
  plain_whole_law none-hit =
      by_test (over_edge c.address c.length)
      (λ over. two_parts c.address c.length _ _ _ _ (λ second. plain_part second (none-hit second (λ z. over))))
      (λ one.
      let (f, g) = plain_part false (none-hit false (λ z. absurd (true≢false (sym z)))) in
      one_part c.address c.length _ _ _ _ one f g)

  -- and each of its parts marks the table as without the cache
  plain_step : (result : ℕ) (second : Bool) (left : List ℕ × List ℕ) → is_hit c t cache (early_of c second) ≡ false
      → (taken_part k c (t, cache) result second left).0 ≡ marked_by k c.kind (early_of c second) result left.0
  unfolding taken_part takenFrom missed
  plain_step result second left missing =
      by_early (early_of c second) (λ outcome e. rw (e, unmarked_decided k c.kind outcome result left.0))
      (λ wanted e.
      by_cases (hit (storing c.kind) cache (wanted_page wanted)) (λ n. rw (e, n))
      (λ words h. absurd (true≢false (ap (λ (o : Option (ℕ × ℕ)). by_option o false (λ (w : ℕ × ℕ). true)) (sym h) ∙ (rw e at missing)))))

  plain_left : (result : ℕ) → ((second : Bool) → HasPart c t second → is_hit c t cache (early_of c second) ≡ false)
      → (each_part c (taken_part k c (t, cache) result) (t, cache)).0 ≡ each_part c (λ second. marked_by k c.kind (early_of c second) result) t
  plain_left result none-hit =
      by_test (over_edge c.address c.length)
      (λ over.
      rw over
      (plain_step result true (taken_part k c (t, cache) result false (t, cache)) (none-hit true (λ z. over))
      ∙ ap (marked_by k c.kind (early_of c true) result) (plain_step result false (t, cache) (none-hit false (λ z. over)))))
      (λ one. rw one (plain_step result false (t, cache) (none-hit false (λ z. absurd (true≢false (sym z))))))

  -- ---- the call, refused by its arguments or not

  abbrev number : ℕ
  number = cached_refusal c (length t) (length cache)

  pub by_refusal : (P : Ended (List ℕ × List ℕ) → Type 0) → (number ≡ 0 → P (cached_does k c (t, cache)))
      → ((number ≡ 0 → ⊥) → P (ended number (t, cache) (answer_refused (λ answer. answer) (access c) number))) → P (on_cached c (t, cache))
  by_refusal P does refuses =
      by_test (eqb number 0)
      (λ z. let e = eqb-true number 0 z in rw (cached_taken c t cache e) (does e))
      (λ z. let n = eqb-false number 0 z in rw (cached_refused c t cache number refl n) (refuses n))

  -- the cache's length, of an access that is not refused
  right_size : number ≡ 0 → length cache ≡ 2048
  right_size z =
      by_test (eqb (length cache) 2048) (λ e. eqb-true (length cache) 2048 e)
      (λ e. absurd (let q : ◌≡◌ {A = ℕ} 11 0 = sym (wrong_refusal c t cache (length t) (length cache) (eqb-false (length cache) 2048 e)) ∙ z in omega arith))

  -- past its rules it is not refused by them
  past_number : PastRules (on_cached c (t, cache)).number → number ≡ 0
  unfolding cached_refusal
  past_number =
      by_refusal (λ e. PastRules e.number → number ≡ 0) (λ z p. z)
      (λ n p. kept_none own (past_kept own (eleven, numbered (fed (access c)) (length t)) p))
    where
      own : List (Bool × ℕ)
      own = (not (eqb (length cache) 2048), 11) ∷ rules (fed (access c)) (length t)

  any_past : PastRules (on_cached c (t, cache)).number ↔ (AccessGood c (length t) × (length cache ≡ 2048))
  unfolding cached_does
  any_past = (
    (λ p.
        let z = past_number p in
        let size = right_size z in
        ((access_decides c (length t)).0 (sym (right_refusal c t cache (length t) (length cache) size) ∙ z), size)),
    (λ (good, size).
        let z = right_refusal c t cache (length t) (length cache) size ∙ (access_decides c (length t)).1 good in
        rw (cached_taken c t cache z) (whole_past c (cached_search k c.kind t cache) (cached_place k c.kind t cache))),
  )

  any_parts : PastRules (on_cached c (t, cache)).number → (on_cached c (t, cache)).answer ≡ access_answer (operand_answer c.address c.length (answered_by c t cache) (shown_by c t cache))
  unfolding cached_does
  any_parts p = rw (cached_taken c t cache (past_number p))

  any_hit : (second : Bool) (wanted : Wanted) (first word : ℕ) → PartHeld c t cache second wanted first word
      → let outcome = after_search c.kind wanted.key (At word) in
      let group = group_number (10 + k) (eqb (bits 25 25 first) 1) (wanted_page wanted) in
      (answered_by c t cache second ≡ answer_of c.kind (start_of c second) outcome)
      × (shown_by c t cache second ≡ decision_of (record { key = wanted.key; group = group; entry = 8 }) outcome)
  unfolding outcome_of cached_search cached_place
  any_hit second wanted first word h = (rw (h.wants, h.held), rw (h.wants, h.held))

  any_left : ((on_cached c (t, cache)).number ≡ 0 → ⊥) → (on_cached c (t, cache)).state ≡ (t, cache)
  unfolding cached_does
  any_left =
      by_refusal (λ e. (e.number ≡ 0 → ⊥) → e.state ≡ (t, cache)) (λ z n. both_kept k c (t, cache) _ (λ second left has. idle_part k c (t, cache) _ second left n)) (λ n m. refl)

  any_hits : ((second : Bool) → HasPart c t second → goes_to_table c t cache second ≡ false) → (on_cached c (t, cache)).state ≡ (t, cache)
  unfolding cached_does
  any_hits stays =
      by_refusal (λ e. e.state ≡ (t, cache)) (λ z. both_kept k c (t, cache) _ (λ second left has. kept_part k c t cache _ second left (stays second has))) (λ n. refl)

  any_answer : (on_cached c (t, cache)).number ≡ 11 → (on_cached c (t, cache)).answer ≡ c.answer
  unfolding cached_does answer_refused refused_bytes
  any_answer =
      by_refusal (λ e. e.number ≡ 11 → e.answer ≡ c.answer)
      (λ z e. absurd ((whole_past c (cached_search k c.kind t cache) (cached_place k c.kind t cache)).not_11 e)) (λ n e. rw e)

  any_zeros : ((on_cached c (t, cache)).number ≡ 0 → ⊥) → ((on_cached c (t, cache)).number ≡ 64 → ⊥) → ((on_cached c (t, cache)).number ≡ 65 → ⊥)
      → ((on_cached c (t, cache)).number ≡ 11 → ⊥) → (on_cached c (t, cache)).answer ≡ bytes_of ((on_cached c (t, cache)).number ∷ replicate 11 0)
  unfolding cached_does answer_refused refused_bytes
  any_zeros =
      by_refusal (λ e. (e.number ≡ 0 → ⊥) → (e.number ≡ 64 → ⊥) → (e.number ≡ 65 → ⊥) → (e.number ≡ 11 → ⊥) → e.answer ≡ bytes_of (e.number ∷ replicate 11 0))
      (λ z d i f l. whole_zeros c (cached_search k c.kind t cache) (cached_place k c.kind t cache) d i f) (λ n d i f l. rw (ne_eqb number 11 l))

  any_misses : length cache ≡ 2048 → ((second : Bool) → HasPart c t second → is_hit c t cache (early_of c second) ≡ false)
      → ((on_cached c (t, cache)).number ≡ (on_bytes (access c) t).number) × ((on_cached c (t, cache)).answer ≡ (on_bytes (access c) t).answer)
      × ((on_cached c (t, cache)).state.0 ≡ (on_bytes (access c) t).state)
  unfolding cached_does bytes_do
  any_misses size none-hit =
      let same = right_refusal c t cache (length t) (length cache) size in
      let whole = plain_whole_law none-hit in
      by_refusal (λ e. (e.number ≡ (on_bytes (access c) t).number) × (e.answer ≡ (on_bytes (access c) t).answer) × (e.state.0 ≡ (on_bytes (access c) t).state))
      (λ z.
      rw (taken (access c) t (sym same ∙ z))
      (ap (λ (a : OperandAnswer). a.part.result) whole, ap access_answer whole, plain_left _ none-hit ∙ ap (λ (a : OperandAnswer). each_part c (λ second. marked_by k c.kind (early_of c second) a.part.result) t) whole))
      (λ n. rw (refused (access c) t number (sym same) n) (refl, refl, refl))

  -- ---- what is loaded

  any_others : (i : ℕ) → ((wanted : Wanted) → FromTable c t cache wanted → set_of wanted.index ≡ i / 32 → ⊥) → get_or (on_cached c (t, cache)).state.1 i 0 ≡ get_or cache i 0
  unfolding cached_does
  any_others i apart =
      by_refusal (λ e. get_or e.state.1 i 0 ≡ get_or cache i 0)
      (λ z. bytes_left k c t cache _ i (λ second has wanted g e. apart wanted (record { second = second; has = has; wants = e; no_hit = missing k c t cache second wanted e g }))) (λ n. refl)

  module _ (bytes : (i : ℕ) → get_or t i 0 < 2 ^ 8) (zero : (on_cached c (t, cache)).number ≡ 0) where
    not_refused : number ≡ 0
    not_refused = by_refusal (λ e. e.number ≡ 0 → number ≡ 0) (λ z d. z) (λ n d. absurd (n d)) zero

    size : length cache ≡ 2048
    size = right_size not_refused

    good : GoodTable k t
    good = good_table (access c) t (record { not_refused = sym (right_refusal c t cache (length t) (length cache) size) ∙ not_refused; bytes = bytes })

    any_loads : (wanted : Wanted) → FromTable c t cache wanted → IsLoaded c t cache (wanted_page wanted)
    unfolding cached_does
    any_loads wanted from =
        let is = cached_taken c t cache not_refused in
        let zero-there : (whole_answer c (cached_search k c.kind t cache) (cached_place k c.kind t cache)).part.result ≡ 0
        = ap (λ (e : Ended (List ℕ × List ℕ)). e.number) (sym is) ∙ zero in
        let left = each_part c (taken_part k c (t, cache) 0) (t, cache) in
        let s = pages_stand k c t cache good size zero-there from.second from.has wanted (going k c t cache from.second wanted from.wants from.no_hit) from.wants in
        record { hits = rw (is, zero-there) (stands_first k cache left wanted s); placed = rw (is, zero-there) s.placed }

-- ---- an invalidate

module _ (index : ℕ) (cache : List ℕ) where
  abbrev refusing : ℕ
  refusing = invalidate_refusal index (length cache)

  invalidate_left : ((invalidate_call index cache).0 ≡ 0 → ⊥) → (invalidate_call index cache).1 ≡ cache
  unfolding invalidate_call
  invalidate_left n = rw (ne_eqb refusing 0 n)

  invalidate_where : ((invalidate_call index cache).0 ≡ 0) ↔ ((length cache ≡ 2048) × (index < 65536))
  unfolding invalidate_call invalidate_refusal
  invalidate_where = (
    (λ z.
        let (long, (small, end)) = none_kept own (eleven, (low 6 refl refl, tt)) z in
        (eqb-true (length cache) 2048 (not-false (eqb (length cache) 2048) long), ltb-true index 65536 (not-false (ltb index 65536) small))),
    (λ (long, small). rw (eq-eqb (length cache) 2048 long, lt-ltb index 65536 small)),
  )
    where
      own : List (Bool × ℕ)
      own = (not (eqb (length cache) 2048), 11) ∷ (not (ltb index 65536), 6) ∷ []

  -- the cache that one leaves that is done, and its length
  module _ (z : (invalidate_call index cache).0 ≡ 0) where
    right_length : length cache ≡ 2048
    right_length = (invalidate_where.0 z).0

    invalidate_done : (invalidate_call index cache).1 ≡ set_zeroed index cache
    unfolding invalidate_call
    invalidate_done = rw (eq-eqb refusing 0 z)

    invalidate_zeroes : (i : ℕ) → set_of index ≡ i / 32 → get_or (invalidate_call index cache).1 i 0 ≡ 0
    invalidate_zeroes i same = rw invalidate_done (zeroed_in index cache i right_length same)

    invalidate_empties : (page : Page) → set_of page.index ≡ set_of index → (storing : Bool) → hit storing (invalidate_call index cache).1 page ≡ none
    invalidate_empties page same storing = rw invalidate_done (zeroed_none index cache page right_length (sym same) storing)

  -- of one that is done or not
  invalidate_by : (P : List ℕ → Type 0) → P cache → P (set_zeroed index cache) → P (invalidate_call index cache).1
  unfolding invalidate_call
  invalidate_by P left zeroed = by_test (eqb refusing 0) (λ z. rw z zeroed) (λ z. rw z left)

  invalidate_others : (i : ℕ) → (set_of index ≡ i / 32 → ⊥) → get_or (invalidate_call index cache).1 i 0 ≡ get_or cache i 0
  invalidate_others i apart = invalidate_by (λ (d : List ℕ). get_or d i 0 ≡ get_or cache i 0) refl (zeroed_out index cache i apart)

  invalidate_spares : (page : Page) → (set_of page.index ≡ set_of index → ⊥) → (storing : Bool) → hit storing (invalidate_call index cache).1 page ≡ hit storing cache page
  invalidate_spares page apart storing =
      invalidate_by (λ (d : List ℕ). hit storing d page ≡ hit storing cache page) refl (zeroed_apart index cache page (λ same. apart (sym same)) storing)

pub calls_on_any_cache : CallsOnAnyCache
calls_on_any_cache = record {
  accesses = λ c t cache. record {
    past = any_past c t cache;
    by_parts = any_parts c t cache;
    hit_answers = any_hit c t cache;
    left = any_left c t cache;
    answer = any_answer c t cache;
    zeros = any_zeros c t cache;
    hits = any_hits c t cache;
    misses = any_misses c t cache;
    loads = any_loads c t cache;
    others = any_others c t cache;
  };
  invalidates = λ index cache. record {
    done_where = invalidate_where index cache;
    left = invalidate_left index cache;
    zeroes = invalidate_zeroes index cache;
    others = invalidate_others index cache;
    empties = invalidate_empties index cache;
    spares = invalidate_spares index cache;
  };
}
