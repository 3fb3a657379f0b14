-- What an operand ends with is what the call does, with a cache and without one. A wrong length of the cache is refused first, and with a right one the
-- call refuses what an access without a cache refuses, and in the same words.
use mathlib.Core.Path.{◌≡◌, refl, sym, ap, ap₂, subst, ◌∙◌}
use mathlib.Core.Bool.{Bool, true, false, cond, ◌&&◌}
use mathlib.Core.List.{List}
use mathlib.Core.Option.{none}
use Prim.Native.Nat.{ℕ}
use native.Mathlib.Omega.{arith}
use lib.Dec.{eqb}
use lib.ListN.{length}
use borrow.Author.Tests.{eq-eqb, ne_eqb}
use Rattle.registers.specs.Rules.{first_broken}
use Rattle.register_words.specs.Sdr1.{mask_ones}
use Rattle.register_words.specs.Block.{bl_width}
use Rattle.registers.specs.Set.{is_page, is_long, block_pairs, sdr1_of, register_words, set_words}
use Rattle.groups.specs.declared.Page.{Page}
use Rattle.groups.specs.Hash.{TableOf}
use Rattle.theory_tables.specs.Layout.{matches_of}
use Rattle.protection.specs.Access.{storing, relocated}
use Rattle.translation.specs.Steps.{before_search, outcome_of, refused_answer, answer_of}
use Rattle.translation.specs.Decision.{decided, decision_of}
use Rattle.translation.specs.Operand.{over_edge, part_start, stopped, operand_answer}
use Rattle.translation.specs.declared.operand.OperandAnswer.{OperandAnswer}
use Rattle.translation.specs.declared.Outcome.TheVariants.{Real}
use Rattle.translation.specs.declared.Early.{Early}
use Rattle.translation.specs.declared.Early.TheVariants.{Decided, Search}
use Rattle.translation.specs.declared.Searched.{Searched}
use Rattle.translation.specs.declared.Wanted.{Wanted}
use Rattle.translation.proofs.Steps.{before_real}
use Rattle.cache.specs.Cache.{hit, loaded}
use Rattle.cache.proofs.None.{no_bytes, never_hit, never_loaded}
use Rattle.theory_calls.specs.Request.{AccessCall, access, sdr1_in, fed}
use Rattle.theory_calls.specs.Rules.{on_long_page, rules, refusal}
use Rattle.theory_calls.specs.Answers.{refused_bytes, access_answer, answer_refused}
use Rattle.theory_calls.specs.OnBytes.{Ended, ended, by_matches, layout, used_by, wanted_page, search_in, first_place_in, marked_by, bytes_do, on_bytes}
use Rattle.theory_calls.proofs.Access.{rules_then, then_kept, access_wrong_length, access_refused, access_taken}
use Rattle.theory_calls.proofs.AnyEntries.{by_matches_law}
use Rattle.theory_calls.proofs.OnBytes.{refused}
use Rattle.theory_calls.proofs.Pages.{told_by, each_part, sdr1_set, early_set}
use Rattle.theory_cache.specs.Cached.{cached_search, cached_place, missed, loaded_by, taken, taken_part, cached_does, cached_refusal, on_cached}
use Rattle.table_access.specs.Part.{call_of, part_early, whole_told, part_taken, left_at, Comes, EndsAs}
use Rattle.table_access.specs.declared.Access.{Access}
use Rattle.table_access.proofs.Finds.{search_table, place_table}

module _ (c : AccessCall (List ℕ)) (lent : List ℕ × List ℕ) where
  abbrev number : ℕ
  number = refusal (fed (access c)) (length lent.0)

  refused_is : (n : ℕ) → cached_refusal c (length lent.0) (length lent.1) ≡ n → (n ≡ 0 → ⊥)
      → on_cached c lent ≡ ended n lent (answer_refused (λ answer. answer) (access c) n)
  unfolding on_cached
  refused_is n e other = rw (e, ne_eqb n 0 other)

  pub cache_wrong_length : (length lent.1 ≡ 2048 → ⊥) → on_cached c lent ≡ ended 11 lent c.answer
  unfolding cached_refusal answer_refused refused_bytes
  cache_wrong_length wrong = refused_is 11 (rw (ne_eqb (length lent.1) 2048 wrong)) (λ z. omega arith)

  module _ (right : length lent.1 ≡ 2048) where
    number_is : cached_refusal c (length lent.0) (length lent.1) ≡ number
    unfolding cached_refusal refusal
    number_is = rw (eq-eqb (length lent.1) 2048 right)

    -- what the access without a cache answers where it is refused
    as_without : (n : ℕ) → number ≡ n → (n ≡ 0 → ⊥) → (answer : List ℕ) → on_bytes (access c) lent.0 ≡ ended n lent.0 answer → on_cached c lent ≡ ended n lent answer
    as_without n e other answer is =
        refused_is n (number_is ∙ e) other
        ∙ ap (λ (x : Ended (List ℕ)). ended n lent x.answer) (sym (refused (access c) lent.0 n e other) ∙ is)

    pub wrong_length : (is_page (length c.registers) && eqb (length c.answer) 48) ≡ false → on_cached c lent ≡ ended 11 lent c.answer
    unfolding refusal rules fed
    wrong_length w = as_without 11 (rw w) (λ z. omega arith) c.answer (access_wrong_length c lent.0 w)

    module _ (page : is_page (length c.registers) ≡ true) (answer_length : length c.answer ≡ 48) where
      abbrev rules_left : List (Bool × ℕ)
      rules_left = rules_then (block_pairs (on_long_page c)) (bl_width (on_long_page c)) (register_words c.registers) c.mode c.kind c.length (length lent.0)

      after_11 : number ≡ first_broken rules_left
      unfolding refusal rules fed
      after_11 = rw (page, answer_length)

      pub cached_refused : (n : ℕ) → n ≡ first_broken rules_left → (n ≡ 0 → ⊥)
          → on_cached c lent ≡ ended n lent (access_answer (stopped (refused_answer n) (decided 0 0)))
      cached_refused n e other = as_without n (after_11 ∙ sym e) other _ (access_refused c lent.0 page answer_length n e other)

      pub cached_taken : first_broken rules_left ≡ 0 → on_cached c lent ≡ cached_does (mask_ones (sdr1_of (register_words c.registers))) c lent
      unfolding on_cached sdr1_in
      cached_taken z = rw (number_is ∙ after_11 ∙ z)

-- ---- without a cache

module _ (asked : Access) (k : ℕ) (t d : List ℕ) (early : Bool → Early) (empty : length d ≡ 0) where
  abbrev kind : ℕ
  kind = asked.kind

  -- no page is a hit
  misses : (page : Page) → hit (storing kind) d page ≡ none
  misses page = ap (λ (c : List ℕ). hit (storing kind) c page) (no_bytes d empty) ∙ never_hit (storing kind) page

  stays : (page : Page) (first second : ℕ) → loaded page first second d ≡ d
  stays page first second = subst (λ (c : List ℕ). loaded page first second c ≡ c) (sym (no_bytes d empty)) (never_loaded page first second)

  -- so the search and the place are those of the table
  pub none_told : whole_told asked k (t, d) early ≡ told_by kind asked.address asked.length k t early
  none_told =
      let search : cached_search k kind t d ≡ search_in k t = λ j wanted. search_table k kind t d wanted (misses (wanted_page wanted)) j in
      let place : cached_place k kind t d ≡ first_place_in k t = λ j wanted. place_table k kind t d wanted (misses (wanted_page wanted)) j in
      ap₂ (λ (s : Wanted → Searched) (p : Wanted → ℕ × ℕ).
      operand_answer asked.address asked.length
      (λ second. answer_of kind (part_start asked.address asked.length second) (outcome_of kind s (early second)))
      (λ second. decision_of (used_by p (early second)) (outcome_of kind s (early second)))) search place

  -- and a part that is taken is marked
  taken_none : (e : Early) (result : ℕ) (u : List ℕ) → cond (missed k kind t d e) (taken k kind e result (u, d)) (u, d) ≡ (marked_by k kind e result u, d)
  unfolding missed taken marked_by loaded_by
  taken_none (Decided outcome) result u = refl
  taken_none (Search wanted) result u =
      rw (misses (wanted_page wanted)) (ap (λ (c : List ℕ). (marked_by k kind (Search wanted) result u, c)) (go (eqb result 0) (marked_by k kind (Search wanted) result u)))
    where
      go : (b : Bool) (v : List ℕ)
          → cond b (by_matches (matches_of (layout k) v (wanted_page wanted)) d (λ x xs. loaded (wanted_page wanted) x.first x.second d)) d ≡ d
      go false v = refl
      go true v = by_matches_law (matches_of (layout k) v (wanted_page wanted)) (λ e. rw e) (λ x xs e. rw e (stays (wanted_page wanted) x.first x.second))

  -- the table that the marks leave, and the cache as it was
  abbrev marked_left : ℕ → Bool → List ℕ × List ℕ
  marked_left result over =
      let mark : Bool → List ℕ → List ℕ = λ second u. marked_by k kind (early second) result u in
      (cond over (mark true (mark false t)) (mark false t), d)

  pub none_left : (result : ℕ) → left_at asked k (t, d) early result ≡ marked_left result (over_edge asked.address asked.length)
  none_left result =
      let first = taken_none (early false) result t in
      let u = marked_by k kind (early false) result t in
      let take : List ℕ × List ℕ → List ℕ × List ℕ = λ left. cond (missed k kind t d (early true)) (taken k kind (early true) result left) left in
      let both : take (part_taken asked k (t, d) early result false (t, d)) ≡ marked_left result true = ap take first ∙ taken_none (early true) result u in
      go (over_edge asked.address asked.length) first both
    where
      go : (b : Bool) → part_taken asked k (t, d) early result false (t, d) ≡ marked_left result false
          → part_taken asked k (t, d) early result true (part_taken asked k (t, d) early result false (t, d)) ≡ marked_left result true
          → cond b (part_taken asked k (t, d) early result true (part_taken asked k (t, d) early result false (t, d))) (part_taken asked k (t, d) early result false (t, d))
          ≡ marked_left result b
      go true one two = two
      go false one two = one

-- ---- in real mode

-- an operand that is not translated is told by itself, and leaves what was lent
pub real_comes : (words : List ℕ) (asked : Access) (k : ℕ) (lent : List ℕ × List ℕ) (told : OperandAnswer) → relocated asked.mode asked.kind ≡ false
    → told ≡ operand_answer asked.address asked.length (λ second. answer_of asked.kind (part_start asked.address asked.length second) Real)
    (λ second. decision_of (record { key = false; group = 0; entry = 0 }) Real)
    → Comes asked k lent (part_early words asked) told lent
unfolding outcome_of missed
real_comes words asked k lent told off is =
    let real : part_early words asked ≡ (λ second. Decided Real)
    = each_part (λ second. before_real 8 15 words asked.mode asked.kind (part_start asked.address asked.length second) off) in
    subst (λ (early : Bool → Early). Comes asked k lent early told lent) (sym real) (is, same (over_edge asked.address asked.length))
  where
    same : (over : Bool) → lent ≡ cond over lent lent
    same true = refl
    same false = refl

-- ---- what an operand ends with, by the register page's own limits

-- steps 1 to 3 of a part by these limits
abbrev own_early : List ℕ → Access → Bool → Early
own_early registers asked second =
    before_search (block_pairs (is_long (length registers))) (bl_width (is_long (length registers))) (register_words registers) asked.mode asked.kind
    (part_start asked.address asked.length second)

-- the rules after the lent lengths by these limits
abbrev pub own_rules : List ℕ → Access → ℕ → List (Bool × ℕ)
own_rules registers asked lent =
    rules_then (block_pairs (is_long (length registers))) (bl_width (is_long (length registers))) (register_words registers) asked.mode asked.kind asked.length lent

module _ (registers : List ℕ) (asked : Access) (lent : List ℕ × List ℕ) (page : is_page (length registers) ≡ true)
    (kept : first_broken (own_rules registers asked (length lent.0)) ≡ 0) where
  abbrev words : List ℕ
  words = set_words registers

  abbrev k : ℕ
  k = mask_ones (sdr1_of words)

  -- the page passed its check, and the table is that of its SDR1
  pub right_table : TableOf (sdr1_of words) (length lent.0)
  right_table =
      let all = then_kept (block_pairs (is_long (length registers))) (bl_width (is_long (length registers))) (register_words registers) asked.mode asked.kind asked.length (length lent.0) kept in
      subst (λ (s : ℕ). TableOf s (length lent.0)) (sym (sdr1_set registers page)) (record { shape = all.1; right = all.2 })

  own_early_law : part_early words asked ≡ own_early registers asked
  own_early_law =
      let all = then_kept (block_pairs (is_long (length registers))) (bl_width (is_long (length registers))) (register_words registers) asked.mode asked.kind asked.length (length lent.0) kept in
      each_part (λ second. early_set registers page all.3 asked.mode asked.kind (part_start asked.address asked.length second))

  module _ (r : ℕ) (left : List ℕ × List ℕ) (answer written : List ℕ) (size : length answer ≡ 48)
      (ends : EndsAs asked k lent (part_early words asked) r left written) where
    own_ends : EndsAs asked (mask_ones (sdr1_of (register_words registers))) lent (own_early registers asked) r left written
    own_ends =
        subst (λ (e : Bool → Early). EndsAs asked (mask_ones (sdr1_of (register_words registers))) lent e r left written) own_early_law
        (subst (λ (s : ℕ). EndsAs asked (mask_ones s) lent (part_early words asked) r left written) (sdr1_set registers page) ends)

    pub cached_ends : length lent.1 ≡ 2048 → ended r left written ≡ on_cached (call_of registers asked answer) lent
    unfolding cached_does taken_part
    cached_ends right =
        let (result, leaves, bytes) = own_ends in
        rw (result, leaves, bytes) (sym (cached_taken (call_of registers asked answer) lent right page size kept))

    pub uncached_ends : length lent.1 ≡ 0 → ended r left.0 written ≡ on_bytes (access (call_of registers asked answer)) lent.0
    unfolding bytes_do
    uncached_ends empty =
        let k = mask_ones (sdr1_of (register_words registers)) in
        let early = own_early registers asked in
        let t = lent.0 in
        let (result, leaves, bytes) = own_ends in
        let told = none_told asked k t lent.1 early empty in
        let left_is : left ≡ _ = leaves ∙ ap (λ (x : OperandAnswer). left_at asked k lent early x.part.result) told ∙ none_left asked k t lent.1 early empty _ in
        rw (result, bytes)
        (ap₂ (λ (x : OperandAnswer) (u : List ℕ). ended x.part.result u (access_answer x)) told (ap (λ (l : List ℕ × List ℕ). l.0) left_is)
        ∙ sym (access_taken (call_of registers asked answer) t page size kept))
