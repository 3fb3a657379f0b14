-- What an access with a cache does to any table and any cache, whoever wrote them (request 7), and that a refusal leaves what was lent (demand 1).
use Rattle.std.specs.Prelude.{ℕ, ◌+◌, ◌/◌, ◌^◌, ◌<◌, Bool, false, List, ◌∷◌, ◌↔◌, ◌≡◌, eqb, length, get_or, replicate}
use Rattle.std.proofs.Math.Option.{none, some}
use Rattle.numbers.specs.Numbers.{done, data_storage_fault, instruction_storage_fault, refused_lent_length}
use Rattle.words.specs.Bits.{bits}
use Rattle.words.specs.Words.{bytes_of}
use Rattle.groups.specs.declared.Page.{Page}
use Rattle.groups.specs.Hash.{group_number}
use Rattle.protection.specs.Access.{storing}
use Rattle.translation.specs.Steps.{after_search, answer_of}
use Rattle.translation.specs.Decision.{decision_of}
use Rattle.translation.specs.Operand.{operand_answer}
use Rattle.translation.specs.declared.Answer.{Answer}
use Rattle.translation.specs.declared.decision.Decision.{Decision}
use Rattle.translation.specs.declared.Early.TheVariants.{Search}
use Rattle.translation.specs.declared.Searched.TheVariants.{At}
use Rattle.translation.specs.declared.Wanted.{Wanted}
use Rattle.cache.specs.Cache.{cache_size, set_of, hit, load_place}
use Rattle.cache.specs.Placed.{Placed}
use Rattle.theory_calls.specs.Request.{AccessCall, access}
use Rattle.theory_calls.specs.Answers.{access_answer}
use Rattle.theory_calls.specs.OnBytes.{Ended, start_of, early_of, part_answer, part_decision, on_bytes, wanted_page}
use Rattle.theory_calls.specs.Arguments.{PastRules, AccessGood}
use Rattle.theory_calls.specs.AnyTable.{first_here, second_here, FirstMatch, HasPart}
use Rattle.theory_cache.specs.Cached.{cached_search, cached_place, missed, on_cached, invalidate_call}
use Rattle.theory_cache.specs.Shown.{mask, is_hit}

module _ (c : AccessCall (List ℕ)) (table cache : List ℕ) where
  abbrev pub finished : Ended (List ℕ × List ℕ)
  finished = on_cached c (table, cache)

  -- that part goes to the table, as step 4 does
  abbrev pub goes_to_table : Bool → Bool
  goes_to_table second = missed (mask c table cache) c.kind table cache (early_of c second)

  -- a page that a part of the operand takes from the table: it is wanted at step 4, and is no hit
  pub record FromTable (wanted : Wanted) : Type 0 where
    pub second : Bool
    pub has : HasPart c table second
    pub wants : early_of c second ≡ Search wanted
    pub no_hit : hit (storing c.kind) cache (wanted_page wanted) ≡ none

  -- a page is loaded into the cache that is left
  pub record IsLoaded (page : Page) : Type 0 where
    -- a load hits it, and meets the words of its first match as they stand in the table that is left
    pub hits :
        let t = finished.state.0 in
        let k = mask c table cache in
        (b : Bool) × (i : ℕ) × FirstMatch k t page b i × (hit false finished.state.1 page ≡ some (first_here k t page b i, second_here k t page b i))
    -- it is in the place that held it, else in the older load's, and nothing else of its set is changed
    pub placed : Placed page (load_place cache page) cache finished.state.1

  -- what that part answers by itself, and what decided it
  abbrev pub answered_by : Bool → Answer
  answered_by second = part_answer c (cached_search (mask c table cache) c.kind table cache) second

  abbrev pub shown_by : Bool → Decision
  shown_by second = part_decision c (cached_search (mask c table cache) c.kind table cache) (cached_place (mask c table cache) c.kind table cache) second

  -- that part is a hit: its page is wanted at step 4, and the cache holds it with these two words
  pub record PartHeld (second : Bool) (wanted : Wanted) (first word : ℕ) : Type 0 where
    pub wants : early_of c second ≡ Search wanted
    pub held : hit (storing c.kind) cache (wanted_page wanted) ≡ some (first, word)

  pub record AccessOnAnyCache : Type 0 where
    -- none of the refusals before the search is given exactly where an access without a cache gives none and the cache has its length
    pub past : PastRules finished.number ↔ (AccessGood c (length table) × (length cache ≡ 2048))
    -- then the parts answer for the operand as they do without a cache
    pub by_parts : PastRules finished.number → finished.answer ≡ access_answer (operand_answer c.address c.length answered_by shown_by)
    -- a part that is a hit answers by the second word that was loaded, and shows the group that the loaded H names, and 8
    pub hit_answers : (second : Bool) (wanted : Wanted) (first word : ℕ) → PartHeld second wanted first word
        → let outcome = after_search c.kind wanted.key (At word) in
        let group = group_number (10 + mask c table cache) (eqb (bits 25 25 first) 1) (wanted_page wanted) in
        (answered_by second ≡ answer_of c.kind (start_of c second) outcome)
        × (shown_by second ≡ decision_of (record { key = wanted.key; group = group; entry = 8 }) outcome)
    -- an access that is not done, a fault among them, leaves table and cache
    pub left : (finished.number ≡ done → ⊥) → finished.state ≡ (table, cache)
    -- a refused length leaves the answer; any other refusal answers its number and zero words
    pub answer : finished.number ≡ refused_lent_length → finished.answer ≡ c.answer
    pub zeros : (finished.number ≡ done → ⊥) → (finished.number ≡ data_storage_fault → ⊥) → (finished.number ≡ instruction_storage_fault → ⊥)
        → (finished.number ≡ refused_lent_length → ⊥) → finished.answer ≡ bytes_of (finished.number ∷ replicate 11 0)
    -- a hit reads and writes no byte of the table and writes none of the cache: where no part goes to the table both are left
    pub hits : ((second : Bool) → HasPart c table second → goes_to_table second ≡ false) → finished.state ≡ (table, cache)
    -- where no part is a hit, it is the access without a cache
    pub misses : length cache ≡ cache_size → ((second : Bool) → HasPart c table second → is_hit c table cache (early_of c second) ≡ false)
        → (finished.number ≡ (on_bytes (access c) table).number) × (finished.answer ≡ (on_bytes (access c) table).answer)
        × (finished.state.0 ≡ (on_bytes (access c) table).state)
    -- each page that a done access took from a table of bytes is loaded
    pub loads : ((i : ℕ) → get_or table i 0 < 2 ^ 8) → finished.number ≡ done → (wanted : Wanted) → FromTable wanted → IsLoaded (wanted_page wanted)
    -- and nothing else: the bytes of every set but theirs are left
    pub others : (i : ℕ) → ((wanted : Wanted) → FromTable wanted → set_of wanted.index ≡ i / 32 → ⊥) → get_or finished.state.1 i 0 ≡ get_or cache i 0

module _ (index : ℕ) (cache : List ℕ) where
  abbrev pub invalidated : ℕ × List ℕ
  invalidated = invalidate_call index cache

  pub record InvalidateOnAnyCache : Type 0 where
    -- an invalidate is done exactly where the cache has its length and the page index is below 65,536
    pub done_where : (invalidated.0 ≡ done) ↔ ((length cache ≡ 2048) × (index < 65536))
    -- an invalidate that is refused leaves the cache
    pub left : (invalidated.0 ≡ done → ⊥) → invalidated.1 ≡ cache
    -- one that is done zeroes the bytes of its page index's set
    pub zeroes : invalidated.0 ≡ done → (i : ℕ) → set_of index ≡ i / 32 → get_or invalidated.1 i 0 ≡ 0
    -- and no others
    pub others : (i : ℕ) → (set_of index ≡ i / 32 → ⊥) → get_or invalidated.1 i 0 ≡ get_or cache i 0
    -- so no page of that set is a hit
    pub empties : invalidated.0 ≡ done → (page : Page) → set_of page.index ≡ set_of index → (storing : Bool) → hit storing invalidated.1 page ≡ none
    -- and every other page is one as before
    pub spares : (page : Page) → (set_of page.index ≡ set_of index → ⊥) → (storing : Bool) → hit storing invalidated.1 page ≡ hit storing cache page

pub record CallsOnAnyCache : Type 0 where
  pub accesses : (c : AccessCall (List ℕ)) (table cache : List ℕ) → AccessOnAnyCache c table cache
  pub invalidates : (index : ℕ) (cache : List ℕ) → InvalidateOnAnyCache index cache
