-- Request 7's statement: over every disciplined list of calls nobody can tell the cache from none.
use Rattle.std.specs.Prelude.{ℕ, Bool, false, cond, List, [], ◌∷◌, ◌≡◌, eqb, length, replicate}
use Rattle.words.specs.Words.{with_word}
use Rattle.theory_tables.specs.Runs.{run}
use Rattle.cache.specs.Cache.{cache_size}
use Rattle.theory_calls.specs.Request.{access}
use Rattle.theory_calls.specs.OnBytes.{by_option}
use Rattle.theory_calls.specs.Represents.{GoodTable}
use Rattle.theory_cache.specs.Cached.{hit_entry}
use Rattle.theory_cache.specs.Shown.{answered_by_hit}
use Rattle.theory_histories.specs.Calls.{Asked, plain, cached, invalidate, rights, slices, State, Call, calling, lent_to}
use Rattle.theory_histories.specs.Fed.{bytes_step, map_step}
use Rattle.theory_histories.specs.Discipline.{Disciplined, filled}
use Rattle.theory_histories.specs.Histories.{History, begun, fed_calls}

-- what is asked without the cache, by the length of what is lent as one: an access asks the table; where that length is refused, it stays as it is
unfoldable pub plainly : ℕ → Asked (List ℕ) → Asked (List ℕ)
plainly lent (plain request) = plain request
plainly lent (cached c) = cond (eqb lent cache_size) (plain (access c)) (cached c)
plainly lent (invalidate index) = invalidate index
plainly lent (rights c answer) = rights c answer

-- the same call without the cache, by the length of the list's own cache
abbrev pub without_cache : ℕ → Call → Call
without_cache own c = record { asked = plainly (by_option c.other.cache own length) c.asked; other = c.other }

-- an answer as a call with the cache gives it: the entry number, its last word, is 8 where a hit answers
unfoldable pub shown : Asked (List ℕ) → State → List ℕ → List ℕ
shown (plain request) lent answer = answer
shown (cached c) lent answer = cond (answered_by_hit c lent.table lent.cache) (with_word answer 44 hit_entry) answer
shown (invalidate index) lent answer = answer
shown (rights c told) lent answer = answer

-- the length of the list's own cache
module _ (own : ℕ) where
  -- a call is alike in both lists: result, table, and answer but for the entry number of a hit
  pub record Alike (c : Call) (s u : State) : Type 0 where
    pub number : (calling c s).number ≡ (calling (without_cache own c) u).number
    pub answer : (calling c s).answer ≡ shown c.asked (lent_to c s) (calling (without_cache own c) u).answer
    pub left : (calling c s).state.table ≡ (calling (without_cache own c) u).state.table

  -- every call of a list is
  abbrev pub AllAlike : List Call → State → State → Type 0
  AllAlike [] s u = Unit {0}
  AllAlike (c ∷ cs) s u = Alike c s u × AllAlike cs (calling c s).state (calling (without_cache own c) u).state

-- a cache of zeros, and no set that waits
abbrev pub zero_cache : List ℕ
zero_cache = replicate cache_size 0

abbrev pub none_waits : ℕ → Bool
none_waits set = false

pub record CacheInvisible : Type 0 where
  -- a disciplined list over any table of right length and any cache is alike, call by call, to the list without the cache
  pub alike : (k : ℕ) (s : State) → GoodTable k s.table → (calls : List Call) → Disciplined calls s (filled s.cache) → AllAlike (length s.cache) calls s s
  -- so it is where the cache begins as zeros
  pub from_zeros : (k : ℕ) (table : List ℕ) → GoodTable k table → (calls : List Call) → let s = slices table zero_cache in
      Disciplined calls s none_waits → AllAlike (length s.cache) calls s s
  -- and demand 3 holds of such a list after a first clear that was done
  pub answers_from_zeros : (h : History) → h.start.cache ≡ zero_cache → Disciplined h.calls (begun h) none_waits
      → run bytes_step h.calls (begun h) ≡ run map_step (fed_calls h) []
