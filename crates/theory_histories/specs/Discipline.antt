-- The discipline of the cache along a list of calls (request 7): before an access with the cache each set that may be stale was invalidated. A list
-- without such accesses keeps it.
use Rattle.std.specs.Prelude.{ℕ, ◌+◌, ◌*◌, ◌<◌, Bool, true, false, not, ◌&&◌, ◌||◌, List, [], ◌∷◌, ◌≡◌, eqb, get_or}
use Rattle.std.proofs.Math.Option.{Option, none}
use Rattle.numbers.specs.Numbers.{done}
use Rattle.words.specs.Below.{every_below}
use Rattle.cache.specs.Cache.{set_of}
use Rattle.theory_calls.specs.Request.{AccessCall, Request, clear, map_page, unmap, protect, look, access}
use Rattle.theory_calls.specs.OnBytes.{by_option}
use Rattle.theory_histories.specs.Calls.{Asked, plain, cached, invalidate, rights, Slices, State, Call, calling, lengths_of, lent_lengths, refusal_of}

-- the sets that a request, when done, leaves to be invalidated: that of its page for unmap and protect, and every set for clear
abbrev pub leaves_stale : {A : Type 0} → Request A → ℕ → Bool
leaves_stale (clear c) set = true
leaves_stale (map_page c) set = false
leaves_stale (unmap c) set = eqb (set_of c.page.index) set
leaves_stale (protect c) set = eqb (set_of c.page.index) set
leaves_stale (look c) set = false
leaves_stale (access c) set = false

-- the sets that wait for an invalidate after a call that was done or not, by those that waited before it; an invalidate of another cache ends nothing
abbrev pub waiting_after : Asked (List ℕ) → (other_cache : Option (List ℕ)) → (isDone : Bool) → (ℕ → Bool) → ℕ → Bool
waiting_after (plain request) other isDone waiting set = waiting set || (leaves_stale request set && isDone)
waiting_after (cached c) other isDone waiting set = waiting set
waiting_after (invalidate index) other isDone waiting set = waiting set && not (eqb (set_of index) set && by_option other isDone (λ slice. false))
waiting_after (rights c answer) other isDone waiting set = waiting set

-- an access with the cache, unless it is refused by its arguments and lengths, is lent the list's own table and cache, and no set waits
abbrev pub Invalidated : Call → Slices ℕ → (ℕ → Bool) → Type 0
Invalidated c lent waiting =
    (a : AccessCall (List ℕ)) → c.asked ≡ cached a → refusal_of (cached a) lent ≡ 0
    → (c.other.table ≡ none) × (c.other.cache ≡ none) × ((set : ℕ) → set < 64 → waiting set ≡ false)

-- along a list of calls, where some sets wait
abbrev pub Disciplined : List Call → State → (ℕ → Bool) → Type 0
Disciplined [] s waiting = Unit {0}
Disciplined (c ∷ cs) s waiting =
    Invalidated c (lent_lengths (lengths_of s) c) waiting
    × Disciplined cs (calling c s).state (waiting_after c.asked c.other.cache (eqb (calling c s).number done) waiting)

-- the sets of a cache that are not zeros: they wait from the start
unfoldable pub filled : List ℕ → ℕ → Bool
filled cache set = not (every_below 32 (λ i. eqb (get_or cache (32 * set + i) 0) 0))
