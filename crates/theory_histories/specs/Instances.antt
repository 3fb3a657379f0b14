-- Instances of what the statements assume, over every table of 65,536 bytes and every cache of 2,048: where a definition that they are made of cannot be met,
-- no row here holds.
use Rattle.std.specs.Prelude.{ℕ, zero, suc, ◌*◌, false, List, [], ◌∷◌, ◌++◌, ◌≡◌, replicate}
use Rattle.std.proofs.Math.Option.{none, some}
use Rattle.words.specs.Words.{with_word}
use Rattle.groups.specs.declared.Page.{Page}
use Rattle.theory_calls.specs.Request.{MapCall, Request, map_page}
use Rattle.theory_calls.specs.Made.{to_map, to_unmap}
use Rattle.theory_calls.specs.PageRows.{page_of}
use Rattle.theory_cache.specs.Rows.{registers, to_cached, load, store}
use Rattle.theory_histories.specs.Calls.{plain, cached, slices, State, Call, lengths_of}
use Rattle.theory_histories.specs.Histories.{own_call, History, CacheKept}
use Rattle.theory_histories.specs.Theorem.{mapped_to, ArrangedWith, MapInRange, Maps, TakesOut, DoneSince, Reaches}
use Rattle.theory_histories.specs.Rows.{on, clear_all, invalidate_set_of, lent}

-- ---- the calls

-- page i of segment 0 is of set i; its map, its unmap, and accesses to its first byte with the cache
abbrev pub page_at : ℕ → Page
page_at i = page_of 0x0C701C i

abbrev pub maps_at : ℕ → Request (List ℕ)
maps_at i = to_map 0 (page_at i) 0x12345 2 2

abbrev pub unmaps_at : ℕ → Request (List ℕ)
unmaps_at i = to_unmap 0 (page_at i) (replicate 16 0)

abbrev pub load_at : ℕ → Call
load_at i = own_call (cached (load (4096 * i)))

abbrev pub store_at : ℕ → Call
store_at i = own_call (cached (store (4096 * i)))

-- an invalidate of each set below n
abbrev pub invalidates_below : ℕ → List Call
invalidates_below zero = []
invalidates_below (suc n) = invalidate_set_of n ∷ invalidates_below n

-- two unmaps in a row, and their invalidates
abbrev pub unmapped_both : List Call
unmapped_both = on (unmaps_at 0) ∷ on (unmaps_at 1) ∷ invalidate_set_of 0 ∷ invalidate_set_of 1 ∷ []

-- a clear and its 64 invalidates, two maps, accesses, two unmaps, an access that is lent a slice of wrong length while sets wait, and one that is not
abbrev pub disciplined : List Call
disciplined =
    (clear_all ∷ lent (some []) none (cached (load 0)) ∷ invalidates_below 64)
    ++ (on (maps_at 0) ∷ on (maps_at 1) ∷ load_at 0 ∷ store_at 1 ∷ load_at 1 ∷ unmapped_both)
    ++ (load_at 0 ∷ [])

-- both of document 01's exceptions: calls that bring another SDR1 and are refused 11, by the length of an answer and of a cache; a slice of another length
-- in the table's place
abbrev pub exceptions : List Call
exceptions =
    on (to_unmap 0x00010000 (page_at 0) [])
    ∷ lent none (some []) (cached (to_cached (with_word registers 0 0x00010000) 1 1 0 1))
    ∷ lent (some []) none (plain (maps_at 0))
    ∷ on (maps_at 0)
    ∷ []

-- case 11: VSIDs 0, 0x400 .. 0x3C00, page 0, fill a pair of groups; and one page more
abbrev pub map_of : ℕ → MapCall
map_of i = record { sdr1 = 0; page = page_of (0x400 * i) 0; rpn = 0x12345; wimg = 2; pp = 2 }

abbrev pub maps_below : ℕ → List Call
maps_below zero = []
maps_below (suc n) = on (map_page (map_of n)) ∷ maps_below n

-- ---- what is met

-- a history of these calls under SDR1 0, on a table and a cache, of which this holds
pub record Met (calls : List Call) (Holds : History → Type 0) (s : State) : Type 0 where
  pub history : History
  pub its_sdr1 : history.sdr1 ≡ 0
  pub its_start : history.start ≡ s
  pub its_calls : history.calls ≡ calls
  pub holds : Holds history

abbrev pub OnEvery : List Call → (History → Type 0) → Type 0
OnEvery calls Holds = (s : State) → lengths_of s ≡ slices 65536 2048 → Met calls Holds s

pub record InstanceRows : Type 0 where
  -- histories, and the discipline of the cache
  pub disciplined_list : OnEvery disciplined CacheKept
  pub both_exceptions : OnEvery exceptions CacheKept
  -- a map in range of a page that is not mapped, where its pair of groups is full, and where an entry is left
  pub full_pair : OnEvery (maps_below 16)
      (λ h. MapInRange h (map_of 16) × (mapped_to h (map_of 16).page ≡ none) × (ArrangedWith h (map_of 16).page → ⊥))
  pub room_left : OnEvery [] (λ h. MapInRange h (map_of 16) × (mapped_to h (map_of 16).page ≡ none) × ArrangedWith h (map_of 16).page)
  -- a page that was unmapped, with another, and is reached with the cache; and one that was mapped
  pub unmapped_page : OnEvery (invalidates_below 64 ++ (on (maps_at 0) ∷ on (maps_at 1) ∷ unmapped_both))
      (λ h. DoneSince h (TakesOut (page_at 0)) (Maps (page_at 0)) × Reaches h (cached (load 0)) (load 0) false (page_at 0))
  pub mapped_page : OnEvery (invalidates_below 64 ++ (on (maps_at 0) ∷ []))
      (λ h. DoneSince h (λ request. request ≡ maps_at 0) (TakesOut (page_at 0)) × Reaches h (cached (load 0)) (load 0) false (page_at 0))
