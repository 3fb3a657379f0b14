-- Rows of lists of calls with a cache (request 7): the same list without the cache beside it, and the sets that wait for an invalidate. Each closes by
-- computation.
use Rattle.std.specs.Prelude.{ℕ, Bool, true, false, List, [], ◌∷◌, ◌++◌, map, eqb, replicate}
use Rattle.std.proofs.Math.Option.{Option, none, some}
use Rattle.numbers.specs.Numbers.{done}
use Rattle.words.specs.Rows.{Hold}
use Rattle.words.specs.Words.{bytes_of}
use Rattle.groups.specs.declared.Page.{Page}
use Rattle.theory_calls.specs.Request.{Request, access}
use Rattle.theory_calls.specs.Made.{to_clear, to_map, to_unmap, to_protect, to_look}
use Rattle.theory_calls.specs.OnBytes.{Ended}
use Rattle.theory_calls.specs.PageRows.{page_of}
use Rattle.theory_cache.specs.Rows.{load, store, place}
use Rattle.theory_histories.specs.Calls.{Asked, plain, cached, invalidate, slices, Call, State, calling, lengths_of, lent_lengths}
use Rattle.theory_histories.specs.Histories.{own_call}
use Rattle.theory_histories.specs.Discipline.{waiting_after, Invalidated, filled}
use Rattle.theory_histories.specs.Invisible.{without_cache, zero_cache, none_waits}

-- page 0x01E3 is of set 35 and has groups 0x1FF and 0x200
abbrev pub the_page : Page
the_page = page_of 0x0C701C 0x01E3

abbrev pub on : Request (List ℕ) → Call
on request = own_call (plain request)

abbrev pub clear_all : Call
clear_all = on (to_clear 0)

abbrev pub map_it : Call
map_it = on (to_map 0 the_page 0x12345 2 2)

abbrev pub unmap_it : Call
unmap_it = on (to_unmap 0 the_page (replicate 16 255))

abbrev pub protect_it : Call
protect_it = on (to_protect 0 the_page 3)

abbrev pub load_it : Call
load_it = own_call (cached (load 0x001E3123))

abbrev pub store_it : Call
store_it = own_call (cached (store 0x001E3123))

abbrev pub invalidate_set_of : ℕ → Call
invalidate_set_of index = own_call (invalidate index)

-- the table in which it is mapped alone, with this second word; and one without it
abbrev pub mapped : ℕ → List ℕ
mapped second = replicate 32704 0 ++ bytes_of (0x86380E00 ∷ second ∷ []) ++ replicate 32824 0

abbrev pub unmapped : List ℕ
unmapped = replicate 65536 0

-- table and cache after a store to it
abbrev pub stored : State
stored = slices (mapped 0x12345192) (replicate 1120 0 ++ bytes_of (place 0x86380E00 0x12345192 0x01E3 1) ++ replicate 912 0)

-- the result numbers of a list of calls, each made in the state that the one before left
abbrev pub numbers_from : List Call → Ended State → List ℕ
numbers_from [] e = e.number ∷ []
numbers_from (call ∷ calls) e = e.number ∷ numbers_from calls (calling call e.state)

-- of a list, and of the same list without the cache, which has 2,048 bytes
abbrev pub numbers : List Call → State → List ℕ × List ℕ
numbers [] s = ([], [])
numbers (call ∷ calls) s = (numbers_from calls (calling call s), numbers_from (map (without_cache 2048) calls) (calling (without_cache 2048 call) s))

-- a call that is lent other slices
abbrev pub lent : Option (List ℕ) → Option (List ℕ) → Asked (List ℕ) → Call
lent table cache asked = record { asked = asked; other = slices table cache }

-- an access with the cache is allowed by the discipline, where these sets wait
abbrev pub Allowed : Call → (ℕ → Bool) → Type 0
Allowed call waiting = Invalidated call (lent_lengths (lengths_of (slices unmapped zero_cache)) call) waiting

-- both lists answer these numbers
abbrev pub alike : List ℕ → List ℕ × List ℕ
alike stated = (stated, stated)

-- the sets that wait after a call on a table and a cache of zeros
abbrev pub waiting_behind : Call → List ℕ → (ℕ → Bool) → ℕ → Bool
waiting_behind call table = waiting_after call.asked call.other.cache (eqb (calling call (slices table zero_cache)).number done)

-- which of sets 35 and 63 wait after a call where none waited, and which of five where all did
abbrev pub waits : Call → List ℕ → List Bool
waits call table = map (waiting_behind call table none_waits) (35 ∷ 63 ∷ [])

abbrev pub still_waits : Call → List Bool
still_waits call = map (waiting_behind call unmapped (λ set. true)) (0 ∷ 34 ∷ 35 ∷ 36 ∷ 63 ∷ [])

abbrev pub no_set : List Bool
no_set = replicate 2 false

abbrev pub only35 : List Bool
only35 = true ∷ false ∷ []

abbrev pub both_sets : List Bool
both_sets = replicate 2 true

abbrev pub all_sets : List Bool
all_sets = replicate 5 true

abbrev pub all_but35 : List Bool
all_but35 = true ∷ true ∷ false ∷ true ∷ true ∷ []

-- Runs with a cache beside the same runs without, by their result numbers, of calls that are lent another slice.
pub record SliceRows : Type 0 where
  -- a slice in the place of the cache, or of the table: its length is refused in both runs (P7 a), and the own cache stays
  pub other_slices : Hold ((
    numbers (lent none (some []) (cached (load 0x001E3123)) ∷ lent (some []) none (cached (load 0x001E3123)) ∷ lent none (some []) (invalidate 0x01E3) ∷ load_it ∷ []) stored,
    alike (11 ∷ 1 ∷ 11 ∷ 0 ∷ []),
  )
      ∷ []
      )

-- Which sets wait for an invalidate.
pub record WaitingRows : Type 0 where
  -- the sets that wait: that of a done unmap's or protect's page, and every set after a done clear; none after a refused one, a map or an access
  pub waiting : Hold (
      (waits unmap_it (mapped 0x12345012), only35)
      ∷ (waits protect_it (mapped 0x12345012), only35)
      ∷ (waits clear_all unmapped, both_sets)
      ∷ (waits unmap_it unmapped, no_set)
      ∷ (waits clear_all (7 ∷ []), no_set)
      ∷ (waits map_it unmapped, no_set)
      ∷ (waits (on (to_look 0 the_page (replicate 16 255))) (mapped 0x12345012), no_set)
      ∷ (waits (on (access (load 0x001E3123))) (mapped 0x12345012), no_set)
      ∷ (waits load_it (mapped 0x12345012), no_set)
      ∷ []
      )
  -- a done invalidate ends the waiting of its own set; a refused one, one of another cache, and any other call, of none
  pub waiting_ends : Hold (
      (still_waits (invalidate_set_of 0x01E3), all_but35)
      ∷ (still_waits (invalidate_set_of 0x0223), all_but35)
      ∷ (still_waits (invalidate_set_of 0x000101E3), all_sets)
      ∷ (still_waits (lent none (some []) (invalidate 0x01E3)), all_sets)
      ∷ (still_waits (lent none (some zero_cache) (invalidate 0x01E3)), all_sets)
      ∷ (still_waits load_it, all_sets)
      ∷ (still_waits map_it, all_sets)
      ∷ []
      )
  -- an access with the cache is not allowed while a set waits, the first or the last; where none waits it is
  pub not_while_the_first_waits : Allowed load_it (λ set. eqb 0 set) → ⊥
  pub not_while_the_last_waits : Allowed load_it (λ set. eqb 63 set) → ⊥
  pub while_none_waits : Allowed load_it none_waits
  -- nor on another table, or another cache, of right length
  pub not_on_another_table : Allowed (lent (some unmapped) none (cached (load 0x001E3123))) none_waits → ⊥
  pub not_on_another_cache : Allowed (lent none (some zero_cache) (cached (load 0x001E3123))) none_waits → ⊥
  -- the sets of a cache that wait from the start: none of zeros, and of one with page 0x01E3 its set
  pub at_the_start : Hold ((map (filled zero_cache) (34 ∷ 35 ∷ []), no_set) ∷ (map (filled stored.cache) (34 ∷ 35 ∷ 36 ∷ []), false ∷ true ∷ false ∷ []) ∷ [])
