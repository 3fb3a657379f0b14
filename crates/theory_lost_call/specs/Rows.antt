-- Readings of request 8 that are false, each by a run on the finite map: a run, and the same run without the calls that were lost. Each closes by
-- computation. Under SDR1 0 the pages here have primary group 0, so sixteen of them are as many as their pair of groups takes.
use Rattle.std.specs.Prelude.{ℕ, ◌*◌, ◌/◌, List, [], ◌∷◌, ◌++◌, map, replicate}
use Rattle.numbers.specs.Numbers.{answer_size}
use Rattle.words.specs.Rows.{Hold}
use Rattle.theory_tables.specs.Runs.{after}
use Rattle.groups.specs.declared.Page.{Page}
use Rattle.theory_calls.specs.Made.{to_map, to_unmap}
use Rattle.theory_calls.specs.OnMap.{PageFields}
use Rattle.theory_histories.specs.Calls.{Call, slices, plain}
use Rattle.theory_histories.specs.Fed.{fed_of, map_step}
use Rattle.theory_histories.specs.Histories.{own_call}

-- page i of the pair, its map to a frame, and its unmap
abbrev pub page_number : ℕ → Page
page_number i = record { vsid = 0; index = 1024 * i }

abbrev pub map_to : ℕ → ℕ → Call
map_to frame i = own_call (plain (to_map 0 (page_number i) frame 0 2))

abbrev pub unmap_it : ℕ → Call
unmap_it i = own_call (plain (to_unmap 0 (page_number i) (replicate answer_size 0)))

-- the pages that are mapped after a run, the newest first, each with its frame
abbrev pub mapped_after : List Call → List (ℕ × ℕ)
mapped_after calls = map (λ (x : Page × PageFields). (x.0.index / 1024, x.1.frame)) (after map_step (map (fed_of (slices 65536 2048)) calls) [])

-- fifteen pages of the pair, in frame 1
abbrev pub fifteen : List Call
fifteen = map (map_to 1) (1 ∷ 2 ∷ 3 ∷ 4 ∷ 5 ∷ 6 ∷ 7 ∷ 8 ∷ 9 ∷ 10 ∷ 11 ∷ 12 ∷ 13 ∷ 14 ∷ 15 ∷ [])

abbrev pub in_frame1 : List (ℕ × ℕ)
in_frame1 = map (λ (i : ℕ). (i, 1)) (15 ∷ 14 ∷ 13 ∷ 12 ∷ 11 ∷ 10 ∷ 9 ∷ 8 ∷ 7 ∷ 6 ∷ 5 ∷ 4 ∷ 3 ∷ 2 ∷ 1 ∷ [])

pub record LostRows : Type 0 where
  -- at most one page in all: the lost map takes the last entry, and another page, which it kept out, is mapped without it: each run has one more
  pub not_one_in_all : Hold (
      (mapped_after (fifteen ++ map_to 1 20 ∷ map_to 1 21 ∷ []), (20, 1) ∷ in_frame1)
      ∷ (mapped_after (fifteen ++ map_to 1 21 ∷ []), (21, 1) ∷ in_frame1)
      ∷ []
      )
  -- at most none: a lost map, and a lost unmap
  pub not_none : Hold (
      (mapped_after (map_to 1 1 ∷ []), (1, 1) ∷ [])
      ∷ (mapped_after [], [])
      ∷ (mapped_after (map_to 1 1 ∷ unmap_it 1 ∷ []), [])
      ∷ []
      )
  -- equal fields of common pages: without the unmap that was lost a later map of the page is refused, and the old frame stays
  pub not_equal_fields : Hold (
      (mapped_after (map_to 7 1 ∷ unmap_it 1 ∷ map_to 9 1 ∷ []), (1, 9) ∷ [])
      ∷ (mapped_after (map_to 7 1 ∷ map_to 9 1 ∷ []), (1, 7) ∷ [])
      ∷ []
      )
  -- aligned by the number of calls: after two calls each, two pages against none
  pub not_by_number : Hold (
      (mapped_after (map_to 1 1 ∷ map_to 1 2 ∷ []), (2, 1) ∷ (1, 1) ∷ [])
      ∷ (mapped_after (map_to 1 2 ∷ unmap_it 2 ∷ []), [])
      ∷ []
      )
  -- two lost calls: two pages
  pub not_two_calls : Hold (
      (mapped_after (map_to 1 3 ∷ map_to 1 1 ∷ map_to 1 2 ∷ []), (2, 1) ∷ (1, 1) ∷ (3, 1) ∷ [])
      ∷ (mapped_after (map_to 1 3 ∷ []), (3, 1) ∷ [])
      ∷ []
      )
