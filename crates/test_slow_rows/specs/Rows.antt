-- Lists of calls with a cache beside the same lists without, by their result numbers: where an invalidate is missing, they differ (P7). Each closes by computation.
use Rattle.std.specs.Prelude.{[], ◌∷◌, replicate}
use Rattle.words.specs.Rows.{Hold}
use Rattle.theory_histories.specs.Calls.{slices}
use Rattle.theory_histories.specs.Invisible.{zero_cache}
use Rattle.theory_histories.specs.Rows.{clear_all, map_it, unmap_it, protect_it, load_it, store_it, invalidate_set_of, unmapped, stored, numbers}

pub record RunRows : Type 0 where
  -- from a clear and zeros: an invalidate before the unmap with an access between (P7 e), and after it one of another set and one that is refused
  -- (P7 c): the page is done with the cache and a fault without. One of an index that is equal mod 64 makes the runs alike
  pub after_an_unmap : Hold ((
    numbers (
        clear_all ∷ map_it ∷ invalidate_set_of 0x01E3 ∷ load_it ∷ unmap_it ∷ invalidate_set_of 0x01E4 ∷ invalidate_set_of 0x000101E3 ∷ load_it
        ∷ invalidate_set_of 0x0223 ∷ load_it ∷ []
        ) (slices (replicate 65536 255) zero_cache),
    (0 ∷ 0 ∷ 0 ∷ 0 ∷ 0 ∷ 0 ∷ 6 ∷ 0 ∷ 0 ∷ 64 ∷ [], 0 ∷ 0 ∷ 0 ∷ 0 ∷ 0 ∷ 0 ∷ 6 ∷ 64 ∷ 0 ∷ 64 ∷ []),
  )
      ∷ []
      )
  -- from a page that a store loaded: after a protect to read-only a store hits by the entry as loaded, and is done with the cache alone, until the
  -- invalidate
  pub after_a_protect : Hold (
      (numbers (protect_it ∷ store_it ∷ invalidate_set_of 0x01E3 ∷ store_it ∷ []) stored, (0 ∷ 0 ∷ 0 ∷ 64 ∷ [], 0 ∷ 64 ∷ 0 ∷ 64 ∷ []))
      ∷ []
      )
  -- after a clear with no invalidate; and a cache that was not zeros (P7 f)
  pub other_runs : Hold (
      (numbers (clear_all ∷ load_it ∷ []) stored, (0 ∷ 0 ∷ [], 0 ∷ 64 ∷ []))
      ∷ (numbers (load_it ∷ []) (slices unmapped stored.cache), (0 ∷ [], 64 ∷ []))
      ∷ []
      )
