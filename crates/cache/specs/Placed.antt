-- What a load of a page into a place does to the page's set, by the cache before it and the cache that it leaves.
use Rattle.std.specs.Prelude.{ℕ, Bool, true, not, List, ◌≡◌}
use Rattle.groups.specs.declared.Page.{Page}
use Rattle.cache.specs.Cache.{first_in, second_in, index_in, newer_in, holds}

pub record Placed (page : Page) (place : Bool) (cache left : List ℕ) : Type 0 where
  -- the place holds the page, and is the newer load
  pub there : holds left page place ≡ true
  pub newer : newer_in left page.index place ≡ 1
  -- the other place has the entry that it had, and is not
  pub first : first_in left page.index (not place) ≡ first_in cache page.index (not place)
  pub second : second_in left page.index (not place) ≡ second_in cache page.index (not place)
  pub index : index_in left page.index (not place) ≡ index_in cache page.index (not place)
  pub older : newer_in left page.index (not place) ≡ 0
