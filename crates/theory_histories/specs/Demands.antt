-- The demands, each with its statement, and the rows that pin what the statements are made of.
use Rattle.theory_placement.specs.Examples.{PlacementTables}
use Rattle.theory_tables.specs.FourGroups.{FourGroupsTables}
use Rattle.groups.specs.Examples.{GroupsTables}
use Rattle.matches.specs.Examples.{MatchesTables}
use Rattle.match_edits.specs.Examples.{EditsTables}
use Rattle.cache.specs.Examples.{CacheTables}
use Rattle.theory_calls.specs.Refusals.{RefusalsLeave}
use Rattle.theory_calls.specs.Arguments.{ArgumentsDecide}
use Rattle.theory_calls.specs.AnyTable.{CallsOnAnyTable, AccessStated}
use Rattle.theory_calls.specs.Widened.{PagesWiden}
use Rattle.theory_calls.specs.Examples.{WithoutTableTables}
use Rattle.theory_calls.specs.PageRows.{PageRows}
use Rattle.theory_calls.specs.OperandRows.{OperandRows}
use Rattle.theory_cache.specs.AnyCache.{CallsOnAnyCache}
use Rattle.theory_cache.specs.Rows.{CachedRows}
use Rattle.access_rights.specs.Stated.{RightsStated}
use Rattle.theory_histories.specs.Theorem.{TableRefinesMap, AccessFollowsHistory, RightsFollowHistory}
use Rattle.theory_histories.specs.Invisible.{CacheInvisible}
use Rattle.theory_histories.specs.Rows.{SliceRows, WaitingRows}
use Rattle.theory_histories.specs.Instances.{InstanceRows}

pub record Demands : Type 0 where
  -- 1: a refusal leaves what was lent; of calls with a cache that stands in what they do to any
  pub refusals : RefusalsLeave
  -- exactly when none of the refusals before the search is given
  pub arguments : ArgumentsDecide
  -- 2: each access gives the address, attributes and marks, or the fault, of the rules
  pub accesses : AccessStated
  -- 3: over every history after a first clear that was done, the table answers as the finite map; and what that means for a page
  pub histories : TableRefinesMap
  pub pages : AccessFollowsHistory
  -- over every disciplined list nobody can tell the cache from none
  pub invisible : CacheInvisible
  -- what each call does to any table and any cache, whoever wrote them
  pub any_table : CallsOnAnyTable
  pub any_cache : CallsOnAnyCache
  -- what is told of three accesses, on any table and after a history
  pub rights : RightsStated
  pub rights_follow : RightsFollowHistory
  -- a short register page answers as the same page widened
  pub register_pages : PagesWiden
  -- rows; those of numbers, words, entries, registers and the steps of an access stand in 2, those of rights in what is stated of them
  pub maps : PlacementTables
  pub small_tables : FourGroupsTables
  pub groups : GroupsTables
  pub matches : MatchesTables
  pub edits : EditsTables
  pub cache : CacheTables
  pub without_table : WithoutTableTables
  pub page_calls : PageRows
  pub operands : OperandRows
  pub cached_calls : CachedRows
  pub slices : SliceRows
  pub waiting : WaitingRows
  -- what the statements assume is met
  pub instances : InstanceRows
