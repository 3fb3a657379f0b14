-- All demands together.
use Rattle.theory_placement.proofs.Examples.{placement_tables}
use Rattle.theory_tables.proofs.FourGroups.{four_groups_tables}
use Rattle.groups.proofs.Examples.{groups_tables}
use Rattle.matches.proofs.Examples.{matches_tables}
use Rattle.match_edits.proofs.Examples.{edits_tables}
use Rattle.cache.proofs.Examples.{cache_tables}
use Rattle.theory_calls.proofs.Refusals.{refusals_leave}
use Rattle.theory_calls.proofs.Arguments.{arguments_decide}
use Rattle.theory_calls.proofs.AnyTable.{calls_on_any_table, access_stated}
use Rattle.theory_calls.proofs.WidenedPages.{pages_widen}
use Rattle.theory_calls.proofs.Examples.{without_table_tables, page_rows, operand_rows}
use Rattle.theory_cache.proofs.AnyCache.{calls_on_any_cache}
use Rattle.theory_cache.proofs.Rows.{cached_rows}
use Rattle.access_rights.proofs.Stated.{rights_stated}
use Rattle.theory_histories.specs.Demands.{Demands}
use Rattle.theory_histories.proofs.Theorem.{table_refines_map, cache_invisible, rights_follow_history}
use Rattle.theory_histories.proofs.Corollaries.{access_follows_history}
use Rattle.theory_histories.proofs.Rows.{slice_rows, waiting_rows}
use Rattle.theory_histories.proofs.Instances.{instance_rows}

pub all_demands : Demands
all_demands = record {
  refusals = refusals_leave;
  arguments = arguments_decide;
  accesses = access_stated;
  histories = table_refines_map;
  pages = access_follows_history;
  invisible = cache_invisible;
  any_table = calls_on_any_table;
  any_cache = calls_on_any_cache;
  rights = rights_stated;
  rights_follow = rights_follow_history;
  register_pages = pages_widen;
  maps = placement_tables;
  small_tables = four_groups_tables;
  groups = groups_tables;
  matches = matches_tables;
  edits = edits_tables;
  cache = cache_tables;
  without_table = without_table_tables;
  page_calls = page_rows;
  operands = operand_rows;
  cached_calls = cached_rows;
  slices = slice_rows;
  waiting = waiting_rows;
  instances = instance_rows;
}
