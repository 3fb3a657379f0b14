-- Every row of calls with a cache holds: both sides compute to the same.
use mathlib.Core.Path.{refl}
use Rattle.theory_cache.specs.Rows.{CachedRows}
use Rattle.theory_cache.proofs.Computes.{cached_calls_compute}

pub cached_rows : CachedRows
unfolding cached_calls_compute
cached_rows = record {
  first_loads = record { equal = refl };
  second_load = record { equal = refl };
  bytes = record { equal = refl };
  replacements = record { equal = refl };
  hits = record { equal = refl };
  hits_do_not_age = record { equal = refl };
  stores = record { equal = refl };
  faults_load_nothing = record { equal = refl };
  before_the_cache = record { equal = refl };
  ages = record { equal = refl };
  empty_places = record { equal = refl };
  two_pages = record { equal = refl };
  two_segments_rows = record { equal = refl };
  two_pages_faults = record { equal = refl };
  secondary_groups = record { equal = refl };
  hit_faults = record { equal = refl };
  hides = record { equal = refl };
  tests = record { equal = refl };
  cache_lengths = record { equal = refl };
  refusals = record { equal = refl };
  whole_tables = record { equal = refl };
  invalidates = record { equal = refl };
}
