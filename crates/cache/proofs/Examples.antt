-- Every row of the tables of the cache holds: both sides compute to the same.
use mathlib.Core.Path.{refl}
use Rattle.cache.specs.Examples.{CacheTables}
use Rattle.cache.proofs.Computes.{cache_computes}

pub cache_tables : CacheTables
unfolding cache_computes
cache_tables = record {
  sets = record { equal = refl };
  loads = record { equal = refl };
  bytes = record { equal = refl };
  replaces = record { equal = refl };
  replaced = record { equal = refl };
  reloaded = record { equal = refl };
  older = record { equal = refl };
  hits = record { equal = refl };
  stores = record { equal = refl };
  both = record { equal = refl };
  tags = record { equal = refl };
  indexes = record { equal = refl };
  answers = record { equal = refl };
  zeroed = record { equal = refl };
}
