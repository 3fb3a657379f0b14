-- Every row of the tables of groups holds: both sides compute to the same.
use mathlib.Core.Path.{refl}
use Rattle.groups.specs.Examples.{GroupsTables}
use Rattle.groups.proofs.Computes.{groups_compute}

pub groups_tables : GroupsTables
unfolding groups_compute
groups_tables = record {
  hashes = record { equal = refl };
  case_1 = record { equal = refl };
  same_group = refl;
  groups = record { equal = refl };
  both_groups_rows = record { equal = refl };
  hash_bits_rows = record { equal = refl };
  pages = record { equal = refl };
  free_places = record { equal = refl };
  free_entries = record { equal = refl };
  stored = record { equal = refl };
  words = record { equal = refl };
}
