-- Every row of the tables of protection and faults holds: both sides compute to the same.
use mathlib.Core.Path.{refl}
use Rattle.protection.specs.Examples.{ProtectionTables}
use Rattle.protection.proofs.Computes.{protection_computes}

pub protection_tables : ProtectionTables
unfolding protection_computes
protection_tables = record {
  privilege = record { equal = refl };
  relocation = record { equal = refl };
  sides = record { equal = refl };
  page_rights = record { equal = refl };
  block_rights = record { equal = refl };
  guards = record { equal = refl };
  faults = record { equal = refl };
}
