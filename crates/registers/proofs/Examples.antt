-- Every row of the tables of the register set holds: both sides compute to the same.
use mathlib.Core.Path.{refl}
use Rattle.registers.specs.Examples.{RegistersTables}
use Rattle.registers.proofs.Computes.{registers_compute}

pub registers_tables : RegistersTables
unfolding registers_compute
registers_tables = record {
  places = record { equal = refl };
  long_places = record { equal = refl };
  limits = record { equal = refl };
  widened_rows = record { equal = refl };
  check_rows = record { equal = refl };
  covering_rows = record { equal = refl };
  long_rows = record { equal = refl };
  replacing_rows = record { equal = refl };
}
