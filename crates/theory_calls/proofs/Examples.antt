-- Every row of the calls holds: both sides compute to the same.
use mathlib.Core.Path.{refl}
use Rattle.theory_calls.specs.Examples.{WithoutTableTables}
use Rattle.theory_calls.specs.PageRows.{PageRows}
use Rattle.theory_calls.specs.OperandRows.{OperandRows}
use Rattle.theory_calls.proofs.Computes.{calls_compute}

pub without_table_tables : WithoutTableTables
unfolding calls_compute
without_table_tables = record {
  check_rows = record { equal = refl };
  long_check_rows = record { equal = refl };
  set_rows = record { equal = refl };
  long_set_rows = record { equal = refl };
  pack_rows = record { equal = refl };
  unpack_rows = record { equal = refl };
}

pub page_rows : PageRows
unfolding calls_compute
page_rows = record {
  page_refusals = record { equal = refl };
  access_refusals = record { equal = refl };
  left_rows = record { equal = refl };
  compared_rows = record { equal = refl };
  look_rows = record { equal = refl };
  unmap_rows = record { equal = refl };
  protect_rows = record { equal = refl };
  map_rows = record { equal = refl };
  access_rows = record { equal = refl };
  long_access_rows = record { equal = refl };
  secondary_rows = record { equal = refl };
}

pub operand_rows : OperandRows
unfolding calls_compute
operand_rows = record {
  two_pages = record { equal = refl };
  one_page = record { equal = refl };
  faults = record { equal = refl };
  contradictions = record { equal = refl };
  segments = record { equal = refl };
  wraps = record { equal = refl };
  rules = record { equal = refl };
  compared_bytes = record { equal = refl };
}
