-- Every row of the tables of edits holds: both sides compute to the same.
use mathlib.Core.Path.{refl}
use Rattle.match_edits.specs.Examples.{EditsTables}
use Rattle.match_edits.proofs.Computes.{edits_compute}

pub edits_tables : EditsTables
unfolding edits_compute
edits_tables = record {
  edits = record { equal = refl };
}
