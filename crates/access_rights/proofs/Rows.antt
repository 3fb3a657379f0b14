-- Every row of the call holds: both sides compute to the same.
use mathlib.Core.Path.{refl}
use Rattle.theory_calls.proofs.Computes.{calls_compute}
use Rattle.access_rights.specs.Rights.{new_marks, rights_told, rights_refusal, rights_call}
use Rattle.access_rights.specs.Rows.{RightsRows}

pub rights_rows : RightsRows
unfolding calls_compute new_marks rights_told rights_refusal rights_call
rights_rows = record {
  marks = record { equal = refl };
  kinds = record { equal = refl };
  contradiction = record { equal = refl };
  refusals = record { equal = refl };
}
