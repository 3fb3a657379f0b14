-- Every row of the false readings holds: it computes.
use mathlib.Core.Path.{refl}
use Rattle.theory_placement.proofs.Decision.{arrangement?}
use Rattle.theory_histories.proofs.Computes.{histories_compute}
use Rattle.theory_lost_call.specs.Rows.{LostRows}

pub lost_rows : LostRows
unfolding histories_compute arrangement?
lost_rows = record {
  not_one_in_all = record { equal = refl };
  not_none = record { equal = refl };
  not_equal_fields = record { equal = refl };
  not_by_number = record { equal = refl };
  not_two_calls = record { equal = refl };
}
