-- Every run's numbers are as the rows say: both sides compute to the same.
use mathlib.Core.Path.{refl}
use Rattle.theory_histories.proofs.Computes.{histories_compute}
use Rattle.test_slow_rows.specs.Rows.{RunRows}

pub run_rows : RunRows
unfolding histories_compute
run_rows = record {
  after_an_unmap = record { equal = refl };
  after_a_protect = record { equal = refl };
  other_runs = record { equal = refl };
}
