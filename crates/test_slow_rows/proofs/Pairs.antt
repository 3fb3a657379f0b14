-- Every row of matches in both groups holds: both sides compute to the same.
use mathlib.Core.Path.{refl}
use Rattle.theory_calls.proofs.Computes.{calls_compute}
use Rattle.test_slow_rows.specs.Pairs.{PairRows}

pub pair_rows : PairRows
unfolding calls_compute
pair_rows = record {
  both_rows = record { equal = refl };
}
