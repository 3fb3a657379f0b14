-- Every row of lists with a cache holds: both sides compute to the same.
use mathlib.Core.Bool.{true≢false}
use mathlib.Core.Option.{some-ne-none}
use mathlib.Core.Path.{refl}
use native.Mathlib.Omega.{arith}
use Rattle.theory_histories.specs.Invisible.{zero_cache}
use Rattle.theory_histories.specs.Rows.{unmapped, SliceRows, WaitingRows}
use Rattle.theory_histories.proofs.Computes.{histories_compute}

pub slice_rows : SliceRows
unfolding histories_compute
slice_rows = record {
  other_slices = record { equal = refl };
}

pub waiting_rows : WaitingRows
unfolding histories_compute
waiting_rows = record {
  waiting = record { equal = refl };
  waiting_ends = record { equal = refl };
  not_while_the_first_waits = λ allowed. true≢false ((allowed _ refl refl).2 0 (omega arith));
  not_while_the_last_waits = λ allowed. true≢false ((allowed _ refl refl).2 63 (omega arith));
  while_none_waits = λ a is zero. (refl, refl, λ set small. refl);
  not_on_another_table = λ allowed. some-ne-none unmapped (allowed _ refl refl).0;
  not_on_another_cache = λ allowed. some-ne-none zero_cache (allowed _ refl refl).1;
  at_the_start = record { equal = refl };
}
