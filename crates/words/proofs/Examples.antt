-- Every row of the tables of words holds: both sides compute to the same.
use mathlib.Core.Path.{refl}
use Rattle.words.specs.Examples.{WordsTables}
use Rattle.words.proofs.Computes.{words_compute}

pub words_tables : WordsTables
unfolding words_compute
words_tables = record {
  fields = record { equal = refl };
  low_ones = record { equal = refl };
  bytes = record { equal = refl };
  reversed = record { equal = refl };
  every = record { equal = refl };
  first = record { equal = refl };
}
