-- Each name is the number stated beside it: both sides compute to the same.
use mathlib.Core.Path.{refl}
use Rattle.numbers.specs.Examples.{NumbersTables}

pub numbers_tables : NumbersTables
numbers_tables = record {
  results = record { equal = refl };
  refusals = record { equal = refl };
  by_kind = record { equal = refl };
  handed_back = record { equal = refl };
  accesses = record { equal = refl };
  rules = record { equal = refl };
  lengths = record { equal = refl };
  operands = record { equal = refl };
  counts = record { equal = refl };
}
