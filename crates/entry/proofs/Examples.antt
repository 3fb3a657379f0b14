-- Every row of the tables of an entry holds: both sides compute to the same.
use mathlib.Core.Path.{refl}
use Rattle.entry.specs.Examples.{EntryTables}
use Rattle.entry.proofs.Computes.{entry_computes}

pub entry_tables : EntryTables
unfolding entry_computes
entry_tables = record {
  case_2 = (refl, refl);
  places = (refl, refl, refl, refl, refl, refl, refl, refl, refl);
  widths = (refl, refl, refl, refl, refl, refl, refl, refl, refl, refl);
  fields_read = (refl, refl, refl);
  ignored = (refl, refl);
  match = (refl, refl, refl, refl, refl, refl, refl, refl, refl);
  freed = (refl, refl);
  marks = (refl, refl, refl, refl, refl, refl, refl, refl);
  marks_read = (refl, refl, refl, refl);
  protection = (refl, refl, refl);
  physical = (refl, refl, refl);
  page = (refl, refl, refl, refl, refl, refl);
  page_bits = record { equal = refl };
  bit_tests = record { equal = refl };
  one_bit_off = record { equal = refl };
  change_bits = record { equal = refl };
  physical_bits = record { equal = refl };
}
