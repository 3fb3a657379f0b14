-- Every row of the tables of a register word holds: both sides compute to the same.
use Rattle.std.proofs.Common.{refl}
use Rattle.register_words.specs.Examples.{RegisterWordsTables}
use Rattle.register_words.proofs.Computes.{register_words_compute}

pub register_words_tables : RegisterWordsTables
unfolding register_words_compute
register_words_tables = record {
  sdr1_rows = record { equal = refl };
  sdr1_bits = record { equal = refl };
  length_rows = record { equal = refl };
  segment_rows = record { equal = refl };
  segment_bits = record { equal = refl };
  vsid_bits = record { equal = refl };
  key_rows = record { equal = refl };
  upper_rows = record { equal = refl };
  lower_rows = record { equal = refl };
  upper_bits = record { equal = refl };
  lower_bits = record { equal = refl };
  wide_rows = record { equal = refl };
  wide_bits = record { equal = refl };
  wide_blocks = record { equal = refl };
  wide_physical = record { equal = refl };
  valid_bits = record { equal = refl };
  valid_rows = record { equal = refl };
  edge_rows = record { equal = refl };
  physical_rows = record { equal = refl };
  attribute_bits = record { equal = refl };
}
