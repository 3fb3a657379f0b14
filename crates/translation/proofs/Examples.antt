-- Every row of the tables of an access holds: both sides compute to the same.
use Rattle.std.proofs.Common.{refl}
use Rattle.translation.specs.Examples.{AccessTables}
use Rattle.translation.proofs.Computes.{translation_computes}

pub access_tables : AccessTables
unfolding translation_computes
access_tables = record {
  real_mode = record { equal = refl };
  blocks = record { equal = refl };
  long_blocks = record { equal = refl };
  block_sides = record { equal = refl };
  block_privilege = record { equal = refl };
  block_before_segment = record { equal = refl };
  segments = record { equal = refl };
  sixteen_segments_rows = record { equal = refl };
  segment_bits = record { equal = refl };
  keys = record { equal = refl };
  searched = record { equal = refl };
  pages = record { equal = refl };
  answers = record { equal = refl };
  accesses = record { equal = refl };
  block_answers = record { equal = refl };
  first_bytes_rows = record { equal = refl };
  edges = record { equal = refl };
  starts = record { equal = refl };
  operands = record { equal = refl };
  decisions = record { equal = refl };
}
