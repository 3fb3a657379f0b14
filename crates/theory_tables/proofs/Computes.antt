-- What rows compute with: where `tables-compute` unfolds, so does every definition of this crate and of those below.
use Rattle.words.proofs.Computes.{words_compute}
use Rattle.theory_tables.specs.Matches.{matches_below, how_many_below}
use Rattle.theory_tables.specs.Layout.{matches_in, matches_of, used, free_entry, free_place, overwrite, overwrite_each}

unfoldable pub tables_compute : Unit {0}
unfolding words_compute matches_below how_many_below matches_in matches_of used free_entry free_place overwrite overwrite_each
tables_compute = tt
