-- What rows compute with: where `edits-compute` unfolds, so does every definition of this crate and of those below.
use Rattle.matches.proofs.Computes.{matches_compute}
use Rattle.match_edits.specs.Edit.{edited, edit_each, edit_matches, put_each}

unfoldable pub edits_compute : Unit {0}
unfolding matches_compute edited edit_each edit_matches put_each
edits_compute = tt
