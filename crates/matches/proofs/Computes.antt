-- What rows compute with: where `matches-compute` unfolds, so does every definition of this crate and of those below.
use Rattle.groups.proofs.Computes.{groups_compute}
use Rattle.theory_tables.proofs.Computes.{tables_compute}
use Rattle.matches.specs.Search.{group_matches, pair_matches, agree, contradict, merged, others_of, told, in_primary, in_both}

unfoldable pub matches_compute : Unit {0}
unfolding groups_compute tables_compute group_matches pair_matches agree contradict merged others_of told in_primary in_both
matches_compute = tt
