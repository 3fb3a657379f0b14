-- What rows compute with: where `histories-compute` unfolds, so does every definition of this crate and of those below.
use Rattle.theory_cache.proofs.Computes.{cached_calls_compute}
use Rattle.access_rights.specs.Rights.{new_marks, rights_told, rights_refusal, rights_call}
use Rattle.theory_histories.specs.Calls.{on_lent, calling, refusal_of, brought_in}
use Rattle.theory_histories.specs.Fed.{fed_asked, lacked_at, rights_on_map, map_calling, seen_in, bytes_step, map_step}
use Rattle.theory_histories.specs.Discipline.{filled}
use Rattle.theory_histories.specs.Invisible.{plainly, shown}

unfoldable pub histories_compute : Unit {0}
unfolding cached_calls_compute new_marks rights_told rights_refusal rights_call on_lent calling refusal_of brought_in fed_asked lacked_at rights_on_map map_calling seen_in bytes_step map_step filled plainly shown
histories_compute = tt
