-- What rows compute with: where `cached-calls-compute` unfolds, so does every definition of this crate and of those below.
use Rattle.cache.proofs.Computes.{cache_computes}
use Rattle.theory_calls.proofs.Computes.{calls_compute}
use Rattle.theory_cache.specs.Cached.{cached_search, cached_place, missed, loaded_by, taken, taken_part, cached_does, cached_refusal, on_cached, invalidate_refusal, invalidate_call}

unfoldable pub cached_calls_compute : Unit {0}
unfolding cache_computes calls_compute cached_search cached_place missed loaded_by taken taken_part cached_does cached_refusal on_cached invalidate_refusal invalidate_call
cached_calls_compute = tt
