-- What rows compute with: where `cache-computes` unfolds, so does every definition of this crate and of those below.
use Rattle.groups.proofs.Computes.{groups_compute}
use Rattle.cache.specs.Cache.{set_of, place_at, holds, met, hit, older_place, load_place, put_place, loaded, set_zeroed}

unfoldable pub cache_computes : Unit {0}
unfolding groups_compute set_of place_at holds met hit older_place load_place put_place loaded set_zeroed
cache_computes = tt
