-- The cases of an access with a cache: its refusal by the cache's length, and what it is where it is refused and where not.
use Prim.Native.Nat.{ℕ}
use mathlib.Core.Path.{◌≡◌}
use mathlib.Core.List.{List}
use lib.ListN.{length}
use borrow.Author.Tests.{eq-eqb, ne_eqb}
use Rattle.register_words.specs.Sdr1.{mask_ones}
use Rattle.theory_calls.specs.Request.{AccessCall, access, sdr1_in, fed}
use Rattle.theory_calls.specs.Rules.{refusal}
use Rattle.theory_calls.specs.Answers.{answer_refused}
use Rattle.theory_calls.specs.OnBytes.{ended}
use Rattle.theory_cache.specs.Cached.{cached_does, cached_refusal, on_cached}

module _ (c : AccessCall (List ℕ)) (t cache : List ℕ) where
  -- a cache of right length: the refusals are those of an access
  pub right_refusal : (lent size : ℕ) → size ≡ 2048 → cached_refusal c lent size ≡ refusal (fed (access c)) lent
  unfolding cached_refusal refusal
  right_refusal lent size e = rw e

  pub wrong_refusal : (lent size : ℕ) → (size ≡ 2048 → ⊥) → cached_refusal c lent size ≡ 11
  unfolding cached_refusal
  wrong_refusal lent size n = rw (ne_eqb size 2048 n)

  pub cached_taken : cached_refusal c (length t) (length cache) ≡ 0 → on_cached c (t, cache) ≡ cached_does (mask_ones (sdr1_in (access c))) c (t, cache)
  unfolding on_cached
  cached_taken e = rw (eq-eqb (cached_refusal c (length t) (length cache)) 0 e)

  pub cached_refused : (number : ℕ) → cached_refusal c (length t) (length cache) ≡ number → (number ≡ 0 → ⊥)
      → on_cached c (t, cache) ≡ ended number (t, cache) (answer_refused (λ answer. answer) (access c) number)
  unfolding on_cached
  cached_refused number e n = rw (e, ne_eqb number 0 n)
