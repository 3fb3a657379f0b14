-- The two cases of a slice that must have a stated length.
use mathlib.Core.Path.{◌≡◌, ap}
use mathlib.Core.List.{List}
use Prim.Native.Nat.{ℕ}
use lib.ListN.{length}
use borrow.Author.Tests.{eq-eqb, ne_eqb}
use Rattle.theory_calls.specs.Lent.{of_length}

module _ (n : ℕ) (lent : List ℕ) (done : ℕ × List ℕ) where
  pub right_length : length lent ≡ n → of_length n lent done ≡ done
  unfolding of_length
  right_length e = rw (eq-eqb (length lent) n e)

  pub wrong_length : (length lent ≡ n → ⊥) → of_length n lent done ≡ (11, lent)
  unfolding of_length
  wrong_length e = rw (ne_eqb (length lent) n e)

-- one number beside equal bytes
pub beside : (n : ℕ) {b c : List ℕ} → b ≡ c → ◌≡◌ {A = ℕ × List ℕ} (n, b) (n, c)
beside n e = ap (λ (b : List ℕ). (n, b)) e
