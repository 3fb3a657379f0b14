-- The laws of `size` and `low_ones`: one step of halving, and that `low_ones` holds exactly for the fields 2 ^ k - 1.
use mathlib.Core.Path.{◌≡◌, refl}
use mathlib.Core.Bool.{Bool, true, false}
use mathlib.Core.Logic.{⊎_elim}
use Prim.Native.Nat.{ℕ, zero, suc, ◌-◌, ◌/◌, ◌^◌, ◌≤◌, ◌<◌}
use native.Mathlib.Nat.{pow-suc}
use native.Mathlib.Omega.{arith}
use lib.Pow.{pow_pos, pow_mono, pow-lt}
use lib.Dec.{leb}
use lib.Ieee.{size}
use lib.Ieee.Digits.{size-lt, size_reaches}
use borrow.Author.Tests.{eq-eqb, eqb-true, leb-true, leb-false}
use Rattle.words.proofs.Tests.{three}
use Rattle.words.specs.Ones.{low_ones}

module _ (f : ℕ) where
  -- the number of binary digits: f is below that power of two, and below none before it
  pub size_is : (n : ℕ) → f < 2 ^ n → ((m : ℕ) → m < n → 2 ^ m ≤ f) → size f ≡ n
  size_is n h reaches =
      ⊎_elim (λ l. let r = reaches (size f) l in absurd (omega (arith, size-lt f)))
      (λ r. ⊎_elim (λ e. e) (λ g. let x = size_reaches f n g in absurd (omega arith)) r)
      (three (size f) n)

pub size_zero : size 0 ≡ 0
size_zero = size_is 0 0 (omega arith) (λ m l. absurd (omega arith))

pub size_step : (f : ℕ) → (f ≡ 0 → ⊥) → size f ≡ suc (size (f / 2))
size_step f h = size_is f (suc (size (f / 2))) (omega (arith, size-lt (f / 2), pow-suc 2 (size (f / 2)))) reaches
  where
    reaches : (m : ℕ) → m < suc (size (f / 2)) → 2 ^ m ≤ f
    reaches zero l = omega arith
    reaches (suc m) l = omega (arith, size_reaches (f / 2) m (omega arith), pow-suc 2 m)

-- 2 ^ k - 1 has k bits
pub size_ones : (k : ℕ) → size (2 ^ k - 1) ≡ k
size_ones k = size_is (2 ^ k - 1) k (omega (arith, pow_pos k)) (λ m l. omega (arith, pow-lt l))

-- what the test says: the field is 2 ^ k - 1, where k is its length in bits
pub ones_true : (f : ℕ) → low_ones f ≡ true → f ≡ 2 ^ size f - 1
unfolding low_ones
ones_true f e = eqb-true f (2 ^ size f - 1) e

-- and every such number passes
pub true_ones : (f k : ℕ) → f ≡ 2 ^ k - 1 → low_ones f ≡ true
unfolding low_ones
true_ones f k e = eq-eqb f (2 ^ size f - 1) (rw (e, size_ones k))

-- a field of w bits has at most w ones
pub ones_width : (f w : ℕ) → low_ones f ≡ true → f < 2 ^ w → size f ≤ w
ones_width f w e h = go (leb (size f) w) refl
  where
    go : (t : Bool) → leb (size f) w ≡ t → size f ≤ w
    go true p = leb-true (size f) w p
    go false p =
        let l : suc w ≤ size f = leb-false (size f) w p in
        omega (arith, ones_true f e, pow_mono l, pow-suc 2 w, pow_pos w)

-- a field of w bits has at most w binary digits
pub size_width : (f w : ℕ) → f < 2 ^ w → size f ≤ w
size_width f w h = go (leb (size f) w) refl
  where
    go : (t : Bool) → leb (size f) w ≡ t → size f ≤ w
    go true p = leb-true (size f) w p
    go false p = let x = size_reaches f w (leb-false (size f) w p) in absurd (omega arith)
