-- Laws of Bool tests that every crate's proofs use: conjunctions taken apart, equal tests, a case by a test, the order of two numbers.
--   both: a conjunction that holds gives both its parts
--   by_test: a proof by the two cases of a test, each with its equation
--   cond_by: what holds of both cases of a test holds of the case that it picks
--   same_test: two tests are equal where each that holds gives the other
--   eqb_same: two tests of equality are equal where each equation gives the other
--   both_zero: the test of a number for zero is the tests of two others, where it is zero exactly where they are
--   three: of two numbers one is less, or they are equal
use mathlib.Core.Bool.{Bool, true, false, cond, ◌&&◌}
use mathlib.Core.Logic.{◌⊎◌, inl, inr}
use mathlib.Core.Path.{◌≡◌, refl, sym}
use Prim.Native.Nat.{ℕ, ◌≤◌, ◌<◌}
use native.Mathlib.Omega.{arith}
use lib.Dec.{eqb, ltb}
use borrow.Author.Tests.{eqb-true, eqb-false, eq-eqb, ne_eqb, ltb-true, ltb-false}

-- both parts of a conjunction that holds
pub both : (a b : Bool) → a && b ≡ true → (a ≡ true) × (b ≡ true)
both true b e = (refl, e)
both false b e = (e, cc)

-- two tests of equality agree where each equation gives the other
pub eqb_same : (a b c d : ℕ) → (a ≡ b → c ≡ d) → (c ≡ d → a ≡ b) → eqb a b ≡ eqb c d
eqb_same a b c d to from = go (eqb c d) refl
  where
    go : (t : Bool) → eqb c d ≡ t → eqb a b ≡ t
    go true e = eq-eqb a b (from (eqb-true c d e))
    go false e = ne_eqb a b (λ p. eqb-false c d e (to p))

-- two tests agree where each that holds gives the other
pub same_test : (a b : Bool) → (a ≡ true → b ≡ true) → (b ≡ true → a ≡ true) → a ≡ b
same_test true b to from = sym (to refl)
same_test false true to from = from refl
same_test false false to from = refl

-- a number is zero exactly where two others are
pub both_zero : (n a b : ℕ) → (n ≡ 0 → (a ≡ 0) × (b ≡ 0)) → (a ≡ 0 → b ≡ 0 → n ≡ 0) → eqb n 0 ≡ (eqb a 0 && eqb b 0)
both_zero n a b to from =
    same_test (eqb n 0) (eqb a 0 && eqb b 0)
    (λ e. let (p, q) = to (eqb-true n 0 e) in rw (eq-eqb a 0 p, eq-eqb b 0 q))
    (λ e. let (p, q) = both (eqb a 0) (eqb b 0) e in eq-eqb n 0 (from (eqb-true a 0 p) (eqb-true b 0 q)))

-- what holds of both cases of a test holds of the case that it picks
pub cond_by : {A : Type 0} (P : A → Type 0) (t : Bool) (x y : A) → (t ≡ true → P x) → (t ≡ false → P y) → P (cond t x y)
cond_by P true x y f g = f refl
cond_by P false x y f g = g refl

-- one of two numbers is less, or they are equal
pub three : (k n : ℕ) → (k < n) ⊎ ((k ≡ n) ⊎ (n < k))
three k n = first (ltb k n) refl
  where
    second : (t : Bool) → ltb n k ≡ t → n ≤ k → (k < n) ⊎ ((k ≡ n) ⊎ (n < k))
    second true e h = inr (inr (ltb-true n k e))
    second false e h = let g : k ≤ n = ltb-false n k e in inr (inl (omega arith))

    first : (t : Bool) → ltb k n ≡ t → (k < n) ⊎ ((k ≡ n) ⊎ (n < k))
    first true e = inl (ltb-true k n e)
    first false e = second (ltb n k) refl (ltb-false k n e)

-- by a test, keeping the equation
pub by_test : {X : Type 0} (t : Bool) → (t ≡ true → X) → (t ≡ false → X) → X
by_test true holds fails = holds refl
by_test false holds fails = fails refl
