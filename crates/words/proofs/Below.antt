-- Laws of tests of the numbers below a bound: every number passes, or the first that does.
--   every_next, every_more: the test of every number below n + 1, by those below n and n itself
--   every_at: where every number below n passes, each does; every-all: and back
--   every_not: where one number below n fails, not every one passes
--   every_same, first_same: tests that are the same below n come to the same
--   every_further: further numbers that all pass leave the test of every number as it was
--   first_found: the first below n that passes, where it passes and those before it fail
--   first_none: where none passes the first is n
--   first_passes, first_before: the first that passes does pass, and those before it fail
--   FirstOf, same_first, none_first: the first below n and the first below m are the same number, or both are none
--   first_further: they are so where the further numbers, from n to m, fail
use mathlib.Core.Path.{◌≡◌, refl, sym, ap, ap₂, ◌∙◌}
use mathlib.Core.Bool.{Bool, true, false, cond, ◌&&◌}
use mathlib.Core.Logic.{⊎_elim}
use Prim.Native.Nat.{ℕ, zero, suc, ◌+◌, ◌<◌, ◌≤◌}
use native.Mathlib.Nat.{not-suc-le-zero}
use native.Mathlib.Numerals.{add-one}
use native.Mathlib.Omega.{arith}
use lib.Dec.{ltb, leb}
use borrow.Author.Tests.{ltb-true, ltb-false, leb-true, leb-false}
use Rattle.words.proofs.Tests.{both, three}
use Rattle.words.specs.Below.{every_below, first_below}

module _ (test : ℕ → Bool) where
  -- what passed below n, and n itself
  pub every_next : (n : ℕ) → every_below (n + 1) test ≡ (every_below n test && test n)
  unfolding every_below
  every_next n = rw add-one

  pub every_more : (n : ℕ) → every_below n test ≡ true → test n ≡ true → every_below (n + 1) test ≡ true
  unfolding every_below
  every_more n e p = rw (add-one, e, p)

  -- where one number below n fails, not every number passes
  pub every_not : (n k : ℕ) → k < n → test k ≡ false → false ≡ every_below n test
  unfolding every_below
  every_not zero k h e = absurd (not-suc-le-zero h)
  every_not (suc n) k h e =
      ⊎_elim (λ l. ap (λ (t : Bool). t && test n) (every_not n k l e))
      (λ r. ⊎_elim (λ q. and_false (every_below n test) (ap test (sym q) ∙ e)) (λ g. absurd (omega arith)) r)
      (three k n)
    where
      and_false : (a : Bool) → test n ≡ false → false ≡ (a && test n)
      and_false true p = sym p
      and_false false p = refl

  -- each number below n, where every number passes
  pub every_at : (n k : ℕ) → every_below n test ≡ true → k < n → test k ≡ true
  unfolding every_below
  every_at zero k e h = absurd (not-suc-le-zero h)
  every_at (suc n) k e h =
      let (below, last) = both (every_below n test) (test n) e in
      ⊎_elim (λ l. every_at n k below l)
      (λ r. ⊎_elim (λ q. ap test q ∙ last) (λ g. absurd (omega arith)) r)
      (three k n)

  -- every number below n passes, where each does
  pub every_all : (n : ℕ) → ((k : ℕ) → k < n → test k ≡ true) → every_below n test ≡ true
  unfolding every_below
  every_all zero h = refl
  every_all (suc n) h = rw (every_all n (λ k l. h k (omega arith)), h n (omega arith))

-- the first that passes, where those before it fail
pub first_found : (test : ℕ → Bool) (n j : ℕ) → j < n → test j ≡ true → ((k : ℕ) → k < j → test k ≡ false) → first_below n test ≡ j
unfolding first_below
first_found test zero j h p q = absurd (not-suc-le-zero h)
first_found test (suc n) zero h p q = rw p
first_found test (suc n) (suc j) h p q =
    rw (q 0 (omega arith)) (ap suc (first_found (λ i. test (suc i)) n j (omega arith) p (λ k l. q (suc k) (omega arith))))

-- none of n numbers passes
pub first_none : (test : ℕ → Bool) (n : ℕ) → ((k : ℕ) → k < n → test k ≡ false) → first_below n test ≡ n
unfolding first_below
first_none test zero q = refl
first_none test (suc n) q = rw (q 0 (omega arith)) (ap suc (first_none (λ i. test (suc i)) n (λ k l. q (suc k) (omega arith))))

-- the first that passes does pass, and those before it fail
pub first_passes : (test : ℕ → Bool) (n : ℕ) → first_below n test < n → test (first_below n test) ≡ true
unfolding first_below
first_passes test zero h = absurd (not-suc-le-zero h)
first_passes test (suc n) h = go (first_passes (λ i. test (suc i)) n) (test 0) refl h
  where
    rest : ℕ
    rest = first_below n (λ i. test (suc i))

    go : (rest < n → test (suc rest) ≡ true) → (t : Bool) → test 0 ≡ t → cond t 0 (suc rest) < suc n → test (cond t 0 (suc rest)) ≡ true
    go again true e l = e
    go again false e l = again (omega arith)

pub first_before : (test : ℕ → Bool) (n k : ℕ) → k < first_below n test → test k ≡ false
unfolding first_below
first_before test zero k h = absurd (not-suc-le-zero h)
first_before test (suc n) k h = go (first_before (λ i. test (suc i)) n) (test 0) refl k h
  where
    rest : ℕ
    rest = first_below n (λ i. test (suc i))

    go : ((j : ℕ) → j < rest → test (suc j) ≡ false) → (t : Bool) → test 0 ≡ t → (j : ℕ) → j < cond t 0 (suc rest) → test j ≡ false
    go again true e j l = absurd (not-suc-le-zero l)
    go again false e zero l = e
    go again false e (suc j) l = again j (omega arith)

and_true : (a : Bool) → (a && true) ≡ a
and_true true = refl
and_true false = refl

-- tests that are the same below n
pub every_same : (f g : ℕ → Bool) (n : ℕ) → ((k : ℕ) → k < n → f k ≡ g k) → every_below n f ≡ every_below n g
unfolding every_below
every_same f g zero same = refl
every_same f g (suc n) same = ap₂ ◌&&◌ (every_same f g n (λ k l. same k (omega arith))) (same n (omega arith))

pub first_same : (f g : ℕ → Bool) (n : ℕ) → ((k : ℕ) → k < n → f k ≡ g k) → first_below n f ≡ first_below n g
unfolding first_below
first_same f g zero same = refl
first_same f g (suc n) same =
    ap₂ (λ (t : Bool) (r : ℕ). cond t 0 (suc r)) (same 0 (omega arith)) (first_same (λ i. f (suc i)) (λ i. g (suc i)) n (λ k l. same (suc k) (omega arith)))

-- numbers more that all pass, or that all fail
pub every_further : (test : ℕ → Bool) (n m : ℕ) → n ≤ m → ((k : ℕ) → n ≤ k → k < m → test k ≡ true) → every_below m test ≡ every_below n test
unfolding every_below
every_further test n zero l pass = let z : n ≡ 0 = omega (arith, l) in rw z
every_further test n (suc m) l pass = go (leb n m) refl (λ k. every_further test n m k (λ i a b. pass i a (omega arith)))
  where
    go : (t : Bool) → leb n m ≡ t → (n ≤ m → every_below m test ≡ every_below n test) → (every_below m test && test m) ≡ every_below n test
    go true e again = rw (pass m (leb-true n m e) (omega arith), and_true (every_below m test)) (again (leb-true n m e))
    go false e again = let z : n ≡ suc m = omega (arith, l, leb-false n m e) in rw z

-- the first of n that passes, and the first of m of which the further ones fail: the same, or both none
pub data FirstOf (n m : ℕ) : ℕ → ℕ → Type 0 where
  same_first : (j : ℕ) → j < n → FirstOf n m j j
  none_first : FirstOf n m n m

pub first_further : (f g : ℕ → Bool) (n m : ℕ) → n ≤ m → ((k : ℕ) → k < n → f k ≡ g k) → ((k : ℕ) → n ≤ k → k < m → g k ≡ false)
    → FirstOf n m (first_below n f) (first_below m g)
first_further f g n m l same fail = go (ltb (first_below n f) n) refl
  where
    failing : (k : ℕ) → k < m → (t : Bool) → ltb k n ≡ t → ((i : ℕ) → i < n → f i ≡ false) → g k ≡ false
    failing k h true e none = sym (same k (ltb-true k n e)) ∙ none k (ltb-true k n e)
    failing k h false e none = fail k (ltb-false k n e) h

    go : (t : Bool) → ltb (first_below n f) n ≡ t → FirstOf n m (first_below n f) (first_below m g)
    go true e =
        let j-lt = ltb-true (first_below n f) n e in
        let is = first_found g m (first_below n f) (omega (arith, j-lt, l)) (sym (same (first_below n f) j-lt) ∙ first_passes f n j-lt)
        (λ k h. sym (same k (omega (arith, h, j-lt))) ∙ first_before f n k h) in
        rw is (same_first (first_below n f) j-lt)
    go false e =
        let j-ge = ltb-false (first_below n f) n e in
        let none : (k : ℕ) → k < n → f k ≡ false = λ k h. first_before f n k (omega (arith, h, j-ge)) in
        rw (first_none f n none, first_none g m (λ k h. failing k h (ltb k n) refl none)) none_first
