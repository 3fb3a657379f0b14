-- How many numbers below a bound pass a test, and the first that does: all, none, and after a change of the test at one number.
use mathlib.Core.Path.{◌≡◌, refl, sym, ap, ◌∙◌}
use mathlib.Core.Bool.{Bool, true, false, not}
use mathlib.Core.Logic.{⊎_elim, ◌≢◌}
use Prim.Native.Nat.{ℕ, zero, suc, ◌+◌, ◌≤◌, ◌<◌}
use native.Mathlib.Nat.{not-suc-le-zero, le_of_suc-le-suc, eq-or-lt_of_le}
use native.Mathlib.Omega.{arith}
use Rattle.words.specs.Below.{first_below}
use Rattle.words.proofs.Below.{first_found, first_none}
use Rattle.theory_placement.specs.Lists.{one_if}
use Rattle.theory_tables.specs.Matches.{how_many_below}

one_if_le : (t : Bool) → one_if t ≤ 1
one_if_le true = omega arith
one_if_le false = omega arith

-- a search of the numbers below n: none passes, or a first one does
data Searched (test : ℕ → Bool) (n : ℕ) : Type 0 where
  none_passes : ((i : ℕ) → i < n → test i ≡ false) → Searched test n
  first_passes : (j : ℕ) → j < n → test j ≡ true → ((i : ℕ) → i < j → test i ≡ false) → Searched test n

searched : (test : ℕ → Bool) (n : ℕ) → Searched test n
searched test zero = none_passes (λ i l. absurd (not-suc-le-zero l))
searched test (suc n) = go (searched test n) (test n) refl
  where
    go : Searched test n → (t : Bool) → test n ≡ t → Searched test (suc n)
    go (none_passes h) true e = first_passes n (omega arith) e h
    go (none_passes h) false e = none_passes (λ i l. ⊎_elim (λ q. ap test q ∙ e) (λ k. h i k) (eq-or-lt_of_le (le_of_suc-le-suc l)))
    go (first_passes j l p h) t e = first_passes j (omega arith) p h

module _ (test : ℕ → Bool) where
  pub how_many_below_bound : (n : ℕ) → how_many_below n test ≤ n
  unfolding how_many_below
  how_many_below_bound zero = omega arith
  how_many_below_bound (suc n) = let i = how_many_below_bound n in let o = one_if_le (test n) in omega arith

  pub how_many_below_all : (n : ℕ) → ((i : ℕ) → i < n → test i ≡ true) → how_many_below n test ≡ n
  unfolding how_many_below
  how_many_below_all zero h = refl
  how_many_below_all (suc n) h = let e = how_many_below_all n (λ i l. h i (omega arith)) in rw (h n (omega arith)) (omega arith)

  pub how_many_below_none : (n : ℕ) → ((i : ℕ) → i < n → test i ≡ false) → how_many_below n test ≡ 0
  unfolding how_many_below
  how_many_below_none zero h = refl
  how_many_below_none (suc n) h = let e = how_many_below_none n (λ i l. h i (omega arith)) in rw (h n (omega arith)) (omega arith)

  -- where one number fails, not all pass
  pub how_many_below_less : (n i : ℕ) → i < n → test i ≡ false → how_many_below n test < n
  unfolding how_many_below
  how_many_below_less zero i l e = absurd (not-suc-le-zero l)
  how_many_below_less (suc n) i l e =
      ⊎_elim
      (λ q. let o : test n ≡ false = ap test (sym q) ∙ e in let b = how_many_below_bound n in rw o (omega arith))
      (λ k. let r = how_many_below_less n i k e in let o = one_if_le (test n) in omega arith)
      (eq-or-lt_of_le (le_of_suc-le-suc l))

  pub first_below_bound : (n : ℕ) → first_below n test ≤ n
  first_below_bound n = go (searched test n)
    where
      go : Searched test n → first_below n test ≤ n
      go (none_passes h) = let e = first_none test n h in omega arith
      go (first_passes j l p h) = let e = first_found test n j l p h in omega arith

  -- the first passes, and none before it does
  pub first_below_passes : (n : ℕ) → first_below n test < n → test (first_below n test) ≡ true
  first_below_passes n l = go (searched test n)
    where
      go : Searched test n → test (first_below n test) ≡ true
      go (none_passes h) = let e = first_none test n h in absurd (omega arith)
      go (first_passes j k p h) = ap test (first_found test n j k p h) ∙ p

  pub first_below_before : (n i : ℕ) → i < first_below n test → test i ≡ false
  first_below_before n i l = go (searched test n)
    where
      go : Searched test n → test i ≡ false
      go (none_passes h) = let e = first_none test n h in h i (omega arith)
      go (first_passes j k p h) = let e = first_found test n j k p h in h i (omega arith)

  -- where it is n itself, none passes
  pub first_below_fails : (n : ℕ) → first_below n test ≡ n → (i : ℕ) → i < n → test i ≡ false
  first_below_fails n q = go (searched test n)
    where
      go : Searched test n → (i : ℕ) → i < n → test i ≡ false
      go (none_passes h) = h
      go (first_passes j l p h) = let e = first_found test n j l p h in absurd (omega arith)

-- where every number fails the test, it has no first, and the other way round
module _ (test : ℕ → Bool) where
  pub first_below_full : (n : ℕ) → how_many_below n (λ i. not (test i)) ≡ n → first_below n test ≡ n
  first_below_full n e = go (searched test n)
    where
      go : Searched test n → first_below n test ≡ n
      go (none_passes h) = first_none test n h
      go (first_passes j l p h) = let k = how_many_below_less (λ i. not (test i)) n j l (ap not p) in absurd (omega arith)

  pub full_first_below : (n : ℕ) → first_below n test ≡ n → how_many_below n (λ i. not (test i)) ≡ n
  full_first_below n q = how_many_below_all (λ i. not (test i)) n (λ i l. ap not (first_below_fails test n q i l))

module _ (test test' : ℕ → Bool) where
  pub how_many_below_same : (n : ℕ) → ((i : ℕ) → i < n → test' i ≡ test i) → how_many_below n test' ≡ how_many_below n test
  unfolding how_many_below
  how_many_below_same zero h = refl
  how_many_below_same (suc n) h = let e = how_many_below_same n (λ i l. h i (omega arith)) in let o = ap one_if (h n (omega arith)) in omega arith

  pub first_below_same : (n : ℕ) → ((i : ℕ) → i < n → test' i ≡ test i) → first_below n test' ≡ first_below n test
  first_below_same n e = go (searched test n)
    where
      go : Searched test n → first_below n test' ≡ first_below n test
      go (none_passes h) = first_none test' n (λ i l. e i l ∙ h i l) ∙ sym (first_none test n h)
      go (first_passes j l p h) = first_found test' n j l (e j l ∙ p) (λ i k. e i (omega arith) ∙ h i k) ∙ sym (first_found test n j l p h)

  -- the test changed at i alone
  pub how_many_below_changed : (n i : ℕ) → i < n → ((j : ℕ) → j < n → j ≢ i → test' j ≡ test j)
      → how_many_below n test' + one_if (test i) ≡ how_many_below n test + one_if (test' i)
  unfolding how_many_below
  how_many_below_changed zero i l h = absurd (not-suc-le-zero l)
  how_many_below_changed (suc n) i l h =
      ⊎_elim
      (λ q.
      let e = how_many_below_same n (λ j a. h j (omega arith) (omega arith)) in
      let o = ap (λ k. one_if (test k)) q in
      let o' = ap (λ k. one_if (test' k)) q in
      omega arith)
      (λ k.
      let e = how_many_below_changed n i k (λ j a d. h j (omega arith) d) in
      let o = ap one_if (h n (omega arith) (omega arith)) in
      omega arith)
      (eq-or-lt_of_le (le_of_suc-le-suc l))

  -- what passes one test passes exactly one of two others
  pub how_many_below_sum : (parts : ℕ → Bool) (n : ℕ) → ((i : ℕ) → i < n → one_if (test i) ≡ one_if (test' i) + one_if (parts i))
      → how_many_below n test ≡ how_many_below n test' + how_many_below n parts
  unfolding how_many_below
  how_many_below_sum parts zero h = refl
  how_many_below_sum parts (suc n) h =
      let e = how_many_below_sum parts n (λ i l. h i (omega arith)) in
      let o = h n (omega arith) in
      omega arith
