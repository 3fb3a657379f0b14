-- When second words agree, and when the matches of a list contradict: exactly where two of them do not agree.
use mathlib.Core.Path.{◌≡◌, refl, sym, ap, ◌∙◌}
use mathlib.Core.Bool.{Bool, true, false, not, ◌||◌, true≢false}
use mathlib.Core.Logic.{⊎_elim}
use mathlib.Core.List.Memᴰ
use mathlib.Core.List.{List, [], ◌∷◌, Memᴰ}
use Prim.Native.Nat.{ℕ}
use borrow.Author.Tests.{eqb-true, eq-eqb, not-false, not-true}
use Rattle.words.proofs.Tests.{both}
use Rattle.entry.specs.Entry.{rpn_of, wimg_of, pp_of}
use Rattle.theory_tables.specs.Matches.{Match}
use Rattle.matches.specs.Search.{agree, any_match, contradict}

-- a word agrees with itself
pub agree_self : (u : ℕ) → agree u u ≡ true
unfolding agree
agree_self u = simp (eq-eqb (rpn_of u) (rpn_of u) refl, eq-eqb (wimg_of u) (wimg_of u) refl, eq-eqb (pp_of u) (pp_of u) refl)

-- words that agree agree with the same others
pub agree_alike : (u v : ℕ) → agree u v ≡ true → (x : ℕ) → agree u x ≡ agree v x
unfolding agree
agree_alike u v a x =
    let (upper, pp) = both _ _ a in
    let (rpn, wimg) = both _ _ upper in
    rw (eqb-true (rpn_of u) (rpn_of v) rpn, eqb-true (wimg_of u) (wimg_of v) wimg, eqb-true (pp_of u) (pp_of v) pp)

-- words that agree with one agree with each other
pub agree_both : (x u v : ℕ) → agree x u ≡ true → agree x v ≡ true → agree u v ≡ true
agree_both x u v a b = sym (agree_alike x u a v) ∙ b

-- some match passes a test, or none does
module _ (test : Match → Bool) where
  pub any_true : (ms : List Match) → any_match test ms ≡ true → (y : Match) × Memᴰ y ms × (test y ≡ true)
  any_true [] e = absurd (true≢false (sym e))
  any_true (m ∷ ms) e = go (test m) refl e (any_true ms)
    where
      go : (t : Bool) → test m ≡ t → (t || any_match test ms) ≡ true → (any_match test ms ≡ true → (y : Match) × Memᴰ y ms × (test y ≡ true))
          → (y : Match) × Memᴰ y (m ∷ ms) × (test y ≡ true)
      go true q r again = (m, Memᴰ.head refl, q)
      go false q r again = let (y, at, passes) = again r in (y, Memᴰ.tail at, passes)

  pub any_false : (ms : List Match) → any_match test ms ≡ false → (y : Match) → Memᴰ y ms → test y ≡ false
  any_false [] e y at = absurd (Memᴰ.not-nil at)
  any_false (m ∷ ms) e y at = go (test m) refl e (any_false ms)
    where
      go : (t : Bool) → test m ≡ t → (t || any_match test ms) ≡ false → (any_match test ms ≡ false → (z : Match) → Memᴰ z ms → test z ≡ false) → test y ≡ false
      go true q r again = absurd (true≢false r)
      go false q r again = ⊎_elim (λ is. ap test is ∙ q) (λ more. again r y more) (Memᴰ.cases_cons at)

  pub any_member : (ms : List Match) (y : Match) → Memᴰ y ms → test y ≡ true → any_match test ms ≡ true
  any_member ms y at passes = go (any_match test ms) refl
    where
      go : (t : Bool) → any_match test ms ≡ t → t ≡ true
      go true e = refl
      go false e = absurd (true≢false (sym passes ∙ any_false ms e y at))

module _ (x : Match) (xs : List Match) where
  -- contradicting matches: the first and another that does not agree with it
  pub contradicted : contradict x xs ≡ true → (y : Match) × Memᴰ y xs × (agree x.second y.second ≡ false)
  unfolding contradict
  contradicted e = let (y, at, passes) = any_true (λ z. not (agree x.second z.second)) xs e in (y, at, not-true (agree x.second y.second) passes)

  -- where they do not contradict, any two agree
  pub agreeing : contradict x xs ≡ false → (y z : Match) → Memᴰ y (x ∷ xs) → Memᴰ z (x ∷ xs) → agree y.second z.second ≡ true
  unfolding contradict
  agreeing e y z at there = agree_both x.second y.second z.second (with_first y at) (with_first z there)
    where
      with_first : (m : Match) → Memᴰ m (x ∷ xs) → agree x.second m.second ≡ true
      with_first m k =
          ⊎_elim (λ is. ap (λ (n : Match). agree x.second n.second) is ∙ agree_self x.second)
          (λ more. not-false (agree x.second m.second) (any_false (λ n. not (agree x.second n.second)) xs e m more))
          (Memᴰ.cases_cons k)
