-- Permutations: two lists with the same elements, each as often, by four plain constructors (the library's carry paths or are truncated).
use mathlib.Core.Path.{◌≡◌, refl, ap, ◌∙◌, subst}
use mathlib.Core.Bool.{Bool, true, false, cond}
use mathlib.Core.List.{List, [], ◌∷◌, ◌++◌, map}
use Prim.Native.Nat.{suc, ◌+◌}
use native.Mathlib.Omega.{arith}
use lib.ListN.{length}
use Rattle.theory_placement.specs.Lists.{one_if, how_many, selected}

pub data Perm {A : Type 0} : List A → List A → Type 0 where
  pnil : Perm [] []
  pcons : {x : A} {a b : List A} → Perm a b → Perm (x ∷ a) (x ∷ b)
  pswap : {x y : A} {l : List A} → Perm (x ∷ y ∷ l) (y ∷ x ∷ l)
  ptrans : {a b c : List A} → Perm a b → Perm b c → Perm a c

module _ {A : Type 0} where
  pub prefl : (l : List A) → Perm l l
  prefl [] = pnil
  prefl (x ∷ l) = pcons (prefl l)

  -- equal lists
  pub pof : {a b : List A} → a ≡ b → Perm a b
  pof {a} e = subst (λ (l : List A). Perm a l) e (prefl a)

  pub psym : {a b : List A} → Perm a b → Perm b a
  psym pnil = pnil
  psym (pcons p) = pcons (psym p)
  psym pswap = pswap
  psym (ptrans p q) = ptrans (psym q) (psym p)

  pub pappend_right : {a b : List A} → Perm a b → (c : List A) → Perm (a ++ c) (b ++ c)
  pappend_right pnil c = prefl c
  pappend_right (pcons p) c = pcons (pappend_right p c)
  pappend_right pswap c = pswap
  pappend_right (ptrans p q) c = ptrans (pappend_right p c) (pappend_right q c)

  pub pappend_left : (c : List A) {a b : List A} → Perm a b → Perm (c ++ a) (c ++ b)
  pappend_left [] p = p
  pappend_left (x ∷ c) p = pcons (pappend_left c p)

  -- an element brought to the front
  pub pmiddle : (a : List A) (x : A) (b : List A) → Perm (a ++ x ∷ b) (x ∷ a ++ b)
  pmiddle [] x b = prefl (x ∷ b)
  pmiddle (y ∷ a) x b = ptrans (pcons (pmiddle a x b)) pswap

  pub plength : {a b : List A} → Perm a b → length a ≡ length b
  plength pnil = refl
  plength (pcons p) = ap suc (plength p)
  plength pswap = refl
  plength (ptrans p q) = plength p ∙ plength q

  pub phow_many : (q : A → Bool) {a b : List A} → Perm a b → how_many q a ≡ how_many q b
  phow_many q pnil = refl
  phow_many q (pcons {x = x} p) = ap (λ n. one_if (q x) + n) (phow_many q p)
  phow_many q pswap = omega arith
  phow_many q (ptrans p r) = phow_many q p ∙ phow_many q r

  pub pselected : (q : A → Bool) {a b : List A} → Perm a b → Perm (selected q a) (selected q b)
  pselected q pnil = pnil
  pselected q (pcons {x = x} {a = a} {b = b} p) = go (q x) (pselected q p)
    where
      go : (t : Bool) → Perm (selected q a) (selected q b) → Perm (cond t (x ∷ selected q a) (selected q a)) (cond t (x ∷ selected q b) (selected q b))
      go true i = pcons i
      go false i = i
  pselected q (pswap {x = x} {y = y} {l = l}) = go (q x) (q y) (selected q l)
    where
      go : (s t : Bool) (k : List A) → Perm (cond s (x ∷ cond t (y ∷ k) k) (cond t (y ∷ k) k)) (cond t (y ∷ cond s (x ∷ k) k) (cond s (x ∷ k) k))
      go true true k = pswap
      go true false k = prefl (x ∷ k)
      go false true k = prefl (y ∷ k)
      go false false k = prefl k
  pselected q (ptrans p r) = ptrans (pselected q p) (pselected q r)

pub pmap : {A B : Type 0} (f : A → B) {a b : List A} → Perm a b → Perm (map f a) (map f b)
pmap f pnil = pnil
pmap f (pcons p) = pcons (pmap f p)
pmap f pswap = pswap
pmap f (ptrans p q) = ptrans (pmap f p) (pmap f q)
