-- Laws of counting and selecting by a test.
use mathlib.Core.Path.{◌≡◌, refl, ap}
use mathlib.Core.Bool.{Bool, true, false, cond}
use mathlib.Core.List.{List, [], ◌∷◌, ◌++◌, map, Sublistᴰ}
use Prim.Native.Nat.{suc, ◌+◌, ◌≤◌}
use native.Mathlib.Omega.{arith}
use lib.ListN.{length}
use Rattle.theory_placement.specs.Lists.{one_if, how_many, selected}

module _ {A : Type 0} (q : A → Bool) where
  pub how_many_append : (a b : List A) → how_many q (a ++ b) ≡ how_many q a + how_many q b
  how_many_append [] b = omega arith
  how_many_append (x ∷ a) b = let i = how_many_append a b in omega arith

  pub how_many_selected : (l : List A) → how_many q l ≡ length (selected q l)
  how_many_selected [] = refl
  how_many_selected (x ∷ l) = go (q x) (how_many_selected l)
    where
      go : (t : Bool) → how_many q l ≡ length (selected q l) → one_if t + how_many q l ≡ length (cond t (x ∷ selected q l) (selected q l))
      go true i = omega arith
      go false i = omega arith

  pub how_many_length : (l : List A) → how_many q l ≤ length l
  how_many_length [] = omega arith
  how_many_length (x ∷ l) = go (q x) (how_many_length l)
    where
      go : (t : Bool) → how_many q l ≤ length l → one_if t + how_many q l ≤ suc (length l)
      go true i = omega arith
      go false i = omega arith

  pub how_many_sublist : {k l : List A} → Sublistᴰ k l → how_many q k ≤ how_many q l
  how_many_sublist Sublistᴰ.slnil = omega arith
  how_many_sublist (Sublistᴰ.cons s) = let i = how_many_sublist s in omega arith
  how_many_sublist (Sublistᴰ.cons-cons e s) = let i = how_many_sublist s in let o = ap (λ x. one_if (q x)) e in omega arith

  pub selected_sublist : (l : List A) → Sublistᴰ (selected q l) l
  selected_sublist [] = Sublistᴰ.slnil
  selected_sublist (x ∷ l) = go (q x) (selected_sublist l)
    where
      go : (t : Bool) → Sublistᴰ (selected q l) l → Sublistᴰ (cond t (x ∷ selected q l) (selected q l)) (x ∷ l)
      go true i = Sublistᴰ.cons-cons refl i
      go false i = Sublistᴰ.cons i

  pub selected_append : (a b : List A) → selected q (a ++ b) ≡ selected q a ++ selected q b
  selected_append [] b = refl
  selected_append (x ∷ a) b = go (q x) (selected_append a b)
    where
      go : (t : Bool) → selected q (a ++ b) ≡ selected q a ++ selected q b
          → cond t (x ∷ selected q (a ++ b)) (selected q (a ++ b)) ≡ cond t (x ∷ selected q a) (selected q a) ++ selected q b
      go true i = ap (λ l. x ∷ l) i
      go false i = i

module _ {A : Type 0} (q r : A → Bool) where
  pub how_many_same : ((x : A) → q x ≡ r x) → (l : List A) → how_many q l ≡ how_many r l
  how_many_same h [] = refl
  how_many_same h (x ∷ l) = let e = ap one_if (h x) in let i = how_many_same h l in omega arith

  pub selected_comm : (l : List A) → selected q (selected r l) ≡ selected r (selected q l)
  selected_comm [] = refl
  selected_comm (x ∷ l) = go (q x) refl (r x) refl (selected_comm l)
    where
      go : (s : Bool) → q x ≡ s → (t : Bool) → r x ≡ t → selected q (selected r l) ≡ selected r (selected q l)
          → selected q (cond t (x ∷ selected r l) (selected r l)) ≡ selected r (cond s (x ∷ selected q l) (selected q l))
      go true e true u i = rw (e, u) (ap (λ k. x ∷ k) i)
      go true e false u i = rw u i
      go false e true u i = rw e i
      go false e false u i = i

module _ {A B : Type 0} (q : B → Bool) (f : A → B) where
  pub how_many_map : (l : List A) → how_many q (map f l) ≡ how_many (λ x. q (f x)) l
  how_many_map [] = refl
  how_many_map (x ∷ l) = ap (λ n. one_if (q (f x)) + n) (how_many_map l)

  pub selected_map : (l : List A) → selected q (map f l) ≡ map f (selected (λ x. q (f x)) l)
  selected_map [] = refl
  selected_map (x ∷ l) = go (q (f x)) (selected_map l)
    where
      go : (t : Bool) → selected q (map f l) ≡ map f (selected (λ y. q (f y)) l)
          → cond t (f x ∷ selected q (map f l)) (selected q (map f l)) ≡ map f (cond t (x ∷ selected (λ y. q (f y)) l) (selected (λ y. q (f y)) l))
      go true i = ap (λ k. f x ∷ k) i
      go false i = i
