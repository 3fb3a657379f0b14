-- Whether an arrangement exists is decided, by a decision that computes: each page goes where an entry is left, and where none is, its pair is full.
-- The type of the decision says that it is right.
use mathlib.Core.Path.{◌≡◌, refl, sym, ap, ◌∙◌, subst}
use mathlib.Core.Bool.{Bool, true, false, ◌||◌, or_comm}
use mathlib.Core.List.{List, [], ◌∷◌}
use mathlib.Core.Logic.{◌⊎◌, inl, inr}
use Prim.Native.Nat.{ℕ, suc, ◌+◌, ◌-◌, ◌≤◌, ◌<◌}
use native.Mathlib.Omega.{arith}
use lib.Dec.{eqb, ltb}
use borrow.Author.Tests.{eqb-true, eq-eqb, ltb-true, ltb-false}
use Rattle.words.proofs.Tests.{eqb_same}
use Rattle.theory_placement.specs.Lists.{one_if}
use Rattle.theory_placement.specs.Placement.{Choices, times_chosen, Arrangement}
use Rattle.theory_placement.specs.Pairs.{of_pair, pages_of_pair}

module _ {P : Type 0} (group : Bool → P → ℕ) where
  -- a page is of its own pair
  pub own_pair : (p : P) (ps : List P) → pages_of_pair group (group false p) (p ∷ ps) ≡ suc (pages_of_pair group (group false p) ps)
  own_pair p ps = rw (eq-eqb (group false p) (group false p) refl) (omega arith)

one_if_or : (s t : Bool) → (s ≡ true → t ≡ true → ⊥) → one_if s + one_if t ≡ one_if (s || t)
one_if_or true true h = absurd (h refl refl)
one_if_or true false h = refl
one_if_or false true h = refl
one_if_or false false h = refl

module _ {P : Type 0} (group : Bool → P → ℕ) (half : ℕ) (mirror : (p : P) → group true p + suc (group false p) ≡ half + half) where
  -- either group of a page tells its pair
  pub of_pair_by : (b : Bool) (p : P) (g : ℕ) → g < half + half → of_pair group g p ≡ (eqb (group b p) g || eqb (group b p) (half + half - suc g))
  of_pair_by false p g l =
      let m = mirror p in
      ap (λ (t : Bool). eqb (group false p) g || t) (eqb_same (group true p) g (group false p) (half + half - suc g) (λ e. omega arith) (λ e. omega arith))
  of_pair_by true p g l =
      let m = mirror p in
      or_comm (eqb (group false p) g) (eqb (group true p) g)
      ∙ ap (λ (t : Bool). eqb (group true p) g || t) (eqb_same (group false p) g (group true p) (half + half - suc g) (λ e. omega arith) (λ e. omega arith))

  -- whatever is chosen, a group and its mirror are together chosen once for each page of their pair
  pub chosen_pair : (g : ℕ) → g < half + half → (ps : List P) (c : Choices ps)
      → times_chosen group g ps c + times_chosen group (half + half - suc g) ps c ≡ pages_of_pair group g ps
  chosen_pair g l [] c = refl
  chosen_pair g l (p ∷ ps) c =
      let a = chosen_once in
      let b = chosen_pair g l ps c.1 in
      omega arith
    where
      chosen_once : one_if (eqb (group c.0 p) g) + one_if (eqb (group c.0 p) (half + half - suc g)) ≡ one_if (of_pair group g p)
      chosen_once =
          one_if_or (eqb (group c.0 p) g) (eqb (group c.0 p) (half + half - suc g))
          (λ s t. let x = eqb-true (group c.0 p) g s in let y = eqb-true (group c.0 p) (half + half - suc g) t in omega arith)
          ∙ ap one_if (sym (of_pair_by c.0 p g l))

  pub primary_in_range : (p : P) → group false p < half + half
  primary_in_range p = let m = mirror p in omega arith

module _ {P : Type 0} (group : Bool → P → ℕ) (capacity : ℕ) where
  -- an entry is left in group g
  abbrev pub entry_left : ℕ → (ps : List P) → Choices ps → Bool
  entry_left g ps c = ltb (times_chosen group g ps c) capacity

  -- one page less
  pub arrangement_tail : (p : P) (ps : List P) → Arrangement group capacity (p ∷ ps) → Arrangement group capacity ps
  arrangement_tail p ps a = record { choice = a.choice.1; fits = λ g. let k = a.fits g in omega arith }

  -- one page more, in that of its own two groups which has an entry left
  unfoldable pub placed : (p : P) (ps : List P) (a : Arrangement group capacity ps) (b : Bool) → entry_left (group b p) ps a.choice ≡ true
      → Arrangement group capacity (p ∷ ps)
  placed p ps a b l = record { choice = (b, a.choice); fits = λ g. go g (eqb (group b p) g) refl }
    where
      go : (g : ℕ) (t : Bool) → eqb (group b p) g ≡ t → one_if t + times_chosen group g ps a.choice ≤ capacity
      go g true e =
          let l' : entry_left g ps a.choice ≡ true = subst (λ (x : ℕ). entry_left x ps a.choice ≡ true) (eqb-true (group b p) g e) l in
          omega (arith, ltb-true)
      go g false e = let k = a.fits g in omega arith

module _ {P : Type 0} (group : Bool → P → ℕ) (capacity half : ℕ) (mirror : (p : P) → group true p + suc (group false p) ≡ half + half) where
  -- the two groups of a pair have no more pages than entries
  pub pair_bound : (ps : List P) → Arrangement group capacity ps → (g : ℕ) → g < half + half → pages_of_pair group g ps ≤ capacity + capacity
  pair_bound ps a g l =
      let e = chosen_pair group half mirror g l ps a.choice in
      let x = a.fits g in
      let y = a.fits (half + half - suc g) in
      omega arith

  -- an arrangement takes one page more, or the page's own two groups are full
  unfoldable pub place : (p : P) (ps : List P) → Arrangement group capacity ps
      → Arrangement group capacity (p ∷ ps) ⊎ (capacity + capacity ≤ pages_of_pair group (group false p) ps)
  unfolding placed
  place p ps a = go (entry_left group capacity (group false p) ps a.choice) refl (entry_left group capacity (group true p) ps a.choice) refl
    where
      go : (s : Bool) → entry_left group capacity (group false p) ps a.choice ≡ s → (t : Bool) → entry_left group capacity (group true p) ps a.choice ≡ t
          → Arrangement group capacity (p ∷ ps) ⊎ (capacity + capacity ≤ pages_of_pair group (group false p) ps)
      go true e t u = inl (placed group capacity p ps a false e)
      go false e true u = inl (placed group capacity p ps a true u)
      go false e false u =
          let m = mirror p in
          let o : group true p ≡ half + half - suc (group false p) = omega arith in
          let s = chosen_pair group half mirror (group false p) (primary_in_range group half mirror p) ps a.choice in
          let u' : entry_left group capacity (half + half - suc (group false p)) ps a.choice ≡ false = subst (λ (x : ℕ). entry_left group capacity x ps a.choice ≡ false) o u in
          inr (omega (arith, ltb-false))

  -- The decision: each page goes where an entry is left, and where none is, no other choice would help.
  unfoldable pub arrangement? : (ps : List P) → Dec (Arrangement group capacity ps)
  unfolding place
  arrangement? [] = yes (record { choice = tt; fits = λ g. omega arith })
  arrangement? (p ∷ ps) = go (arrangement? ps)
    where
      one_more : Arrangement group capacity (p ∷ ps) ⊎ (capacity + capacity ≤ pages_of_pair group (group false p) ps) → Dec (Arrangement group capacity (p ∷ ps))
      one_more (inl a) = yes a
      one_more (inr full) = no (λ a.
          let k = pair_bound (p ∷ ps) a (group false p) (primary_in_range group half mirror p) in
          let o = own_pair group p ps in
          omega arith)

      go : Dec (Arrangement group capacity ps) → Dec (Arrangement group capacity (p ∷ ps))
      go (yes a) = one_more (place p ps a)
      go (no h) = no (λ a. h (arrangement_tail group capacity p ps a))
