-- How many pages of a pair are mapped: the same for both of its groups, and after each change of the finite map.
use mathlib.Core.Path.{◌≡◌, refl, sym, ap, ◌∙◌}
use mathlib.Core.Bool.{Bool, true, false, ◌||◌, or_comm}
use mathlib.Core.List.{List}
use mathlib.Core.Option.{some}
use Prim.Native.Nat.{ℕ, suc, ◌+◌, ◌-◌, ◌<◌}
use native.Mathlib.Omega.{arith}
use lib.Dec.{eqb}
use Rattle.theory_placement.specs.Lists.{one_if}
use Rattle.theory_placement.specs.Pairs.{of_pair, pages_of_pair}
use Rattle.theory_placement.proofs.Decision.{of_pair_by, primary_in_range}
use Rattle.theory_placement.specs.FiniteMap.{mapped_pages, put_in, fields_at, take_out, revise, NoPageTwice}
use Rattle.theory_placement.proofs.Lists.{how_many_same}
use Rattle.theory_placement.proofs.Perm.{phow_many, pmap}
use Rattle.theory_placement.proofs.FiniteMap.{perm_take_out, mapped_pages_revise}

module _ {P : Type 0} (group : Bool → P → ℕ) (half : ℕ) (mirror : (p : P) → group true p + suc (group false p) ≡ half + half) where
  pub of_pair_mirror : (p : P) (g : ℕ) → g < half + half → of_pair group (half + half - suc g) p ≡ of_pair group g p
  of_pair_mirror p g l =
      of_pair_by group half mirror false p (half + half - suc g) (omega arith)
      ∙ ap (λ (k : ℕ). eqb (group false p) (half + half - suc g) || eqb (group false p) k) (omega arith)
      ∙ or_comm (eqb (group false p) (half + half - suc g)) (eqb (group false p) g)
      ∙ sym (of_pair_by group half mirror false p g l)

  pub pages_of_pair_mirror : (g : ℕ) → g < half + half → (ps : List P) → pages_of_pair group (half + half - suc g) ps ≡ pages_of_pair group g ps
  pages_of_pair_mirror g l ps = how_many_same (of_pair group (half + half - suc g)) (of_pair group g) (λ p. of_pair_mirror p g l) ps

  pub pages_of_pair_secondary : (p : P) (ps : List P) → pages_of_pair group (group true p) ps ≡ pages_of_pair group (group false p) ps
  pages_of_pair_secondary p ps =
      let m = mirror p in
      ap (λ (g : ℕ). pages_of_pair group g ps) (omega arith) ∙ pages_of_pair_mirror (group false p) (primary_in_range group half mirror p) ps

module _ {P F : Type 0} (group : Bool → P → ℕ) (g : ℕ) where
  pub pages_of_pair_put_in : (p : P) (f : F) (m : List (P × F))
      → pages_of_pair group g (mapped_pages (put_in p f m)) ≡ one_if (of_pair group g p) + pages_of_pair group g (mapped_pages m)
  pages_of_pair_put_in p f m = refl

  module _ (same : P → P → Bool) where
    pub pages_of_pair_revise : (p : P) (u : F → F) (m : List (P × F)) → pages_of_pair group g (mapped_pages (revise same p u m)) ≡ pages_of_pair group g (mapped_pages m)
    pages_of_pair_revise p u m = ap (pages_of_pair group g) (mapped_pages_revise same p u m)

    module _ (same_refl : (p : P) → same p p ≡ true) (same_eq : (p q : P) → same p q ≡ true → p ≡ q) where
      -- a mapped page taken out: one page less of its own pair, as many of any other
      pub pages_of_pair_take_out : (p : P) (f : F) (m : List (P × F)) → NoPageTwice same m → fields_at same p m ≡ some f
          → pages_of_pair group g (mapped_pages m) ≡ one_if (of_pair group g p) + pages_of_pair group g (mapped_pages (take_out same p m))
      pages_of_pair_take_out p f m n h = phow_many (of_pair group g) (pmap (λ x. x.0) (perm_take_out same same_refl same_eq p f m n h))
