-- The small kind of table has the laws of a layout, so these can be had together, its empty table represents the empty map, and its rows compute.
use mathlib.Core.Path.{◌≡◌, refl, ap}
use mathlib.Core.Bool.{Bool, true, false, cond, ◌&&◌}
use mathlib.Core.List.{[]}
use Prim.Native.Nat.{ℕ, suc, ◌+◌, ◌%◌}
use native.Mathlib.Omega.{arith}
use lib.Dec.{eqb}
use borrow.Author.Tests.{eqb-true, eq-eqb, ne_eqb}
use Rattle.theory_tables.specs.Layout.{Reads, LayoutLaws}
use Rattle.theory_tables.specs.Represents.{Represents}
use Rattle.theory_tables.specs.FourGroups.{page_word, page_group, four, FourGroupsTables}
use Rattle.theory_tables.proofs.Steps.{represents_empty}
use Rattle.theory_tables.proofs.Computes.{tables_compute}

mirrored : (p : ℕ) → page_group true p + suc (page_group false p) ≡ 2 + 2
mirrored p = omega arith

not_free : (b : Bool) (p u : ℕ) → eqb u (page_word b p) ≡ true → eqb (u % 2) 0 ≡ false
not_free false p u e = let q = eqb-true u (page_word false p) e in ne_eqb (u % 2) 0 (λ z. omega arith)
not_free true p u e = let q = eqb-true u (page_word true p) e in ne_eqb (u % 2) 0 (λ z. omega arith)

one_page : (b c : Bool) (p q u : ℕ) → page_group b p ≡ page_group c q → u ≡ page_word b p → u ≡ page_word c q → p ≡ q
one_page false false p q u g x y = omega arith
one_page false true p q u g x y = omega arith
one_page true false p q u g x y = omega arith
one_page true true p q u g x y = omega arith

another : (t : ℕ → ℕ → ℕ × ℕ) (g h i j u v : ℕ) → (eqb h g && eqb j i) ≡ false → Reads four (four.put t g i u v) h j (t h j).0 (t h j).1
another t g h i j u v e = (ap (λ (s : Bool). (cond s (u, v) (t h j)).0) e, ap (λ (s : Bool). (cond s (u, v) (t h j)).1) e)

pub four_laws : LayoutLaws four eqb (λ p. Unit {0}) (λ u. Unit {0}) (λ t. Unit {0})
four_laws = record {
  same_refl = λ p. eq-eqb p p refl;
  same_eq = λ p q e. eqb-true p q e;
  mirror = mirrored;
  match_used = λ b p u v. not_free b p u;
  tells = λ b c p q u x y g e f. one_page b c p q u g (eqb-true u (page_word b p) e) (eqb-true u (page_word c q) f);
  read_fits = λ t g i x y z. (tt, tt);
  put_good = λ t g i u v x y z. tt;
  put_same = λ t g i u v x y z a b. rw (eq-eqb g g refl, eq-eqb i i refl) (refl, refl);
  put_other_entry = λ t g i j u v x y z a d. another t g g i j u v (rw (eq-eqb g g refl) (ne_eqb j i d));
  put_other_group = λ t g h i j u v x y z a b d. another t g h i j u v (rw (ne_eqb h g d));
}

pub four_empty : Represents four eqb (λ p. Unit {0}) (λ t. Unit {0}) (λ (w : ℕ). w) (λ w. Unit {0}) (λ g i. (0, 0)) []
four_empty = represents_empty four_laws (λ g i. (0, 0)) tt (λ g i x y. refl)

pub four_groups_tables : FourGroupsTables
unfolding tables_compute
four_groups_tables = record {
  matches = record { equal = refl };
  uses = record { equal = refl };
  free_places = record { equal = refl };
  overwritten = record { equal = refl };
  runs = record { equal = refl };
  afterwards = record { equal = refl };
}
