-- Every row holds: the maps compute, and whether an arrangement exists is decided by a decision that computes.
use mathlib.Core.Path.{◌≡◌, refl}
use mathlib.Core.Bool.{true, false, decide}
use mathlib.Core.List.{List}
use mathlib.Core.Option.{some-ne-none}
use Prim.Native.Nat.{ℕ, suc, ◌+◌}
use native.Mathlib.Omega.{arith}
use Rattle.theory_placement.specs.Examples.{four_groups, Fit, PlacementTables}
use Rattle.theory_placement.proofs.Decision.{arrangement?}

mirror : (p : ℕ) → four_groups true p + suc (four_groups false p) ≡ 2 + 2
mirror p = omega arith

abbrev fit? : (capacity : ℕ) (ps : List ℕ) → Dec (Fit capacity ps)
fit? capacity ps = arrangement? four_groups capacity 2 mirror ps

fits : {A : Type 0} (d : Dec A) → decide d ≡ true → A
unfolding decide
fits (yes a) e = a
fits (no n) e = absurd (let z : ◌≡◌ {A = ℕ} 0 1 = cc in omega arith)

fits_not : {A : Type 0} (d : Dec A) → decide d ≡ false → A → ⊥
unfolding decide
fits_not (yes a) e = absurd (let z : ◌≡◌ {A = ℕ} 0 1 = cc in omega arith)
fits_not (no n) e = n

pub placement_tables : PlacementTables
unfolding arrangement? decide
placement_tables = record {
  fields = record { equal = refl };
  pages = record { equal = refl };
  once = (refl, (refl, (refl, tt)));
  twice = λ h. some-ne-none 20 h.0;
  sixteen = (fits (fit? 8 _) refl, fits (fit? 8 _) refl);
  seventeen = (fits_not (fit? 8 _) refl, fits_not (fit? 8 _) refl, fits_not (fit? 8 _) refl);
  other_pair = fits (fit? 8 _) refl;
  groups_of_three = (fits (fit? 3 _) refl, fits_not (fit? 3 _) refl);
}
