-- An arrangement exists exactly when no pair has more pages than entries; so it exists for any list that has no more pages of any pair.
use mathlib.Core.Path.{◌≡◌, sym}
use mathlib.Core.Bool.{Bool, true, false, not, decide}
use mathlib.Core.List.{List, [], ◌∷◌, Sublistᴰ}
use mathlib.Core.Logic.{◌↔◌, ◌⊎◌, inl, inr}
use Prim.Native.Nat.{ℕ, suc, ◌+◌, ◌≤◌, ◌<◌}
use native.Mathlib.Omega.{arith}
use lib.Dec.{ltb}
use borrow.Author.Tests.{lt-ltb, le-ltb}
use Rattle.theory_placement.specs.Placement.{Arrangement}
use Rattle.theory_placement.specs.Pairs.{of_pair, pages_of_pair, ArrangementExists}
use Rattle.theory_placement.proofs.Decision.{own_pair, primary_in_range, pair_bound, place}
use Rattle.theory_placement.specs.FiniteMap.{mapped_pages, take_out}
use Rattle.theory_placement.proofs.Lists.{how_many_sublist, selected_sublist}
use Rattle.theory_placement.proofs.Perm.{Perm, phow_many}
use Rattle.theory_placement.proofs.FiniteMap.{mapped_pages_take_out}

module _ {P : Type 0} (group : Bool → P → ℕ) (capacity half : ℕ) (mirror : (p : P) → group true p + suc (group false p) ≡ half + half) where
  fewer : (p : P) (ps : List P) → ((g : ℕ) → g < half + half → pages_of_pair group g (p ∷ ps) ≤ capacity + capacity)
      → (g : ℕ) → g < half + half → pages_of_pair group g ps ≤ capacity + capacity
  fewer p ps h g l = let k = h g l in omega arith

  placed_all : (ps : List P) → ((g : ℕ) → g < half + half → pages_of_pair group g ps ≤ capacity + capacity) → Arrangement group capacity ps
  placed_all [] h = record { choice = tt; fits = λ g. omega arith }
  placed_all (p ∷ ps) h = go (place group capacity half mirror p ps (placed_all ps (fewer p ps h)))
    where
      go : Arrangement group capacity (p ∷ ps) ⊎ (capacity + capacity ≤ pages_of_pair group (group false p) ps) → Arrangement group capacity (p ∷ ps)
      go (inl a) = a
      go (inr full) =
          let k = h (group false p) (primary_in_range group half mirror p) in
          let o = own_pair group p ps in
          absurd (omega arith)

  one_more : (p : P) (ps : List P) → Arrangement group capacity ps
      → Arrangement group capacity (p ∷ ps) ↔ (pages_of_pair group (group false p) ps < capacity + capacity)
  one_more p ps a = (λ b. there b, λ l. back l (place group capacity half mirror p ps a))
    where
      there : Arrangement group capacity (p ∷ ps) → pages_of_pair group (group false p) ps < capacity + capacity
      there b =
          let k = pair_bound group capacity half mirror (p ∷ ps) b (group false p) (primary_in_range group half mirror p) in
          let o = own_pair group p ps in
          omega arith

      back : pages_of_pair group (group false p) ps < capacity + capacity
          → Arrangement group capacity (p ∷ ps) ⊎ (capacity + capacity ≤ pages_of_pair group (group false p) ps) → Arrangement group capacity (p ∷ ps)
      back l (inl b) = b
      back l (inr full) = absurd (omega arith)

  decided : (p : P) (ps : List P) → Arrangement group capacity ps → (d : Dec (Arrangement group capacity (p ∷ ps)))
      → decide d ≡ ltb (pages_of_pair group (group false p) ps) (capacity + capacity)
  unfolding decide
  decided p ps a d = go d (place group capacity half mirror p ps a)
    where
      go : (d : Dec (Arrangement group capacity (p ∷ ps))) → Arrangement group capacity (p ∷ ps) ⊎ (capacity + capacity ≤ pages_of_pair group (group false p) ps)
          → decide d ≡ ltb (pages_of_pair group (group false p) ps) (capacity + capacity)
      go (yes b) s = sym (lt-ltb (pages_of_pair group (group false p) ps) (capacity + capacity) ((one_more p ps a).0 b))
      go (no n) (inl b) = absurd (n b)
      go (no n) (inr full) = sym (le-ltb (pages_of_pair group (group false p) ps) (capacity + capacity) full)

  pub arrangement_exists : ArrangementExists group capacity half
  arrangement_exists = record {
    exactly = λ ps. (
      λ a g l. let k = pair_bound group capacity half mirror ps a g l in omega arith,
      λ h. placed_all ps (λ g l. let k = h g l in omega arith),
    );
    one_more = one_more;
    decided = decided;
  }

  pub arrangement_fewer : (ps qs : List P) → ((g : ℕ) → g < half + half → pages_of_pair group g qs ≤ pages_of_pair group g ps)
      → Arrangement group capacity ps → Arrangement group capacity qs
  arrangement_fewer ps qs h a =
      placed_all qs (λ g l. let x = h g l in let k = pair_bound group capacity half mirror ps a g l in omega arith)

  pub arrangement_perm : {ps qs : List P} → Perm ps qs → Arrangement group capacity ps ↔ Arrangement group capacity qs
  arrangement_perm {ps} {qs} d = (
    arrangement_fewer ps qs (λ g l. let e = phow_many (of_pair group g) d in omega arith),
    arrangement_fewer qs ps (λ g l. let e = phow_many (of_pair group g) d in omega arith),
  )

  pub arrangement_sublist : {ps qs : List P} → Sublistᴰ qs ps → Arrangement group capacity ps → Arrangement group capacity qs
  arrangement_sublist {ps} {qs} s = arrangement_fewer ps qs (λ g l. how_many_sublist (of_pair group g) s)

  -- the mapped pages keep an arrangement when a page is taken out
  pub arrangement_take_out : {F : Type 0} (same : P → P → Bool) (p : P) (m : List (P × F))
      → Arrangement group capacity (mapped_pages m) → Arrangement group capacity (mapped_pages (take_out same p m))
  arrangement_take_out same p m =
      rw (mapped_pages_take_out same p m) (arrangement_sublist (selected_sublist (λ q. not (same p q)) (mapped_pages m)))
