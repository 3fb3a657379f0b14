-- Used entries of a pair of groups, in any table: after an entry is filled for a page of the pair, and after a page's matches are made free.
use mathlib.Core.Path.{◌≡◌, refl, sym, subst}
use mathlib.Core.Bool.{Bool, true, false, cond, ◌||◌}
use Prim.Native.Nat.{ℕ, suc, ◌+◌, ◌-◌, ◌<◌}
use native.Mathlib.Omega.{arith}
use lib.Dec.{eqb}
use lib.ListN.{length, length-append}
use borrow.Author.Tests.{eqb-true, eqb-false}
use Rattle.theory_placement.specs.Lists.{one_if}
use Rattle.theory_placement.specs.Pairs.{of_pair}
use Rattle.theory_placement.proofs.Decision.{of_pair_by}
use Rattle.theory_tables.specs.Matches.{Match}
use Rattle.theory_tables.specs.Layout.{Layout, groups, matches_in, matches_of, free_at, used, used_of_pair, LayoutLaws}
use Rattle.theory_tables.proofs.Groups.{MatchOf, group_in_range, group_mirror}
use Rattle.theory_tables.proofs.Puts.{used_filled, used_put_other}
use Rattle.theory_tables.proofs.Edits.{Edited, freed_used, elsewhere_used}

module _ {P T : Type 0} {L : Layout P T} {same : P → P → Bool} {Valid : P → Type 0} {Fits : ℕ → Type 0} {Good : T → Type 0}
    (laws : LayoutLaws L same Valid Fits Good) where
  -- a page's two groups are its pair
  pub used_of_pair_own : (t : T) (b : Bool) (p : P) → used_of_pair L t (L.group b p) ≡ used L t (L.group false p) + used L t (L.group true p)
  used_of_pair_own t false p = rw (group_mirror laws false p)
  used_of_pair_own t true p = rw (group_mirror laws true p) (omega arith)

  -- a free entry of one of the page's groups filled
  pub pair_filled : (t : T) (p : P) (b : Bool) (i u v : ℕ) → Good t → i < L.capacity → Fits u → Fits v
      → free_at L t (L.group b p) i ≡ true → L.free u ≡ false → (g : ℕ) → g < groups L
      → used_of_pair L (L.put t (L.group b p) i u v) g ≡ one_if (of_pair L.group g p) + used_of_pair L t g
  pair_filled t p b i u v good l fu fv e f g lg =
      rw (of_pair_by L.group L.half laws.mirror b p g lg) (go (eqb (L.group b p) g) refl (eqb (L.group b p) (groups L - suc g)) refl)
    where
      t' : T
      t' = L.put t (L.group b p) i u v

      here : (h : ℕ) → L.group b p ≡ h → used L t' h ≡ suc (used L t h)
      here h q = subst (λ (k : ℕ). used L t' k ≡ suc (used L t k)) q (used_filled laws t (L.group b p) i u v good (group_in_range laws b p) l fu fv e f)

      other : (h : ℕ) → h < groups L → (L.group b p ≡ h → ⊥) → used L t' h ≡ used L t h
      other h lh d = used_put_other laws t (L.group b p) i u v good (group_in_range laws b p) l h lh (λ q. d (sym q))

      go : (r : Bool) → eqb (L.group b p) g ≡ r → (s : Bool) → eqb (L.group b p) (groups L - suc g) ≡ s
          → used_of_pair L t' g ≡ one_if (r || s) + used_of_pair L t g
      go true x true y = let a = eqb-true (L.group b p) g x in let c = eqb-true (L.group b p) (groups L - suc g) y in absurd (omega arith)
      go true x false y =
          let a = here g (eqb-true (L.group b p) g x) in
          let c = other (groups L - suc g) (omega arith) (eqb-false (L.group b p) (groups L - suc g) y) in
          omega arith
      go false x true y =
          let a = other g lg (eqb-false (L.group b p) g x) in
          let c = here (groups L - suc g) (eqb-true (L.group b p) (groups L - suc g) y) in
          omega arith
      go false x false y =
          let a = other g lg (eqb-false (L.group b p) g x) in
          let c = other (groups L - suc g) (omega arith) (eqb-false (L.group b p) (groups L - suc g) y) in
          omega arith

  -- each of the page's matches made free
  pub pair_freed : {t t' : T} {p : P} {edit : Match → ℕ × ℕ} → Edited L Good t t' p edit → Valid p → ((x : Match) → MatchOf L t p x → L.free (edit x).0 ≡ true)
      → (g : ℕ) → g < groups L → used_of_pair L t g ≡ cond (of_pair L.group g p) (length (matches_of L t p)) 0 + used_of_pair L t' g
  unfolding matches_of
  pair_freed {t} {t'} {p} edited valid freed g lg = go (eqb (L.group false p) g) refl (eqb (L.group true p) g) refl
    where
      own : (b : Bool) (h : ℕ) → L.group b p ≡ h → used_of_pair L t h ≡ length (matches_of L t p) + used_of_pair L t' h
      own b h q =
          let a = freed_used laws edited valid freed false in
          let c = freed_used laws edited valid freed true in
          let n = length-append (matches_in L t false p) (matches_in L t true p) in
          let o = used_of_pair_own t b p in
          let o' = used_of_pair_own t' b p in
          subst (λ (k : ℕ). used_of_pair L t k ≡ length (matches_of L t p) + used_of_pair L t' k) q (omega arith)

      go : (r : Bool) → eqb (L.group false p) g ≡ r → (s : Bool) → eqb (L.group true p) g ≡ s
          → used_of_pair L t g ≡ cond (r || s) (length (matches_of L t p)) 0 + used_of_pair L t' g
      go true x s y = own false g (eqb-true (L.group false p) g x)
      go false x true y = own true g (eqb-true (L.group true p) g y)
      go false x false y =
          let d = eqb-false (L.group false p) g x in
          let e = eqb-false (L.group true p) g y in
          let m = laws.mirror p in
          let a = elsewhere_used laws edited g lg (λ q. d (sym q)) (λ q. e (sym q)) in
          let c = elsewhere_used laws edited (groups L - suc g) (omega arith) (λ q. e (omega arith)) (λ q. d (omega arith)) in
          omega arith
