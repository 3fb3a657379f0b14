-- The first match and the first free entry stand before every other one in search order.
use mathlib.Core.Path.{◌≡◌, refl, sym, ap, ◌∙◌, subst}
use mathlib.Core.Bool.{Bool, true, false, cond, true≢false}
use mathlib.Core.Logic.{⊎_elim}
use mathlib.Core.List.{List, [], ◌∷◌, ◌++◌, cons-ne-nil, Memᴰ}
use Prim.Native.Nat.{ℕ, zero, suc, ◌+◌, ◌*◌, ◌≤◌, ◌<◌}
use native.Mathlib.Nat.{not-suc-le-zero, le_of_suc-le-suc, eq-or-lt_of_le}
use native.Mathlib.Omega.{arith}
use Rattle.words.proofs.Tests.{three}
use Rattle.theory_placement.specs.Lists.{one_if}
use Rattle.theory_tables.specs.Matches.{Match, match_at, matches_below}
use Rattle.theory_tables.specs.Layout.{Layout, free_at, matches_in, matches_of}
use Rattle.theory_tables.proofs.Matches.{entry_at, members_match, none_matches}
use Rattle.theory_tables.proofs.Groups.{members_in, none_matches_in}
use Rattle.theory_tables.proofs.Places.{FirstFree, free_unused}

module _ (matching : ℕ → Bool) (first second : ℕ → ℕ) (secondary : Bool) where
  abbrev below : ℕ → List Match
  below n = matches_below matching first second secondary n

  -- the first of a group's matches is the lowest entry that matches
  pub first_least : (n : ℕ) (x : Match) (xs : List Match) → below n ≡ x ∷ xs → (j : ℕ) → j < n → matching (first j) ≡ true → x.entry ≤ j
  unfolding matches_below
  first_least zero x xs e j l m = absurd (not-suc-le-zero l)
  first_least (suc n) x xs e j l m = go (below n) refl (first_least n x)
    where
      alone : (t : Bool) → matching (first n) ≡ t → cond t (entry_at first second secondary n ∷ []) [] ≡ x ∷ xs → x.entry ≡ n
      alone true q r = ap (λ (y : Match). y.entry) (sym (let s : entry_at first second secondary n ≡ x = cc in s))
      alone false q r = absurd (cons-ne-nil x xs (sym r))

      go : (ms : List Match) → below n ≡ ms → ((ys : List Match) → below n ≡ x ∷ ys → (i : ℕ) → i < n → matching (first i) ≡ true → x.entry ≤ i) → x.entry ≤ j
      go [] q again =
          ⊎_elim
          (λ same. let is : x.entry ≡ n = alone (matching (first n)) refl (ap (λ (l : List Match). l ++ match_at matching first second secondary n) (sym q) ∙ e) in omega arith)
          (λ less. absurd (true≢false (sym m ∙ none_matches matching first second secondary n q j less)))
          (eq-or-lt_of_le (le_of_suc-le-suc l))
      go (y ∷ ys) q again =
          let whole : (y ∷ ys) ++ match_at matching first second secondary n ≡ x ∷ xs = ap (λ (l : List Match). l ++ match_at matching first second secondary n) (sym q) ∙ e in
          let is : y ≡ x = cc in
          let here : below n ≡ x ∷ ys = q ∙ ap (λ (z : Match). z ∷ ys) is in
          let member : Memᴰ x (below n) = subst (Memᴰ x) (sym here) (mathlib.Core.List.Memᴰ.head refl) in
          ⊎_elim (λ same. omega (arith, (members_match matching first second secondary n x member).in_range_law)) (λ less. again ys here j less m)
          (eq-or-lt_of_le (le_of_suc-le-suc l))

module _ {P T : Type 0} (L : Layout P T) (t : T) (p : P) where
  -- a place among the page's own in search order: the entries of its primary group, then those of its secondary
  abbrev pub search_place : Bool → ℕ → ℕ
  search_place b i = L.capacity * one_if b + i

  pub first_match_least : (x : Match) (xs : List Match) → matches_of L t p ≡ x ∷ xs → (c : Bool) (j : ℕ) → j < L.capacity
      → L.matching c p (L.first t (L.group c p) j) ≡ true → search_place x.secondary x.entry ≤ search_place c j
  unfolding matches_of matches_in
  first_match_least x xs e c j l m = go (matches_in L t false p) refl c l m
    where
      least : (b : Bool) (ys : List Match) → matches_in L t b p ≡ x ∷ ys → (i : ℕ) → i < L.capacity → L.matching b p (L.first t (L.group b p) i) ≡ true
          → x.entry ≤ i
      least b ys q = first_least (L.matching b p) (L.first t (L.group b p)) (L.second t (L.group b p)) b L.capacity x ys q

      inside : (b : Bool) (ys : List Match) → matches_in L t b p ≡ x ∷ ys → (x.secondary ≡ b) × (x.entry < L.capacity)
      inside b ys q =
          let (side, own) = members_in L t p b x (subst (Memᴰ x) (sym q) (mathlib.Core.List.Memᴰ.head refl)) in (side, own.in_range_law)

      go : (ms : List Match) → matches_in L t false p ≡ ms → (c : Bool) → j < L.capacity → L.matching c p (L.first t (L.group c p) j) ≡ true
          → search_place x.secondary x.entry ≤ search_place c j
      go [] q false l m = absurd (true≢false (sym m ∙ none_matches_in L t p false q j l))
      go [] q true l m =
          let here : matches_in L t true p ≡ x ∷ xs = ap (λ (ms : List Match). ms ++ matches_in L t true p) (sym q) ∙ e in
          let at_most = least true xs here j l m in
          rw (inside true xs here).0 (omega arith)
      go (y ∷ ys) q c l m =
          let whole : (y ∷ ys) ++ matches_in L t true p ≡ x ∷ xs = ap (λ (ms : List Match). ms ++ matches_in L t true p) (sym q) ∙ e in
          let is : y ≡ x = cc in
          let here : matches_in L t false p ≡ x ∷ ys = q ∙ ap (λ (z : Match). z ∷ ys) is in
          rw (inside false ys here).0 (own c l m here)
        where
          own : (c : Bool) → j < L.capacity → L.matching c p (L.first t (L.group c p) j) ≡ true → matches_in L t false p ≡ x ∷ ys
              → L.capacity * 0 + x.entry ≤ search_place c j
          own false l m here = let at_most = least false ys here j l m in omega arith
          own true l m here = let within = (inside false ys here).1 in omega arith

  pub first_free_least : (b : Bool) (i : ℕ) → FirstFree L t p b i → (c : Bool) (j : ℕ) → j < L.capacity → free_at L t (L.group c p) j ≡ true
      → search_place b i ≤ search_place c j
  first_free_least b i f c j l e = go b c f l e
    where
      not_before : (b : Bool) → FirstFree L t p b i → free_at L t (L.group b p) j ≡ true → i ≤ j
      not_before b f e = ⊎_elim (λ less. absurd (true≢false (sym e ∙ f.before j less))) (λ more. ⊎_elim (λ same. omega arith) (λ up. omega arith) more) (three j i)

      go : (b c : Bool) → FirstFree L t p b i → j < L.capacity → free_at L t (L.group c p) j ≡ true → search_place b i ≤ search_place c j
      go false false f l e = let n = not_before false f e in omega arith
      go false true f l e = let r = f.in_range_law in omega arith
      go true false f l e =
          absurd (let u = free_unused L t (L.group false p) j l e in let q = f.primary_full refl in omega arith)
      go true true f l e = let n = not_before true f e in omega arith
