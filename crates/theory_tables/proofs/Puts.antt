-- One entry put into any table: every other entry reads as before, so matches, used entries and free entries change there alone.
use mathlib.Core.Path.{◌≡◌, refl, sym, ap, ap₂, ◌∙◌}
use mathlib.Core.Logic.{◌≢◌}
use mathlib.Core.Bool.{Bool, true, false, not, cond}
use mathlib.Core.List.{List, [], ◌∷◌, ◌++◌}
use Prim.Native.Nat.{ℕ, suc, ◌+◌, ◌-◌, ◌≤◌, ◌<◌}
use native.Mathlib.Omega.{arith}
use lib.Dec.{eqb}
use borrow.Author.Tests.{eqb-true, eqb-false}
use Rattle.words.proofs.Below.{first_found}
use Rattle.theory_placement.specs.Lists.{one_if}
use Rattle.theory_tables.specs.Matches.{Match, match_at, matches_below}
use Rattle.theory_tables.specs.Layout.{Layout, groups, Reads, matches_in, free_at, used, free_entry, LayoutLaws}
use Rattle.theory_tables.proofs.Counts.{how_many_below_changed, first_below_passes, first_below_before}
use Rattle.theory_tables.proofs.Matches.{matches_from, matches_split, matches_same, matches_changed, same_words, both_fail}
use Rattle.theory_tables.proofs.Places.{used_same, free_entry_same}
use Rattle.theory_tables.proofs.Groups.{matches_in_same, group_in_range}

-- entry i of the page's group b alone in a list, if a first word matches
abbrev pub entry_if : {P T : Type 0} → Layout P T → Bool → P → ℕ → ℕ → ℕ → List Match
entry_if L b p i u v = cond (L.matching b p u) (record { secondary = b; entry = i; first = u; second = v } ∷ []) []

-- The matches of page p in its group b split at entry i, where they were and where they are now: the same before and behind it.
pub record SplitAt {P T : Type 0} (L : Layout P T) (t : T) (b : Bool) (p : P) (i u v : ℕ) : Type 0 where
  pub before : List Match
  pub behind : List Match
  pub was : matches_in L t b p ≡ before ++ entry_if L b p i (L.first t (L.group b p) i) (L.second t (L.group b p) i) ++ behind
  pub now : matches_in L (L.put t (L.group b p) i u v) b p ≡ before ++ entry_if L b p i u v ++ behind

module _ {P T : Type 0} {L : Layout P T} {same : P → P → Bool} {Valid : P → Type 0} {Fits : ℕ → Type 0} {Good : T → Type 0}
    (laws : LayoutLaws L same Valid Fits Good) where
  module _ (t : T) (g i u v : ℕ) (good : Good t) (in_groups : g < groups L) (in_group : i < L.capacity) where
    -- any other entry reads as before
    pub put_other : (h j : ℕ) → h < groups L → j < L.capacity → (h ≡ g → j ≡ i → ⊥)
        → Reads L (L.put t g i u v) h j (L.first t h j) (L.second t h j)
    put_other h j lh lj d = go (eqb h g) refl
      where
        go : (s : Bool) → eqb h g ≡ s → Reads L (L.put t g i u v) h j (L.first t h j) (L.second t h j)
        go true e = let q = eqb-true h g e in rw q (laws.put_other_entry t g i j u v good in_groups in_group lj (d q))
        go false e = laws.put_other_group t g h i j u v good in_groups lh in_group lj (eqb-false h g e)

    module _ (fits-u : Fits u) (fits-v : Fits v) where
      -- a page that neither the word there nor the new one matches keeps its matches and their places
      pub put_keeps : (c : Bool) (q : P) → (L.group c q ≡ g → (L.matching c q (L.first t g i) ≡ false) × (L.matching c q u ≡ false))
          → matches_in L (L.put t g i u v) c q ≡ matches_in L t c q
      unfolding matches_in
      put_keeps c q h =
          matches_same (L.matching c q) (L.first t (L.group c q)) (L.second t (L.group c q)) (L.first t' (L.group c q)) (L.second t' (L.group c q)) c L.capacity
          (λ j l. go j l (eqb (L.group c q) g) refl (eqb j i) refl)
        where
          t' : T
          t' = L.put t g i u v

          Kept : ℕ → Type 0
          Kept j =
              match_at (L.matching c q) (L.first t' (L.group c q)) (L.second t' (L.group c q)) c j
              ≡ match_at (L.matching c q) (L.first t (L.group c q)) (L.second t (L.group c q)) c j

          another : (j : ℕ) → j < L.capacity → (L.group c q ≡ g → j ≡ i → ⊥) → Kept j
          another j l d =
              same_words (L.matching c q) (L.first t (L.group c q)) (L.second t (L.group c q)) (L.first t' (L.group c q)) (L.second t' (L.group c q)) c j
              (put_other (L.group c q) j (group_in_range laws c q) l d)

          go : (j : ℕ) → j < L.capacity → (s : Bool) → eqb (L.group c q) g ≡ s → (r : Bool) → eqb j i ≡ r → Kept j
          go j l true e true k =
              let a = eqb-true (L.group c q) g e in
              let b = eqb-true j i k in
              both_fail (L.matching c q) (L.first t (L.group c q)) (L.second t (L.group c q)) (L.first t' (L.group c q)) (L.second t' (L.group c q)) c j
              (ap₂ (λ x y. L.matching c q (L.first t' x y)) a b ∙ ap (L.matching c q) (laws.put_same t g i u v good in_groups in_group fits-u fits-v).0 ∙ (h a).1)
              (ap₂ (λ x y. L.matching c q (L.first t x y)) a b ∙ (h a).0)
          go j l true e false k = another j l (λ _ b. eqb-false j i k b)
          go j l false e r k = another j l (λ a _. eqb-false (L.group c q) g e a)

      -- used entries, said without subtraction: the count goes by whether the old word and the new one are free
      pub used_put : used L (L.put t g i u v) g + one_if (not (free_at L t g i)) ≡ used L t g + one_if (not (L.free u))
      unfolding used
      used_put =
          how_many_below_changed (λ j. not (free_at L t g j)) (λ j. not (free_at L (L.put t g i u v) g j)) L.capacity i in_group
          (λ j l d. ap (λ w. not (L.free w)) (put_other g j in_groups l (λ _. d)).0)
          ∙ ap (λ w. used L t g + one_if (not (L.free w))) (laws.put_same t g i u v good in_groups in_group fits-u fits-v).0

      pub used_filled : free_at L t g i ≡ true → L.free u ≡ false → used L (L.put t g i u v) g ≡ suc (used L t g)
      used_filled e f = let k = used_put in let k' = rw (e, f) at k in omega arith

      pub used_freed : free_at L t g i ≡ false → L.free u ≡ true → suc (used L (L.put t g i u v) g) ≡ used L t g
      used_freed e f = let k = used_put in let k' = rw (e, f) at k in omega arith

      pub used_rewritten : free_at L t g i ≡ L.free u → used L (L.put t g i u v) g ≡ used L t g
      used_rewritten e = let k = used_put in let k' = rw e at k in omega arith

      free_at_put : (j : ℕ) → j < L.capacity → free_at L (L.put t g i u v) g j ≡ cond (eqb j i) (L.free u) (free_at L t g j)
      free_at_put j l = go (eqb j i) refl
        where
          go : (s : Bool) → eqb j i ≡ s → free_at L (L.put t g i u v) g j ≡ cond s (L.free u) (free_at L t g j)
          go true e = ap (free_at L (L.put t g i u v) g) (eqb-true j i e) ∙ ap L.free (laws.put_same t g i u v good in_groups in_group fits-u fits-v).0
          go false e = ap L.free (put_other g j in_groups l (λ _. eqb-false j i e)).0

      -- the first free entry: as before, or the entry that is freed
      pub free_entry_rewritten : free_at L t g i ≡ L.free u → free_entry L (L.put t g i u v) g ≡ free_entry L t g
      free_entry_rewritten e = free_entry_same L t (L.put t g i u v) g (λ j l. free_at_put j l ∙ go j (eqb j i) refl)
        where
          go : (j : ℕ) (s : Bool) → eqb j i ≡ s → cond s (L.free u) (free_at L t g j) ≡ free_at L t g j
          go j true k = sym e ∙ ap (free_at L t g) (sym (eqb-true j i k))
          go j false k = refl

      pub free_entry_freed : i ≤ free_entry L t g → L.free u ≡ true → free_entry L (L.put t g i u v) g ≡ i
      unfolding free_entry
      free_entry_freed l f =
          first_found (free_at L (L.put t g i u v) g) L.capacity i in_group
          (ap L.free (laws.put_same t g i u v good in_groups in_group fits-u fits-v).0 ∙ f)
          (λ k a. ap L.free (put_other g k in_groups (omega arith) (λ _ e. omega arith)).0 ∙ first_below_before (free_at L t g) L.capacity k (omega arith))

      pub free_entry_before : free_entry L t g < i → free_entry L (L.put t g i u v) g ≡ free_entry L t g
      unfolding free_entry
      free_entry_before l =
          first_found (free_at L (L.put t g i u v) g) L.capacity (free_entry L t g) (omega arith)
          (ap L.free (put_other g (free_entry L t g) in_groups (omega arith) (λ _ e. omega arith)).0 ∙ first_below_passes (free_at L t g) L.capacity (omega arith))
          (λ k a. ap L.free (put_other g k in_groups (omega arith) (λ _ e. omega arith)).0 ∙ first_below_before (free_at L t g) L.capacity k a)

    -- any other group has as many used entries, and the same first free entry
    pub used_put_other : (h : ℕ) → h < groups L → h ≢ g → used L (L.put t g i u v) h ≡ used L t h
    used_put_other h lh d = used_same L t (L.put t g i u v) h (λ j l. ap L.free (put_other h j lh l (λ e _. d e)).0)

    pub free_entry_put_other : (h : ℕ) → h < groups L → h ≢ g → free_entry L (L.put t g i u v) h ≡ free_entry L t h
    free_entry_put_other h lh d = free_entry_same L t (L.put t g i u v) h (λ j l. ap L.free (put_other h j lh l (λ e _. d e)).0)

  -- an entry written back where it stands changes no entry, hence no match, count or free place
  module _ (t : T) (g i : ℕ) (good : Good t) (in_groups : g < groups L) (in_group : i < L.capacity) where
    pub put_back : (h j : ℕ) → h < groups L → j < L.capacity
        → Reads L (L.put t g i (L.first t g i) (L.second t g i)) h j (L.first t h j) (L.second t h j)
    put_back h j lh lj = go (eqb h g) refl (eqb j i) refl
      where
        go : (s : Bool) → eqb h g ≡ s → (r : Bool) → eqb j i ≡ r
            → Reads L (L.put t g i (L.first t g i) (L.second t g i)) h j (L.first t h j) (L.second t h j)
        go true e true k =
            let f = laws.read_fits t g i good in_groups in_group in
            rw (eqb-true h g e, eqb-true j i k) (laws.put_same t g i (L.first t g i) (L.second t g i) good in_groups in_group f.0 f.1)
        go true e false k = put_other t g i (L.first t g i) (L.second t g i) good in_groups in_group h j lh lj (λ _ b. eqb-false j i k b)
        go false e r k = put_other t g i (L.first t g i) (L.second t g i) good in_groups in_group h j lh lj (λ a _. eqb-false h g e a)

    pub put_back_matches : (b : Bool) (p : P) → matches_in L (L.put t g i (L.first t g i) (L.second t g i)) b p ≡ matches_in L t b p
    put_back_matches b p =
        matches_in_same L t (L.put t g i (L.first t g i) (L.second t g i)) p b (λ j l. put_back (L.group b p) j (group_in_range laws b p) l)

    pub put_back_used : (h : ℕ) → h < groups L → used L (L.put t g i (L.first t g i) (L.second t g i)) h ≡ used L t h
    put_back_used h lh = used_same L t (L.put t g i (L.first t g i) (L.second t g i)) h (λ j l. ap L.free (put_back h j lh l).0)

    pub put_back_free_entry : (h : ℕ) → h < groups L → free_entry L (L.put t g i (L.first t g i) (L.second t g i)) h ≡ free_entry L t h
    put_back_free_entry h lh = free_entry_same L t (L.put t g i (L.first t g i) (L.second t g i)) h (λ j l. ap L.free (put_back h j lh l).0)

  -- the split of a page's matches at the entry: the put changes the middle alone
  pub put_split : (t : T) (b : Bool) (p : P) (i u v : ℕ) → Good t → i < L.capacity → Fits u → Fits v → SplitAt L t b p i u v
  unfolding matches_in
  put_split t b p i u v good l fu fv =
      let g = L.group b p in
      let t' = L.put t g i u v in
      let lg = group_in_range laws b p in
      let e = laws.put_same t g i u v good lg l fu fv in
      record {
        before = matches_below (L.matching b p) (L.first t g) (L.second t g) b i;
        behind = matches_from (L.matching b p) (L.first t g) (L.second t g) b (suc i) (L.capacity - suc i);
        was = matches_split (L.matching b p) (L.first t g) (L.second t g) b L.capacity i l;
        now =
            matches_changed (L.matching b p) (L.first t g) (L.second t g) (L.first t' g) (L.second t' g) b L.capacity i l
            (λ j k d. same_words (L.matching b p) (L.first t g) (L.second t g) (L.first t' g) (L.second t' g) b j
            (put_other t g i u v good lg l g j lg k (λ _ q. d q)))
            ∙ ap₂ (λ x y. matches_below (L.matching b p) (L.first t g) (L.second t g) b i ++ entry_if L b p i x y
            ++ matches_from (L.matching b p) (L.first t g) (L.second t g) b (suc i) (L.capacity - suc i)) e.0 e.1;
      }
