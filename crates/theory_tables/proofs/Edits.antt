-- Every match of a page overwritten, in any table: what each entry then has, what becomes of the page's own matches, group by group, of every
-- other page's matches, and of the used entries.
use mathlib.Core.Path.{◌≡◌, refl, sym, ap, ap₂, ◌∙◌, subst}
use mathlib.Core.Logic.{◌≢◌, ⊎_elim}
use mathlib.Core.Bool.{Bool, true, false, not, cond}
use mathlib.Core.List.{List, [], ◌∷◌, ◌++◌, map, map-append}
use Prim.Native.Nat.{ℕ, zero, suc, ◌+◌, ◌≤◌, ◌<◌}
use native.Mathlib.Nat.{not-suc-le-zero, le_of_suc-le-suc, eq-or-lt_of_le}
use native.Mathlib.Omega.{arith}
use lib.Dec.{eqb}
use lib.ListN.{length}
use borrow.Author.Tests.{eqb-true, eqb-false}
use Rattle.theory_placement.specs.Lists.{one_if}
use Rattle.theory_tables.specs.Matches.{Match, match_at, matches_below}
use Rattle.theory_tables.specs.Layout.{Layout, groups, Reads, matches_in, matches_of, free_at, used, overwrite, overwrite_each, LayoutLaws}
use Rattle.theory_tables.proofs.Counts.{how_many_below_sum}
use Rattle.theory_tables.proofs.Matches.{matches_map, matches_same, same_words, both_fail, length_matches}
use Rattle.theory_tables.proofs.Places.{used_same}
use Rattle.theory_tables.proofs.Groups.{MatchOf, entry_of, matches_in_none, matches_in_same, matches_of_none, group_in_range, groups_differ, free_fails, other_fails}
use Rattle.theory_tables.proofs.Puts.{put_other}
use Rattle.theory_tables.proofs.Overwrites.{OwnWord, with_words, own_fails}

module _ {P T : Type 0} (L : Layout P T) (p : P) (edit : Match → ℕ × ℕ) where
  pub overwrite_each_append : (xs ys : List Match) (t : T) → overwrite_each L p edit (xs ++ ys) t ≡ overwrite_each L p edit ys (overwrite_each L p edit xs t)
  unfolding overwrite_each
  overwrite_each_append [] ys t = refl
  overwrite_each_append (x ∷ xs) ys t = overwrite_each_append xs ys _

  -- a page without matches: nothing is overwritten
  pub overwrite_each_none : (t : T) → matches_of L t p ≡ [] → overwrite_each L p edit (matches_of L t p) t ≡ t
  unfolding overwrite_each
  overwrite_each_none t e = ap (λ xs. overwrite_each L p edit xs t) e

-- the words of entry i of the page's group b, where each match is edited
abbrev pub edited_first : {P T : Type 0} → Layout P T → T → P → (Match → ℕ × ℕ) → Bool → ℕ → ℕ
edited_first L t p edit b i = cond (L.matching b p (L.first t (L.group b p) i)) (edit (entry_of L t p b i)).0 (L.first t (L.group b p) i)

abbrev pub edited_second : {P T : Type 0} → Layout P T → T → P → (Match → ℕ × ℕ) → Bool → ℕ → ℕ
edited_second L t p edit b i = cond (L.matching b p (L.first t (L.group b p) i)) (edit (entry_of L t p b i)).1 (L.second t (L.group b p) i)

-- the first n entries of the page's group b are edited, and every other entry of the table is kept
pub record EditedBelow {P T : Type 0} (L : Layout P T) (Good : T → Type 0) (t t' : T) (p : P) (edit : Match → ℕ × ℕ) (b : Bool) (n : ℕ) : Type 0 where
  pub good : Good t'
  pub below : (i : ℕ) → i < n → Reads L t' (L.group b p) i (edited_first L t p edit b i) (edited_second L t p edit b i)
  pub above : (i : ℕ) → n ≤ i → i < L.capacity → Reads L t' (L.group b p) i (L.first t (L.group b p) i) (L.second t (L.group b p) i)
  pub elsewhere : (h i : ℕ) → h < groups L → i < L.capacity → h ≢ L.group b p → Reads L t' h i (L.first t h i) (L.second t h i)

-- each match of the page is edited, in both of its groups, and every other entry of the table is kept
pub record Edited {P T : Type 0} (L : Layout P T) (Good : T → Type 0) (t t' : T) (p : P) (edit : Match → ℕ × ℕ) : Type 0 where
  pub good : Good t'
  pub own : (b : Bool) (i : ℕ) → i < L.capacity → Reads L t' (L.group b p) i (edited_first L t p edit b i) (edited_second L t p edit b i)
  pub elsewhere : (h i : ℕ) → h < groups L → i < L.capacity → h ≢ L.group false p → h ≢ L.group true p
      → Reads L t' h i (L.first t h i) (L.second t h i)

module _ {P T : Type 0} {L : Layout P T} {same : P → P → Bool} {Valid : P → Type 0} {Fits : ℕ → Type 0} {Good : T → Type 0}
    (laws : LayoutLaws L same Valid Fits Good) (p : P) (edit : Match → ℕ × ℕ) where
  -- one entry more: it matches and is edited, or it does not and is kept
  one_edited : (t t' : T) (b : Bool) (n : ℕ) → n < L.capacity → L.matching b p (L.first t (L.group b p) n) ≡ true
      → Fits (edit (entry_of L t p b n)).0 × Fits (edit (entry_of L t p b n)).1 → EditedBelow L Good t t' p edit b n
      → EditedBelow L Good t (L.put t' (L.group b p) n (edit (entry_of L t p b n)).0 (edit (entry_of L t p b n)).1) p edit b (suc n)
  one_edited t t' b n l e f h = record {
    good = laws.put_good t' g n w.0 w.1 h.good lg l;
    below = λ i k. ⊎_elim (λ q. subst Now (sym q) here) (λ a. before i a) (eq-or-lt_of_le (le_of_suc-le-suc k));
    above = λ i k m.
        let r = put_other laws t' g n w.0 w.1 h.good lg l g i lg m (λ _ q. omega arith) in
        let o = h.above i (omega arith) m in
        (r.0 ∙ o.0, r.1 ∙ o.1);
    elsewhere = λ k i lk m d.
        let r = put_other laws t' g n w.0 w.1 h.good lg l k i lk m (λ q _. d q) in
        let o = h.elsewhere k i lk m d in
        (r.0 ∙ o.0, r.1 ∙ o.1);
  }
    where
      g : ℕ
      g = L.group b p

      lg : g < groups L
      lg = group_in_range laws b p

      w : ℕ × ℕ
      w = edit (entry_of L t p b n)

      Now : ℕ → Type 0
      Now i = Reads L (L.put t' g n w.0 w.1) g i (edited_first L t p edit b i) (edited_second L t p edit b i)

      here : Now n
      here = rw e (laws.put_same t' g n w.0 w.1 h.good lg l f.0 f.1)

      before : (i : ℕ) → i < n → Now i
      before i a =
          let r = put_other laws t' g n w.0 w.1 h.good lg l g i lg (omega arith) (λ _ q. omega arith) in
          let o = h.below i a in
          (r.0 ∙ o.0, r.1 ∙ o.1)

  one_kept : (t t' : T) (b : Bool) (n : ℕ) → n < L.capacity → L.matching b p (L.first t (L.group b p) n) ≡ false → EditedBelow L Good t t' p edit b n
      → EditedBelow L Good t t' p edit b (suc n)
  one_kept t t' b n l e h = record {
    good = h.good;
    below = λ i k. ⊎_elim (λ q. subst Now (sym q) (rw e (h.above n (omega arith) l))) (λ a. h.below i a) (eq-or-lt_of_le (le_of_suc-le-suc k));
    above = λ i k m. h.above i (omega arith) m;
    elsewhere = h.elsewhere;
  }
    where
      Now : ℕ → Type 0
      Now i = Reads L t' (L.group b p) i (edited_first L t p edit b i) (edited_second L t p edit b i)

  -- the matches below n overwritten, one after the other
  pub edited_below : (t : T) → Good t → (b : Bool)
      → ((i : ℕ) → i < L.capacity → L.matching b p (L.first t (L.group b p) i) ≡ true → Fits (edit (entry_of L t p b i)).0 × Fits (edit (entry_of L t p b i)).1)
      → (n : ℕ) → n ≤ L.capacity
      → EditedBelow L Good t (overwrite_each L p edit (matches_below (L.matching b p) (L.first t (L.group b p)) (L.second t (L.group b p)) b n) t) p edit b n
  unfolding overwrite_each overwrite matches_below
  edited_below t good b fits zero l =
      record { good = good; below = λ i k. absurd (not-suc-le-zero k); above = λ i k m. (refl, refl); elsewhere = λ h i k m d. (refl, refl) }
  edited_below t good b fits (suc n) l =
      rw (overwrite_each_append L p edit (matches_below (L.matching b p) (L.first t (L.group b p)) (L.second t (L.group b p)) b n)
      (match_at (L.matching b p) (L.first t (L.group b p)) (L.second t (L.group b p)) b n) t)
      (go (L.matching b p (L.first t (L.group b p) n)) refl (edited_below t good b fits n (omega arith)))
    where
      t' : T
      t' = overwrite_each L p edit (matches_below (L.matching b p) (L.first t (L.group b p)) (L.second t (L.group b p)) b n) t

      go : (s : Bool) → L.matching b p (L.first t (L.group b p) n) ≡ s → EditedBelow L Good t t' p edit b n
          → EditedBelow L Good t (overwrite_each L p edit (cond s (entry_of L t p b n ∷ []) []) t') p edit b (suc n)
      go true e h = one_edited t t' b n l e (fits n l e) h
      go false e h = one_kept t t' b n l e h

  -- every match overwritten: the primary group's, then the secondary's, which the former has not changed
  pub each_edited : (t : T) → Good t → ((x : Match) → MatchOf L t p x → Fits (edit x).0 × Fits (edit x).1)
      → Edited L Good t (overwrite_each L p edit (matches_of L t p) t) p edit
  unfolding matches_of matches_in
  each_edited t good fits =
      rw (overwrite_each_append L p edit (matches_in L t false p) (matches_in L t true p) t)
      (subst (λ xs. Edited L Good t (overwrite_each L p edit xs t1) p edit) unchanged record {
        good = then.good;
        own = own;
        elsewhere = λ h i lh l d e. let r = then.elsewhere h i lh l e in let o = now.elsewhere h i lh l d in (r.0 ∙ o.0, r.1 ∙ o.1);
      })
    where
      fits_at : (b : Bool) (i : ℕ) → i < L.capacity → L.matching b p (L.first t (L.group b p) i) ≡ true
          → Fits (edit (entry_of L t p b i)).0 × Fits (edit (entry_of L t p b i)).1
      fits_at b i l e = fits (entry_of L t p b i) (record { in_range_law = l; passes = e; first_word_law = refl; second_word = refl })

      t1 : T
      t1 = overwrite_each L p edit (matches_in L t false p) t

      now : EditedBelow L Good t t1 p edit false L.capacity
      now = edited_below t good false (fits_at false) L.capacity (omega arith)

      secondary : (i : ℕ) → i < L.capacity → Reads L t1 (L.group true p) i (L.first t (L.group true p) i) (L.second t (L.group true p) i)
      secondary i l = now.elsewhere (L.group true p) i (group_in_range laws true p) l (groups_differ laws true p)

      unchanged : matches_in L t1 true p ≡ matches_in L t true p
      unchanged = matches_in_same L t t1 p true secondary

      t2 : T
      t2 = overwrite_each L p edit (matches_in L t1 true p) t1

      fits_then : (i : ℕ) → i < L.capacity → L.matching true p (L.first t1 (L.group true p) i) ≡ true
          → Fits (edit (entry_of L t1 p true i)).0 × Fits (edit (entry_of L t1 p true i)).1
      fits_then i l e =
          let r = secondary i l in
          let q : entry_of L t1 p true i ≡ entry_of L t p true i = ap₂ (λ u v. record { secondary = true; entry = i; first = u; second = v }) r.0 r.1 in
          subst (λ (x : Match). Fits (edit x).0 × Fits (edit x).1) (sym q) (fits_at true i l (ap (L.matching true p) (sym r.0) ∙ e))

      then : EditedBelow L Good t1 t2 p edit true L.capacity
      then = edited_below t1 now.good true fits_then L.capacity (omega arith)

      own : (b : Bool) (i : ℕ) → i < L.capacity → Reads L t2 (L.group b p) i (edited_first L t p edit b i) (edited_second L t p edit b i)
      own false i l =
          let r = then.elsewhere (L.group false p) i (group_in_range laws false p) l (groups_differ laws false p) in
          let o = now.below i l in
          (r.0 ∙ o.0, r.1 ∙ o.1)
      own true i l =
          let r = then.below i l in
          let o = secondary i l in (
            r.0 ∙ ap₂ (λ u v. cond (L.matching true p u) (edit (record { secondary = true; entry = i; first = u; second = v })).0 u) o.0 o.1,
            r.1 ∙ ap₂ (λ u v. cond (L.matching true p u) (edit (record { secondary = true; entry = i; first = u; second = v })).1 v) o.0 o.1,
          )

module _ {P T : Type 0} {L : Layout P T} {same : P → P → Bool} {Valid : P → Type 0} {Fits : ℕ → Type 0} {Good : T → Type 0}
    (laws : LayoutLaws L same Valid Fits Good) {t t' : T} {p : P} {edit : Match → ℕ × ℕ} (edited : Edited L Good t t' p edit) where
  -- an entry that matched has the edited words, and any other of the page's groups is kept
  pub reads_edited : (b : Bool) (i : ℕ) → i < L.capacity → L.matching b p (L.first t (L.group b p) i) ≡ true
      → Reads L t' (L.group b p) i (edit (entry_of L t p b i)).0 (edit (entry_of L t p b i)).1
  reads_edited b i l e = let r = edited.own b i l in (r.0 ∙ rw e, r.1 ∙ rw e)

  pub reads_kept : (b : Bool) (i : ℕ) → i < L.capacity → L.matching b p (L.first t (L.group b p) i) ≡ false
      → Reads L t' (L.group b p) i (L.first t (L.group b p) i) (L.second t (L.group b p) i)
  reads_kept b i l e = let r = edited.own b i l in (r.0 ∙ rw e, r.1 ∙ rw e)

  -- matches made free: the page has no match left, and as many entries less are used
  module _ (valid : Valid p) (freed : (x : Match) → MatchOf L t p x → L.free (edit x).0 ≡ true) where
    freed_at : (b : Bool) (i : ℕ) → i < L.capacity → L.matching b p (L.first t (L.group b p) i) ≡ true → free_at L t' (L.group b p) i ≡ true
    freed_at b i l e =
        ap L.free (reads_edited b i l e).0 ∙ freed (entry_of L t p b i) (record { in_range_law = l; passes = e; first_word_law = refl; second_word = refl })

    pub freed_matches : (b : Bool) → matches_in L t' b p ≡ []
    freed_matches b = matches_in_none L t' p b (λ i l. go i l (L.matching b p (L.first t (L.group b p) i)) refl)
      where
        go : (i : ℕ) → i < L.capacity → (s : Bool) → L.matching b p (L.first t (L.group b p) i) ≡ s
            → L.matching b p (L.first t' (L.group b p) i) ≡ false
        go i l true e = free_fails laws b p (L.first t' (L.group b p) i) valid (freed_at b i l e)
        go i l false e = ap (L.matching b p) (reads_kept b i l e).0 ∙ e

    pub freed_matches_of : matches_of L t' p ≡ []
    freed_matches_of = matches_of_none L t' p freed_matches

    pub freed_used : (b : Bool) → used L t (L.group b p) ≡ used L t' (L.group b p) + length (matches_in L t b p)
    unfolding used matches_in
    freed_used b =
        how_many_below_sum (λ i. not (free_at L t (L.group b p) i)) (λ i. not (free_at L t' (L.group b p) i)) (λ i. L.matching b p (L.first t (L.group b p) i))
        L.capacity (λ i l. go i l (L.matching b p (L.first t (L.group b p) i)) refl)
        ∙ ap (λ n. used L t' (L.group b p) + n)
        (sym (length_matches (L.matching b p) (L.first t (L.group b p)) (L.second t (L.group b p)) b L.capacity))
      where
        go : (i : ℕ) → i < L.capacity → (s : Bool) → L.matching b p (L.first t (L.group b p) i) ≡ s
            → one_if (not (free_at L t (L.group b p) i)) ≡ one_if (not (free_at L t' (L.group b p) i)) + one_if s
        go i l true e = rw (laws.match_used b p (L.first t (L.group b p) i) valid e, freed_at b i l e)
        go i l false e = let o = ap (λ w. one_if (not (L.free w))) (reads_kept b i l e).0 in omega arith

  -- matches rewritten by words that match: each stays where it is, and the used entries are the same
  module _ (matched : (x : Match) → MatchOf L t p x → L.matching x.secondary p (edit x).0 ≡ true) where
    matched_at : (b : Bool) (i : ℕ) → i < L.capacity → L.matching b p (L.first t (L.group b p) i) ≡ true
        → L.matching b p (edit (entry_of L t p b i)).0 ≡ true
    matched_at b i l e = matched (entry_of L t p b i) (record { in_range_law = l; passes = e; first_word_law = refl; second_word = refl })

    pub rewritten_matches : (b : Bool) → matches_in L t' b p ≡ map (λ x. with_words x (edit x)) (matches_in L t b p)
    unfolding matches_in
    rewritten_matches b =
        matches_map (L.matching b p) (L.first t g) (L.second t g) (L.first t' g) (L.second t' g) b (λ x. with_words x (edit x)) L.capacity
        (λ i l. go i l (L.matching b p (L.first t g i)) refl)
      where
        g : ℕ
        g = L.group b p

        go : (i : ℕ) → i < L.capacity → (s : Bool) → L.matching b p (L.first t g i) ≡ s
            → match_at (L.matching b p) (L.first t' g) (L.second t' g) b i ≡ map (λ x. with_words x (edit x)) (cond s (entry_of L t p b i ∷ []) [])
        go i l true e =
            let r = reads_edited b i l e in
            rw (r.0, r.1, matched_at b i l e)
        go i l false e =
            let r = reads_kept b i l e in
            rw (r.0, e)

    pub rewritten_matches_of : matches_of L t' p ≡ map (λ x. with_words x (edit x)) (matches_of L t p)
    unfolding matches_of
    rewritten_matches_of =
        ap₂ ◌++◌ (rewritten_matches false) (rewritten_matches true) ∙ sym (map-append (λ x. with_words x (edit x)) (matches_in L t false p) (matches_in L t true p))

    pub rewritten_used : Valid p → (g : ℕ) → g < groups L → used L t' g ≡ used L t g
    rewritten_used valid g lg = used_same L t t' g (λ i l. go i l (eqb g (L.group false p)) refl (eqb g (L.group true p)) refl)
      where
        own : (b : Bool) (i : ℕ) → i < L.capacity → (s : Bool) → L.matching b p (L.first t (L.group b p) i) ≡ s
            → free_at L t' (L.group b p) i ≡ free_at L t (L.group b p) i
        own b i l true e =
            ap L.free (reads_edited b i l e).0
            ∙ laws.match_used b p (edit (entry_of L t p b i)).0 valid (matched_at b i l e)
            ∙ sym (laws.match_used b p (L.first t (L.group b p) i) valid e)
        own b i l false e = ap L.free (reads_kept b i l e).0

        of : (b : Bool) (i : ℕ) → i < L.capacity → g ≡ L.group b p → free_at L t' g i ≡ free_at L t g i
        of b i l q = rw q (own b i l (L.matching b p (L.first t (L.group b p) i)) refl)

        go : (i : ℕ) → i < L.capacity → (r : Bool) → eqb g (L.group false p) ≡ r → (s : Bool) → eqb g (L.group true p) ≡ s
            → free_at L t' g i ≡ free_at L t g i
        go i l true e s u = of false i l (eqb-true g (L.group false p) e)
        go i l false e true u = of true i l (eqb-true g (L.group true p) u)
        go i l false e false u = ap L.free (edited.elsewhere g i lg l (eqb-false g (L.group false p) e) (eqb-false g (L.group true p) u)).0

  -- a group of another pair is not written to
  pub elsewhere_used : (g : ℕ) → g < groups L → g ≢ L.group false p → g ≢ L.group true p → used L t' g ≡ used L t g
  elsewhere_used g lg d e = used_same L t t' g (λ i l. ap L.free (edited.elsewhere g i lg l d e).0)

  -- matches made free or rewritten by words of the same page: every other page keeps its matches and their places
  pub edited_other : ((x : Match) → MatchOf L t p x → OwnWord L p x.secondary (edit x).0) → (q : P) → Valid p → Valid q → same p q ≡ false
      → (c : Bool) → matches_in L t' c q ≡ matches_in L t c q
  unfolding matches_in
  edited_other own q vp vq d c =
      matches_same (L.matching c q) (L.first t g) (L.second t g) (L.first t' g) (L.second t' g) c L.capacity
      (λ i l. go i l (eqb g (L.group false p)) refl (eqb g (L.group true p)) refl)
    where
      g : ℕ
      g = L.group c q

      Kept : ℕ → ℕ → Type 0
      Kept k i = match_at (L.matching c q) (L.first t' k) (L.second t' k) c i ≡ match_at (L.matching c q) (L.first t k) (L.second t k) c i

      kept : (k i : ℕ) → Reads L t' k i (L.first t k i) (L.second t k i) → Kept k i
      kept k i r = same_words (L.matching c q) (L.first t k) (L.second t k) (L.first t' k) (L.second t' k) c i r

      of : (b : Bool) (i : ℕ) → i < L.capacity → L.group b p ≡ g → (s : Bool) → L.matching b p (L.first t (L.group b p) i) ≡ s → Kept (L.group b p) i
      of b i l e true m =
          both_fail (L.matching c q) (L.first t (L.group b p)) (L.second t (L.group b p)) (L.first t' (L.group b p)) (L.second t' (L.group b p)) c i
          (ap (L.matching c q) (reads_edited b i l m).0
          ∙ own_fails laws b c p q (edit (entry_of L t p b i)).0 vp vq d e (own (entry_of L t p b i) (record { in_range_law = l; passes = m; first_word_law = refl; second_word = refl })))
          (other_fails laws b c p q (L.first t (L.group b p) i) vp vq d e m)
      of b i l e false m = kept (L.group b p) i (reads_kept b i l m)

      in_own : (b : Bool) (i : ℕ) → i < L.capacity → g ≡ L.group b p → Kept g i
      in_own b i l e = subst (λ k. Kept k i) (sym e) (of b i l (sym e) (L.matching b p (L.first t (L.group b p) i)) refl)

      go : (i : ℕ) → i < L.capacity → (r : Bool) → eqb g (L.group false p) ≡ r → (s : Bool) → eqb g (L.group true p) ≡ s → Kept g i
      go i l true e s u = in_own false i l (eqb-true g (L.group false p) e)
      go i l false e true u = in_own true i l (eqb-true g (L.group true p) u)
      go i l false e false u =
          kept g i (edited.elsewhere g i (group_in_range laws c q) l (eqb-false g (L.group false p) e) (eqb-false g (L.group true p) u))
