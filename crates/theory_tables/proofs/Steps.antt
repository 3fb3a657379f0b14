-- The steps of a table that represents a finite map, and those of the map: the start, a page put in, taken out, and revised.
use mathlib.Core.Path.{◌≡◌, refl, sym, ap, ◌∙◌, subst}
use mathlib.Core.Bool.{Bool, true, false, cond}
use mathlib.Core.Logic.{inl, inr}
use mathlib.Core.List.Memᴰ
use mathlib.Core.List.{List, [], ◌∷◌, map, Memᴰ}
use mathlib.Core.Option
use mathlib.Core.Option.{none, some, some-ne-none, some-injective}
use Prim.Native.Nat.{ℕ, suc, ◌+◌, ◌-◌, ◌<◌}
use native.Mathlib.Omega.{arith}
use lib.ListN.{length}
use Rattle.theory_placement.specs.Lists.{one_if}
use Rattle.theory_placement.specs.Pairs.{of_pair, pages_of_pair}
use Rattle.theory_placement.specs.FiniteMap.{mapped_pages, put_in, fields_at, take_out, revise, NoPageTwice}
use Rattle.theory_placement.proofs.FiniteMap.{fields_at_put_in_same, fields_at_put_in_other, fields_at_take_out_same, fields_at_take_out_other, fields_at_revise_same, fields_at_revise_other}
use Rattle.theory_placement.proofs.FiniteMap.{no_page_twice_take_out, no_page_twice_revise}
use Rattle.theory_placement.proofs.Pairs.{pages_of_pair_take_out, pages_of_pair_revise}
use Rattle.theory_tables.specs.Matches.{Match}
use Rattle.theory_tables.specs.Layout.{Layout, groups, matches_in, matches_of, free_at, used_of_pair, free_place, overwrite, overwrite_each, LayoutLaws}
use Rattle.theory_tables.specs.Represents.{words_of, Represents}
use Rattle.theory_tables.proofs.Groups.{MatchOf, match_member, matches_in_none, matches_of_none, matches_of_same, group_in_range, free_fails}
use Rattle.theory_tables.proofs.Places.{used_none, free_place_some}
use Rattle.theory_tables.proofs.Overwrites.{with_words, put_only, put_other_page}
use Rattle.theory_tables.proofs.Edits.{Edited, each_edited, freed_matches_of, rewritten_matches_of, rewritten_used, edited_other}
use Rattle.theory_tables.proofs.Pairs.{pair_filled, pair_freed}
use Rattle.theory_tables.proofs.Represented.{unmapped_matches, mapped_match}

module _ {P T : Type 0} {L : Layout P T} {same : P → P → Bool} {Valid : P → Type 0} {Fits : ℕ → Type 0} {Good : T → Type 0}
    (laws : LayoutLaws L same Valid Fits Good) {F : Type 0} {word : F → ℕ} {ValidFields : F → Type 0} where
  -- a table whose entries are all free represents the empty map
  pub represents_empty : (t : T) → Good t → ((g i : ℕ) → g < groups L → i < L.capacity → free_at L t g i ≡ true) → Represents L same Valid Good word ValidFields t []
  represents_empty t good free = record {
    good = good;
    once = tt;
    found = λ p v. ap (map (λ (x : Match). x.second)) (matches_of_none L t p (λ b. matches_in_none L t p b
        (λ i l. free_fails laws b p (L.first t (L.group b p) i) v (free (L.group b p) i (group_in_range laws b p) l))));
    counted = λ g l.
        let a = used_none L t g (λ i k. free g i l k) in
        let b = used_none L t (groups L - suc g) (λ i k. free (groups L - suc g) i (omega arith) k) in
        omega arith;
    valid = λ p f e. absurd (some-ne-none f (sym e));
  }

  -- a change at page p alone, in the table and in the map
  changed : {t t' : T} {m m' : List (P × F)} (p : P) → Represents L same Valid Good word ValidFields t m → Good t' → NoPageTwice same m'
      → ((q : P) → Valid q → same p q ≡ false → (c : Bool) → matches_in L t' c q ≡ matches_in L t c q)
      → ((q : P) → same p q ≡ false → fields_at same q m' ≡ fields_at same q m)
      → map (λ (x : Match). x.second) (matches_of L t' p) ≡ words_of word (fields_at same p m')
      → ((f : F) → fields_at same p m' ≡ some f → Valid p × ValidFields f)
      → ((g : ℕ) → g < groups L → used_of_pair L t' g ≡ pages_of_pair L.group g (mapped_pages m'))
      → Represents L same Valid Good word ValidFields t' m'
  changed {t} {t'} {m} {m'} p r good once others fields own own-valid counted = record {
    good = good;
    once = once;
    found = λ q v. found q v (same p q) refl;
    counted = counted;
    valid = λ q f e. valid q f e (same p q) refl;
  }
    where
      found : (q : P) → Valid q → (s : Bool) → same p q ≡ s → map (λ (x : Match). x.second) (matches_of L t' q) ≡ words_of word (fields_at same q m')
      found q v true e =
          subst (λ (a : P). map (λ (x : Match). x.second) (matches_of L t' a) ≡ words_of word (fields_at same a m')) (laws.same_eq p q e) own
      found q v false e =
          ap (map (λ (x : Match). x.second)) (matches_of_same L t t' q (others q v e)) ∙ r.found q v ∙ ap (words_of word) (sym (fields q e))

      valid : (q : P) (f : F) → fields_at same q m' ≡ some f → (s : Bool) → same p q ≡ s → Valid q × ValidFields f
      valid q f h true e =
          subst (λ (a : P). fields_at same a m' ≡ some f → Valid a × ValidFields f) (laws.same_eq p q e) (own-valid f) h
      valid q f h false e = r.valid q f (sym (fields q e) ∙ h)

  -- a page that is not mapped is put in: its words are written into the first free entry in search order
  pub represents_put_in : {t : T} {m : List (P × F)} → Represents L same Valid Good word ValidFields t m → (p : P) (f : F) → Valid p → ValidFields f
      → fields_at same p m ≡ none → (b : Bool) (i u : ℕ) → free_place L t p ≡ some (b, i) → L.matching b p u ≡ true → Fits u → Fits (word f)
      → Represents L same Valid Good word ValidFields (L.put t (L.group b p) i u (word f)) (put_in p f m)
  represents_put_in {t} {m} r p f v vf n b i u e k fu fw =
      let place = free_place_some L t p b i e in
      let l = place.in_range_law in
      changed p r (laws.put_good t (L.group b p) i u (word f) r.good (group_in_range laws b p) l) (n, r.once)
      (λ q vq d c. put_other_page laws t p r.good b i u (word f) l fu fw (inl place.is_free) (inr k) q v vq d c)
      (λ q d. fields_at_put_in_other same laws.same_refl laws.same_eq p q f m d)
      (ap (map (λ (x : Match). x.second)) (put_only laws t p r.good b i u (word f) l fu fw (unmapped_matches laws r p v n) k)
      ∙ ap (words_of word) (sym (fields_at_put_in_same same laws.same_refl laws.same_eq p f m)))
      (λ g h. (v, subst ValidFields (some-injective f g (sym (fields_at_put_in_same same laws.same_refl laws.same_eq p f m) ∙ h)) vf))
      (λ g lg. pair_filled laws t p b i u (word f) r.good l fu fw place.is_free (laws.match_used b p u v k) g lg
      ∙ ap (λ x. one_if (of_pair L.group g p) + x) (r.counted g lg))

  module _ {t : T} {m : List (P × F)} (r : Represents L same Valid Good word ValidFields t m) (p : P) (f : F) (mapped : fields_at same p m ≡ some f) where
    -- the one match of a mapped page
    the_match : (x : Match) → MatchOf L t p x → x ≡ (mapped_match laws r p f mapped).match
    the_match x h =
        let o = mapped_match laws r p f mapped in
        Memᴰ.eq_of_singleton (subst (Memᴰ x) o.only (match_member L t p x h))

    -- the page is taken out: each of its matches is overwritten by an entry that is free
    pub represents_take_out : (z w : ℕ) → L.free z ≡ true → Fits z → Fits w
        → Represents L same Valid Good word ValidFields (overwrite_each L p (λ x. (z, w)) (matches_of L t p) t) (take_out same p m)
    represents_take_out z w free fz fw =
        let e = each_edited laws p (λ x. (z, w)) t r.good (λ x h. (fz, fw)) in
        let v = (r.valid p f mapped).0 in
        changed p r e.good (no_page_twice_take_out same laws.same_refl laws.same_eq p m r.once)
        (λ q vq d c. edited_other laws e (λ x h. inl free) q v vq d c)
        (λ q d. fields_at_take_out_other same laws.same_refl laws.same_eq p q m d)
        (ap (map (λ (x : Match). x.second)) (freed_matches_of laws e v (λ x h. free))
        ∙ ap (words_of word) (sym (fields_at_take_out_same same laws.same_refl laws.same_eq p m)))
        (λ g h. absurd (some-ne-none g (sym h ∙ fields_at_take_out_same same laws.same_refl laws.same_eq p m)))
        (λ g lg.
        let a = pair_freed laws e v (λ x h. free) g lg in
        let n : cond (of_pair L.group g p) (length (matches_of L t p)) 0 ≡ one_if (of_pair L.group g p) =
        ap (λ xs. cond (of_pair L.group g p) (length xs) 0) (mapped_match laws r p f mapped).only in
        let c = r.counted g lg in
        let k = pages_of_pair_take_out L.group g same laws.same_refl laws.same_eq p f m r.once mapped in
        omega arith)

    -- the page's fields are revised: the second word of each of its matches is rewritten
    module _ (v : ℕ → ℕ) (u : F → F) (follows : v (word f) ≡ word (u f)) (valid : ValidFields (u f)) (fits : Fits (word (u f))) where
      pub represents_revise : Represents L same Valid Good word ValidFields
          (overwrite_each L p (λ x. (x.first, v x.second)) (matches_of L t p) t) (revise same p u m)
      represents_revise =
          changed p r edited.good (no_page_twice_revise same laws.same_refl laws.same_eq p u m r.once)
          (λ q vq d c. edited_other laws edited (λ x h. inr h.passes) q (r.valid p f mapped).0 vq d c)
          (λ q d. fields_at_revise_other same laws.same_refl laws.same_eq p q u m d)
          (words ∙ ap (words_of word) (sym own))
          (λ g h. ((r.valid p f mapped).0, subst ValidFields (some-injective (u f) g (sym own ∙ h)) valid))
          (λ g lg.
          let a = rewritten_used laws edited (λ x h. h.passes) (r.valid p f mapped).0 g lg in
          let b = rewritten_used laws edited (λ x h. h.passes) (r.valid p f mapped).0 (groups L - suc g) (omega arith) in
          let c = r.counted g lg in
          let k = pages_of_pair_revise L.group g same p u m in
          omega arith)
        where
          edit : Match → ℕ × ℕ
          edit x = (x.first, v x.second)

          edit_fits : (x : Match) → MatchOf L t p x → Fits (edit x).0 × Fits (edit x).1
          edit_fits x h =
              let o = mapped_match laws r p f mapped in
              let k = laws.read_fits t (L.group x.secondary p) x.entry r.good (group_in_range laws x.secondary p) h.in_range_law in (
                subst Fits (sym h.first_word_law) k.0,
                subst Fits (sym (ap (λ (y : Match). v y.second) (the_match x h) ∙ ap v o.second_is ∙ follows)) fits,
              )

          edited : Edited L Good t (overwrite_each L p edit (matches_of L t p) t) p edit
          edited = each_edited laws p edit t r.good edit_fits

          own : fields_at same p (revise same p u m) ≡ some (u f)
          own = fields_at_revise_same same laws.same_refl laws.same_eq p u m ∙ ap (Option.map u) mapped

          words : map (λ (x : Match). x.second) (matches_of L (overwrite_each L p edit (matches_of L t p) t) p) ≡ word (u f) ∷ []
          words =
              let o = mapped_match laws r p f mapped in
              ap (map (λ (x : Match). x.second)) (rewritten_matches_of laws edited (λ x h. h.passes) ∙ ap (map (λ x. with_words x (edit x))) o.only)
              ∙ ap (λ w. w ∷ []) (ap v o.second_is ∙ follows)

      -- the same, where the first match alone is overwritten: there is no other
      pub represents_revise_first : (x : Match) (xs : List Match) → matches_of L t p ≡ x ∷ xs
          → Represents L same Valid Good word ValidFields (overwrite L p x x.first (v x.second) t) (revise same p u m)
      unfolding overwrite_each
      represents_revise_first x xs e =
          let o = mapped_match laws r p f mapped in
          let q : o.match ∷ [] ≡ x ∷ xs = sym o.only ∙ e in
          let n : [] ≡ xs = cc in
          let l : matches_of L t p ≡ x ∷ [] = e ∙ ap (λ ys. x ∷ ys) (sym n) in
          subst (λ ys. Represents L same Valid Good word ValidFields (overwrite_each L p (λ y. (y.first, v y.second)) ys t) (revise same p u m)) l represents_revise
