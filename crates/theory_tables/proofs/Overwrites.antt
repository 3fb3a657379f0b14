-- One entry of a page written in any table, by map or over its first match: what becomes of its own matches, and that every other page keeps its
-- matches and their places, since a group and a first word name at most one page.
use mathlib.Core.Path.{◌≡◌, refl, sym, ap, ap₂, ◌∙◌, subst}
use mathlib.Core.Logic.{◌⊎◌, inl, inr}
use mathlib.Core.Bool.{Bool, true, false, not}
use mathlib.Core.List.{List, [], ◌∷◌, ◌++◌, append-eq-nil_iff, Memᴰ}
use Prim.Native.Nat.{ℕ, ◌<◌}
use Rattle.theory_tables.specs.Matches.{Match}
use Rattle.theory_tables.specs.Layout.{Layout, matches_in, matches_of, overwrite, LayoutLaws}
use Rattle.theory_tables.proofs.Matches.{same_words, first_match_changed}
use Rattle.theory_tables.proofs.Groups.{MatchOf, members_in, none_matches_of, group_in_range, groups_differ, free_fails, other_fails}
use Rattle.theory_tables.proofs.Puts.{entry_if, put_other, put_keeps, put_split}

-- a word that page p may leave behind in its group b: free, or its own
abbrev pub OwnWord : {P T : Type 0} → Layout P T → P → Bool → ℕ → Type 0
OwnWord L p b u = (L.free u ≡ true) ⊎ (L.matching b p u ≡ true)

-- a match with other words in its place
abbrev pub with_words : Match → ℕ × ℕ → Match
with_words x w = record { secondary = x.secondary; entry = x.entry; first = w.0; second = w.1 }

module _ {P T : Type 0} {L : Layout P T} {same : P → P → Bool} {Valid : P → Type 0} {Fits : ℕ → Type 0} {Good : T → Type 0}
    (laws : LayoutLaws L same Valid Fits Good) where
  -- a page's own word matches no other page of the same group
  pub own_fails : (b c : Bool) (p q : P) (u : ℕ) → Valid p → Valid q → same p q ≡ false → L.group b p ≡ L.group c q → OwnWord L p b u
      → L.matching c q u ≡ false
  own_fails b c p q u vp vq d e (inl f) = free_fails laws c q u vq f
  own_fails b c p q u vp vq d e (inr m) = other_fails laws b c p q u vp vq d e m

  module _ (t : T) (p : P) (good : Good t) where
    -- the first match of a group
    first_in_law : (b : Bool) (x : Match) (xs : List Match) (u v : ℕ) → matches_in L t b p ≡ x ∷ xs → Fits u → Fits v → L.matching b p u ≡ true
        → matches_in L (L.put t (L.group b p) x.entry u v) b p ≡ record { secondary = b; entry = x.entry; first = u; second = v } ∷ xs
    unfolding matches_in
    first_in_law b x xs u v h fu fv m =
        let g = L.group b p in
        let t' = L.put t g x.entry u v in
        let lg = group_in_range laws b p in
        let k = (members_in L t p b x (subst (Memᴰ x) (sym h) (Memᴰ.head refl))).1 in
        let e = laws.put_same t g x.entry u v good lg k.in_range_law fu fv in
        first_match_changed (L.matching b p) (L.first t g) (L.second t g) (L.first t' g) (L.second t' g) b L.capacity x xs h
        (λ j l d. same_words (L.matching b p) (L.first t g) (L.second t g) (L.first t' g) (L.second t' g) b j
        (put_other laws t g x.entry u v good lg k.in_range_law g j lg l (λ _ q. d q)))
        (ap (L.matching b p) e.0 ∙ m)
        ∙ ap₂ (λ y z. record { secondary = b; entry = x.entry; first = y; second = z } ∷ xs) e.0 e.1

    -- the first match overwritten by words that still match: it alone is changed
    pub overwrite_first : (x : Match) (xs : List Match) (u v : ℕ) → matches_of L t p ≡ x ∷ xs → Fits u → Fits v → L.matching x.secondary p u ≡ true
        → matches_of L (overwrite L p x u v t) p ≡ with_words x (u, v) ∷ xs
    unfolding matches_of overwrite
    overwrite_first x xs u v h fu fv m = go (matches_in L t false p) refl h
      where
        -- the page's other group is not written to
        other : (b : Bool) → x.entry < L.capacity → matches_in L (L.put t (L.group b p) x.entry u v) (not b) p ≡ matches_in L t (not b) p
        other b l =
            put_keeps laws t (L.group b p) x.entry u v good (group_in_range laws b p) l fu fv (not b) p
            (λ e. absurd (groups_differ laws b p (sym e)))

        go : (l : List Match) → matches_in L t false p ≡ l → l ++ matches_in L t true p ≡ x ∷ xs
            → matches_of L (L.put t (L.group x.secondary p) x.entry u v) p ≡ with_words x (u, v) ∷ xs
        go [] z q =
            let (s, k) = members_in L t p true x (subst (Memᴰ x) (sym q) (Memᴰ.head refl)) in
            let m' : L.matching true p u ≡ true = ap (λ b. L.matching b p u) (sym s) ∙ m in
            rw s (ap₂ ◌++◌ (other true k.in_range_law ∙ z) (first_in_law true x xs u v q fu fv m'))
        go (y ∷ ys) z q =
            let w : x ≡ y = cc in
            let z' : matches_in L t false p ≡ x ∷ ys = cc in
            let r : ys ++ matches_in L t true p ≡ xs = cc in
            let (s, k) = members_in L t p false x (subst (Memᴰ x) (sym z') (Memᴰ.head refl)) in
            let m' : L.matching false p u ≡ true = ap (λ b. L.matching b p u) (sym s) ∙ m in
            rw s (ap₂ ◌++◌ (first_in_law false x ys u v z' fu fv m') (other false k.in_range_law)
            ∙ ap (λ l. record { secondary = false; entry = x.entry; first = u; second = v } ∷ l) r)

    -- a word of page p replaced by another, in its group b: every other page keeps its matches and their places
    pub put_other_page : (b : Bool) (i u v : ℕ) → i < L.capacity → Fits u → Fits v → OwnWord L p b (L.first t (L.group b p) i) → OwnWord L p b u
        → (q : P) → Valid p → Valid q → same p q ≡ false → (c : Bool) → matches_in L (L.put t (L.group b p) i u v) c q ≡ matches_in L t c q
    put_other_page b i u v l fu fv old new q vp vq d c =
        put_keeps laws t (L.group b p) i u v good (group_in_range laws b p) l fu fv c q
        (λ e. (own_fails b c p q (L.first t (L.group b p) i) vp vq d (sym e) old, own_fails b c p q u vp vq d (sym e) new))

    pub overwrite_other : (x : Match) (u v : ℕ) → MatchOf L t p x → Fits u → Fits v → OwnWord L p x.secondary u
        → (q : P) → Valid p → Valid q → same p q ≡ false → (c : Bool) → matches_in L (overwrite L p x u v t) c q ≡ matches_in L t c q
    unfolding overwrite
    overwrite_other x u v k fu fv new q vp vq d c =
        put_other_page x.secondary x.entry u v k.in_range_law fu fv (inr (ap (L.matching x.secondary p) (sym k.first_word_law) ∙ k.passes)) new q vp vq d c

    -- an entry written for a page that has no match: it is the page's one match
    pub put_only : (b : Bool) (i u v : ℕ) → i < L.capacity → Fits u → Fits v → matches_of L t p ≡ [] → L.matching b p u ≡ true
        → matches_of L (L.put t (L.group b p) i u v) p ≡ record { secondary = b; entry = i; first = u; second = v } ∷ []
    unfolding matches_of
    put_only b i u v l fu fv n m = go b m
      where
        own : (c : Bool) → L.matching c p u ≡ true → matches_in L (L.put t (L.group c p) i u v) c p ≡ record { secondary = c; entry = i; first = u; second = v } ∷ []
        own c k =
            let s = put_split laws t c p i u v good l fu fv in
            let w = (append-eq-nil_iff {p = s.before ++ entry_if L c p i (L.first t (L.group c p) i) (L.second t (L.group c p) i)}).0 (sym s.was ∙ none_matches_of L t p n c) in
            let z = (append-eq-nil_iff {p = s.before}).0 w.0 in
            s.now ∙ rw (z.0, w.1, k)

        other : (c : Bool) → matches_in L (L.put t (L.group c p) i u v) (not c) p ≡ []
        other c =
            put_keeps laws t (L.group c p) i u v good (group_in_range laws c p) l fu fv (not c) p (λ e. absurd (groups_differ laws c p (sym e)))
            ∙ none_matches_of L t p n (not c)

        go : (c : Bool) → L.matching c p u ≡ true
            → matches_of L (L.put t (L.group c p) i u v) p ≡ record { secondary = c; entry = i; first = u; second = v } ∷ []
        go false k = ap₂ ◌++◌ (own false k) (other false)
        go true k = ap₂ ◌++◌ (other true) (own true k)
