-- A page's two groups, what matches in them, and which entries are among a page's matches, for any table.
--   MatchOf: x is an entry of the table that matches the page, with its own words
--   entry_of: an entry of the page's primary or secondary group as a match
--   member_of, match_member: an entry that matches is among the page's matches
--   members_in, members_of: what is among the matches of a group, and of a page, is such an entry
--   matches_in_none, none_matches_in: a group has no match exactly where none of its entries matches
--   matches_of_none, none_matches_of: a page has no match exactly where neither group has one
--   matches_in_same, matches_of_same: a group whose entries read alike in two tables has the same matches, and so has the page
--   group_in_range, group_mirror: a page's two groups are groups of the table, and each is the mirror of the other
--   groups_differ: they are two
--   free_fails: a free entry matches no page
--   other_fails: a word that matches one page matches no other page of its group
use mathlib.Core.Path.{◌≡◌, refl, sym, ap, ap₂, ◌∙◌, subst}
use mathlib.Core.Logic.{◌≢◌, ⊎_elim}
use mathlib.Core.Bool.{Bool, true, false, not, true≢false}
use mathlib.Core.List.Memᴰ
use mathlib.Core.List.{[], ◌++◌, Memᴰ, append-eq-nil_iff}
use Prim.Native.Nat.{ℕ, suc, ◌-◌, ◌<◌}
use native.Mathlib.Omega.{arith}
use Rattle.theory_tables.specs.Matches.{Match}
use Rattle.theory_tables.specs.Layout.{Layout, groups, Reads, matches_in, matches_of, LayoutLaws}
use Rattle.theory_tables.proofs.Matches.{entry_at, members_match, matching_member, matches_none, none_matches, matches_same, same_words}

-- x is an entry of the table that matches page p, with its own words
pub record MatchOf {P T : Type 0} (L : Layout P T) (t : T) (p : P) (x : Match) : Type 0 where
  pub in_range_law : x.entry < L.capacity
  pub passes : L.matching x.secondary p x.first ≡ true
  pub first_word_law : x.first ≡ L.first t (L.group x.secondary p) x.entry
  pub second_word : x.second ≡ L.second t (L.group x.secondary p) x.entry

module _ {P T : Type 0} (L : Layout P T) (t : T) (p : P) where
  -- entry i of the page's primary or secondary group
  abbrev pub entry_of : Bool → ℕ → Match
  entry_of b i = entry_at (L.first t (L.group b p)) (L.second t (L.group b p)) b i

  -- an entry of a page's groups that matches is among its matches, and these are such entries
  pub member_in : (b : Bool) (i : ℕ) → i < L.capacity → L.matching b p (L.first t (L.group b p) i) ≡ true → Memᴰ (entry_of b i) (matches_in L t b p)
  unfolding matches_in
  member_in b i l e = matching_member (L.matching b p) (L.first t (L.group b p)) (L.second t (L.group b p)) b L.capacity i l e

  pub member_of : (b : Bool) (i : ℕ) → i < L.capacity → L.matching b p (L.first t (L.group b p) i) ≡ true → Memᴰ (entry_of b i) (matches_of L t p)
  unfolding matches_of
  member_of false i l e = Memᴰ.append_left (matches_in L t true p) (member_in false i l e)
  member_of true i l e = Memᴰ.append_right (matches_in L t false p) (member_in true i l e)

  pub members_in : (b : Bool) (x : Match) → Memᴰ x (matches_in L t b p) → (x.secondary ≡ b) × MatchOf L t p x
  unfolding matches_in
  members_in b x k =
      let h = members_match (L.matching b p) (L.first t (L.group b p)) (L.second t (L.group b p)) b L.capacity x k in
      let s = sym h.side in (
        h.side,
        record {
          in_range_law = h.in_range_law;
          passes = subst (λ (c : Bool). L.matching c p x.first ≡ true) s h.passes;
          first_word_law = subst (λ (c : Bool). x.first ≡ L.first t (L.group c p) x.entry) s h.first_word_law;
          second_word = subst (λ (c : Bool). x.second ≡ L.second t (L.group c p) x.entry) s h.second_word;
        },
      )

  pub members_of : (x : Match) → Memᴰ x (matches_of L t p) → MatchOf L t p x
  unfolding matches_of
  members_of x k = ⊎_elim (λ j. (members_in false x j).1) (λ j. (members_in true x j).1) (Memᴰ.append_cases (matches_in L t false p) k)

  pub match_member : (x : Match) → MatchOf L t p x → Memᴰ x (matches_of L t p)
  match_member x h =
      let q : entry_of x.secondary x.entry ≡ x =
      ap₂ (λ u v. record { secondary = x.secondary; entry = x.entry; first = u; second = v }) (sym h.first_word_law) (sym h.second_word) in
      subst (λ (y : Match). Memᴰ y (matches_of L t p)) q
      (member_of x.secondary x.entry h.in_range_law (ap (L.matching x.secondary p) (sym h.first_word_law) ∙ h.passes))

  -- no match in a group exactly when no entry of it matches
  pub matches_in_none : (b : Bool) → ((i : ℕ) → i < L.capacity → L.matching b p (L.first t (L.group b p) i) ≡ false) → matches_in L t b p ≡ []
  unfolding matches_in
  matches_in_none b h = matches_none (L.matching b p) (L.first t (L.group b p)) (L.second t (L.group b p)) b L.capacity h

  pub none_matches_in : (b : Bool) → matches_in L t b p ≡ [] → (i : ℕ) → i < L.capacity → L.matching b p (L.first t (L.group b p) i) ≡ false
  unfolding matches_in
  none_matches_in b h = none_matches (L.matching b p) (L.first t (L.group b p)) (L.second t (L.group b p)) b L.capacity h

  -- no match exactly when there is none in either group
  pub matches_of_none : ((b : Bool) → matches_in L t b p ≡ []) → matches_of L t p ≡ []
  unfolding matches_of
  matches_of_none h = ap₂ ◌++◌ (h false) (h true)

  pub none_matches_of : matches_of L t p ≡ [] → (b : Bool) → matches_in L t b p ≡ []
  unfolding matches_of
  none_matches_of h false = ((append-eq-nil_iff {p = matches_in L t false p}).0 h).0
  none_matches_of h true = ((append-eq-nil_iff {p = matches_in L t false p}).0 h).1

module _ {P T : Type 0} (L : Layout P T) (t t' : T) (p : P) where
  -- group by group: what is the same in both is the same in search order
  pub matches_of_same : ((b : Bool) → matches_in L t' b p ≡ matches_in L t b p) → matches_of L t' p ≡ matches_of L t p
  unfolding matches_of
  matches_of_same h = ap₂ ◌++◌ (h false) (h true)

  -- a group whose entries read alike has the same matches
  pub matches_in_same : (b : Bool)
      → ((i : ℕ) → i < L.capacity → Reads L t' (L.group b p) i (L.first t (L.group b p) i) (L.second t (L.group b p) i))
      → matches_in L t' b p ≡ matches_in L t b p
  unfolding matches_in
  matches_in_same b h =
      matches_same (L.matching b p) (L.first t (L.group b p)) (L.second t (L.group b p)) (L.first t' (L.group b p)) (L.second t' (L.group b p)) b L.capacity
      (λ i l. same_words (L.matching b p) (L.first t (L.group b p)) (L.second t (L.group b p)) (L.first t' (L.group b p)) (L.second t' (L.group b p)) b i (h i l))

module _ {P T : Type 0} {L : Layout P T} {same : P → P → Bool} {Valid : P → Type 0} {Fits : ℕ → Type 0} {Good : T → Type 0}
    (laws : LayoutLaws L same Valid Fits Good) where
  -- a page's two groups are groups, and each is the mirror of the other
  pub group_in_range : (b : Bool) (p : P) → L.group b p < groups L
  group_in_range false p = let m = laws.mirror p in omega arith
  group_in_range true p = let m = laws.mirror p in omega arith

  pub group_mirror : (b : Bool) (p : P) → groups L - suc (L.group b p) ≡ L.group (not b) p
  group_mirror false p = let m = laws.mirror p in omega arith
  group_mirror true p = let m = laws.mirror p in omega arith

  -- a page's two groups are two: the number of groups is even
  pub groups_differ : (b : Bool) (p : P) → L.group b p ≢ L.group (not b) p
  groups_differ b p e = let m = group_mirror b p in let l = group_in_range b p in omega arith

  pub group_tells : (b c : Bool) (p : P) → L.group b p ≡ L.group c p → b ≡ c
  group_tells false false p e = refl
  group_tells false true p e = absurd (groups_differ false p e)
  group_tells true false p e = absurd (groups_differ true p e)
  group_tells true true p e = refl

  -- a free entry matches no page
  pub free_fails : (b : Bool) (p : P) (u : ℕ) → Valid p → L.free u ≡ true → L.matching b p u ≡ false
  free_fails b p u v f = go (L.matching b p u) refl
    where
      go : (t : Bool) → L.matching b p u ≡ t → t ≡ false
      go true e = absurd (true≢false (sym f ∙ laws.match_used b p u v e))
      go false e = refl

  -- a word that matches one page matches no other page of its group
  pub other_fails : (b c : Bool) (p q : P) (u : ℕ) → Valid p → Valid q → same p q ≡ false → L.group b p ≡ L.group c q
      → L.matching b p u ≡ true → L.matching c q u ≡ false
  other_fails b c p q u vp vq d g e = go (L.matching c q u) refl
    where
      go : (t : Bool) → L.matching c q u ≡ t → t ≡ false
      go true k = absurd (true≢false (sym (laws.same_refl p) ∙ ap (same p) (laws.tells b c p q u vp vq g e k) ∙ d))
      go false k = refl
