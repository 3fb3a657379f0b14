-- What follows from "this table represents this finite map": the matches of a mapped page and of any other, used entries and mapped pages of a
-- pair, and that a free entry is left for a page exactly when an arrangement with it exists.
--   unmapped_matches: a page that is not mapped has no match
--   OneMatch, mapped_match: a mapped page has one match, with the second word of its fields
--   full_branch, free_branch: a decision on an arrangement with the page is no where no entry is free for it, and yes where one is
use mathlib.Core.Path.{◌≡◌, refl, sym, ap, ◌∙◌, subst}
use mathlib.Core.Logic.{◌↔◌, ite, if_pos, if_neg}
use mathlib.Core.Bool.{Bool, true, false, decide}
use mathlib.Core.List.{List, [], ◌∷◌, map, map-eq-nil_iff, cons-ne-nil, Memᴰ}
use mathlib.Core.Option.{Option, none, some, some-ne-none}
use Prim.Native.Nat.{ℕ, suc, ◌+◌, ◌-◌, ◌<◌}
use native.Mathlib.Omega.{arith}
use Rattle.theory_placement.specs.Placement.{Arrangement}
use Rattle.theory_placement.specs.Pairs.{pages_of_pair}
use Rattle.theory_placement.specs.FiniteMap.{mapped_pages, fields_at}
use Rattle.theory_placement.proofs.Arrangements.{arrangement_exists}
use Rattle.theory_tables.specs.Matches.{Match}
use Rattle.theory_tables.specs.Layout.{Layout, groups, matches_of, used, free_place, LayoutLaws}
use Rattle.theory_tables.specs.Represents.{words_of, Represents}
use Rattle.theory_tables.proofs.Groups.{MatchOf, members_of, group_in_range}
use Rattle.theory_tables.proofs.Places.{used_bound, free_place_none, free_place_left}
use Rattle.theory_tables.proofs.Pairs.{used_of_pair_own}

-- a page has one match, with this second word
pub record OneMatch {P T : Type 0} (L : Layout P T) (t : T) (p : P) (w : ℕ) : Type 0 where
  pub match : Match
  pub only : matches_of L t p ≡ match ∷ []
  pub second_is : match.second ≡ w
  pub stands : MatchOf L t p match

-- something is found
abbrev pub is_some : {A : Type 0} → Option A → Bool
is_some none = false
is_some (some a) = true

module _ {P T : Type 0} {L : Layout P T} {same : P → P → Bool} {Valid : P → Type 0} {Fits : ℕ → Type 0} {Good : T → Type 0}
    (laws : LayoutLaws L same Valid Fits Good) {F : Type 0} {word : F → ℕ} {ValidFields : F → Type 0}
    {t : T} {m : List (P × F)} (represents : Represents L same Valid Good word ValidFields t m) (p : P) where
  -- a page that is not mapped has no match, and a mapped page has one, with the second word of its fields
  pub unmapped_matches : Valid p → fields_at same p m ≡ none → matches_of L t p ≡ []
  unmapped_matches v n = (map-eq-nil_iff (λ (x : Match). x.second)).0 (represents.found p v ∙ ap (words_of word) n)

  pub mapped_match : (f : F) → fields_at same p m ≡ some f → OneMatch L t p (word f)
  mapped_match f e = go (matches_of L t p) refl (represents.found p (represents.valid p f e).0 ∙ ap (words_of word) e)
    where
      go : (xs : List Match) → matches_of L t p ≡ xs → map (λ (x : Match). x.second) xs ≡ word f ∷ [] → OneMatch L t p (word f)
      go [] q h = absurd (cons-ne-nil (word f) [] (sym h))
      go (x ∷ []) q h =
          record { match = x; only = q; second_is = cc; stands = members_of L t p x (subst (Memᴰ x) (sym q) (Memᴰ.head refl)) }
      go (x ∷ y ∷ xs) q h = absurd (let z : ◌≡◌ {A = ℕ} 0 1 = cc in omega arith)

  -- and back: what is matched is mapped
  pub matchless_unmapped : Valid p → matches_of L t p ≡ [] → fields_at same p m ≡ none
  matchless_unmapped v e = go (fields_at same p m) refl
    where
      go : (o : Option F) → fields_at same p m ≡ o → o ≡ none
      go none q = refl
      go (some f) q = let o = mapped_match f q in absurd (cons-ne-nil o.match [] (sym o.only ∙ e))

  pub matched_mapped : Valid p → (x : Match) (xs : List Match) → matches_of L t p ≡ x ∷ xs
      → (f : F) × (fields_at same p m ≡ some f) × (x.second ≡ word f) × (xs ≡ [])
  matched_mapped v x xs e = go (fields_at same p m) refl
    where
      go : (o : Option F) → fields_at same p m ≡ o → (f : F) × (fields_at same p m ≡ some f) × (x.second ≡ word f) × (xs ≡ [])
      go none q = absurd (cons-ne-nil x xs (sym e ∙ unmapped_matches v q))
      go (some f) q =
          let o = mapped_match f q in
          let r : x ∷ xs ≡ o.match ∷ [] = sym e ∙ o.only in
          let s : x ≡ o.match = cc in
          (f, q, ap (λ (y : Match). y.second) s ∙ o.second_is, cc)

  -- the used entries of a page's two groups are the mapped pages of its pair
  pub own_pair_used : used L t (L.group false p) + used L t (L.group true p) ≡ pages_of_pair L.group (L.group false p) (mapped_pages m)
  own_pair_used = sym (used_of_pair_own laws t false p) ∙ represents.counted (L.group false p) (group_in_range laws false p)

module _ {P T : Type 0} {L : Layout P T} {same : P → P → Bool} {Valid : P → Type 0} {Fits : ℕ → Type 0} {Good : T → Type 0}
    (laws : LayoutLaws L same Valid Fits Good) {F : Type 0} {word : F → ℕ} {ValidFields : F → Type 0}
    {t : T} {m : List (P × F)} (represents : Represents L same Valid Good word ValidFields t m) where
  -- the table itself shows that the mapped pages have an arrangement
  pub mapped_arranged : Arrangement L.group L.capacity (mapped_pages m)
  mapped_arranged =
      ((arrangement_exists L.group L.capacity L.half laws.mirror).exactly (mapped_pages m)).1
      (λ g l.
      let c = represents.counted g l in
      let a = used_bound L t g in
      let b = used_bound L t (groups L - suc g) in
      omega arith)

  -- with one page more there is an arrangement exactly when the page's pair has an entry left
  pub room : (p : P) → Arrangement L.group L.capacity (p ∷ mapped_pages m)
      ↔ (used L t (L.group false p) + used L t (L.group true p) < L.capacity + L.capacity)
  room p =
      let o = (arrangement_exists L.group L.capacity L.half laws.mirror).one_more p (mapped_pages m) mapped_arranged in
      let e = own_pair_used laws represents p in
      (λ a. let l = o.0 a in omega arith, λ l. o.1 (omega arith))

  -- a free entry is left for a page exactly when there is an arrangement with it
  pub free_arranged : (p : P) → ((x : Bool × ℕ) × (free_place L t p ≡ some x)) ↔ Arrangement L.group L.capacity (p ∷ mapped_pages m)
  free_arranged p = (λ x. (room p).1 (free_place_left L t p x.0.0 x.0.1 x.1), λ a. go (free_place L t p) refl a)
    where
      go : (o : Option (Bool × ℕ)) → free_place L t p ≡ o → Arrangement L.group L.capacity (p ∷ mapped_pages m)
          → (x : Bool × ℕ) × (o ≡ some x)
      go none e a = let f = (free_place_none L t p).0 e in let l = (room p).0 a in absurd (omega arith)
      go (some x) e a = (x, refl)

  pub full_unarranged : (p : P) → (free_place L t p ≡ none) ↔ (Arrangement L.group L.capacity (p ∷ mapped_pages m) → ⊥)
  full_unarranged p = (
    λ e a. let (x, q) = (free_arranged p).1 a in some-ne-none x (sym q ∙ e),
    λ h. go (free_place L t p) refl h,
  )
    where
      go : (o : Option (Bool × ℕ)) → free_place L t p ≡ o → (Arrangement L.group L.capacity (p ∷ mapped_pages m) → ⊥) → o ≡ none
      go none e h = refl
      go (some x) e h = absurd (h ((free_arranged p).0 (x, e)))

  -- whatever decides on arrangements agrees with the table, as a test and as a branch
  pub arrangement_decided : (p : P) (d : Dec (Arrangement L.group L.capacity (p ∷ mapped_pages m))) → decide d ≡ is_some (free_place L t p)
  unfolding decide
  arrangement_decided p d = go d (free_place L t p) refl
    where
      go : (d : Dec (Arrangement L.group L.capacity (p ∷ mapped_pages m))) (o : Option (Bool × ℕ)) → free_place L t p ≡ o → decide d ≡ is_some o
      go (yes a) none e = absurd ((full_unarranged p).0 e a)
      go (yes a) (some x) e = refl
      go (no h) none e = refl
      go (no h) (some x) e = absurd (h ((free_arranged p).0 (x, e)))

  pub full_branch : {X : Type 0} (p : P) → free_place L t p ≡ none → (d : Dec (Arrangement L.group L.capacity (p ∷ mapped_pages m))) (x y : X)
      → ite d x y ≡ y
  full_branch p e d x y = if_neg d ((full_unarranged p).0 e) x y

  pub free_branch : {X : Type 0} (p : P) (place : Bool × ℕ) → free_place L t p ≡ some place
      → (d : Dec (Arrangement L.group L.capacity (p ∷ mapped_pages m))) (x y : X) → ite d x y ≡ x
  free_branch p place e d x y = if_pos d ((free_arranged p).0 (place, e)) x y
