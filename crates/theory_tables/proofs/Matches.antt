-- The matches of one group, over any words: the split at an entry, which entries are among them, and what is left of them after a change of words.
use mathlib.Core.Path.{◌≡◌, refl, sym, ap, ap₂, ◌∙◌, subst}
use mathlib.Core.Logic.{⊎_elim, ◌≢◌}
use mathlib.Core.Bool.{Bool, true, false, cond}
use mathlib.Core.List.Memᴰ
use mathlib.Core.List.{List, [], ◌∷◌, ◌++◌, map, append-nil, append_assoc, map-append, cons-ne-nil, Memᴰ}
use Prim.Native.Nat.{ℕ, zero, suc, ◌+◌, ◌-◌, ◌<◌}
use native.Mathlib.Nat.{not-suc-le-zero, le_of_suc-le-suc, eq-or-lt_of_le, add-zero}
use native.Mathlib.Omega.{arith}
use lib.ListN.{length, length-append}
use Rattle.theory_placement.specs.Lists.{one_if}
use Rattle.theory_tables.specs.Matches.{Match, match_at, matches_below, how_many_below}

-- entry i of a group as a match
abbrev pub entry_at : (ℕ → ℕ) → (ℕ → ℕ) → Bool → ℕ → Match
entry_at first second secondary i = record { secondary = secondary; entry = i; first = first i; second = second i }

module _ (matching : ℕ → Bool) (first second : ℕ → ℕ) (secondary : Bool) where
  -- the matches among k entries from entry `from` on, in order
  unfoldable pub matches_from : ℕ → ℕ → List Match
  matches_from from zero = []
  matches_from from (suc k) = matches_from from k ++ match_at matching first second secondary (from + k)

module _ (matching : ℕ → Bool) (first second : ℕ → ℕ) (secondary : Bool) where
  matches_append : (n k : ℕ) → matches_below matching first second secondary (n + k)
      ≡ matches_below matching first second secondary n ++ matches_from matching first second secondary n k
  unfolding matches_below matches_from
  matches_append n zero = rw add-zero (sym (append-nil (matches_below matching first second secondary n)))
  matches_append n (suc k) =
      let e : n + suc k ≡ suc (n + k) = omega arith in
      rw e (ap (λ l. l ++ match_at matching first second secondary (n + k)) (matches_append n k)
      ∙ append_assoc (matches_below matching first second secondary n) (matches_from matching first second secondary n k) (match_at matching first second secondary (n + k)))

  -- the split at entry i: those before it, itself if it matches, and those behind it
  pub matches_split : (n i : ℕ) → i < n → matches_below matching first second secondary n
      ≡ matches_below matching first second secondary i ++ match_at matching first second secondary i
      ++ matches_from matching first second secondary (suc i) (n - suc i)
  unfolding matches_below
  matches_split n i l =
      let e : suc i + (n - suc i) ≡ n = omega arith in
      ap (matches_below matching first second secondary) (sym e) ∙ matches_append (suc i) (n - suc i)

-- x is an entry below n that matches
pub record MatchBelow (matching : ℕ → Bool) (first second : ℕ → ℕ) (secondary : Bool) (n : ℕ) (x : Match) : Type 0 where
  pub in_range_law : x.entry < n
  pub side : x.secondary ≡ secondary
  pub passes : matching x.first ≡ true
  pub first_word_law : x.first ≡ first x.entry
  pub second_word : x.second ≡ second x.entry

module _ (matching : ℕ → Bool) (first second : ℕ → ℕ) (secondary : Bool) where
  -- the matches are entries that match, and every such entry is among them
  pub members_match : (n : ℕ) (x : Match) → Memᴰ x (matches_below matching first second secondary n) → MatchBelow matching first second secondary n x
  unfolding matches_below
  members_match zero x k = absurd (Memᴰ.not-nil k)
  members_match (suc n) x k =
      ⊎_elim
      (λ j.
      let h = members_match n x j in
      record { in_range_law = omega arith; side = h.side; passes = h.passes; first_word_law = h.first_word_law; second_word = h.second_word })
      (λ j. last (matching (first n)) refl j)
      (Memᴰ.append_cases (matches_below matching first second secondary n) k)
    where
      last : (t : Bool) → matching (first n) ≡ t → Memᴰ x (cond t (entry_at first second secondary n ∷ []) []) → MatchBelow matching first second secondary (suc n) x
      last true e j =
          let q = Memᴰ.eq_of_singleton j in
          let i : x.entry ≡ n = ap (λ (y : Match). y.entry) q in
          record {
            in_range_law = omega arith;
            side = ap (λ (y : Match). y.secondary) q;
            passes = ap (λ (y : Match). matching y.first) q ∙ e;
            first_word_law = ap (λ (y : Match). y.first) q ∙ ap first (sym i);
            second_word = ap (λ (y : Match). y.second) q ∙ ap second (sym i);
          }
      last false e j = absurd (Memᴰ.not-nil j)

  pub matching_member : (n i : ℕ) → i < n → matching (first i) ≡ true
      → Memᴰ (entry_at first second secondary i) (matches_below matching first second secondary n)
  unfolding matches_below
  matching_member zero i l e = absurd (not-suc-le-zero l)
  matching_member (suc n) i l e =
      ⊎_elim
      (λ q. rw (← q) (rw e (Memᴰ.append_right (matches_below matching first second secondary i) (Memᴰ.head refl))))
      (λ k. Memᴰ.append_left (match_at matching first second secondary n) (matching_member n i k e))
      (eq-or-lt_of_le (le_of_suc-le-suc l))

  -- there is none exactly when no entry matches
  pub matches_none : (n : ℕ) → ((i : ℕ) → i < n → matching (first i) ≡ false) → matches_below matching first second secondary n ≡ []
  unfolding matches_below
  matches_none zero h = refl
  matches_none (suc n) h = rw (matches_none n (λ i l. h i (omega arith)), h n (omega arith))

  pub none_matches : (n : ℕ) → matches_below matching first second secondary n ≡ [] → (i : ℕ) → i < n → matching (first i) ≡ false
  none_matches n h i l = go (matching (first i)) refl
    where
      go : (t : Bool) → matching (first i) ≡ t → t ≡ false
      go true e = absurd (Memᴰ.not-nil (subst (Memᴰ (entry_at first second secondary i)) h (matching_member n i l e)))
      go false e = refl

  -- there are as many as entries match
  pub length_matches : (n : ℕ) → length (matches_below matching first second secondary n) ≡ how_many_below n (λ i. matching (first i))
  unfolding matches_below how_many_below
  length_matches zero = refl
  length_matches (suc n) =
      length-append (matches_below matching first second secondary n) (match_at matching first second secondary n)
      ∙ ap₂ ◌+◌ (length_matches n) (one (matching (first n)))
    where
      one : (t : Bool) → length (cond t (entry_at first second secondary n ∷ []) []) ≡ one_if t
      one true = refl
      one false = refl

-- two ways to fill the entries
module _ (matching : ℕ → Bool) (first second first' second' : ℕ → ℕ) (secondary : Bool) where
  -- the same words, or words that both do not match
  pub same_words : (i : ℕ) → (first' i ≡ first i) × (second' i ≡ second i) → match_at matching first' second' secondary i ≡ match_at matching first second secondary i
  same_words i e = ap₂ (λ u v. cond (matching u) (record { secondary = secondary; entry = i; first = u; second = v } ∷ []) []) e.0 e.1

  pub both_fail : (i : ℕ) → matching (first' i) ≡ false → matching (first i) ≡ false
      → match_at matching first' second' secondary i ≡ match_at matching first second secondary i
  both_fail i e u = rw (e, u)

  -- each entry's match changed by φ
  pub matches_map : (φ : Match → Match) (n : ℕ)
      → ((i : ℕ) → i < n → match_at matching first' second' secondary i ≡ map φ (match_at matching first second secondary i))
      → matches_below matching first' second' secondary n ≡ map φ (matches_below matching first second secondary n)
  unfolding matches_below
  matches_map φ zero h = refl
  matches_map φ (suc n) h =
      ap₂ ◌++◌ (matches_map φ n (λ i l. h i (omega arith))) (h n (omega arith))
      ∙ sym (map-append φ (matches_below matching first second secondary n) (match_at matching first second secondary n))

  -- no entry's match changed
  pub matches_same : (n : ℕ) → ((i : ℕ) → i < n → match_at matching first' second' secondary i ≡ match_at matching first second secondary i)
      → matches_below matching first' second' secondary n ≡ matches_below matching first second secondary n
  unfolding matches_below
  matches_same zero h = refl
  matches_same (suc n) h = ap₂ ◌++◌ (matches_same n (λ i l. h i (omega arith))) (h n (omega arith))

  matches_from_same : (from k : ℕ)
      → ((i : ℕ) → i < k → match_at matching first' second' secondary (from + i) ≡ match_at matching first second secondary (from + i))
      → matches_from matching first' second' secondary from k ≡ matches_from matching first second secondary from k
  unfolding matches_from
  matches_from_same from zero h = refl
  matches_from_same from (suc k) h = ap₂ ◌++◌ (matches_from_same from k (λ i l. h i (omega arith))) (h k (omega arith))

  -- words that differ at entry i alone change the middle of the split alone
  pub matches_changed : (n i : ℕ) → i < n
      → ((j : ℕ) → j < n → j ≢ i → match_at matching first' second' secondary j ≡ match_at matching first second secondary j)
      → matches_below matching first' second' secondary n
      ≡ matches_below matching first second secondary i ++ match_at matching first' second' secondary i
      ++ matches_from matching first second secondary (suc i) (n - suc i)
  matches_changed n i l h =
      matches_split matching first' second' secondary n i l
      ∙ ap₂ (λ a b. a ++ match_at matching first' second' secondary i ++ b)
      (matches_same i (λ j k. h j (omega arith) (omega arith)))
      (matches_from_same (suc i) (n - suc i) (λ j k. h (suc i + j) (omega arith) (omega arith)))

  -- words that differ at the first match alone, which still matches, change it alone
  pub first_match_changed : (n : ℕ) (x : Match) (xs : List Match) → matches_below matching first second secondary n ≡ x ∷ xs
      → ((j : ℕ) → j < n → j ≢ x.entry → match_at matching first' second' secondary j ≡ match_at matching first second secondary j)
      → matching (first' x.entry) ≡ true
      → matches_below matching first' second' secondary n ≡ entry_at first' second' secondary x.entry ∷ xs
  unfolding matches_below
  first_match_changed zero x xs e h m = absurd (cons-ne-nil x xs (sym e))
  first_match_changed (suc n) x xs e h m =
      go (matches_below matching first second secondary n) refl e (λ ys q. first_match_changed n x ys q (λ j l d. h j (omega arith) d) m)
    where
      now : ℕ → List Match
      now k = matches_below matching first' second' secondary k

      last : (t : Bool) → matching (first n) ≡ t → cond t (entry_at first second secondary n ∷ []) [] ≡ x ∷ xs → matches_below matching first second secondary n ≡ []
          → now (suc n) ≡ entry_at first' second' secondary x.entry ∷ xs
      last true u q z =
          let w : entry_at first second secondary n ≡ x = cc in
          let i : n ≡ x.entry = ap (λ (y : Match). y.entry) w in
          let k : [] ≡ xs = cc in
          rw (matches_same n (λ j l. h j (omega arith) (omega arith)), z, ap (λ j. matching (first' j)) i ∙ m)
          (ap₂ (λ j l. entry_at first' second' secondary j ∷ l) i k)
      last false u q z = absurd (cons-ne-nil x xs (sym q))

      go : (l : List Match) → matches_below matching first second secondary n ≡ l → l ++ match_at matching first second secondary n ≡ x ∷ xs
          → ((ys : List Match) → matches_below matching first second secondary n ≡ x ∷ ys → now n ≡ entry_at first' second' secondary x.entry ∷ ys)
          → now (suc n) ≡ entry_at first' second' secondary x.entry ∷ xs
      go [] z q i = last (matching (first n)) refl q z
      go (y ∷ ys) z q i =
          let w : y ≡ x = cc in
          let r : ys ++ match_at matching first second secondary n ≡ xs = cc in
          let z' : matches_below matching first second secondary n ≡ x ∷ ys = cc in
          let b = members_match matching first second secondary n x (subst (Memᴰ x) (sym z') (Memᴰ.head refl)) in
          ap₂ ◌++◌ (i ys z') (h n (omega arith) (omega arith)) ∙ ap (λ l. entry_at first' second' secondary x.entry ∷ l) r
