-- Of two runs of acts on the list of mapped pages, one of which lacks an act, each ends with at most one page that the other lacks.
-- The idea: the two lists differ by nothing, by one page, or by one page each of one pair of groups, and every further act keeps this so.
use mathlib.Core.Path.{◌≡◌, refl, sym, ap, ap₂, ◌∙◌, subst}
use mathlib.Core.Logic.{◌⊎◌, inl, inr, ite, if_pos, if_neg}
use mathlib.Core.Bool.{Bool, true, false, not, cond, ◌||◌, or-true, or_assoc, or_comm, true≢false, false≢true}
use mathlib.Core.List.{List, [], ◌∷◌, ◌++◌}
use Prim.Native.Nat.{ℕ, suc, ◌+◌, ◌-◌, ◌≤◌, ◌<◌}
use native.Mathlib.Omega.{arith}
use lib.Dec.{eqb, ltb}
use borrow.Author.Tests.{eqb-true, ltb-true, ltb-false}
use Rattle.theory_placement.specs.Lists.{one_if}
use Rattle.theory_placement.specs.Placement.{Arrangement}
use Rattle.theory_placement.specs.Pairs.{of_pair, pages_of_pair}
use Rattle.theory_placement.proofs.Lists.{selected_sublist}
use Rattle.theory_placement.proofs.Perm.{Perm, pnil, pcons, pswap, ptrans, prefl, pof, psym, phow_many, pselected}
use Rattle.theory_placement.proofs.Decision.{own_pair, of_pair_by, primary_in_range, pair_bound}
use Rattle.theory_placement.proofs.FiniteMap.{same_false}
use Rattle.theory_placement.proofs.Arrangements.{arrangement_exists, arrangement_sublist}
use Rattle.theory_histories.proofs.Acts.{Act, leave, empty, insert, delete, has, without, act, acts}

-- every act but `empty`
abbrev pub NotEmpty : {P : Type 0} → Act P → Type 0
NotEmpty leave = Unit {0}
NotEmpty empty = ⊥
NotEmpty (insert p) = Unit {0}
NotEmpty (delete p) = Unit {0}

module _ {P : Type 0} (same : P → P → Bool) where
  -- at most one page is in the first list that the second lacks
  abbrev pub AtMostOne : List P → List P → Type 0
  AtMostOne l m = (p q : P) → has same p l ≡ true → has same p m ≡ false → has same q l ≡ true → has same q m ≡ false → p ≡ q

  -- no page is in the list twice
  abbrev Distinct : List P → Type 0
  Distinct [] = Unit {0}
  Distinct (x ∷ l) = (has same x l ≡ false) × Distinct l

or_none : (a b : Bool) → (a || b) ≡ false → (a ≡ false) × (b ≡ false)
or_none true b e = absurd (true≢false e)
or_none false b e = (refl, e)

module _ {P : Type 0} (same : P → P → Bool) (same_refl : (p : P) → same p p ≡ true) (same_eq : (p q : P) → same p q ≡ true → p ≡ q) where
  -- two pages differ in either order
  other : (p q : P) → same p q ≡ false → same q p ≡ false
  other p q e = same_false same same_refl same_eq p q e

  -- the order of a list does not matter
  has_perm : (p : P) {l m : List P} → Perm l m → has same p l ≡ has same p m
  has_perm p pnil = refl
  has_perm p (pcons {x = x} q) = ap (λ (t : Bool). same p x || t) (has_perm p q)
  has_perm p (pswap {x = x} {y = y} {l = l}) =
      sym (or_assoc (same p x) (same p y) (has same p l)) ∙ ap (λ (t : Bool). t || has same p l) (or_comm (same p x) (same p y))
      ∙ or_assoc (same p y) (same p x) (has same p l)
  has_perm p (ptrans q r) = has_perm p q ∙ has_perm p r

  -- a list of one page and others has a page that is this one or one of the others
  has_by : (r p : P) {l u : List P} {s t : Bool} → Perm l (p ∷ u) → same r p ≡ s → has same r u ≡ t → has same r l ≡ (s || t)
  has_by r p q a b = has_perm r q ∙ ap₂ ◌||◌ a b

  -- a page that the list lacks is not in it with any page taken out either
  without_lacks : (r p : P) (l : List P) → has same p l ≡ false → has same p (without same r l) ≡ false
  without_lacks r p [] e = refl
  without_lacks r p (x ∷ l) e =
      let d = or_none (same p x) (has same p l) e in
      go (same r x) d.0 (without_lacks r p l d.1)
    where
      go : (t : Bool) → same p x ≡ false → has same p (without same r l) ≡ false
          → has same p (cond (not t) (x ∷ without same r l) (without same r l)) ≡ false
      go true a i = i
      go false a i = rw a i

  -- a page taken out is gone
  without_gone : (r : P) (l : List P) → has same r (without same r l) ≡ false
  without_gone r [] = refl
  without_gone r (x ∷ l) = go (same r x) refl (without_gone r l)
    where
      go : (t : Bool) → same r x ≡ t → has same r (without same r l) ≡ false
          → has same r (cond (not t) (x ∷ without same r l) (without same r l)) ≡ false
      go true a i = i
      go false a i = ap₂ ◌||◌ a i

  -- the first page is the one taken out
  without_here : (r p : P) (l : List P) → same r p ≡ true → without same r (p ∷ l) ≡ without same r l
  without_here r p l e = rw e refl

  -- the first page is another and stays
  without_there : (r p : P) (l : List P) → same r p ≡ false → without same r (p ∷ l) ≡ p ∷ without same r l
  without_there r p l e = rw e refl

  -- nothing is taken out when the list lacks the page
  without_absent : (r : P) (l : List P) → has same r l ≡ false → without same r l ≡ l
  without_absent r [] e = refl
  without_absent r (x ∷ l) e =
      let d = or_none (same r x) (has same r l) e in
      without_there r x l d.0 ∙ ap (λ (k : List P). x ∷ k) (without_absent r l d.1)

  -- a page of the list taken out and put in front
  without_front : (r : P) (l : List P) → Distinct same l → has same r l ≡ true → Perm l (r ∷ without same r l)
  without_front r [] d e = absurd (false≢true e)
  without_front r (x ∷ l) d e = go (same r x) refl (λ h. without_front r l d.1 h)
    where
      go : (t : Bool) → same r x ≡ t → (has same r l ≡ true → Perm l (r ∷ without same r l)) → Perm (x ∷ l) (r ∷ without same r (x ∷ l))
      go true a i =
          let o = same_eq r x a in
          pof (ap₂ ◌∷◌ (sym o) (sym (without_here r x l a ∙ without_absent r l (ap (λ (p : P). has same p l) o ∙ d.0))))
      go false a i =
          ptrans (pcons (i (sym (ap (λ (t : Bool). t || has same r l) a) ∙ e))) (ptrans pswap (pof (ap (λ (k : List P). r ∷ k) (sym (without_there r x l a)))))

  -- from a list of one page and others, this one is taken out
  perm_gone : (r p : P) {l u : List P} → Perm l (p ∷ u) → same r p ≡ true → Perm (without same r l) (without same r u)
  perm_gone r p {l} {u} q a = ptrans (pselected (λ x. not (same r x)) q) (pof (without_here r p u a))

  -- from a list of one page and others, another page is taken out
  perm_stays : (r p : P) {l u : List P} → Perm l (p ∷ u) → same r p ≡ false → Perm (without same r l) (p ∷ without same r u)
  perm_stays r p {l} {u} q a = ptrans (pselected (λ x. not (same r x)) q) (pof (without_there r p u a))

  distinct_without : (r : P) (l : List P) → Distinct same l → Distinct same (without same r l)
  distinct_without r [] d = tt
  distinct_without r (x ∷ l) d = go (same r x) (distinct_without r l d.1)
    where
      go : (t : Bool) → Distinct same (without same r l) → Distinct same (cond (not t) (x ∷ without same r l) (without same r l))
      go true i = i
      go false i = (without_lacks r x l d.0, i)

  module _ (group : Bool → P → ℕ) (capacity half : ℕ) (mirror : (p : P) → group true p + suc (group false p) ≡ half + half)
      (arranged? : (ps : List P) → Dec (Arrangement group capacity ps)) where
    abbrev does : Act P → List P → List P
    does a l = act same group capacity arranged? a l

    abbrev do_all : List (Act P) → List P → List P
    do_all xs l = acts same group capacity arranged? xs l

    -- the list has an arrangement and no page twice
    abbrev Good : List P → Type 0
    Good l = Arrangement group capacity l × Distinct same l

    good_empty : Good []
    good_empty = (record { choice = tt; fits = λ g. omega arith }, tt)

    good_act : (a : Act P) (l : List P) → Good l → Good (does a l)
    good_act leave l h = h
    good_act empty l h = good_empty
    good_act (delete r) l h =
        (arrangement_sublist group capacity half mirror (selected_sublist (λ q. not (same r q)) l) h.0, distinct_without r l h.1)
    good_act (insert r) l h = go (has same r l) refl (arranged? (r ∷ l))
      where
        go : (t : Bool) → has same r l ≡ t → (d : Dec (Arrangement group capacity (r ∷ l))) → Good (cond t l (ite d (r ∷ l) l))
        go true e d = h
        go false e (yes b) = (b, (e, h.1))
        go false e (no n) = h

    -- how many pages of the list are of the page's own pair
    abbrev count : P → List P → ℕ
    count r l = pages_of_pair group (group false r) l

    -- the page's pair has room
    abbrev Room : P → List P → Type 0
    Room r l = count r l < capacity + capacity

    -- the page's pair is full
    abbrev Full : P → List P → Type 0
    Full r l = capacity + capacity ≤ count r l

    room? : (r : P) (l : List P) → Room r l ⊎ Full r l
    room? r l = go (ltb (count r l) (capacity + capacity)) refl
      where
        go : (t : Bool) → ltb (count r l) (capacity + capacity) ≡ t → Room r l ⊎ Full r l
        go true e = inl (ltb-true (count r l) (capacity + capacity) e)
        go false e = inr (ltb-false (count r l) (capacity + capacity) e)

    -- what becomes of the list when the page is in it
    insert_there : (r : P) (l : List P) → has same r l ≡ true → does (insert r) l ≡ l
    insert_there r l e = rw e refl

    -- what becomes of it when it lacks the page and the pair has room
    insert_room : (r : P) (l : List P) → Good l → has same r l ≡ false → Room r l → does (insert r) l ≡ r ∷ l
    insert_room r l h e k =
        rw e (if_pos (arranged? (r ∷ l)) (((arrangement_exists group capacity half mirror).one_more r l h.0).1 k) (r ∷ l) l)

    -- what becomes of it when it lacks the page and the pair is full
    insert_full : (r : P) (l : List P) → Good l → has same r l ≡ false → Full r l → does (insert r) l ≡ l
    insert_full r l h e k =
        rw e (if_neg (arranged? (r ∷ l)) (λ b. let z = ((arrangement_exists group capacity half mirror).one_more r l h.0).0 b in omega arith) (r ∷ l) l)

    -- two pages of one pair of groups
    abbrev SamePair : P → P → Type 0
    SamePair p q = (g : ℕ) → g < half + half → of_pair group g p ≡ of_pair group g q

    -- a page that has another's primary group as one of its own two is of its pair
    same_pair : (p r : P) → of_pair group (group false r) p ≡ true → SamePair p r
    same_pair p r e g k = go (eqb (group false p) (group false r)) refl
      where
        by : (b : Bool) → eqb (group b p) (group false r) ≡ true → of_pair group g p ≡ of_pair group g r
        by b x =
            of_pair_by group half mirror b p g k
            ∙ ap (λ (n : ℕ). eqb n g || eqb n (half + half - suc g)) (eqb-true (group b p) (group false r) x)
            ∙ sym (of_pair_by group half mirror false r g k)

        go : (t : Bool) → eqb (group false p) (group false r) ≡ t → of_pair group g p ≡ of_pair group g r
        go true a = by false a
        go false a = by true (sym (ap (λ (t : Bool). t || eqb (group true p) (group false r)) a) ∙ e)

    -- the first list has p and the second has q, two pages of one pair, besides the pages of u
    record Swap (p q : P) (u l m : List P) : Type 0 where
      lacks_first : has same p u ≡ false
      lacks_second : has same q u ≡ false
      apart : same p q ≡ false
      paired : SamePair p q
      first : Perm l (p ∷ u)
      second : Perm m (q ∷ u)

    -- two lists of pages: alike, one page more in the first, one page more in the second, or one page in each that the other lacks
    data Near : List P → List P → Type 0 where
      alike : {l m : List P} → Perm l m → Near l m
      more : {l m : List P} (p : P) → has same p m ≡ false → Perm l (p ∷ m) → Near l m
      less : {l m : List P} (p : P) → has same p l ≡ false → Perm m (p ∷ l) → Near l m
      each : {l m : List P} (p q : P) (u : List P) → Swap p q u l m → Near l m

    flip_swap : (p q : P) {u l m : List P} → Swap p q u l m → Swap q p u m l
    flip_swap p q s = record {
      lacks_first = s.lacks_second;
      lacks_second = s.lacks_first;
      apart = other p q s.apart;
      paired = λ g k. sym (s.paired g k);
      first = s.second;
      second = s.first;
    }

    flip : {l m : List P} → Near l m → Near m l
    flip (alike q) = alike (psym q)
    flip (more p a b) = less p a b
    flip (less p a b) = more p a b
    flip (each p q u s) = each q p u (flip_swap p q s)

    -- a page of a list of p and others is p when the others lack it
    is_first : (z p : P) {l u : List P} → Perm l (p ∷ u) → has same z l ≡ true → has same z u ≡ false → z ≡ p
    is_first z p q a b = go (same z p) refl
      where
        go : (t : Bool) → same z p ≡ t → z ≡ p
        go true e = same_eq z p e
        go false e = absurd (true≢false (sym a ∙ has_by z p q e b))

    at_most_one : {l m : List P} → Near l m → AtMostOne same l m
    at_most_one (alike q) x y a b c d = absurd (true≢false (sym a ∙ has_perm x q ∙ b))
    at_most_one (more p n q) x y a b c d = is_first x p q a b ∙ sym (is_first y p q c d)
    at_most_one (less p n q) x y a b c d = absurd (true≢false (sym (has_by x p q refl a ∙ or-true (same x p)) ∙ b))
    at_most_one {l} {m} (each p q u s) x y a b c d = is_first x p s.first a (rest x b) ∙ sym (is_first y p s.first c (rest y d))
      where
        rest : (z : P) → has same z m ≡ false → has same z u ≡ false
        rest z t = (or_none (same z q) (has same z u) (sym (has_perm z s.second) ∙ t)).1

    near_insert_alike : (r : P) {l m : List P} → Good l → Good m → Perm l m → Near (does (insert r) l) (does (insert r) m)
    near_insert_alike r {l} {m} h k q = go (has same r l) refl (room? r l)
      where
        go : (t : Bool) → has same r l ≡ t → Room r l ⊎ Full r l → Near (does (insert r) l) (does (insert r) m)
        go true a x = rw (insert_there r l a, insert_there r m (sym (has_perm r q) ∙ a)) (alike q)
        go false a (inl x) =
            let c = phow_many (of_pair group (group false r)) q in
            rw (insert_room r l h a x, insert_room r m k (sym (has_perm r q) ∙ a) (omega arith)) (alike (pcons q))
        go false a (inr x) =
            let c = phow_many (of_pair group (group false r)) q in
            rw (insert_full r l h a x, insert_full r m k (sym (has_perm r q) ∙ a) (omega arith)) (alike q)

    near_insert_more : (r : P) {l m : List P} → Good l → Good m → (p : P) → has same p m ≡ false → Perm l (p ∷ m)
        → Near (does (insert r) l) (does (insert r) m)
    near_insert_more r {l} {m} h k p n q = go (same r p) refl (has same r m) refl (room? r l) (room? r m)
      where
        c : count r l ≡ one_if (of_pair group (group false r) p) + count r m
        c = phow_many (of_pair group (group false r)) q

        -- the page makes the pair of r full, so it is of that pair
        fills : Full r l → Room r m → (t : Bool) → of_pair group (group false r) p ≡ t → t ≡ true
        fills x y true e = refl
        fills x y false e = let c' = c in let z = ap one_if e in absurd (omega arith)

        go : (s : Bool) → same r p ≡ s → (t : Bool) → has same r m ≡ t → Room r l ⊎ Full r l → Room r m ⊎ Full r m
            → Near (does (insert r) l) (does (insert r) m)
        go true a t b x y =
            let e = same_eq r p a in
            let q' = subst (λ (z : P). Perm l (z ∷ m)) (sym e) q in
            let c' = phow_many (of_pair group (group false r)) q' ∙ own_pair group r m in
            let z = pair_bound group capacity half mirror l h.0 (group false r) (primary_in_range group half mirror r) in
            rw (insert_there r l (has_by r p q a refl), insert_room r m k (ap (λ (z : P). has same z m) e ∙ n) (omega arith)) (alike q')
        go false a true b x y = rw (insert_there r l (has_by r p q a b), insert_there r m b) (more p n q)
        go false a false b (inl x) (inl y) =
            rw (insert_room r l h (has_by r p q a b) x, insert_room r m k b y) (more p (ap₂ ◌||◌ (other r p a) n) (ptrans (pcons q) pswap))
        go false a false b (inl x) (inr y) = let c' = c in absurd (omega arith)
        go false a false b (inr x) (inl y) =
            rw (insert_full r l h (has_by r p q a b) x, insert_room r m k b y)
            (each p r m (record {
              lacks_first = n;
              lacks_second = b;
              apart = other r p a;
              paired = same_pair p r (fills x y (of_pair group (group false r) p) refl);
              first = q;
              second = prefl (r ∷ m);
            }))
        go false a false b (inr x) (inr y) = rw (insert_full r l h (has_by r p q a b) x, insert_full r m k b y) (more p n q)

    -- the page inserted is the one that only the first list has
    near_insert_first : (r : P) {l m : List P} → Good l → Good m → (p q : P) (u : List P) → Swap p q u l m → same r p ≡ true
        → Near (does (insert r) l) (does (insert r) m)
    near_insert_first r {l} {m} h k p q u s a = go (room? r m)
      where
        e : r ≡ p
        e = same_eq r p a

        lacks : has same r m ≡ false
        lacks = has_by r q s.second (ap (λ (z : P). same z q) e ∙ s.apart) (ap (λ (z : P). has same z u) e ∙ s.lacks_first)

        go : Room r m ⊎ Full r m → Near (does (insert r) l) (does (insert r) m)
        go (inl x) =
            rw (insert_there r l (has_by r p s.first a refl), insert_room r m k lacks x)
            (less q (has_by q p s.first (other p q s.apart) s.lacks_second)
            (ptrans (pcons s.second) (ptrans pswap (pcons (subst (λ (z : P). Perm (z ∷ u) l) (sym e) (psym s.first))))))
        go (inr x) = rw (insert_there r l (has_by r p s.first a refl), insert_full r m k lacks x) (each p q u s)

    near_insert_each : (r : P) {l m : List P} → Good l → Good m → (p q : P) (u : List P) → Swap p q u l m
        → Near (does (insert r) l) (does (insert r) m)
    near_insert_each r {l} {m} h k p q u s = go (same r p) refl (same r q) refl (has same r u) refl (room? r l)
      where
        -- both lists have as many pages of the pair
        c : count r l ≡ count r m
        c =
            phow_many (of_pair group (group false r)) s.first
            ∙ ap (λ (t : Bool). one_if t + count r u) (s.paired (group false r) (primary_in_range group half mirror r))
            ∙ sym (phow_many (of_pair group (group false r)) s.second)

        go : (x : Bool) → same r p ≡ x → (y : Bool) → same r q ≡ y → (t : Bool) → has same r u ≡ t → Room r l ⊎ Full r l
            → Near (does (insert r) l) (does (insert r) m)
        go true a y b t i x = near_insert_first r h k p q u s a
        go false a true b t i x = flip (near_insert_first r k h q p u (flip_swap p q s) b)
        go false a false b true i x =
            rw (insert_there r l (has_by r p s.first a i), insert_there r m (has_by r q s.second b i)) (each p q u s)
        go false a false b false i (inl x) =
            let c' = c in
            rw (insert_room r l h (has_by r p s.first a i) x, insert_room r m k (has_by r q s.second b i) (omega arith))
            (each p q (r ∷ u) (record {
              lacks_first = ap₂ ◌||◌ (other r p a) s.lacks_first;
              lacks_second = ap₂ ◌||◌ (other r q b) s.lacks_second;
              apart = s.apart;
              paired = s.paired;
              first = ptrans (pcons s.first) pswap;
              second = ptrans (pcons s.second) pswap;
            }))
        go false a false b false i (inr x) =
            let c' = c in
            rw (insert_full r l h (has_by r p s.first a i) x, insert_full r m k (has_by r q s.second b i) (omega arith)) (each p q u s)

    near_delete_more : (r : P) {l m : List P} (p : P) → has same p m ≡ false → Perm l (p ∷ m) → Near (without same r l) (without same r m)
    near_delete_more r {l} {m} p n q = go (same r p) refl
      where
        go : (t : Bool) → same r p ≡ t → Near (without same r l) (without same r m)
        go true a = alike (perm_gone r p q a)
        go false a = more p (without_lacks r p m n) (perm_stays r p q a)

    -- the page deleted is the one that only the first list has
    near_delete_first : (r : P) {l m : List P} (p q : P) (u : List P) → Swap p q u l m → same r p ≡ true → Near (without same r l) (without same r m)
    near_delete_first r p q u s a =
        let d = perm_gone r p s.first a in
        less q (has_perm q d ∙ without_lacks r q u s.lacks_second)
        (ptrans (perm_stays r q s.second (ap (λ (z : P). same z q) (same_eq r p a) ∙ s.apart)) (pcons (psym d)))

    near_delete_each : (r : P) {l m : List P} (p q : P) (u : List P) → Swap p q u l m → Near (without same r l) (without same r m)
    near_delete_each r {l} {m} p q u s = go (same r p) refl (same r q) refl
      where
        go : (x : Bool) → same r p ≡ x → (y : Bool) → same r q ≡ y → Near (without same r l) (without same r m)
        go true a y b = near_delete_first r p q u s a
        go false a true b = flip (near_delete_first r q p u (flip_swap p q s) b)
        go false a false b =
            each p q (without same r u) (record {
              lacks_first = without_lacks r p u s.lacks_first;
              lacks_second = without_lacks r q u s.lacks_second;
              apart = s.apart;
              paired = s.paired;
              first = perm_stays r p s.first a;
              second = perm_stays r q s.second b;
            })

    -- an act done to both lists
    near_act : (a : Act P) (l m : List P) → Good l → Good m → Near l m → Near (does a l) (does a m)
    near_act leave l m h k n = n
    near_act empty l m h k n = alike pnil
    near_act (insert r) l m h k (alike q) = near_insert_alike r h k q
    near_act (insert r) l m h k (more p n q) = near_insert_more r h k p n q
    near_act (insert r) l m h k (less p n q) = flip (near_insert_more r k h p n q)
    near_act (insert r) l m h k (each p q u s) = near_insert_each r h k p q u s
    near_act (delete r) l m h k (alike q) = alike (pselected (λ x. not (same r x)) q)
    near_act (delete r) l m h k (more p n q) = near_delete_more r p n q
    near_act (delete r) l m h k (less p n q) = flip (near_delete_more r p n q)
    near_act (delete r) l m h k (each p q u s) = near_delete_each r p q u s

    near_acts : (xs : List (Act P)) (l m : List P) → Good l → Good m → Near l m → Near (do_all xs l) (do_all xs m)
    near_acts [] l m h k n = n
    near_acts (a ∷ xs) l m h k n = near_acts xs (does a l) (does a m) (good_act a l h) (good_act a m k) (near_act a l m h k n)

    -- an act done to one of two equal lists
    near_lost : (a : Act P) → NotEmpty a → (l : List P) → Good l → Near (does a l) l
    near_lost leave e l h = alike (prefl l)
    near_lost empty e l h = absurd e
    near_lost (insert r) e l h = go (has same r l) refl (arranged? (r ∷ l))
      where
        go : (t : Bool) → has same r l ≡ t → (d : Dec (Arrangement group capacity (r ∷ l))) → Near (cond t l (ite d (r ∷ l) l)) l
        go true a d = alike (prefl l)
        go false a (yes b) = more r a (prefl (r ∷ l))
        go false a (no n) = alike (prefl l)
    near_lost (delete r) e l h = go (has same r l) refl
      where
        go : (t : Bool) → has same r l ≡ t → Near (without same r l) l
        go true a = less r (without_gone r l) (without_front r l h.1 a)
        go false a = alike (pof (without_absent r l a))

    near_run : (before behind : List (Act P)) (lost : Act P) → NotEmpty lost → (l : List P) → Good l
        → Near (do_all (before ++ lost ∷ behind) l) (do_all (before ++ behind) l)
    near_run [] behind lost e l h = near_acts behind (does lost l) l (good_act lost l h) h (near_lost lost e l h)
    near_run (a ∷ before) behind lost e l h = near_run before behind lost e (does a l) (good_act a l h)

    -- one act lost: each of the two runs ends with at most one page that the other lacks
    pub one_lost : (before behind : List (Act P)) (lost : Act P) → NotEmpty lost
        → AtMostOne same (acts same group capacity arranged? (before ++ lost ∷ behind) []) (acts same group capacity arranged? (before ++ behind) [])
        × AtMostOne same (acts same group capacity arranged? (before ++ behind) []) (acts same group capacity arranged? (before ++ lost ∷ behind) [])
    one_lost before behind lost e =
        let n = near_run before behind lost e [] good_empty in
        (at_most_one n, at_most_one (flip n))
