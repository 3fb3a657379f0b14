-- Laws of the plain finite map: what each change makes of every page's fields, of the mapped pages and of their number.
use mathlib.Core.Path.{◌≡◌, refl, sym, ap, ap₂, ◌∙◌}
use mathlib.Core.Logic.{◌↔◌, ◌⊎◌, inl, inr}
use mathlib.Core.Bool.{Bool, true, false, not, cond, true≢false}
use mathlib.Core.List.Memᴰ
use mathlib.Core.List.{List, [], ◌∷◌, map-map, Memᴰ}
use mathlib.Core.Option.{Option, none, some, map, some-ne-none, some-injective}
use Prim.Native.Nat.{suc}
use lib.ListN.{length, length-map}
use Rattle.theory_placement.specs.Lists.{selected}
use Rattle.theory_placement.specs.FiniteMap.{mapped_pages, put_in, fields_at, take_out, revise, NoPageTwice}
use Rattle.theory_placement.proofs.Lists.{selected_map}
use Rattle.theory_placement.proofs.Perm.{Perm, pnil, pcons, pswap, ptrans, pof, plength}

-- the part of the map whose pages pass a test
abbrev pub only_pages : {P F : Type 0} → (P → Bool) → List (P × F) → List (P × F)
only_pages r m = selected (λ x. r x.0) m

module _ {P F : Type 0} where
  pub mapped_pages_put_in : (p : P) (f : F) (m : List (P × F)) → mapped_pages (put_in p f m) ≡ p ∷ mapped_pages m
  mapped_pages_put_in p f m = refl

  pub mapped_pages_only_pages : (r : P → Bool) (m : List (P × F)) → mapped_pages (only_pages r m) ≡ selected r (mapped_pages m)
  mapped_pages_only_pages r m = sym (selected_map r (λ x. x.0) m)

  pub length_mapped_pages : (m : List (P × F)) → length (mapped_pages m) ≡ length m
  length_mapped_pages m = length-map m (λ x. x.0)

  module _ (same : P → P → Bool) where
    pub mapped_pages_take_out : (p : P) (m : List (P × F)) → mapped_pages (take_out same p m) ≡ selected (λ q. not (same p q)) (mapped_pages m)
    mapped_pages_take_out p m = mapped_pages_only_pages (λ q. not (same p q)) m

    pub mapped_pages_revise : (p : P) (u : F → F) (m : List (P × F)) → mapped_pages (revise same p u m) ≡ mapped_pages m
    mapped_pages_revise p u m = map-map (λ x. x.0) (λ x. (x.0, cond (same p x.0) (u x.1) x.1)) m

    pub length_revise : (p : P) (u : F → F) (m : List (P × F)) → length (revise same p u m) ≡ length m
    length_revise p u m = length-map m (λ x. (x.0, cond (same p x.0) (u x.1) x.1))

cond_same : {A : Type 0} (t : Bool) (a : A) → cond t a a ≡ a
cond_same true a = refl
cond_same false a = refl

-- a test that finds nothing has failed, and the rest finds nothing either
cond_none : {A : Type 0} (t : Bool) (a : A) (o : Option A) → cond t (some a) o ≡ none → (t ≡ false) × (o ≡ none)
cond_none true a o e = absurd (some-ne-none a e)
cond_none false a o e = (refl, e)

module _ {P : Type 0} (same : P → P → Bool) (same_refl : (p : P) → same p p ≡ true) (same_eq : (p q : P) → same p q ≡ true → p ≡ q) where
  pub same_false : (p q : P) → same p q ≡ false → same q p ≡ false
  same_false p q e = go (same q p) refl
    where
      go : (t : Bool) → same q p ≡ t → t ≡ false
      go true u = absurd (true≢false (sym (same_refl p) ∙ ap (same p) (sym (same_eq q p u)) ∙ e))
      go false u = refl

  module _ {F : Type 0} where
    pub fields_at_only_pages : (r : P → Bool) (p : P) (m : List (P × F)) → fields_at same p (only_pages r m) ≡ cond (r p) (fields_at same p m) none
    fields_at_only_pages r p [] = sym (cond_same (r p) none)
    fields_at_only_pages r p (x ∷ m) = go (r x.0) refl (same p x.0) refl (fields_at_only_pages r p m)
      where
        go : (t : Bool) → r x.0 ≡ t → (s : Bool) → same p x.0 ≡ s → fields_at same p (only_pages r m) ≡ cond (r p) (fields_at same p m) none
            → fields_at same p (cond t (x ∷ only_pages r m) (only_pages r m)) ≡ cond (r p) (cond s (some x.1) (fields_at same p m)) none
        go true e true u i = rw (u, ap r (same_eq p x.0 u) ∙ e)
        go true e false u i = rw u i
        go false e true u i = let k = ap r (same_eq p x.0 u) ∙ e in i ∙ rw k
        go false e false u i = i

    -- put in
    pub fields_at_put_in_same : (p : P) (f : F) (m : List (P × F)) → fields_at same p (put_in p f m) ≡ some f
    fields_at_put_in_same p f m = rw (same_refl p)

    pub fields_at_put_in_other : (p q : P) (f : F) (m : List (P × F)) → same p q ≡ false → fields_at same q (put_in p f m) ≡ fields_at same q m
    fields_at_put_in_other p q f m e = rw (same_false p q e)

    -- taken out
    pub fields_at_take_out_same : (p : P) (m : List (P × F)) → fields_at same p (take_out same p m) ≡ none
    fields_at_take_out_same p m = fields_at_only_pages (λ q. not (same p q)) p m ∙ rw (same_refl p)

    pub fields_at_take_out_other : (p q : P) (m : List (P × F)) → same p q ≡ false → fields_at same q (take_out same p m) ≡ fields_at same q m
    fields_at_take_out_other p q m e = fields_at_only_pages (λ x. not (same p x)) q m ∙ rw e

    -- revised
    pub fields_at_revise : (p q : P) (u : F → F) (m : List (P × F))
        → fields_at same q (revise same p u m) ≡ cond (same p q) (map u (fields_at same q m)) (fields_at same q m)
    fields_at_revise p q u [] = sym (cond_same (same p q) none)
    fields_at_revise p q u (x ∷ m) = go (same q x.0) refl (same p q) refl (fields_at_revise p q u m)
      where
        go : (s : Bool) → same q x.0 ≡ s → (t : Bool) → same p q ≡ t
            → fields_at same q (revise same p u m) ≡ cond (same p q) (map u (fields_at same q m)) (fields_at same q m)
            → cond s (some (cond (same p x.0) (u x.1) x.1)) (fields_at same q (revise same p u m))
            ≡ cond t (map u (cond s (some x.1) (fields_at same q m))) (cond s (some x.1) (fields_at same q m))
        go true e true v i = rw (sym (ap (same p) (same_eq q x.0 e)) ∙ v)
        go true e false v i = rw (sym (ap (same p) (same_eq q x.0 e)) ∙ v)
        go false e true v i = i ∙ rw v
        go false e false v i = i ∙ rw v

    pub fields_at_revise_same : (p : P) (u : F → F) (m : List (P × F)) → fields_at same p (revise same p u m) ≡ map u (fields_at same p m)
    fields_at_revise_same p u m = fields_at_revise p p u m ∙ rw (same_refl p)

    pub fields_at_revise_other : (p q : P) (u : F → F) (m : List (P × F)) → same p q ≡ false → fields_at same q (revise same p u m) ≡ fields_at same q m
    fields_at_revise_other p q u m e = fields_at_revise p q u m ∙ rw e

    -- a page that is not mapped: nothing to take out or to revise
    pub take_out_unmapped : (p : P) (m : List (P × F)) → fields_at same p m ≡ none → take_out same p m ≡ m
    take_out_unmapped p [] h = refl
    take_out_unmapped p (x ∷ m) h =
        let d = cond_none (same p x.0) x.1 (fields_at same p m) h in
        rw d.0 (ap (λ l. x ∷ l) (take_out_unmapped p m d.1))

    pub revise_unmapped : (p : P) (u : F → F) (m : List (P × F)) → fields_at same p m ≡ none → revise same p u m ≡ m
    revise_unmapped p u [] h = refl
    revise_unmapped p u (x ∷ m) h =
        let d = cond_none (same p x.0) x.1 (fields_at same p m) h in
        rw d.0 (ap (λ l. x ∷ l) (revise_unmapped p u m d.1))

    -- a part of the map that leaves page p out
    pub only_pages_take_out : (p : P) (r : P → Bool) → r p ≡ false → (m : List (P × F)) → only_pages r (take_out same p m) ≡ only_pages r m
    only_pages_take_out p r h [] = refl
    only_pages_take_out p r h (x ∷ m) = go (same p x.0) refl (only_pages_take_out p r h m)
      where
        go : (s : Bool) → same p x.0 ≡ s → only_pages r (take_out same p m) ≡ only_pages r m
            → only_pages r (cond (not s) (x ∷ take_out same p m) (take_out same p m)) ≡ cond (r x.0) (x ∷ only_pages r m) (only_pages r m)
        go true e i = rw (sym (ap r (same_eq p x.0 e)) ∙ h) i
        go false e i = ap (λ (l : List (P × F)). cond (r x.0) (x ∷ l) l) i

    pub only_pages_revise : (p : P) (u : F → F) (r : P → Bool) → r p ≡ false → (m : List (P × F)) → only_pages r (revise same p u m) ≡ only_pages r m
    only_pages_revise p u r h [] = refl
    only_pages_revise p u r h (x ∷ m) = go (same p x.0) refl (only_pages_revise p u r h m)
      where
        go : (s : Bool) → same p x.0 ≡ s → only_pages r (revise same p u m) ≡ only_pages r m
            → cond (r x.0) ((x.0, cond s (u x.1) x.1) ∷ only_pages r (revise same p u m)) (only_pages r (revise same p u m))
            ≡ cond (r x.0) (x ∷ only_pages r m) (only_pages r m)
        go true e i = rw (sym (ap r (same_eq p x.0 e)) ∙ h) i
        go false e i = ap (λ (l : List (P × F)). cond (r x.0) (x ∷ l) l) i

    -- mapped or not
    pub fields_at_none : (p : P) (m : List (P × F)) → (fields_at same p m ≡ none) ↔ (Memᴰ p (mapped_pages m) → ⊥)
    fields_at_none p m = (there m, back m)
      where
        there : (m : List (P × F)) → fields_at same p m ≡ none → Memᴰ p (mapped_pages m) → ⊥
        there [] h k = Memᴰ.not-nil k
        there (x ∷ m) h k =
            let d = cond_none (same p x.0) x.1 (fields_at same p m) h in
            go d.0 (Memᴰ.cases_cons k) (λ j. there m d.1 j)
          where
            go : same p x.0 ≡ false → (p ≡ x.0) ⊎ Memᴰ p (mapped_pages m) → (Memᴰ p (mapped_pages m) → ⊥) → ⊥
            go e (inl q) t = true≢false (sym (same_refl p) ∙ ap (same p) q ∙ e)
            go e (inr j) t = t j

        back : (m : List (P × F)) → (Memᴰ p (mapped_pages m) → ⊥) → fields_at same p m ≡ none
        back [] h = refl
        back (x ∷ m) h = go (same p x.0) refl (back m (λ k. h (Memᴰ.tail k)))
          where
            go : (t : Bool) → same p x.0 ≡ t → fields_at same p m ≡ none → cond t (some x.1) (fields_at same p m) ≡ none
            go true e i = absurd (h (Memᴰ.head (same_eq p x.0 e)))
            go false e i = i

    pub fields_at_some : (p : P) (f : F) (m : List (P × F)) → fields_at same p m ≡ some f → Memᴰ (p, f) m
    fields_at_some p f [] h = absurd (some-ne-none f (sym h))
    fields_at_some p f (x ∷ m) h = go (same p x.0) refl h (λ k. fields_at_some p f m k)
      where
        go : (t : Bool) → same p x.0 ≡ t → cond t (some x.1) (fields_at same p m) ≡ some f
            → (fields_at same p m ≡ some f → Memᴰ (p, f) m) → Memᴰ (p, f) (x ∷ m)
        go true e k i = Memᴰ.head (ap₂ (λ a b. (a, b)) (same_eq p x.0 e) (sym (some-injective x.1 f k)))
        go false e k i = Memᴰ.tail (i k)

    pub member_fields_at : (p : P) (f : F) (m : List (P × F)) → NoPageTwice same m → Memᴰ (p, f) m → fields_at same p m ≡ some f
    member_fields_at p f [] n k = absurd (Memᴰ.not-nil k)
    member_fields_at p f (x ∷ m) n k = go (Memᴰ.cases_cons k) (same p x.0) refl (λ j. member_fields_at p f m n.1 j)
      where
        go : ((p, f) ≡ x) ⊎ Memᴰ (p, f) m → (t : Bool) → same p x.0 ≡ t → (Memᴰ (p, f) m → fields_at same p m ≡ some f)
            → cond t (some x.1) (fields_at same p m) ≡ some f
        go (inl q) true e i = ap (λ y. some y.1) (sym q)
        go (inl q) false e i = absurd (true≢false (sym (same_refl p) ∙ ap (λ y. same p y.0) q ∙ e))
        go (inr j) true e i = absurd (some-ne-none f (sym (i j) ∙ ap (λ a. fields_at same a m) (same_eq p x.0 e) ∙ n.0))
        go (inr j) false e i = i j

    -- no page twice, kept by each change
    pub no_page_twice_put_in : (p : P) (f : F) (m : List (P × F)) → fields_at same p m ≡ none → NoPageTwice same m → NoPageTwice same (put_in p f m)
    no_page_twice_put_in p f m n h = (n, h)

    pub no_page_twice_only_pages : (r : P → Bool) (m : List (P × F)) → NoPageTwice same m → NoPageTwice same (only_pages r m)
    no_page_twice_only_pages r [] h = tt
    no_page_twice_only_pages r (x ∷ m) h = go (r x.0) refl (no_page_twice_only_pages r m h.1)
      where
        go : (t : Bool) → r x.0 ≡ t → NoPageTwice same (only_pages r m) → NoPageTwice same (cond t (x ∷ only_pages r m) (only_pages r m))
        go true e i = (fields_at_only_pages r x.0 m ∙ rw e h.0, i)
        go false e i = i

    pub no_page_twice_take_out : (p : P) (m : List (P × F)) → NoPageTwice same m → NoPageTwice same (take_out same p m)
    no_page_twice_take_out p m h = no_page_twice_only_pages (λ q. not (same p q)) m h

    pub no_page_twice_revise : (p : P) (u : F → F) (m : List (P × F)) → NoPageTwice same m → NoPageTwice same (revise same p u m)
    no_page_twice_revise p u [] h = tt
    no_page_twice_revise p u (x ∷ m) h = (fields_at_revise p x.0 u m ∙ rw h.0 (cond_same (same p x.0) none), no_page_twice_revise p u m h.1)

    -- the same pages and fields in another order: still no page twice, and every page has the same fields
    pub perm_keeps : {a b : List (P × F)} → Perm a b → NoPageTwice same a → NoPageTwice same b × ((p : P) → fields_at same p a ≡ fields_at same p b)
    perm_keeps pnil h = (tt, λ p. refl)
    perm_keeps (pcons {x = x} q) h =
        let k = perm_keeps q h.1 in
        ((sym (k.1 x.0) ∙ h.0, k.0), λ p. ap (cond (same p x.0) (some x.1)) (k.1 p))
    perm_keeps (pswap {x = x} {y = y} {l = l}) h =
        let d = cond_none (same x.0 y.0) y.1 (fields_at same x.0 l) h.0 in
        ((rw (same_false x.0 y.0 d.0) h.1.0, (d.1, h.1.1)), λ p. go p d.0 (same p x.0) refl (same p y.0) refl)
      where
        go : (p : P) → same x.0 y.0 ≡ false → (s : Bool) → same p x.0 ≡ s → (t : Bool) → same p y.0 ≡ t
            → cond s (some x.1) (cond t (some y.1) (fields_at same p l)) ≡ cond t (some y.1) (cond s (some x.1) (fields_at same p l))
        go p d true e true u = absurd (true≢false (sym u ∙ ap (λ (q : P). same q y.0) (same_eq p x.0 e) ∙ d))
        go p d true e false u = refl
        go p d false e true u = refl
        go p d false e false u = refl
    perm_keeps (ptrans q r) h =
        let k = perm_keeps q h in
        let l = perm_keeps r k.0 in
        (l.0, λ p. k.1 p ∙ l.1 p)

    -- a mapped page taken out and put in again
    pub perm_take_out : (p : P) (f : F) (m : List (P × F)) → NoPageTwice same m → fields_at same p m ≡ some f → Perm m (put_in p f (take_out same p m))
    perm_take_out p f [] n h = absurd (some-ne-none f (sym h))
    perm_take_out p f (x ∷ m) n h = go (same p x.0) refl h (λ k. perm_take_out p f m n.1 k)
      where
        go : (t : Bool) → same p x.0 ≡ t → cond t (some x.1) (fields_at same p m) ≡ some f
            → (fields_at same p m ≡ some f → Perm m (put_in p f (take_out same p m)))
            → Perm (x ∷ m) (put_in p f (cond (not t) (x ∷ take_out same p m) (take_out same p m)))
        go true e k i =
            let q = same_eq p x.0 e in
            pof (ap₂ ◌∷◌ (ap₂ (λ a b. (a, b)) (sym q) (some-injective x.1 f k)) (sym (take_out_unmapped p m (ap (λ a. fields_at same a m) q ∙ n.0))))
        go false e k i = ptrans (pcons (i k)) pswap

    pub length_take_out : (p : P) (f : F) (m : List (P × F)) → NoPageTwice same m → fields_at same p m ≡ some f → length m ≡ suc (length (take_out same p m))
    length_take_out p f m n h = plength (perm_take_out p f m n h)
