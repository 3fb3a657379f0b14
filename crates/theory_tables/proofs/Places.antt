-- Free entries of any table: the first of a group, the first in search order, and when there is none.
use mathlib.Core.Path.{◌≡◌, refl, ap, subst}
use mathlib.Core.Logic.{◌↔◌}
use mathlib.Core.Bool.{Bool, true, false, not, cond, false≢true}
use mathlib.Core.Option.{Option, none, some}
use Prim.Native.Nat.{ℕ, ◌+◌, ◌≤◌, ◌<◌}
use native.Mathlib.Omega.{arith}
use lib.Dec.{ltb}
use borrow.Author.Tests.{ltb-true, ltb-false, lt-ltb, le-ltb}
use Rattle.theory_tables.specs.Layout.{Layout, free_at, used, free_entry, free_place}
use Rattle.theory_tables.proofs.Counts.{how_many_below_bound, how_many_below_none, how_many_below_less, how_many_below_same, first_below_same, first_below_bound, first_below_passes, first_below_before, first_below_full, full_first_below}

module _ {P T : Type 0} (L : Layout P T) (t : T) (g : ℕ) where
  pub used_bound : used L t g ≤ L.capacity
  unfolding used
  used_bound = how_many_below_bound _ L.capacity

  pub free_entry_bound : free_entry L t g ≤ L.capacity
  unfolding free_entry
  free_entry_bound = first_below_bound (free_at L t g) L.capacity

  pub free_entry_free : free_entry L t g < L.capacity → free_at L t g (free_entry L t g) ≡ true
  unfolding free_entry
  free_entry_free l = first_below_passes (free_at L t g) L.capacity l

  pub free_entry_first : (i : ℕ) → i < free_entry L t g → free_at L t g i ≡ false
  unfolding free_entry
  free_entry_first i l = first_below_before (free_at L t g) L.capacity i l

  -- a group has no free entry exactly when all its entries are used
  pub group_full : (free_entry L t g ≡ L.capacity) ↔ (used L t g ≡ L.capacity)
  unfolding free_entry used
  group_full = (full_first_below (free_at L t g) L.capacity, first_below_full (free_at L t g) L.capacity)

  -- a group of free entries, and one with a free entry
  pub used_none : ((i : ℕ) → i < L.capacity → free_at L t g i ≡ true) → used L t g ≡ 0
  unfolding used
  used_none h = how_many_below_none (λ i. not (free_at L t g i)) L.capacity (λ i l. ap not (h i l))

  pub free_unused : (i : ℕ) → i < L.capacity → free_at L t g i ≡ true → used L t g < L.capacity
  unfolding used
  free_unused i l e = how_many_below_less (λ i. not (free_at L t g i)) L.capacity i l (ap not e)

-- groups that are free at the same entries
module _ {P T : Type 0} (L : Layout P T) (t t' : T) (g : ℕ) (alike : (i : ℕ) → i < L.capacity → free_at L t' g i ≡ free_at L t g i) where
  pub used_same : used L t' g ≡ used L t g
  unfolding used
  used_same = how_many_below_same (λ i. not (free_at L t g i)) (λ i. not (free_at L t' g i)) L.capacity (λ i l. ap not (alike i l))

  pub free_entry_same : free_entry L t' g ≡ free_entry L t g
  unfolding free_entry
  free_entry_same = first_below_same (free_at L t g) (free_at L t' g) L.capacity alike

-- Entry i of the page's group b is its first free entry in search order: the secondary group's only where the primary group is full.
pub record FirstFree {P T : Type 0} (L : Layout P T) (t : T) (p : P) (b : Bool) (i : ℕ) : Type 0 where
  pub in_range_law : i < L.capacity
  pub is_free : free_at L t (L.group b p) i ≡ true
  pub before : (j : ℕ) → j < i → free_at L t (L.group b p) j ≡ false
  pub primary_full : b ≡ true → used L t (L.group false p) ≡ L.capacity

module _ {P T : Type 0} (L : Layout P T) (t : T) (p : P) where
  -- the search: the primary group, then the secondary
  pub free_place_primary : free_entry L t (L.group false p) < L.capacity → free_place L t p ≡ some (false, free_entry L t (L.group false p))
  unfolding free_place
  free_place_primary l = rw (lt-ltb (free_entry L t (L.group false p)) L.capacity l)

  pub free_place_secondary : free_entry L t (L.group false p) ≡ L.capacity → free_entry L t (L.group true p) < L.capacity
      → free_place L t p ≡ some (true, free_entry L t (L.group true p))
  unfolding free_place
  free_place_secondary e l =
      rw (le-ltb (free_entry L t (L.group false p)) L.capacity (omega arith), lt-ltb (free_entry L t (L.group true p)) L.capacity l)

  pub free_place_full : free_entry L t (L.group false p) ≡ L.capacity → free_entry L t (L.group true p) ≡ L.capacity → free_place L t p ≡ none
  unfolding free_place
  free_place_full e f =
      rw (le-ltb (free_entry L t (L.group false p)) L.capacity (omega arith), le-ltb (free_entry L t (L.group true p)) L.capacity (omega arith))

  -- what the first free entry in search order is
  abbrev Found : Option (Bool × ℕ) → Type 0
  Found none = (used L t (L.group false p) ≡ L.capacity) × (used L t (L.group true p) ≡ L.capacity)
  Found (some x) = FirstFree L t p x.0 x.1

  found : Found (free_place L t p)
  unfolding free_place
  found = go (ltb (free_entry L t (L.group false p)) L.capacity) refl (ltb (free_entry L t (L.group true p)) L.capacity) refl
    where
      full : (b : Bool) → ltb (free_entry L t (L.group b p)) L.capacity ≡ false → used L t (L.group b p) ≡ L.capacity
      full b e =
          let l = ltb-false (free_entry L t (L.group b p)) L.capacity e in
          let k = free_entry_bound L t (L.group b p) in
          (group_full L t (L.group b p)).0 (omega arith)

      at : (b : Bool) → ltb (free_entry L t (L.group b p)) L.capacity ≡ true → (b ≡ true → used L t (L.group false p) ≡ L.capacity)
          → FirstFree L t p b (free_entry L t (L.group b p))
      at b e f =
          let l = ltb-true (free_entry L t (L.group b p)) L.capacity e in
          record { in_range_law = l; is_free = free_entry_free L t (L.group b p) l; before = free_entry_first L t (L.group b p); primary_full = f }

      go : (r : Bool) → ltb (free_entry L t (L.group false p)) L.capacity ≡ r → (s : Bool) → ltb (free_entry L t (L.group true p)) L.capacity ≡ s
          → Found (cond r (some (false, free_entry L t (L.group false p))) (cond s (some (true, free_entry L t (L.group true p))) none))
      go true e s f = at false e (λ q. absurd (false≢true q))
      go false e true f = at true f (λ q. full false e)
      go false e false f = (full false e, full true f)

  -- what is found is the first free entry in search order
  pub free_place_some : (b : Bool) (i : ℕ) → free_place L t p ≡ some (b, i) → FirstFree L t p b i
  free_place_some b i e = subst Found e found

  -- a free entry: the page's two groups are not both full
  pub free_place_left : (b : Bool) (i : ℕ) → free_place L t p ≡ some (b, i)
      → used L t (L.group false p) + used L t (L.group true p) < L.capacity + L.capacity
  free_place_left b i e = go b (free_place_some b i e)
    where
      go : (c : Bool) → FirstFree L t p c i → used L t (L.group false p) + used L t (L.group true p) < L.capacity + L.capacity
      go false f = let k = free_unused L t (L.group false p) i f.in_range_law f.is_free in let n = used_bound L t (L.group true p) in omega arith
      go true f = let k = free_unused L t (L.group true p) i f.in_range_law f.is_free in let n = used_bound L t (L.group false p) in omega arith

  -- no free entry exactly when both groups are full
  pub free_place_none : (free_place L t p ≡ none) ↔ ((used L t (L.group false p) ≡ L.capacity) × (used L t (L.group true p) ≡ L.capacity))
  free_place_none = (
    λ e. subst Found e found,
    λ f. free_place_full ((group_full L t (L.group false p)).1 f.0) ((group_full L t (L.group true p)).1 f.1),
  )

module _ {P T : Type 0} (L : Layout P T) (t t' : T) (p : P) where
  pub free_place_same : ((b : Bool) → free_entry L t' (L.group b p) ≡ free_entry L t (L.group b p)) → free_place L t' p ≡ free_place L t p
  unfolding free_place
  free_place_same h = rw (h false, h true)
