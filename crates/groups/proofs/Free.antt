-- Laws of free entries: the mask that tells which of a group's are, and the first in search order, by the first free entry of each group.
use mathlib.Core.Path.{◌≡◌, refl, sym, ap, ap₂, ◌∙◌}
use mathlib.Core.Bool.{Bool, true, false, cond}
use mathlib.Core.List.{List}
use Prim.Native.Nat.{ℕ, zero, suc, ◌+◌, ◌-◌, ◌*◌, ◌/◌, ◌%◌, ◌^◌, ◌<◌, ◌≤◌}
use native.Mathlib.Nat.{add-zero, add-suc, add_comm, pow-suc, div-one}
use native.Mathlib.Numerals.{add-one}
use native.Mathlib.Omega.{arith}
use mir.Val.{bool_byte}
use lib.Bits.{bit_and, bit_or, and_mask, or_shifted}
use lib.Pow.{pow_mono, shr-shr, high, low}
use lib.Dec.{eqb, ltb}
use borrow.Author.Tests.{lt-ltb, le-ltb, ltb-true, ltb-false}
use Rattle.std.specs.Prelude.{Option, Some, None}
use Rattle.groups.specs.Group.{entry_free, place, first_free, first_free_place, free_to, free_after}
use Rattle.groups.specs.declared.Place.{Place}

-- ---- which entries are free

-- a test as a bit
abbrev one : Bool → ℕ
one b = cond b 1 0

one_is : (b : Bool) → bool_byte b ≡ one b
one_is true = refl
one_is false = refl

one_lt : (b : Bool) → one b < 2 ^ 1
one_lt true = omega arith
one_lt false = omega arith

-- n entries behind a number of w bits make one of w + n bits
pub free_lt : (before : ℕ) (group : List ℕ) (w n : ℕ) → before < 2 ^ w → free_to before group n < 2 ^ (w + n)
unfolding free_to
free_lt before group w zero l = rw (add-zero w) l
free_lt before group w (suc n) l = go (one (entry_free group n)) (one_lt (entry_free group n)) (free_lt before group w n l)
  where
    go : (bit : ℕ) → bit < 2 ^ 1 → free_to before group n < 2 ^ (w + n) → free_to before group n * 2 + bit < 2 ^ (w + suc n)
    go bit b k = rw (add-suc w n) (omega (arith, pow-suc 2 (w + n)))

-- one group alone has eight bits
pub free_one : (group : List ℕ) → free_after 0 group < 2 ^ 8
unfolding free_after
free_one group = free_lt 0 group 0 8 (omega arith)

-- a number with one bit behind it, without its last bits
over : (x bit k : ℕ) → bit < 2 ^ 1 → (x * 2 + bit) / 2 ^ suc k ≡ x / 2 ^ k
over x bit k l =
    ap (λ (n : ℕ). (x * 2 + bit) / 2 ^ n) (sym (add_comm 1 k ∙ add-one k))
    ∙ sym (shr-shr (x * 2 + bit) 1 k)
    ∙ ap (λ (n : ℕ). n / 2 ^ k) (high x 1 l)

-- what was told before stands in front of the n bits of a group's entries
pub free_high : (before : ℕ) (group : List ℕ) (n : ℕ) → free_to before group n / 2 ^ n ≡ before
unfolding free_to
free_high before group zero = div-one before
free_high before group (suc n) = over (free_to before group n) (one (entry_free group n)) n (one_lt (entry_free group n)) ∙ free_high before group n

-- the bit of an entry
pub free_bit : (before : ℕ) (group : List ℕ) (n i k : ℕ) → i + suc k ≡ n → free_to before group n / 2 ^ k % 2 ≡ one (entry_free group i)
unfolding free_to
free_bit before group zero i k e = absurd (omega (arith, e))
free_bit before group (suc n) i zero e =
    let own : i ≡ n = omega (arith, e) in
    ap (λ (x : ℕ). x % 2) (div-one (free_to before group n * 2 + one (entry_free group n)))
    ∙ low (free_to before group n) 1 (one_lt (entry_free group n))
    ∙ ap (λ (j : ℕ). one (entry_free group j)) (sym own)
free_bit before group (suc n) i (suc k) e =
    ap (λ (x : ℕ). x % 2) (over (free_to before group n) (one (entry_free group n)) k (one_lt (entry_free group n)))
    ∙ free_bit before group n i k (omega (arith, e))

-- the bit of an entry of either of a page's two groups, which is number 8 × h + i in search order
pub free_bits : (p s : List ℕ) (free h i : ℕ) → free ≡ free_after (free_after 0 p) s → h < 2 → i < 8
    → free / 2 ^ (15 - (8 * h + i)) % 2 ≡ one (entry_free (cond (eqb h 0) p s) i)
unfolding free_after
free_bits p s free zero i e hl l =
    let k : 15 - (8 * 0 + i) ≡ 8 + (7 - i) = omega arith in
    ap₂ (λ (x n : ℕ). x / 2 ^ n % 2) e k
    ∙ ap (λ (x : ℕ). x % 2) (sym (shr-shr (free_to (free_to 0 p 8) s 8) 8 (7 - i)) ∙ ap (λ (x : ℕ). x / 2 ^ (7 - i)) (free_high (free_to 0 p 8) s 8))
    ∙ free_bit 0 p 8 i (7 - i) (omega arith)
free_bits p s free (suc zero) i e hl l =
    let k : 15 - (8 * 1 + i) ≡ 7 - i = omega arith in
    ap₂ (λ (x n : ℕ). x / 2 ^ n % 2) e k ∙ free_bit (free_to 0 p 8) s 8 i (7 - i) (omega arith)
free_bits p s free (suc (suc h)) i e hl l = absurd (omega arith)

-- as the code asks it
pub free_asked : (p s : List ℕ) (free h i : ℕ) → free ≡ free_after (free_after 0 p) s → h < 2 → i < 8
    → eqb (bit_and (free / 2 ^ (15 - (8 * h + i))) 1) 1 ≡ entry_free (cond (eqb h 0) p s) i
free_asked p s free h i e hl l =
    ap (λ (n : ℕ). eqb n 1) (and_mask (free / 2 ^ (15 - (8 * h + i))) 1 ∙ free_bits p s free h i e hl l) ∙ is_one (entry_free (cond (eqb h 0) p s) i)
  where
    is_one : (b : Bool) → eqb (one b) 1 ≡ b
    is_one true = refl
    is_one false = refl

-- one entry more, as the code puts its bit in
pub free_more : (before : ℕ) (group : List ℕ) (n free bit : ℕ) → before < 2 ^ 8 → n < 8 → free ≡ free_to before group n → bit ≡ bool_byte (entry_free group n)
    → bit_or ((free * 2) % 2 ^ 32) bit ≡ free_to before group (n + 1)
unfolding free_to
free_more before group n free bit l few is test =
    let wide = free_lt before group 8 n l in
    let few_bits : 8 + n ≤ 16 = omega arith in
    let fits : 2 ^ (8 + n) ≤ 2 ^ 16 = pow_mono few_bits in
    let kept : (free * 2) % 2 ^ 32 ≡ free_to before group n * 2 = omega (arith, is) in
    ap₂ bit_or kept (test ∙ one_is (entry_free group n))
    ∙ or_shifted (free_to before group n) 1 (one (entry_free group n)) (one_lt (entry_free group n))
    ∙ ap (free_to before group) (sym (add-one n))

module _ (p s : List ℕ) where
  pub free_primary : (i : ℕ) → first_free p ≡ i → i < 8 → first_free_place p s ≡ Some (place false i)
  unfolding first_free_place
  free_primary i e l = rw (e, lt-ltb i 8 l)

  pub free_secondary : (j : ℕ) → 8 ≤ first_free p → first_free s ≡ j → j < 8 → first_free_place p s ≡ Some (place true j)
  unfolding first_free_place
  free_secondary j n e l = rw (le-ltb (first_free p) 8 n, e, lt-ltb j 8 l)

  pub free_nowhere : 8 ≤ first_free p → 8 ≤ first_free s → first_free_place p s ≡ None
  unfolding first_free_place
  free_nowhere n m = rw (le-ltb (first_free p) 8 n, le-ltb (first_free s) 8 m)

  -- the first of group h, where no group before it has one
  pub free_found : (h i : ℕ) → h < 2 → i < 8 → ((k : ℕ) → k < h → first_free (cond (eqb k 0) p s) ≡ 8) → first_free (cond (eqb h 0) p s) ≡ i
      → Some (place (eqb h 1) i) ≡ first_free_place p s
  free_found zero i hl l none e = sym (free_primary i e l)
  free_found (suc zero) i hl l none e = sym (free_secondary i (omega (arith, none 0 (omega arith))) e l)
  free_found (suc (suc h)) i hl l none e = absurd (omega arith)

  -- how the search can end
  pub data PlaceCase : Option Place → Type 0 where
    in_primary_law : (i : ℕ) → first_free p ≡ i → i < 8 → PlaceCase (Some (place false i))
    in_secondary_law : (j : ℕ) → 8 ≤ first_free p → first_free s ≡ j → j < 8 → PlaceCase (Some (place true j))
    nowhere : 8 ≤ first_free p → 8 ≤ first_free s → PlaceCase None

  pub place_case : PlaceCase (first_free_place p s)
  unfolding first_free_place
  place_case = go (ltb (first_free p) 8) refl (ltb (first_free s) 8) refl
    where
      go : (a : Bool) → ltb (first_free p) 8 ≡ a → (b : Bool) → ltb (first_free s) 8 ≡ b
          → PlaceCase (cond a (Some (place false (first_free p))) (cond b (Some (place true (first_free s))) None))
      go true x b y = in_primary_law (first_free p) refl (ltb-true (first_free p) 8 x)
      go false x true y = in_secondary_law (first_free s) (ltb-false (first_free p) 8 x) refl (ltb-true (first_free s) 8 y)
      go false x false y = nowhere (ltb-false (first_free p) 8 x) (ltb-false (first_free s) 8 y)
