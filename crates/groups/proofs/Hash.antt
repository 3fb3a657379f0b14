-- Laws of the hash and of a page's two groups, over n: their range, that they mirror one another, and that a group, H, VSID and API name one page.
--   xor_ones: exclusive or with n ones is the complement in n bits
--   primary_lt, secondary_lt, group_lt: the groups of a hash, and those of a page, are below 2 ^ n
--   own_groups_differ: a page's two groups are two
--   group_mirror: a page's two group numbers add up to one less than the number of groups, for a mask of k ones
--   same_page_refl, same_page_eq: the test of two pages holds of a page and itself, and only of equal pages
--   one_page: group, H, VSID and API name one page
--   within_bytes, within_table: a group lies in a table of 65,536 × 2 ^ k bytes, and in the table of an SDR1
--   address_bits: the address of a group is the origin's bits or the group's
use mathlib.Core.Path.{◌≡◌, refl, sym, ap, ap₂, ◌∙◌}
use mathlib.Core.Logic.{◌≢◌}
use mathlib.Core.Bool.{Bool, true, false, ◌&&◌}
use Prim.Native.Nat.{ℕ, zero, suc, ◌+◌, ◌-◌, ◌*◌, ◌/◌, ◌%◌, ◌^◌, ◌≤◌, ◌<◌}
use native.Mathlib.Nat.{add-zero, mul_assoc, mod-lt, pow-suc}
use native.Mathlib.Omega.{arith}
use lib.Arith.{bin_ind}
use lib.Bits.{bit_xor, bit_or, bit_and, differ, xor_step, xor_mod, and_mask}
use lib.Dec.{eqb}
use lib.Pow.{pow_pos, pow-add, split, low, mod-mod-pow}
use borrow.Author.Tests.{eqb-true, eq-eqb}
use Rattle.words.specs.Bits.{bits, placed}
use Rattle.words.specs.Ones.{low_ones}
use Rattle.words.proofs.Masks.{or_sum}
use Rattle.words.proofs.Tests.{both}
use Rattle.entry.specs.Entry.{api_of}
use Rattle.register_words.specs.Sdr1.{origin_of, mask_of, sdr1_shape, table_length, mask_ones, hash_bits}
use Rattle.register_words.proofs.Sdr1.{mask_is, length_is}
use Rattle.groups.specs.declared.Page.{Page}
use Rattle.groups.specs.Page.{same_page}
use Rattle.groups.specs.Hash.{hash_of, primary_group, secondary_group, groups_of, group_number, group_address}

-- ---- exclusive or undoes itself

digit_twice : (d e : ℕ) → d < 2 → e < 2 → (differ d e < 2) × (differ d (differ d e) ≡ e)
digit_twice zero e ld le = (le, refl)
digit_twice (suc zero) zero ld le = (omega arith, refl)
digit_twice (suc zero) (suc zero) ld le = (omega arith, refl)
digit_twice (suc zero) (suc (suc e)) ld le = absurd (omega arith)
digit_twice (suc (suc d)) e ld le = absurd (omega arith)

pub xor_twice : (a x : ℕ) → bit_xor a (bit_xor a x) ≡ x
xor_twice = bin_ind (λ (a : ℕ). (x : ℕ) → bit_xor a (bit_xor a x) ≡ x) (λ x. refl) step
  where
    step : (n : ℕ) → ((x : ℕ) → bit_xor (n / 2) (bit_xor (n / 2) x) ≡ x) → (x : ℕ) → bit_xor n (bit_xor n x) ≡ x
    step n ih x =
        let y = bit_xor n x in
        let s = xor_step n x in
        let (d-lt, d-twice) = digit_twice (n % 2) (x % 2) (omega arith) (omega arith) in
        let high : y / 2 ≡ bit_xor (n / 2) (x / 2) = omega arith in
        let low : y % 2 ≡ differ (n % 2) (x % 2) = omega arith in
        xor_step n y
        ∙ ap₂ (λ (q r : ℕ). bit_xor (n / 2) q * 2 + differ (n % 2) r) high low
        ∙ ap₂ (λ (q r : ℕ). q * 2 + r) (ih (x / 2)) d-twice
        ∙ omega arith

pub xor_cancel : (a x y : ℕ) → bit_xor a x ≡ bit_xor a y → x ≡ y
xor_cancel a x y e = sym (xor_twice a x) ∙ ap (bit_xor a) e ∙ xor_twice a y

-- exclusive or with ones is the complement
digit_flipped : (d : ℕ) → d < 2 → differ d 1 + d ≡ 1
digit_flipped zero l = refl
digit_flipped (suc zero) l = refl
digit_flipped (suc (suc d)) l = absurd (omega arith)

pub xor_ones : (n x : ℕ) → x < 2 ^ n → bit_xor x (2 ^ n - 1) ≡ 2 ^ n - 1 - x
xor_ones zero x l = let z : x ≡ 0 = omega (arith, l) in rw z refl
xor_ones (suc n) x l =
    let ones = 2 ^ suc n - 1 in
    let twice = pow-suc 2 n in
    let half : ones / 2 ≡ 2 ^ n - 1 = omega (arith, twice, pow_pos n) in
    let odd : ones % 2 ≡ 1 = omega (arith, twice, pow_pos n) in
    let flipped = digit_flipped (x % 2) (omega arith) in
    let high = xor_ones n (x / 2) (omega (arith, l, twice)) in
    xor_step x ones
    ∙ ap₂ (λ (h d : ℕ). bit_xor (x / 2) h * 2 + differ (x % 2) d) half odd
    ∙ ap (λ (h : ℕ). h * 2 + differ (x % 2) 1) high
    ∙ omega (arith, flipped, l, twice)

-- ---- the two groups of a hash

module _ (n hash : ℕ) where
  pub primary_lt : primary_group n hash < 2 ^ n
  unfolding primary_group
  primary_lt = mod-lt hash (pow_pos n)

  -- the two numbers add up to 2 ^ n - 1
  pub groups_sum : secondary_group n hash + suc (primary_group n hash) ≡ 2 ^ n
  unfolding primary_group secondary_group
  groups_sum = omega (arith, mod-lt hash (pow_pos n))

  pub secondary_lt : secondary_group n hash < 2 ^ n
  secondary_lt = omega (arith, groups_sum)

  pub groups_differ : 1 ≤ n → primary_group n hash ≢ secondary_group n hash
  groups_differ h e =
      let m : n ≡ suc (n - 1) = omega arith in
      let even : 2 ^ n ≡ 2 ^ (n - 1) * 2 = ap (λ (k : ℕ). 2 ^ k) m ∙ pow-suc 2 (n - 1) in
      omega (arith, groups_sum)

module _ (n : ℕ) (page : Page) where
  pub groups_are : groups_of n (hash_of page.vsid page.index) ≡ record { primary = group_number n false page; secondary = group_number n true page }
  unfolding groups_of group_number
  groups_are = refl

  -- a page's two groups mirror one another
  pub mirror : group_number n true page + suc (group_number n false page) ≡ 2 ^ n
  unfolding group_number
  mirror = groups_sum n (hash_of page.vsid page.index)

  pub group_lt : (secondary : Bool) → group_number n secondary page < 2 ^ n
  unfolding group_number
  group_lt true = secondary_lt n (hash_of page.vsid page.index)
  group_lt false = primary_lt n (hash_of page.vsid page.index)

  pub own_groups_differ : 1 ≤ n → group_number n true page ≢ group_number n false page
  unfolding group_number
  own_groups_differ h e = groups_differ n (hash_of page.vsid page.index) h (sym e)

-- the same where the number of groups is written as twice its half
pub mirror_half : (n : ℕ) (page : Page) → group_number (suc n) true page + suc (group_number (suc n) false page) ≡ 2 ^ n + 2 ^ n
mirror_half n page = omega (arith, mirror (suc n) page, pow-suc 2 n)

-- the same for a mask of k ones, n = 10 + k
pub group_mirror : (k : ℕ) (page : Page) → group_number (10 + k) true page + suc (group_number (10 + k) false page) ≡ 2 ^ (9 + k) + 2 ^ (9 + k)
group_mirror k page = let e : 10 + k ≡ suc (9 + k) = omega arith in rw e (mirror_half (9 + k) page)

-- ---- one page

pub same_page_refl : (p : Page) → same_page p p ≡ true
unfolding same_page
same_page_refl p = rw (eq-eqb p.vsid p.vsid refl, eq-eqb p.index p.index refl)

pub same_page_eq : (p q : Page) → same_page p q ≡ true → p ≡ q
unfolding same_page
same_page_eq p q e =
    let (v, x) = both (eqb p.vsid q.vsid) (eqb p.index q.index) e in
    λ i. record { vsid = eqb-true p.vsid q.vsid v i; index = eqb-true p.index q.index x i }

module _ (n : ℕ) (p q : Page) (enough : 10 ≤ n) where
  -- pages of one VSID and one primary group agree in the low ten bits of the page index
  low_ten : p.vsid ≡ q.vsid → group_number n false p ≡ group_number n false q → p.index % 2 ^ 10 ≡ q.index % 2 ^ 10
  unfolding group_number primary_group hash_of
  low_ten v g =
      let width : (n - 10) + 10 ≡ n = omega arith in
      let a = hash_of p.vsid p.index in
      let b = hash_of q.vsid q.index in
      let cut : (h : ℕ) → h % 2 ^ n % 2 ^ 10 ≡ h % 2 ^ 10 = λ h. rw width at (mod-mod-pow h (n - 10) 10) in
      xor_cancel (p.vsid % 2 ^ 19 % 2 ^ 10) (p.index % 2 ^ 10) (q.index % 2 ^ 10)
      (sym (xor_mod (p.vsid % 2 ^ 19) p.index 10) ∙ sym (cut a) ∙ ap (λ (h : ℕ). h % 2 ^ 10) g ∙ cut b
      ∙ xor_mod (q.vsid % 2 ^ 19) q.index 10 ∙ ap (λ (v : ℕ). bit_xor (v % 2 ^ 19 % 2 ^ 10) (q.index % 2 ^ 10)) (sym v))

  primary_same : (b : Bool) → group_number n b p ≡ group_number n b q → group_number n false p ≡ group_number n false q
  primary_same false e = e
  primary_same true e = omega (arith, mirror n p, mirror n q)

  -- group, H, VSID and API name exactly one page
  pub one_page : (b c : Bool) → b ≡ c → group_number n b p ≡ group_number n c q → p.vsid ≡ q.vsid → api_of p.index ≡ api_of q.index → p ≡ q
  unfolding api_of
  one_page b c s g v a =
      let low = low_ten v (primary_same b (g ∙ ap (λ (t : Bool). group_number n t q) (sym s))) in
      let x : p.index ≡ q.index = omega arith in
      λ i. record { vsid = v i; index = x i }

-- ---- where a group lies

-- a group of a table of 65,536 × 2 ^ k bytes lies in it
pub within_bytes : (k g : ℕ) → g < 2 ^ (10 + k) → 64 * g + 64 ≤ 65536 * 2 ^ k
within_bytes k g h = omega (arith, pow-add 2 10 k)

module _ (sdr1 g : ℕ) (shape : sdr1_shape sdr1 ≡ true) (h : g < 2 ^ hash_bits sdr1) where
  pub within_table : 64 * g + 64 ≤ table_length sdr1
  unfolding hash_bits
  within_table = rw (length_is sdr1 shape) (within_bytes (mask_ones sdr1) g h)

  -- its address is the origin's bits and the group's, which do not overlap
  pub address_bits : bit_or (placed 15 (origin_of sdr1)) (64 * g) ≡ group_address sdr1 g
  unfolding group_address hash_bits sdr1_shape
  address_bits =
      let k = mask_ones sdr1 in
      let o = origin_of sdr1 in
      let q = o / 2 ^ k in
      let no-bit = eqb-true (bit_and o (mask_of sdr1)) 0 (both (low_ones (mask_of sdr1) && eqb (bits 16 22 sdr1) 0) (eqb (bit_and o (mask_of sdr1)) 0) shape).1 in
      let clear : o % 2 ^ k ≡ 0 = sym (and_mask o k) ∙ ap (bit_and o) (sym (mask_is sdr1 shape)) ∙ no-bit in
      let parts : o ≡ q * 2 ^ k = omega (arith, split o k) in
      let moved : o * 2 ^ 16 ≡ q * 2 ^ (k + 16) + 0 = ap (λ (x : ℕ). x * 2 ^ 16) parts ∙ mul_assoc q (2 ^ k) (2 ^ 16) ∙ ap (λ (x : ℕ). q * x) (sym (pow-add 2 k 16)) ∙ sym (add-zero (q * 2 ^ (k + 16))) in
      let high : o * 2 ^ 16 % 2 ^ (k + 16) ≡ 0 = ap (λ (x : ℕ). x % 2 ^ (k + 16)) moved ∙ low q (k + 16) (pow_pos (k + 16)) in
      or_sum (k + 16) (o * 2 ^ 16) (64 * g) high (omega (arith, pow-add 2 10 k, pow-add 2 k 16))
