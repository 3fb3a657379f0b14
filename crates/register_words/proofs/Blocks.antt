-- What the tests of blocks decide: a shared address is found bit by bit, and two blocks that cover one address clash.
--   bl_same: where bits 15 to 18 of the upper word are zero, BL of 11 bits is BL of 15 bits
--   high_masked: bits 15 to 18 by one mask
--   wide_upper, shape_wide: the shape of a block on a short or a long page, tested with BL of 15 bits
--   shape_narrow: a block of a short page's shape is off or has bits 15 to 18 zero
--   shape_same, clash_same, covers_same, physical_same: for such blocks every test is the same with BL of 11 and of 15 bits
--   off_shape, off_clash, off_covers: a pair that is off has its shape, clashes with none and covers nothing
--   bl_ones, bl_few: BL of a block of right shape is a field of ones, at most 15
--   start_clear: its start has no bit under BL
--   holds_range: an address is in it exactly where it agrees with the start above the block's bits
--   covered_share, share_witness: the test for a shared address holds where an address is in both blocks, and gives such an address
--   covers_clash: two blocks that cover one address for one privilege clash
use Rattle.std.proofs.Common.{◌≡◌, ℕ, ◌+◌, ◌-◌, ◌*◌, ◌/◌, ◌%◌, ◌^◌, ◌<◌, ◌≤◌, Bool, true, false, cond, not, ◌&&◌, ◌||◌, eqb, ◌↔◌, sym, refl, ap, ◌∙◌, ap₂, true≢false, add-zero, mod-lt, arith, pow_pos, pow_mono, shr-shr, eq-eqb, ne_eqb, eqb-true}
use lib.Bits.{bit_and, bit_or, and_mask, and_high, and_zero_r, and_comm, and_step, or_comm, or_lt}
use lib.Pow.{split, shl-shr, shr_mod}
use lib.Ieee.{size}
use borrow.Author.Tests.{eqb-false}
use Rattle.words.specs.Bits.{bits}
use Rattle.words.specs.Ones.{low_ones}
use Rattle.words.proofs.Ones.{ones_true, ones_width}
use Rattle.words.proofs.Tests.{both}
use Rattle.words.proofs.Masks.{and_not_in}
use Rattle.words.proofs.Without.{or_without, and_without}
use Rattle.register_words.specs.Block.{bl_width, bepi_of, bl_of, off, upper_shape, lower_shape, block_shape, narrow, in_block, block_physical, share_address, valid_for, common_v, clash, covers}

-- ---- short and long pages: BL of 11 bits is BL of 15 bits whose upper four are zero

and_false : (a b : Bool) → (a && false) && b ≡ false
and_false true b = refl
and_false false b = refl

-- where bits 15 to 18 are zero the width of BL makes no difference
pub bl_same : (upper : ℕ) → bits 15 18 upper ≡ 0 → bl_of 11 upper ≡ bl_of 15 upper
bl_same upper z = omega (arith, z)

-- bits 15 to 18 by one mask
pub high_masked : (upper : ℕ) → bit_and upper 0x1E000 ≡ bits 15 18 upper * 2 ^ 13
high_masked upper = and_high upper 4 13

-- the shape of a block's upper word, with BL of 15 bits and a mask for bits 15 to 18
abbrev pub wide_upper : Bool → ℕ → Bool
wide_upper long upper = low_ones (bl_of 15 upper) && eqb (bit_and upper (cond long 0 0x1E000)) 0 && eqb (bit_and (bepi_of upper) (bl_of 15 upper)) 0

pub shape_wide : (long side : Bool) (upper lower : ℕ)
    → block_shape (bl_width long) side upper lower ≡ (off upper || (wide_upper long upper && lower_shape 15 side upper lower))
unfolding block_shape upper_shape lower_shape
shape_wide true side upper lower = let none : bits 15 14 upper ≡ 0 = omega arith in rw (none, and_zero_r upper)
shape_wide false side upper lower = go (eqb (bits 15 18 upper) 0) refl
  where
    go : (t : Bool) → eqb (bits 15 18 upper) 0 ≡ t
        → block_shape 11 side upper lower ≡ (off upper || (wide_upper false upper && lower_shape 15 side upper lower))
    go true e =
        let z = eqb-true (bits 15 18 upper) 0 e in
        rw (bl_same upper z, high_masked upper, z)
    go false e =
        let some : eqb (bit_and upper 0x1E000) 0 ≡ false = ne_eqb (bit_and upper 0x1E000) 0 (λ q. eqb-false (bits 15 18 upper) 0 e (omega (arith, high_masked upper, q))) in
        rw (e, some, and_false (low_ones (bl_of 11 upper)) (eqb (bit_and (bepi_of upper) (bl_of 11 upper)) 0), and_false (low_ones (bl_of 15 upper)) (eqb (bit_and (bepi_of upper) (bl_of 15 upper)) 0))

-- a pair that is off, or has bits 15 to 18 zero
narrow_by : {P : Type 0} (upper : ℕ) → narrow upper ≡ true → (off upper ≡ true → P) → (bits 15 18 upper ≡ 0 → P) → P
unfolding narrow
narrow_by {P} upper e f g = go (off upper) refl e
  where
    go : (t : Bool) → off upper ≡ t → (t || eqb (bits 15 18 upper) 0) ≡ true → P
    go true q r = f q
    go false q r = g (eqb-true (bits 15 18 upper) 0 r)

-- a block of a short page's shape is such a pair, and for such a pair every test is the same with BL of 11 and of 15 bits
pub shape_narrow : (side : Bool) (upper lower : ℕ) → block_shape 11 side upper lower ≡ true → narrow upper ≡ true
unfolding narrow
shape_narrow side upper lower e = go (off upper) (sym (shape_wide false side upper lower) ∙ e)
  where
    go : (t : Bool) → (t || (wide_upper false upper && lower_shape 15 side upper lower)) ≡ true → (t || eqb (bits 15 18 upper) 0) ≡ true
    go true q = refl
    go false q =
        let (shape, lower-good) = both (wide_upper false upper) (lower_shape 15 side upper lower) q in
        let (ones, clear) = both (low_ones (bl_of 15 upper) && eqb (bit_and upper 0x1E000) 0) (eqb (bit_and (bepi_of upper) (bl_of 15 upper)) 0) shape in
        let zero_bits = eqb-true (bit_and upper 0x1E000) 0 (both (low_ones (bl_of 15 upper)) (eqb (bit_and upper 0x1E000) 0) ones).1 in
        eq-eqb (bits 15 18 upper) 0 (omega (arith, high_masked upper, zero_bits))

pub shape_same : (side : Bool) (upper lower : ℕ) → narrow upper ≡ true → block_shape 11 side upper lower ≡ block_shape 15 side upper lower
shape_same side upper lower e =
    shape_wide false side upper lower
    ∙ narrow_by upper e (λ o. rw o) (λ z. rw (high_masked upper, z, and_zero_r upper))
    ∙ sym (shape_wide true side upper lower)

valid_off : (user : Bool) (upper : ℕ) → off upper ≡ true → valid_for user upper ≡ false
unfolding off valid_for
valid_off true upper o = let z = eqb-true (bits 30 31 upper) 0 o in ne_eqb (bits 31 31 upper) 1 (λ q. omega (arith, z, q))
valid_off false upper o = let z = eqb-true (bits 30 31 upper) 0 o in ne_eqb (bits 30 30 upper) 1 (λ q. omega (arith, z, q))

common_off : (upper₁ upper₂ : ℕ) → off upper₁ ≡ true → common_v upper₁ upper₂ ≡ false
unfolding off common_v
common_off upper₁ upper₂ o = rw (eqb-true (bits 30 31 upper₁) 0 o)

common_swap : (upper₁ upper₂ : ℕ) → common_v upper₁ upper₂ ≡ common_v upper₂ upper₁
unfolding common_v
common_swap upper₁ upper₂ = rw (and_comm (bits 30 31 upper₁) (bits 30 31 upper₂))

-- a pair that is off has its shape, clashes with none and covers nothing, whatever the width of BL
module _ (width upper : ℕ) (o : off upper ≡ true) where
  pub off_shape : (side : Bool) (lower : ℕ) → block_shape width side upper lower ≡ true
  unfolding block_shape
  off_shape side lower = rw o

  pub off_clash : (other : ℕ) → (clash width upper other ≡ false) × (clash width other upper ≡ false)
  unfolding clash
  off_clash other = (rw (common_off upper other o), rw (common_swap other upper, common_off upper other o))

  pub off_covers : (user : Bool) (address : ℕ) → covers width user upper address ≡ false
  unfolding covers
  off_covers user address = rw (valid_off user upper o)

pub clash_same : (upper₁ upper₂ : ℕ) → narrow upper₁ ≡ true → narrow upper₂ ≡ true → clash 11 upper₁ upper₂ ≡ clash 15 upper₁ upper₂
unfolding clash share_address
clash_same upper₁ upper₂ e₁ e₂ =
    narrow_by upper₁ e₁ (λ o. rw (common_off upper₁ upper₂ o))
    (λ z₁. narrow_by upper₂ e₂ (λ o. rw (common_swap upper₁ upper₂, common_off upper₂ upper₁ o)) (λ z₂. rw (bl_same upper₁ z₁, bl_same upper₂ z₂)))

pub covers_same : (user : Bool) (upper address : ℕ) → narrow upper ≡ true → covers 11 user upper address ≡ covers 15 user upper address
unfolding covers in_block
covers_same user upper address e = narrow_by upper e (λ o. rw (valid_off user upper o)) (λ z. rw (bl_same upper z))

-- and so is the physical address in a block that covers an address
pub physical_same : (user : Bool) (upper lower address : ℕ) → narrow upper ≡ true → covers 15 user upper address ≡ true
    → block_physical 11 upper lower address ≡ block_physical 15 upper lower address
unfolding covers block_physical
physical_same user upper lower address e c =
    narrow_by upper e (λ o. absurd (true≢false (sym (both (valid_for user upper) (in_block 15 upper address) c).0 ∙ valid_off user upper o)))
    (λ z. rw (bl_same upper z))

module _ (width : ℕ) (wide : width ≤ 15) where
  -- BL is below 2 ^ 15
  bl_lt : (upper : ℕ) → bl_of width upper < 2 ^ 15
  bl_lt upper =
      let w : 29 + 1 - (30 - width) ≤ 15 = omega arith in
      let m = mod-lt (upper / 2 ^ 2) (pow_pos (29 + 1 - (30 - width))) in
      omega (arith, pow_mono w)

  -- an address in both blocks makes the test of their starts hold
  pub covered_share : (u₁ u₂ address : ℕ) → in_block width u₁ address ≡ true → in_block width u₂ address ≡ true → share_address width u₁ u₂ ≡ true
  unfolding in_block share_address
  covered_share u₁ u₂ address in₁ in₂ =
      let a = bl_of width u₁ in
      let b = bl_of width u₂ in
      let x = bits 0 14 address in
      let s₁ : bit_and x (2 ^ 15 - 1 - a) ≡ bepi_of u₁ = eqb-true _ (bepi_of u₁) in₁ in
      let s₂ : bit_and x (2 ^ 15 - 1 - b) ≡ bepi_of u₂ = eqb-true _ (bepi_of u₂) in₂ in
      eq-eqb (bit_or (bit_or a b) (bepi_of u₁)) (bit_or (bit_or a b) (bepi_of u₂))
      (ap (bit_or (bit_or a b)) (sym s₁)
      ∙ or_without 15 x a b (omega arith) (bl_lt u₁)
      ∙ ap (λ (m : ℕ). bit_or m x) (or_comm a b)
      ∙ sym (or_without 15 x b a (omega arith) (bl_lt u₂))
      ∙ ap₂ bit_or (or_comm b a) s₂)

  -- BL of a block of right shape is a field of at most 15 ones
  pub bl_ones : (upper : ℕ) → upper_shape width upper ≡ true → low_ones (bl_of width upper) ≡ true
  unfolding upper_shape
  bl_ones upper shape =
      let reserved = eqb (bits 15 (29 - width) upper) 0 in
      let under = eqb (bit_and (bepi_of upper) (bl_of width upper)) 0 in
      (both (low_ones (bl_of width upper)) reserved (both (low_ones (bl_of width upper) && reserved) under shape).0).0

  pub bl_few : (upper : ℕ) → upper_shape width upper ≡ true → size (bl_of width upper) ≤ 15
  bl_few upper shape = ones_width (bl_of width upper) 15 (bl_ones upper shape) (bl_lt upper)

  pub start_clear : (upper : ℕ) → upper_shape width upper ≡ true → bit_and (bepi_of upper) (bl_of width upper) ≡ 0
  unfolding upper_shape
  start_clear upper shape =
      eqb-true _ 0 (both (low_ones (bl_of width upper) && eqb (bits 15 (29 - width) upper) 0) (eqb (bit_and (bepi_of upper) (bl_of width upper)) 0) shape).1

  pub share_witness : (u₁ u₂ : ℕ) → upper_shape width u₁ ≡ true → upper_shape width u₂ ≡ true → share_address width u₁ u₂ ≡ true
      → (address : ℕ) × ((address < 2 ^ 32) × ((in_block width u₁ address ≡ true) × (in_block width u₂ address ≡ true)))
  unfolding in_block share_address
  share_witness u₁ u₂ shape₁ shape₂ share =
      let a = bl_of width u₁ in
      let b = bl_of width u₂ in
      let p = bepi_of u₁ in
      let q = bepi_of u₂ in
      let p-lt : p < 2 ^ 15 = omega arith in
      let q-lt : q < 2 ^ 15 = omega arith in
      let e : bit_or (bit_or a b) p ≡ bit_or (bit_or a b) q = eqb-true _ (bit_or (bit_or a b) q) share in
      let x = bit_or p q in
      let x_lt : x < 2 ^ 15 = or_lt 15 p q p-lt q-lt in
      let top : bits 0 14 (x * 2 ^ 17) ≡ x = omega arith in
      let first : bit_and x (2 ^ 15 - 1 - a) ≡ p = and_without 15 p q a b p-lt q-lt (bl_lt u₁) (start_clear u₁ shape₁) (start_clear u₂ shape₂) e in
      let e' : bit_or (bit_or b a) q ≡ bit_or (bit_or b a) p = ap (λ (m : ℕ). bit_or m q) (or_comm b a) ∙ sym e ∙ ap (λ (m : ℕ). bit_or m p) (or_comm a b) in
      let second : bit_and x (2 ^ 15 - 1 - b) ≡ q =
      ap (λ (m : ℕ). bit_and m (2 ^ 15 - 1 - b)) (or_comm p q)
      ∙ and_without 15 q p b a q-lt p-lt (bl_lt u₂) (start_clear u₂ shape₂) (start_clear u₁ shape₁) e' in
      (x * 2 ^ 17, (omega arith, (rw top (eq-eqb _ p first), rw top (eq-eqb _ q second))))

-- the same V bit is one in both
common : (user : Bool) (u₁ u₂ : ℕ) → valid_for user u₁ ≡ true → valid_for user u₂ ≡ true → common_v u₁ u₂ ≡ true
unfolding valid_for common_v
common user u₁ u₂ v₁ v₂ = ap not (ne_eqb (bit_and (bits 30 31 u₁) (bits 30 31 u₂)) 0 (differ user v₁ v₂))
  where
    differ : (t : Bool) → eqb (cond t (bits 31 31 u₁) (bits 30 30 u₁)) 1 ≡ true → eqb (cond t (bits 31 31 u₂) (bits 30 30 u₂)) 1 ≡ true
        → bit_and (bits 30 31 u₁) (bits 30 31 u₂) ≡ 0 → ⊥
    differ true e₁ e₂ z =
        let a = eqb-true (bits 31 31 u₁) 1 e₁ in
        let b = eqb-true (bits 31 31 u₂) 1 e₂ in
        omega (arith, and_step (bits 30 31 u₁) (bits 30 31 u₂))
    differ false e₁ e₂ z =
        let a = eqb-true (bits 30 30 u₁) 1 e₁ in
        let b = eqb-true (bits 30 30 u₂) 1 e₂ in
        let h₁ : bits 30 31 u₁ / 2 ≡ 1 = omega arith in
        let h₂ : bits 30 31 u₂ / 2 ≡ 1 = omega arith in
        let ones : bit_and (bits 30 31 u₁ / 2) (bits 30 31 u₂ / 2) ≡ 1 = ap₂ bit_and h₁ h₂ in
        omega (arith, and_step (bits 30 31 u₁) (bits 30 31 u₂))

-- a block of right shape, its BL a field of k ones
module _ (width : ℕ) (wide : width ≤ 15) (upper address : ℕ) (hu : upper < 2 ^ 32) (ha : address < 2 ^ 32) (shape : upper_shape width upper ≡ true) where
  -- the address without the BL bits is the start exactly where the two agree above the block's 17 + k bits
  range : (k : ℕ) → bl_of width upper ≡ 2 ^ k - 1 → k ≤ 15
      → (in_block width upper address ≡ true) ↔ (address / 2 ^ (17 + k) ≡ upper / 2 ^ (17 + k))
  unfolding in_block
  range k bl few =
      let x = bits 0 14 address in
      let b = bepi_of upper in
      let removed : bit_and x (2 ^ 15 - 1 - bl_of width upper) ≡ x / 2 ^ k * 2 ^ k =
      ap (λ (m : ℕ). bit_and x (2 ^ 15 - 1 - m)) bl ∙ and_not_in 15 x k few (omega arith) in
      let clear : b % 2 ^ k ≡ 0 = sym (and_mask b k) ∙ ap (bit_and b) (sym bl) ∙ start_clear width wide upper shape in
      let whole : b / 2 ^ k * 2 ^ k ≡ b = sym (add-zero _) ∙ ap (λ (m : ℕ). b / 2 ^ k * 2 ^ k + m) (sym clear) ∙ split b k in
      let x-is : x / 2 ^ k ≡ address / 2 ^ (17 + k) = ap (λ (m : ℕ). m / 2 ^ k) (shr_mod 15 17 ha) ∙ shr-shr address 17 k in
      let b-is : b / 2 ^ k ≡ upper / 2 ^ (17 + k) = ap (λ (m : ℕ). m / 2 ^ k) (shr_mod 15 17 hu) ∙ shr-shr upper 17 k in (
        (λ e. sym x-is ∙ sym (shl-shr (x / 2 ^ k) k) ∙ ap (λ (m : ℕ). m / 2 ^ k) (sym removed ∙ eqb-true _ b e) ∙ b-is),
        (λ e. eq-eqb _ b (removed ∙ ap (λ (m : ℕ). m * 2 ^ k) (x-is ∙ e ∙ sym b-is) ∙ whole)),
      )

  pub holds_range : (in_block width upper address ≡ true)
      ↔ (address / 2 ^ (17 + size (bl_of width upper)) ≡ upper / 2 ^ (17 + size (bl_of width upper)))
  holds_range = range (size (bl_of width upper)) (ones_true (bl_of width upper) (bl_ones width wide upper shape)) (bl_few width wide upper shape)

module _ (width : ℕ) (wide : width ≤ 15) where
  -- two blocks that cover one address for one privilege clash
  pub covers_clash : (user : Bool) (u₁ u₂ address : ℕ) → covers width user u₁ address ≡ true → covers width user u₂ address ≡ true → clash width u₁ u₂ ≡ true
  unfolding covers clash
  covers_clash user u₁ u₂ address c₁ c₂ =
      let (v₁, in₁) = both (valid_for user u₁) (in_block width u₁ address) c₁ in
      let (v₂, in₂) = both (valid_for user u₂) (in_block width u₂ address) c₂ in
      rw (common user u₁ u₂ v₁ v₂, covered_share width wide u₁ u₂ address in₁ in₂)
