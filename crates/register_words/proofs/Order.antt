-- Blocks in the order of their addresses: a block of right shape that begins behind the last 128 KB of another shares no address with it, since an
-- address in both would lie between.
use Rattle.std.proofs.Common.{◌≡◌, ℕ, ◌-◌, ◌*◌, ◌/◌, ◌^◌, ◌<◌, ◌≤◌, Bool, true, false, cond, ◌&&◌, eqb, sym, ap, ◌∙◌, mod-lt, arith, lit≤, pow_pos, eqb-true}
use mathlib.Core.Bool.{and-false}
use lib.Bits.{bit_and, and_le_l, and_le_r, or_add_and, or_disjoint}
use lib.Ieee.{size}
use lib.Pow.{split}
use Rattle.words.specs.Bits.{bits}
use Rattle.words.specs.Ones.{low_ones}
use Rattle.words.proofs.Masks.{and_not_in}
use Rattle.words.proofs.Ones.{ones_true}
use Rattle.words.proofs.Tests.{both, by_test}
use Rattle.register_words.specs.Asked.{last_of}
use Rattle.register_words.specs.Block.{bl_width, bl_of, bepi_of, off, upper_shape, lower_shape, block_shape, in_block, share_address, common_v, clash}
use Rattle.register_words.proofs.Blocks.{wide_upper, shape_wide, bl_ones, bl_few, start_clear, share_witness}

fifteen : 15 ≤ 15
fifteen = lit≤ tt

-- an address in a block of right shape lies from its first 128 KB to its last
in_first : (upper address : ℕ) → in_block 15 upper address ≡ true → bepi_of upper ≤ bits 0 14 address
unfolding in_block
in_first upper address e =
    let x = bits 0 14 address in
    let start = eqb-true (bit_and x (2 ^ 15 - 1 - bl_of 15 upper)) (bepi_of upper) e in
    omega (arith, and_le_l x (2 ^ 15 - 1 - bl_of 15 upper))

in_last : (upper address : ℕ) → upper_shape 15 upper ≡ true → in_block 15 upper address ≡ true → bits 0 14 address ≤ last_of upper
unfolding in_block last_of
in_last upper address shape e =
    let x = bits 0 14 address in
    let b = bepi_of upper in
    let bl = bl_of 15 upper in
    let k = size bl in
    let ones : bl ≡ 2 ^ k - 1 = ones_true bl (bl_ones 15 fifteen upper shape) in
    let start : bit_and x (2 ^ 15 - 1 - bl) ≡ b = eqb-true _ b e in
    let removed : bit_and x (2 ^ 15 - 1 - bl) ≡ x / 2 ^ k * 2 ^ k =
    ap (λ (m : ℕ). bit_and x (2 ^ 15 - 1 - m)) ones ∙ and_not_in 15 x k (bl_few 15 fifteen upper shape) (omega arith) in
    let clear : bit_and b (2 ^ k - 1) ≡ 0 = ap (bit_and b) (sym ones) ∙ start_clear 15 fifteen upper shape in
    omega (arith, or_disjoint b (2 ^ k - 1) clear, split x k, mod-lt x (pow_pos k))

share_order : (u₁ u₂ : ℕ) → upper_shape 15 u₁ ≡ true → upper_shape 15 u₂ ≡ true → share_address 15 u₁ u₂ ≡ true → bepi_of u₂ ≤ last_of u₁
share_order u₁ u₂ shape₁ shape₂ share =
    let (address, found) = share_witness 15 fifteen u₁ u₂ shape₁ shape₂ share in
    omega (arith, in_last u₁ address shape₁ found.1.0, in_first u₂ address found.1.1)

-- a pair that is on, of a short or a long page's shape
shaped_upper : (long side : Bool) (upper lower : ℕ) → off upper ≡ false → block_shape (bl_width long) side upper lower ≡ true → upper_shape 15 upper ≡ true
unfolding upper_shape
shaped_upper long side upper lower on shape =
    let bl = bl_of 15 upper in
    let whole : (wide_upper long upper && lower_shape 15 side upper lower) ≡ true = (rw on at (sym (shape_wide long side upper lower) ∙ shape)) in
    let (front, bepi) = both (low_ones bl && eqb (bit_and upper (cond long 0 0x1E000)) 0) (eqb (bit_and (bepi_of upper) bl) 0) (both (wide_upper long upper) _ whole).0 in
    let (ones, zeros) = both (low_ones bl) (eqb (bit_and upper (cond long 0 0x1E000)) 0) front in
    let none : bits 15 14 upper ≡ 0 = omega arith in
    rw (ones, none, bepi)

module _ (long side : Bool) (u₁ l₁ u₂ l₂ : ℕ) (on₁ : off u₁ ≡ false) (on₂ : off u₂ ≡ false)
    (shape₁ : block_shape (bl_width long) side u₁ l₁ ≡ true) (shape₂ : block_shape (bl_width long) side u₂ l₂ ≡ true) where
  pub behind_apart : last_of u₁ < bepi_of u₂ → clash 15 u₁ u₂ ≡ false
  unfolding clash
  behind_apart behind =
      by_test (share_address 15 u₁ u₂)
      (λ e. absurd (
      let l = share_order u₁ u₂ (shaped_upper long side u₁ l₁ on₁ shape₁) (shaped_upper long side u₂ l₂ on₂ shape₂) e in
      omega arith
      ))
      (λ e. rw e (and-false (common_v u₁ u₂)))

-- a block ends where it begins or behind
pub first_last : (upper : ℕ) → bepi_of upper ≤ last_of upper
unfolding last_of
first_last upper =
    let f = 2 ^ size (bl_of 15 upper) - 1 in
    omega (arith, or_add_and (bepi_of upper) f, and_le_r (bepi_of upper) f)
