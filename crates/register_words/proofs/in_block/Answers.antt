-- `register_words::in_block` meets its contract: the complement of an address with ones under BL is the complement of the address without BL's bits, and
-- two numbers of 15 bits differ in each bit exactly where one is the other's complement.
use Rattle.std.proofs.Common.{◌≡◌, ℕ, zero, suc, ◌+◌, ◌-◌, ◌*◌, ◌/◌, ◌%◌, ◌^◌, ◌<◌, ◌≤◌, min, eqb, leb, sym, ap, ◌∙◌, ap₂, mod-eq_of_lt, pow-suc, arith, eq-eqb, eqb-true, le-leb, leb-true}
use lib.Bits.{bit_and, bit_or, bit_xor, and_step, and_comm, and_self, and_le_l, and_mask, or_lt, or_shr, or_add_and, xor_lt, xor_shr, xor_add_and}
use Rattle.words.specs.Bits.{bits}
use Rattle.words.proofs.Tests.{same_test}
use Rattle.words.proofs.Without.{digit_lt}
use Rattle.register_words.specs.Block.{in_block, bl_of, bepi_of}
use Rattle.register_words.proofs.in_block.Goals as goal

digits : (d e : ℕ) → d < 2 → e < 2 → min d (1 - e) + min d e ≡ d
digits d e hd he = omega arith

joined : (x h g d e : ℕ) → h + g ≡ x / 2 → d + e ≡ x % 2 → (h * 2 + d) + (g * 2 + e) ≡ x
joined x h g d e halves last = omega arith

-- the bits of a number outside a mask and those under it
parts : (k x a : ℕ) → x < 2 ^ k → a < 2 ^ k → bit_and x (2 ^ k - 1 - a) + bit_and x a ≡ x
parts zero x a hx ha = omega (arith, and_le_l x (2 ^ 0 - 1 - a), and_le_l x a)
parts (suc k) x a hx ha =
    let s = pow-suc 2 k in
    let M = 2 ^ suc k - 1 - a in
    let half : M / 2 ≡ 2 ^ k - 1 - a / 2 = omega arith in
    let odd : M % 2 ≡ 1 - a % 2 = omega arith in
    let halves : bit_and (x / 2) (M / 2) + bit_and (x / 2) (a / 2) ≡ x / 2 =
    ap (λ (m : ℕ). bit_and (x / 2) m + bit_and (x / 2) (a / 2)) half ∙ parts k (x / 2) (a / 2) (omega arith) (omega arith) in
    let last : min (x % 2) (M % 2) + min (x % 2) (a % 2) ≡ x % 2 =
    ap (λ (m : ℕ). min (x % 2) m + min (x % 2) (a % 2)) odd ∙ digits (x % 2) (a % 2) (digit_lt x) (digit_lt a) in
    ap₂ ◌+◌ (and_step x M) (and_step x a)
    ∙ joined x (bit_and (x / 2) (M / 2)) (bit_and (x / 2) (a / 2)) (min (x % 2) (M % 2)) (min (x % 2) (a % 2)) halves last

-- the complement with ones under a mask is the complement of the number without the mask's bits
or_turned : (k x a : ℕ) → x < 2 ^ k → a < 2 ^ k → bit_or (bit_xor x (2 ^ k - 1)) a ≡ 2 ^ k - 1 - bit_and x (2 ^ k - 1 - a)
or_turned k x a hx ha =
    let turned : bit_xor x (2 ^ k - 1) ≡ 2 ^ k - 1 - x = omega (arith, xor_add_and x (2 ^ k - 1), and_mask x k, mod-eq_of_lt hx) in
    let N = 2 ^ k - 1 - x in
    ap (λ (n : ℕ). bit_or n a) turned
    ∙ omega (arith, or_add_and N a, and_comm N a, and_comm x a, parts k x a hx ha, parts k a x ha hx, and_le_l x (2 ^ k - 1 - a))

module _ (k p b : ℕ) (p-lt : p < 2 ^ k) (b_lt : b < 2 ^ k) where
  -- two numbers that differ in each bit are each other's complement
  differ_turned : bit_xor p b ≡ 2 ^ k - 1 → 2 ^ k - 1 - p ≡ b
  differ_turned e = omega (arith, e, xor_add_and p b, or_add_and p b, or_lt k p b p-lt b_lt)

  turned_differ : 2 ^ k - 1 - p ≡ b → bit_xor p b ≡ 2 ^ k - 1
  turned_differ e =
      let none : bit_and p b ≡ 0 = ap (bit_and p) (sym e) ∙ omega (arith, parts k p p p-lt p-lt, and_self p) in
      omega (arith, e, none, xor_add_and p b)

module _ (u a : ℕ) (u-lt : u < 2 ^ 32) (a_lt : a < 2 ^ 32) where
  -- the address's complement with ones under BL
  abbrev turned : ℕ
  turned = bit_or (bit_xor a 0xFFFFFFFF) (u * 2 ^ 15 % 2 ^ 32)

  -- the address with BL's bits and the low 17 removed
  abbrev start : ℕ
  start = bit_and (bits 0 14 a) (2 ^ 15 - 1 - bl_of 15 u)

  above : bit_xor turned u / 2 ^ 17 ≡ bit_xor (2 ^ 15 - 1 - start) (bepi_of u)
  above =
      let bepi : u / 2 ^ 17 ≡ bepi_of u = omega arith in
      let index : a / 2 ^ 17 ≡ bits 0 14 a = omega arith in
      let moved : u * 2 ^ 15 % 2 ^ 32 / 2 ^ 17 ≡ bl_of 15 u = omega arith in
      xor_shr turned u 17
      ∙ ap₂ bit_xor (or_shr (bit_xor a 0xFFFFFFFF) (u * 2 ^ 15 % 2 ^ 32) 17
      ∙ ap₂ bit_or (xor_shr a 0xFFFFFFFF 17 ∙ ap (λ (i : ℕ). bit_xor i (2 ^ 15 - 1)) index) moved
      ∙ or_turned 15 (bits 0 14 a) (bl_of 15 u) (omega arith) (omega arith)) bepi

  tested : leb 0xFFFE0000 (bit_xor turned u) ≡ eqb start (bepi_of u)
  tested =
      let X = bit_xor turned u in
      let P = 2 ^ 15 - 1 - start in
      let b_lt : bepi_of u < 2 ^ 15 = omega arith in
      let P-lt : P < 2 ^ 15 = omega arith in
      let start-le : start ≤ 2 ^ 15 - 1 = omega (arith, and_le_l (bits 0 14 a) (2 ^ 15 - 1 - bl_of 15 u)) in
      let X-lt : X < 2 ^ 32 = xor_lt 32 turned u (or_lt 32 (bit_xor a 0xFFFFFFFF) (u * 2 ^ 15 % 2 ^ 32) (xor_lt 32 a 0xFFFFFFFF a_lt (omega arith)) (omega arith)) u-lt in
      let twice : 2 ^ 15 - 1 - P ≡ start = omega arith in
      same_test (leb 0xFFFE0000 X) (eqb start (bepi_of u))
      (λ e. let le = leb-true 0xFFFE0000 X e in eq-eqb start (bepi_of u) (sym twice ∙ differ_turned 15 P (bepi_of u) P-lt b_lt (sym above ∙ omega arith)))
      (λ e. let all = above ∙ turned_differ 15 P (bepi_of u) P-lt b_lt (twice ∙ eqb-true start (bepi_of u) e) in le-leb 0xFFFE0000 X (omega arith))

pub returns : goal.returns
unfolding in_block
returns c = tested c.args.upper c.args.address c.ranges.upper.fits c.ranges.address.fits
