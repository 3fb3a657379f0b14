-- Laws of shifts and masks of words, over the width: what `|`, `&` and `!` do, as quotients and remainders by powers of two.
--   or_sum: `x | y` is x + y, where y is below 2 ^ k and the k low bits of x are zero
--   or_bit: `a | 2 ^ k` sets that bit and keeps the others
--   or_full: k ones or any k bits are k ones
--   and_top: in 32 bits `a & (2 ^ 32 - 2 ^ k)` clears the k low bits
--   and_not_in: in w bits `a & !(2 ^ k - 1)` clears the k low bits
use mathlib.Core.Path.{◌≡◌, sym, ap, ap₂, ◌∙◌}
use Prim.Native.Nat.{ℕ, suc, ◌+◌, ◌-◌, ◌*◌, ◌/◌, ◌%◌, ◌^◌, ◌≤◌, ◌<◌, max}
use native.Mathlib.Nat.{add-zero, one-mul, add-mul, mul_assoc, mod-lt, mod-mod, pow-suc}
use native.Mathlib.Numerals.{add-one}
use native.Mathlib.Omega.{arith}
use lib.Bits.{bit_and, bit_or, and_mask, and_high, or_shifted, or_block, or_step, or_zero_r, or_add_and}
use lib.Pow.{pow_pos, split, shr_mod, shr-shr}

-- `x | y`, where the k low bits of x are zero and y is below 2 ^ k, is their sum
pub or_sum : (k x y : ℕ) → x % 2 ^ k ≡ 0 → y < 2 ^ k → bit_or x y ≡ x + y
or_sum k x y e h =
    let whole : x ≡ x / 2 ^ k * 2 ^ k = sym (split x k) ∙ ap (λ (r : ℕ). x / 2 ^ k * 2 ^ k + r) e ∙ add-zero (x / 2 ^ k * 2 ^ k) in
    ap (λ (z : ℕ). bit_or z y) whole ∙ or_shifted (x / 2 ^ k) k y h ∙ ap (λ (z : ℕ). z + y) (sym whole)

-- in w bits, `a & (2 ^ w - 2 ^ k)` clears the k low bits
and_top_in : (w a k : ℕ) → k ≤ w → a < 2 ^ w → bit_and a (2 ^ w - 2 ^ k) ≡ a / 2 ^ k * 2 ^ k
and_top_in w a k h fits =
    let width : (w - k) + k ≡ w = omega arith in
    (rw width at (and_high a (w - k) k)) ∙ ap (λ (q : ℕ). q * 2 ^ k) (shr_mod (w - k) k (rw width fits))

-- and so does `a & !(2 ^ k - 1)`
pub and_not_in : (w a k : ℕ) → k ≤ w → a < 2 ^ w → bit_and a (2 ^ w - 1 - (2 ^ k - 1)) ≡ a / 2 ^ k * 2 ^ k
and_not_in w a k h fits =
    let same : 2 ^ w - 1 - (2 ^ k - 1) ≡ 2 ^ w - 2 ^ k = omega (arith, pow_pos k) in
    rw same (and_top_in w a k h fits)

-- the same in 32 bits
pub and_top : (a k : ℕ) → k ≤ 32 → a < 2 ^ 32 → bit_and a (2 ^ 32 - 2 ^ k) ≡ a / 2 ^ k * 2 ^ k
and_top = and_top_in 32

-- `a | 1` sets the lowest bit
or_one : (a : ℕ) → bit_or a 1 ≡ a / 2 * 2 + 1
or_one a =
    let m : max (a % 2) 1 ≡ 1 = omega arith in
    or_step a 1 ∙ ap₂ (λ (x y : ℕ). x * 2 + y) (or_zero_r (a / 2)) m

-- `a | 2 ^ k` sets the bit of value 2 ^ k and keeps those above and below
pub or_bit : (k a : ℕ) → bit_or a (2 ^ k) ≡ a / 2 ^ suc k * 2 ^ suc k + 2 ^ k + a % 2 ^ k
or_bit k a =
    let one : 1 * 2 ^ k + 0 ≡ 2 ^ k = omega (arith, one-mul (2 ^ k)) in
    let q = a / 2 ^ k / 2 in
    let half : q ≡ a / 2 ^ suc k = shr-shr a k 1 ∙ ap (λ (n : ℕ). a / 2 ^ n) (add-one k) in
    let power : 2 ^ suc k ≡ 2 ^ k * 2 = pow-suc 2 k in
    let above : q * 2 * 2 ^ k ≡ q * 2 ^ suc k = mul_assoc q 2 (2 ^ k) ∙ ap (λ (n : ℕ). q * n) (omega arith) in
    let sum : (q * 2 + 1) * 2 ^ k ≡ q * 2 ^ suc k + 2 ^ k = omega (arith, add-mul (q * 2) 1 (2 ^ k), one-mul (2 ^ k)) in
    ap₂ bit_or (sym (split a k)) (sym one)
    ∙ or_block k (a / 2 ^ k) 1 (a % 2 ^ k) 0 (mod-lt a (pow_pos k)) (pow_pos k)
    ∙ ap₂ (λ (x y : ℕ). x * 2 ^ k + y) (or_one (a / 2 ^ k)) (or_zero_r (a % 2 ^ k))
    ∙ ap (λ (n : ℕ). n + a % 2 ^ k) (sum ∙ ap (λ (n : ℕ). n * 2 ^ suc k + 2 ^ k) half)

-- ones stay ones
pub or_full : (k z : ℕ) → bit_or (z % 2 ^ k) (2 ^ k - 1) ≡ 2 ^ k - 1
or_full k z = omega (arith, or_add_and (z % 2 ^ k) (2 ^ k - 1), and_mask (z % 2 ^ k) k, mod-mod z (2 ^ k))
