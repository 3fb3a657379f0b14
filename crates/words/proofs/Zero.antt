-- A mask that leaves nothing: of numbers put together by or it leaves nothing exactly where it leaves nothing of each, and of a number where it leaves
-- nothing above a bit and below it.
use mathlib.Core.Path.{◌≡◌, sym, ap, ap₂, ◌∙◌}
use mathlib.Core.Bool.{◌&&◌}
use Prim.Native.Nat.{ℕ, zero, suc, ◌+◌, ◌*◌, ◌/◌, ◌%◌, ◌^◌, ◌<◌, ◌≤◌, min, max}
use native.Mathlib.Nat.{pow-suc, zero-div, zero-mod}
use native.Mathlib.Omega.{arith}
use lib.Bits.{bit_and, bit_or, and_step, or_step, and_shr, or_shr, and_mod, and_zero_l, or_zero_l, or_add_and, and_le_l, and_le_r}
use lib.Dec.{eqb}
use lib.Ieee.{size}
use lib.Ieee.Digits.{size-lt}
use lib.Pow.{split, pow_mono}
use Rattle.words.proofs.Tests.{both_zero}
use Rattle.words.proofs.Without.{or_odd, and_odd, digit_lt}

digit_distr : (a b m : ℕ) → m < 2 → min (max a b) m ≡ max (min a m) (min b m)
digit_distr a b m h = omega arith

-- a mask takes what it takes of each
and_or_in : (k a b m : ℕ) → a < 2 ^ k → b < 2 ^ k → bit_and (bit_or a b) m ≡ bit_or (bit_and a m) (bit_and b m)
and_or_in zero a b m ha hb =
    let p : a ≡ 0 = omega arith in
    let q : b ≡ 0 = omega arith in
    rw (p, q, or_zero_l 0, and_zero_l m)
and_or_in (suc k) a b m ha hb =
    let P = bit_or a b in
    let Q = bit_and a m in
    let R = bit_and b m in
    let halves : bit_and (P / 2) (m / 2) ≡ bit_or (Q / 2) (R / 2) =
    ap (λ (x : ℕ). bit_and x (m / 2)) (or_shr a b 1)
    ∙ and_or_in k (a / 2) (b / 2) (m / 2) (omega (arith, pow-suc 2 k)) (omega (arith, pow-suc 2 k))
    ∙ sym (ap₂ bit_or (and_shr a m 1) (and_shr b m 1)) in
    let last : min (P % 2) (m % 2) ≡ max (Q % 2) (R % 2) =
    ap (λ (d : ℕ). min d (m % 2)) (or_odd a b) ∙ digit_distr (a % 2) (b % 2) (m % 2) (digit_lt m) ∙ sym (ap₂ max (and_odd a m) (and_odd b m)) in
    and_step P m ∙ ap₂ (λ (q d : ℕ). q * 2 + d) halves last ∙ sym (or_step Q R)

and_or : (a b m : ℕ) → bit_and (bit_or a b) m ≡ bit_or (bit_and a m) (bit_and b m)
and_or a b m =
    let k = size a + size b in
    let first : 2 ^ size a ≤ 2 ^ k = pow_mono (omega arith) in
    let second : 2 ^ size b ≤ 2 ^ k = pow_mono (omega arith) in
    and_or_in k a b m (omega (arith, size-lt a)) (omega (arith, size-lt b))

or_none : (a b : ℕ) → bit_or a b ≡ 0 → (a ≡ 0) × (b ≡ 0)
or_none a b e =
    let sum = or_add_and a b in
    let left = and_le_l a b in
    let right = and_le_r a b in
    (omega arith, omega arith)

pub or_leaves : (a b m : ℕ) → eqb (bit_and (bit_or a b) m) 0 ≡ (eqb (bit_and a m) 0 && eqb (bit_and b m) 0)
or_leaves a b m =
    both_zero (bit_and (bit_or a b) m) (bit_and a m) (bit_and b m) (λ e. or_none (bit_and a m) (bit_and b m) (sym (and_or a b m) ∙ e))
    (λ p q. and_or a b m ∙ ap₂ bit_or p q ∙ or_zero_l 0)

-- a number is zero where it is zero above a bit and below it
pub parts_zero : (k x : ℕ) → eqb x 0 ≡ (eqb (x / 2 ^ k) 0 && eqb (x % 2 ^ k) 0)
parts_zero k x =
    both_zero x (x / 2 ^ k) (x % 2 ^ k) (λ e. (rw e (zero-div (2 ^ k)), rw e (zero-mod (2 ^ k))))
    (λ p q. sym (split x k) ∙ (rw (p, q) (omega arith)))

pub parts_leave : (k x m : ℕ) → eqb (bit_and x m) 0 ≡ (eqb (bit_and (x / 2 ^ k) (m / 2 ^ k)) 0 && eqb (bit_and (x % 2 ^ k) (m % 2 ^ k)) 0)
parts_leave k x m = parts_zero k (bit_and x m) ∙ ap₂ (λ (p q : ℕ). eqb p 0 && eqb q 0) (and_shr x m k) (and_mod x m k)
