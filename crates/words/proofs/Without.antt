-- Laws of a number without the bits of a mask, `x & (2 ^ k - 1 - a)`: bit by bit, by induction on the width k.
use mathlib.Core.Path.{◌≡◌, sym, ap, ap₂, ◌∙◌}
use Prim.Native.Nat.{ℕ, zero, suc, ◌+◌, ◌-◌, ◌*◌, ◌/◌, ◌%◌, ◌^◌, ◌<◌, min, max}
use native.Mathlib.Nat.{pow-suc}
use native.Mathlib.Omega.{arith}
use lib.Bits.{bit_and, bit_or, and_step, or_step, and_shr, or_shr, and_zero_l}

pub or_odd : (a b : ℕ) → bit_or a b % 2 ≡ max (a % 2) (b % 2)
or_odd a b = omega (arith, or_step a b)

pub and_odd : (a b : ℕ) → bit_and a b % 2 ≡ min (a % 2) (b % 2)
and_odd a b = omega (arith, and_step a b)

-- the complement in one bit more
flip_half : (k a : ℕ) → a < 2 ^ suc k → (2 ^ suc k - 1 - a) / 2 ≡ 2 ^ k - 1 - a / 2
flip_half k a h = omega (arith, pow-suc 2 k)

flip_odd : (k a : ℕ) → a < 2 ^ suc k → (2 ^ suc k - 1 - a) % 2 ≡ 1 - a % 2
flip_odd k a h = omega (arith, pow-suc 2 k)

-- what holds of 0 and 1 holds of a digit
pub two : (P : ℕ → Type 0) → P 0 → P 1 → (d : ℕ) → d < 2 → P d
two P p q zero h = p
two P p q (suc zero) h = q
two P p q (suc (suc d)) h = absurd (omega arith)

digit_or : (a b x : ℕ) → a < 2 → b < 2 → x < 2 → max (max a b) (min x (1 - a)) ≡ max (max a b) x
digit_or a b x ha hb hx = two (λ (d : ℕ). max (max d b) (min x (1 - d)) ≡ max (max d b) x) (omega arith) (omega arith) a ha

abbrev DigitAnd : ℕ → ℕ → ℕ → ℕ → Type 0
DigitAnd p q a b = min p a ≡ 0 → min q b ≡ 0 → max (max a b) p ≡ max (max a b) q → min (max p q) (1 - a) ≡ p

digit_and : (p q a b : ℕ) → p < 2 → q < 2 → a < 2 → b < 2 → DigitAnd p q a b
digit_and p q a b hp hq ha hb =
    two (λ (d : ℕ). DigitAnd p q d b)
    (two (λ (e : ℕ). DigitAnd p q 0 e) (λ x y z. omega arith) (λ x y z. omega arith) b hb)
    (two (λ (e : ℕ). DigitAnd p q 1 e) (λ x y z. omega arith) (λ x y z. omega arith) b hb)
    a ha

pub digit_lt : (a : ℕ) → a % 2 < 2
digit_lt a = omega arith

-- with the bits of a set, it does not matter whether they were removed before
pub or_without : (k x a b : ℕ) → x < 2 ^ k → a < 2 ^ k → bit_or (bit_or a b) (bit_and x (2 ^ k - 1 - a)) ≡ bit_or (bit_or a b) x
or_without zero x a b hx ha =
    let e : x ≡ 0 = omega arith in
    ap (bit_or (bit_or a b)) (ap (λ (z : ℕ). bit_and z (2 ^ 0 - 1 - a)) e ∙ and_zero_l (2 ^ 0 - 1 - a) ∙ sym e)
or_without (suc k) x a b hx ha =
    let P = bit_or a b in
    let M = 2 ^ suc k - 1 - a in
    let Q = bit_and x M in
    let e₁ : P / 2 ≡ bit_or (a / 2) (b / 2) = or_shr a b 1 in
    let e₂ : Q / 2 ≡ bit_and (x / 2) (2 ^ k - 1 - a / 2) = and_shr x M 1 ∙ ap (bit_and (x / 2)) (flip_half k a ha) in
    let halves : bit_or (P / 2) (Q / 2) ≡ bit_or (P / 2) (x / 2) =
    ap₂ bit_or e₁ e₂ ∙ or_without k (x / 2) (a / 2) (b / 2) (omega (arith, pow-suc 2 k)) (omega (arith, pow-suc 2 k)) ∙ ap (λ (z : ℕ). bit_or z (x / 2)) (sym e₁) in
    let last : max (P % 2) (Q % 2) ≡ max (P % 2) (x % 2) =
    ap₂ max (or_odd a b) (and_odd x M ∙ ap (min (x % 2)) (flip_odd k a ha))
    ∙ digit_or (a % 2) (b % 2) (x % 2) (digit_lt a) (digit_lt b) (digit_lt x)
    ∙ ap (λ (d : ℕ). max d (x % 2)) (sym (or_odd a b)) in
    or_step P Q ∙ ap₂ (λ (q d : ℕ). q * 2 + d) halves last ∙ sym (or_step P x)

-- of two numbers that agree outside two masks, each with no bit under its own, the sum of bits without the first mask is the first
pub and_without : (k p q a b : ℕ) → p < 2 ^ k → q < 2 ^ k → a < 2 ^ k → bit_and p a ≡ 0 → bit_and q b ≡ 0
    → bit_or (bit_or a b) p ≡ bit_or (bit_or a b) q → bit_and (bit_or p q) (2 ^ k - 1 - a) ≡ p
and_without zero p q a b hp hq ha ep eq e =
    let p₀ : p ≡ 0 = omega arith in
    let q₀ : q ≡ 0 = omega arith in
    ap₂ (λ (y z : ℕ). bit_and (bit_or y z) (2 ^ 0 - 1 - a)) p₀ q₀ ∙ and_zero_l (2 ^ 0 - 1 - a) ∙ sym p₀
and_without (suc k) p q a b hp hq ha ep eq e =
    let P = bit_or a b in
    let X = bit_or p q in
    let M = 2 ^ suc k - 1 - a in
    let s = pow-suc 2 k in
    let e₁ : P / 2 ≡ bit_or (a / 2) (b / 2) = or_shr a b 1 in
    let ep' : bit_and (p / 2) (a / 2) ≡ 0 = omega (arith, and_step p a) in
    let eq' : bit_and (q / 2) (b / 2) ≡ 0 = omega (arith, and_step q b) in
    let ep₀ : min (p % 2) (a % 2) ≡ 0 = omega (arith, and_step p a) in
    let eq₀ : min (q % 2) (b % 2) ≡ 0 = omega (arith, and_step q b) in
    let both : bit_or (P / 2) (p / 2) * 2 + max (P % 2) (p % 2) ≡ bit_or (P / 2) (q / 2) * 2 + max (P % 2) (q % 2) = sym (or_step P p) ∙ e ∙ or_step P q in
    let e' : bit_or (P / 2) (p / 2) ≡ bit_or (P / 2) (q / 2) = omega arith in
    let e₀ : max (P % 2) (p % 2) ≡ max (P % 2) (q % 2) = omega arith in
    let halves : bit_and (X / 2) (M / 2) ≡ p / 2 =
    ap₂ bit_and (or_shr p q 1) (flip_half k a ha)
    ∙ and_without k (p / 2) (q / 2) (a / 2) (b / 2) (omega arith) (omega arith) (omega arith) ep' eq'
    (ap (λ (z : ℕ). bit_or z (p / 2)) (sym e₁) ∙ e' ∙ ap (λ (z : ℕ). bit_or z (q / 2)) e₁) in
    let e₀' : max (max (a % 2) (b % 2)) (p % 2) ≡ max (max (a % 2) (b % 2)) (q % 2) =
    ap (λ (d : ℕ). max d (p % 2)) (sym (or_odd a b)) ∙ e₀ ∙ ap (λ (d : ℕ). max d (q % 2)) (or_odd a b) in
    let last : min (X % 2) (M % 2) ≡ p % 2 =
    ap₂ min (or_odd p q) (flip_odd k a ha)
    ∙ digit_and (p % 2) (q % 2) (a % 2) (b % 2) (digit_lt p) (digit_lt q) (digit_lt a) (digit_lt b) ep₀ eq₀ e₀' in
    and_step X M ∙ ap₂ (λ (z d : ℕ). z * 2 + d) halves last ∙ omega arith
