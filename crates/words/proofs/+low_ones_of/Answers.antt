-- `words::low_ones_of` meets its contract: a field that is not 0 has one binary digit more than it has without its lowest bit.
use mathlib.Core.Path.{◌≡◌, sym, ap, ◌∙◌}
use Prim.Native.Nat.{ℕ, suc, ◌-◌, ◌+◌, ◌/◌, ◌^◌, ◌≤◌}
use native.Mathlib.Omega.{arith}
use lib.Dec.{eqb}
use lib.Ieee.{size}
use lib.Pow.{ones_split, ones_lt, high}
use Rattle.words.proofs.Ones.{size_zero, size_step}
use Rattle.words.proofs.+low_ones_of.Goals as goal

-- 32 ones without the lowest n
ones_shifted : (n : ℕ) → n ≤ 32 → 4294967295 / 2 ^ n ≡ 2 ^ (32 - n) - 1
ones_shifted n h =
    let e : 32 - n + n ≡ 32 = omega arith in
    ap (λ (x : ℕ). x / 2 ^ n) (ap (λ (k : ℕ). 2 ^ k - 1) (sym e) ∙ ones_split (32 - n) n) ∙ high (2 ^ (32 - n) - 1) n (ones_lt n)

pub returns-then-field-eq0 : goal.returns-then-field-eq0
returns-then-field-eq0 t c =
    let a = c.args in
    let z : size a.field ≡ 0 = ap size c.if-field-eq0.true ∙ size_zero in
    let k : 32 - a.n ≡ 32 - (a.n - size a.field) = omega arith in
    ap (λ (x : ℕ). eqb a.whole x) (ones_shifted a.n (omega arith) ∙ ap (λ (m : ℕ). 2 ^ m - 1) k)

pub overflow_sub-n : goal.overflow_sub-n
overflow_sub-n t c = omega (arith, size_step c.args.field c.if-field-eq0.false)

pub low_ones_of-requires : goal.low_ones_of-requires
low_ones_of-requires t c =
    let s = size_step c.args.field c.if-field-eq0.false in
    (omega arith, (omega arith, omega arith))

pub returns : goal.returns
returns t c =
    let a = c.args in
    let s : size a.field ≡ suc (size (a.field / 2)) = size_step a.field c.if-field-eq0.false in
    let k : 32 - (a.n - 1 - size (a.field / 2)) ≡ 32 - (a.n - size a.field) = omega arith in
    c.low_ones_of.ensures ∙ ap (λ (m : ℕ). eqb a.whole (2 ^ m - 1)) k
