-- `words::highest_of` meets its contract: a field that is not 0 has one binary digit more than it has without its lowest bit.
use mathlib.Core.Path.{◌≡◌, ap, ◌∙◌}
use Prim.Native.Nat.{suc, ◌-◌, ◌/◌}
use native.Mathlib.Omega.{arith}
use lib.Ieee.{size}
use Rattle.words.proofs.Ones.{size_zero, size_step}
use Rattle.words.proofs.+highest_of.Goals as goal

pub overflow_sub-result : goal.overflow_sub-result
overflow_sub-result t c =
    let z : size c.args.field ≡ 0 = ap size c.if-field-eq0.true ∙ size_zero in
    omega arith

pub returns-then-field-eq0 : goal.returns-then-field-eq0
returns-then-field-eq0 t c =
    let z : size c.args.field ≡ 0 = ap size c.if-field-eq0.true ∙ size_zero in
    omega arith

pub overflow_sub-n : goal.overflow_sub-n
overflow_sub-n t c = omega (arith, size_step c.args.field c.if-field-eq0.false)

pub highest_of-requires : goal.highest_of-requires
highest_of-requires t c =
    let s = size_step c.args.field c.if-field-eq0.false in
    (omega arith, (omega arith, omega arith, omega arith))

pub returns : goal.returns
returns t c =
    let a = c.args in
    let s : size a.field ≡ suc (size (a.field / 2)) = size_step a.field c.if-field-eq0.false in
    let k : 31 - (a.n - 1 - size (a.field / 2)) ≡ 31 - (a.n - size a.field) = omega arith in
    c.highest_of.ensures ∙ k
