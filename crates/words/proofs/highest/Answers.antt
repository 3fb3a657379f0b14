-- `words::highest` meets its contract: the whole field is asked, with none of its bits gone; a field that is not 0 has a bit.
use Prim.Native.Nat.{◌≤◌}
use native.Mathlib.Omega.{arith}
use lib.Ieee.{size}
use Rattle.words.proofs.Ones.{size_width, size_step}
use Rattle.words.proofs.highest.Goals as goal

pub highest_of-requires : goal.highest_of-requires
highest_of-requires c =
    let f = c.args.field in
    let most : size f ≤ 32 = size_width f 32 c.ranges.field.fits in
    let least = size_step f (λ z. omega (arith, c.requires)) in
    (omega arith, omega arith, omega arith)

pub returns : goal.returns
returns c =
    let f = c.args.field in
    let most : size f ≤ 32 = size_width f 32 c.ranges.field.fits in
    let least = size_step f (λ z. omega (arith, c.requires)) in
    let is = c.highest_of.ensures in
    (omega arith, omega arith)
