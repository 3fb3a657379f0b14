-- `words::low_ones` meets its contract: the whole field is asked, with none of its bits gone.
use mathlib.Core.Path.{◌≡◌, ap, ◌∙◌}
use Prim.Native.Nat.{ℕ, ◌-◌, ◌^◌, ◌≤◌}
use native.Mathlib.Omega.{arith}
use lib.Dec.{eqb}
use lib.Ieee.{size}
use Rattle.words.specs.Ones.{low_ones}
use Rattle.words.proofs.Ones.{size_width}
use Rattle.words.proofs.low_ones.Goals as goal

pub low_ones_of-requires : goal.low_ones_of-requires
low_ones_of-requires c = (size_width c.args.field 32 c.ranges.field.fits, omega arith)

pub returns : goal.returns
unfolding low_ones
returns c =
    let f = c.args.field in
    let h : size f ≤ 32 = size_width f 32 c.ranges.field.fits in
    let k : 32 - (32 - size f) ≡ size f = omega arith in
    c.low_ones_of.ensures ∙ ap (λ (m : ℕ). eqb f (2 ^ m - 1)) k
