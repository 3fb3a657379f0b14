-- `entry::physical_address` meets its contract: one mask leaves the RPN in its place, the other the byte in the page.
use mathlib.Core.Path.{◌≡◌}
use Prim.Native.Nat.{◌/◌, ◌*◌, ◌%◌, ◌^◌}
use native.Mathlib.Nat.{div-one}
use native.Mathlib.Omega.{arith}
use lib.Bits.{and_mask}
use lib.Dec.{lit≤}
use Rattle.words.proofs.Masks.{or_sum, and_top}
use Rattle.entry.specs.Entry.{physical_address}
use Rattle.entry.proofs.physical_address.Goals as goal

pub returns : goal.returns
unfolding physical_address
returns c =
    let w = c.args.second in
    let a = c.args.address in
    let rpn : w / 2 ^ 12 % 2 ^ 20 ≡ w / 2 ^ 12 = omega arith in
    rw (
      and_top w 12 (lit≤ tt) c.ranges.second.fits,
      and_mask a 12,
      or_sum 12 (w / 2 ^ 12 * 2 ^ 12) (a % 2 ^ 12) (omega arith) (omega arith),
      rpn,
      div-one a,
    )
