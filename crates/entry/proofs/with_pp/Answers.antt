-- `entry::with_pp` meets its contract: the mask clears PP alone, and the new one has no bit in common with what is left.
use Prim.Native.Nat.{◌/◌, ◌*◌, ◌^◌}
use native.Mathlib.Omega.{arith}
use lib.Dec.{lit≤}
use Rattle.words.proofs.Masks.{or_sum, and_top}
use Rattle.entry.specs.Entry.{with_pp}
use Rattle.entry.proofs.with_pp.Goals as goal

pub returns : goal.returns
unfolding with_pp
returns c =
    let w = c.args.second in
    rw (and_top w 2 (lit≤ tt) c.ranges.second.fits, or_sum 2 (w / 2 ^ 2 * 2 ^ 2) c.args.pp (omega arith) c.requires) (omega arith)
