-- `register_pages::any_on` meets its contract. The invariant: each pair that was passed is off.
use mathlib.Core.Bool.{true}
use mathlib.Core.Path.{◌≡◌}
use Prim.Native.Nat.{◌/◌, ◌≤◌}
use lib.ListN.{length}
use Rattle.register_pages.specs.Side.{pairs_off}
use Rattle.register_pages.proofs.any_on.Given as goal

abbrev pub invariant-loop-i : goal.invariant-loop-i
invariant-loop-i l = (l.i ≤ length l.pairs / 8) × (pairs_off l.pairs l.i ≡ true)
