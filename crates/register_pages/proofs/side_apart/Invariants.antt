-- `register_pages::side_apart` meets its contract. The invariant: each pair that was passed is apart from those before it.
use mathlib.Core.Bool.{true}
use mathlib.Core.Path.{◌≡◌}
use Prim.Native.Nat.{◌-◌, ◌/◌, ◌%◌, ◌≤◌}
use lib.ListN.{length}
use Rattle.register_pages.specs.Side.{pairs_apart}
use Rattle.register_pages.proofs.side_apart.Given as goal

abbrev pub invariant-loop-at : goal.invariant-loop-at
invariant-loop-at l = (l.at ≤ length l.pairs) × (l.at % 8 ≡ 0) × (pairs_apart l.pairs (l.at / 8) ≡ true)

abbrev pub decreases-loop-at : goal.decreases-loop-at
decreases-loop-at l = length l.pairs - l.at
