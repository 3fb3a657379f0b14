-- `register_pages::pair_apart` meets its contract. The invariant: the block is apart from each pair that was passed.
use mathlib.Core.Bool.{true}
use mathlib.Core.Path.{◌≡◌}
use Prim.Native.Nat.{◌-◌, ◌/◌, ◌%◌, ◌≤◌}
use Rattle.register_pages.specs.Side.{apart_from}
use Rattle.register_pages.proofs.pair_apart.Given as goal

abbrev pub invariant-loop-before : goal.invariant-loop-before
invariant-loop-before l = (l.before ≤ l.at) × (l.before % 8 ≡ 0) × (apart_from l.pairs l.own (l.before / 8) ≡ true)

abbrev pub decreases-loop-before : goal.decreases-loop-before
decreases-loop-before l = l.at - l.before
