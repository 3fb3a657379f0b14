-- `groups::free_after` meets its contract. The invariant: the number tells the free ones among the entries passed, behind those told before.
use Prim.Native.Nat.{◌<◌, ◌^◌}
use mathlib.Core.Path.{◌≡◌}
use Rattle.groups.specs.Group.{free_to}
use Rattle.groups.proofs.free_after.Given as goal

abbrev pub invariant-loop-entry : goal.invariant-loop-entry
invariant-loop-entry l = l.before < 2 ^ 8 → l.free ≡ free_to l.before l.group l.entry
