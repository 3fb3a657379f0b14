-- `groups::free_place` meets its contract. The invariants: no entry of this group before this one is free, and no group before this one has a free
-- entry.
use Prim.Native.Nat.{ℕ, ◌-◌, ◌<◌, ◌≤◌}
use mathlib.Core.Path.{◌≡◌}
use mathlib.Core.Bool.{false, cond}
use mathlib.Core.List.{List}
use lib.Dec.{eqb}
use Rattle.groups.specs.Group.{entry_free, first_free, free_after}
use Rattle.std.specs.Prelude.{None}
use Rattle.groups.proofs.free_place.Given as goal

abbrev pub invariant-loop-entry : goal.invariant-loop-entry
invariant-loop-entry l = (l.entry ≤ 8) × (l.found ≡ None)
    × ((p s : List ℕ) → l.free ≡ free_after (free_after 0 p) s → (k : ℕ) → k < l.entry → entry_free (cond (eqb l.h 0) p s) k ≡ false)

abbrev pub decreases-loop-entry : goal.decreases-loop-entry
decreases-loop-entry l = 8 - l.entry

abbrev pub invariant-search : goal.invariant-search
invariant-search l = (l.h ≤ 2) × (l.found ≡ None) × ((p s : List ℕ) → l.free ≡ free_after (free_after 0 p) s → (k : ℕ) → k < l.h → first_free (cond (eqb k 0) p s) ≡ 8)

abbrev pub decreases-search : goal.decreases-search
decreases-search l = 2 - l.h
