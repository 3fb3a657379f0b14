-- `register_pages::side_of` meets its contract. The invariant of both loops: what the laws of Pass say of the pairs that were passed.
use mathlib.Core.Path.{◌≡◌}
use Prim.Native.Nat.{◌+◌, ◌-◌, ◌/◌, ◌%◌, ◌≤◌}
use lib.ListN.{length}
use Rattle.register_pages.proofs.Pass.{Seen}
use Rattle.register_pages.proofs.side_of.Given as goal

abbrev pub invariant-loop-i : goal.invariant-loop-i
invariant-loop-i l = (l.i ≤ 4) × Seen l.lengths l.sum l.pairs (l.at / 8 + l.i) l.any l.falls l.end

abbrev pub decreases-loop-i : goal.decreases-loop-i
decreases-loop-i l = 4 - l.i

abbrev pub invariant-loop-at : goal.invariant-loop-at
invariant-loop-at l = (l.at ≤ length l.pairs) × (l.at % 32 ≡ 0) × Seen l.lengths l.sum l.pairs (l.at / 8) l.any l.falls l.end

abbrev pub decreases-loop-at : goal.decreases-loop-at
decreases-loop-at l = length l.pairs - l.at
