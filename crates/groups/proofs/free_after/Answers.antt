-- `groups::free_after` meets its contract. The invariant: the number tells the free ones among the entries passed, behind those told before.
use mathlib.Core.Path.{◌≡◌, refl, ap, ◌∙◌}
use native.Mathlib.Omega.{arith}
use mir.Val.{bool_byte}
use Rattle.groups.specs.Group.{free_to, free_after}
use Rattle.groups.proofs.Free.{free_more}
use Rattle.groups.proofs.free_after.Goals as goal

pub loop-entry-init : goal.loop-entry-init
unfolding free_to
loop-entry-init c = λ l. refl

pub loop-entry-preserved : goal.loop-entry-preserved
loop-entry-preserved c fits =
    free_more c.args.before c.args.group.now c.loop-entry.entry _ _ fits (omega arith) (c.loop-entry.invariant fits) (c.from.ensures ∙ ap bool_byte c.entry_free.ensures)

pub returns : goal.returns
unfolding free_after
returns c fits = let e : c.loop-entry.entry ≡ 8 = omega arith in rw e at (c.loop-entry.invariant fits)
