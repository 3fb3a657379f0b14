-- `protection::is_relocated` meets its contract: the mask leaves the mode's bit of the kind.
use mathlib.Core.Path.{sym, ◌∙◌}
use Prim.Native.Nat.{◌/◌}
use lib.Bits.{and_mask}
use Rattle.protection.specs.Access.{relocated}
use Rattle.protection.proofs.is_relocated.Goals as goal

pub returns-then-is_fetch : goal.returns-then-is_fetch
unfolding relocated
returns-then-is_fetch c = rw (sym c.is_fetch.ensures ∙ c.if-is_fetch.true, and_mask (c.args.mode / 2) 1)

pub returns-else-is_fetch : goal.returns-else-is_fetch
unfolding relocated
returns-else-is_fetch c = rw (sym c.is_fetch.ensures ∙ c.if-is_fetch.false, and_mask c.args.mode 1)
