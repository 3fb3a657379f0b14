-- `protection::user_mode` meets its contract: the mask leaves the one bit PR.
use Prim.Native.Nat.{◌/◌}
use lib.Bits.{and_mask}
use Rattle.protection.specs.Access.{user_mode}
use Rattle.protection.proofs.user_mode.Goals as goal

pub returns : goal.returns
unfolding user_mode
returns c = rw (and_mask (c.args.mode / 4) 1)
