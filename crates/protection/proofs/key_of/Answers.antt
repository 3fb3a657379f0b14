-- `protection::key_of` meets its contract: the mask leaves Kp or Ks.
use Prim.Native.Nat.{◌/◌, ◌^◌}
use lib.Bits.{and_mask}
use Rattle.register_words.specs.Segment.{key_of}
use Rattle.protection.proofs.key_of.Goals as goal

pub returns-then-user : goal.returns-then-user
unfolding key_of
returns-then-user c = rw (c.if-user.true, and_mask (c.args.segment / 2 ^ 29) 1)

pub returns-else-user : goal.returns-else-user
unfolding key_of
returns-else-user c = rw (c.if-user.false, and_mask (c.args.segment / 2 ^ 30) 1)
