-- `groups::groups_of` meets its contract: under n ones the hash leaves its low n bits, and exclusive or with the ones leaves their complement.
use Prim.Native.Nat.{◌%◌, ◌^◌}
use native.Mathlib.Nat.{mod-lt}
use lib.Bits.{and_mask}
use lib.Pow.{pow_pos}
use Rattle.groups.specs.Hash.{groups_of, primary_group, secondary_group}
use Rattle.groups.proofs.Hash.{xor_ones}
use Rattle.groups.proofs.groups_of.Goals as goal

pub returns : goal.returns
unfolding groups_of primary_group secondary_group
returns c n e =
    let h = c.args.hash in
    rw (e, and_mask h n, xor_ones n (h % 2 ^ n) (mod-lt h (pow_pos n)))
