-- `groups::hash_of` meets its contract: the mask of 19 ones leaves the low 19 bits of the VSID.
use lib.Bits.{and_mask}
use Rattle.groups.specs.Hash.{hash_of}
use Rattle.groups.proofs.hash_of.Goals as goal

pub returns : goal.returns
unfolding hash_of
returns c = rw (and_mask c.args.vsid 19)
