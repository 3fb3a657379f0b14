-- `register_words::block_attributes` meets its contract: the mask leaves four bits.
use Rattle.std.proofs.Common.{◌/◌, ◌^◌}
use lib.Bits.{and_mask}
use Rattle.register_words.specs.Block.{block_attributes}
use Rattle.register_words.proofs.block_attributes.Goals as goal

pub returns : goal.returns
unfolding block_attributes
returns c = and_mask (c.args.lower / 2 ^ 3) 4
