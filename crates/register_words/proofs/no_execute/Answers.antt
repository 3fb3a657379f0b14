-- `register_words::no_execute` meets its contract: the mask leaves the one bit N.
use Rattle.std.proofs.Common.{◌/◌, ◌^◌}
use lib.Bits.{and_mask}
use Rattle.register_words.specs.Segment.{no_execute}
use Rattle.register_words.proofs.no_execute.Goals as goal

pub returns : goal.returns
unfolding no_execute
returns c = rw (and_mask (c.args.word / 2 ^ 28) 1)
