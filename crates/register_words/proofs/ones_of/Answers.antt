-- `register_words::ones_of` meets its contract: the place of the highest one of BL, with a one below it, is where the ones end.
use Rattle.std.proofs.Common.{arith}
use Rattle.register_words.proofs.Asked.{field_some, ones_are}
use Rattle.register_words.proofs.ones_of.Goals as goal

pub highest-requires : goal.highest-requires
highest-requires c = field_some c.args.pair

pub returns : goal.returns
returns c =
    let (is, within) = c.highest.ensures in
    ones_are c.args.pair c.highest.result is within _ (omega arith) (omega arith)
