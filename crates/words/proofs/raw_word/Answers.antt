-- `words::raw_word` meets its contract: four bytes from the low end are the word of the bytes in reverse order.
use borrow.Author.Rules.{rules}
use mathlib.Core.Path.{◌∙◌}
use Rattle.words.proofs.Words.{from_low_end}
use Rattle.words.proofs.raw_word.Goals as goal

pub returns : goal.returns
returns c = c.from_le_bytes.ensures ∙ from_low_end c.args.s.now c.args.at (search rules)
