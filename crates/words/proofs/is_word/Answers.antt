-- `words::is_word` meets its contract: two words are equal where they are in reverse order.
use borrow.Author.Rules.{rules}
use Rattle.words.specs.Words.{word_at}
use Rattle.words.proofs.Words.{word_lt, reverse_same}
use Rattle.words.proofs.is_word.Goals as goal

pub returns : goal.returns
returns c =
    let v = word_at c.args.s.now c.args.at in
    let fits = word_lt c.args.s.now c.args.at (search rules) in
    (fits, λ w lt same. rw (c.raw_word.ensures, same) (reverse_same v w fits lt))
