-- `cache::holds` meets its contract: the shifted first word is V and VSID, and the third word is the page index.
use borrow.Author.Rules.{rules}
use Rattle.words.specs.Words.{word_at}
use Rattle.words.proofs.Words.{word_lt}
use Rattle.cache.specs.Cache.{holds}
use Rattle.cache.proofs.Steps.{tag_same}
use Rattle.cache.proofs.holds.Goals as goal

pub returns : goal.returns
unfolding holds
returns c place e =
    let a = c.args in
    let s = a.cache.now in
    let fits = word_lt s a.at (search rules) in
    rw (c.read_word.ensures, c.read_word-2.ensures, ← e, tag_same (word_at s a.at) a.page.vsid fits c.requires.1)
