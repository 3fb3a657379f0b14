-- `words::write_word` meets its contract: the four stores are the run of stores of the word's bytes.
use mathlib.Core.Path.{◌≡◌, ap, ◌∙◌}
use native.Mathlib.Numerals.{towards_numerals}
use native.Mathlib.Omega.{arith}
use lib.ListN.{length-set}
use Rattle.std.specs.Int.{w32, to_le_bytes}
use Rattle.words.specs.Words.{with_word, word_bytes}
use Rattle.words.proofs.Words.{low_bytes_swapped}
use Rattle.words.proofs.write_word.Goals as goal

pub bounds-s-at-2 : goal.bounds-s-at-2
bounds-s-at-2 c = simp length-set (omega arith)

pub bounds-s-at-3 : goal.bounds-s-at-3
bounds-s-at-3 c = simp length-set (omega arith)

pub bounds-s-at-4 : goal.bounds-s-at-4
bounds-s-at-4 c = simp length-set (omega arith)

pub returns : goal.returns
unfolding with_word word_bytes
returns c =
    let is : c.to_le_bytes-bytes.result ≡ word_bytes c.args.w =
    c.to_le_bytes-bytes.ensures ∙ ap (to_le_bytes w32) c.swapped.ensures ∙ low_bytes_swapped c.args.w in
    simp (towards_numerals, is)
