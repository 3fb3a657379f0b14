-- What rows compute with: where `words-compute` unfolds, so does every definition of this crate.
use lib.Ieee.{size, span, climb}
use Rattle.words.specs.Ones.{low_ones}
use Rattle.words.specs.Words.{word_bytes, word_at, swapped, with_word, bytes_of, words_at}
use Rattle.words.specs.Below.{every_below, first_below}

unfoldable pub words_compute : Unit {0}
unfolding low_ones size span climb word_bytes word_at swapped with_word bytes_of words_at every_below first_below
words_compute = tt
