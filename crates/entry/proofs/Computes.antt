-- What rows compute with: where `entry-computes` unfolds, so does every definition of this crate and of `words`.
use Rattle.words.proofs.Computes.{words_compute}
use Rattle.entry.specs.Entry.{first_word, second_word, ignored_bits, within_widths, packed, unpacked, matches, free}
use Rattle.entry.specs.Entry.{page_index, api_of, referenced, changed, with_marks, with_pp, physical_address}

unfoldable pub entry_computes : Unit {0}
unfolding words_compute first_word second_word ignored_bits within_widths packed unpacked matches free page_index api_of referenced changed with_marks with_pp physical_address
entry_computes = tt
