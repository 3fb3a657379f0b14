-- `words::write_words` meets its contract. The invariant: the first `i` words are written; once all are, their bytes fill the slice.
use mathlib.Core.Path.{◌≡◌}
use lib.ListN.{length, take}
use Rattle.words.proofs.Words.{written}
use Rattle.words.proofs.write_words.Given as goal

abbrev pub invariant-loop-i : goal.invariant-loop-i
invariant-loop-i l = (length l.s ≡ length l.initial.s) × (l.s ≡ written l.initial.s 0 (take l.i l.words))
