-- What rows compute with: where `registers-compute` unfolds, so does every definition of this crate and of those below.
use Rattle.register_words.proofs.Computes.{register_words_compute}
use Rattle.registers.specs.Set.{segments_shape, side_shape, pair_apart, side_apart, check_words, pair_covers, covering_pair, replacing}
use Rattle.registers.specs.Set.{register_words, spread, widened, set_words}
use Rattle.registers.specs.Examples.{blank, one, two, three, long_two}

unfoldable pub registers_compute : Unit {0}
unfolding register_words_compute segments_shape side_shape pair_apart side_apart check_words pair_covers covering_pair replacing register_words spread widened set_words blank one two three long_two
registers_compute = tt
