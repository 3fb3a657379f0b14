-- What rows compute with: where `register-words-compute` unfolds, so does every definition of this crate and of those below.
use Rattle.words.proofs.Computes.{words_compute}
use Rattle.register_words.specs.Sdr1.{sdr1_shape, table_length, mask_ones, hash_bits}
use Rattle.register_words.specs.Segment.{segment_shape, key_of, no_execute, segment_vsid}
use Rattle.register_words.specs.Block.{block_attributes, block_pp, off, narrow, valid_for, common_v, upper_shape, lower_shape, block_shape, in_block, block_physical}
use Rattle.register_words.specs.Block.{share_address, clash, covers}
use Rattle.register_words.specs.Asked.{pair_ones, last_of}

unfoldable pub register_words_compute : Unit {0}
unfolding words_compute sdr1_shape table_length mask_ones hash_bits segment_shape key_of no_execute segment_vsid block_attributes block_pp off narrow valid_for common_v upper_shape lower_shape block_shape in_block block_physical share_address clash covers pair_ones last_of
register_words_compute = tt
