-- `case6` is safe: SDR1 0F980000 has its shape. Unfolding the same definitions by an attribute of the function was tried and did not close it.
use Rattle.std.specs.Prelude.{refl}
use Rattle.std.specs.Float.Ieee.{size, span, climb}
use Rattle.words.specs.Ones.{low_ones}
use Rattle.register_words.specs.Sdr1.{sdr1_shape}
use Rattle.test_cases.proofs.case6.Goals as goal

pub hash_mask-requires : goal.hash_mask-requires
unfolding sdr1_shape low_ones size span climb
hash_mask-requires c = refl
