-- `cases::case1` is safe: SDR1 0F980007 has its shape, and the page's groups lie in its table.
use lib.Ieee.{size, span, climb}
use mathlib.Core.Path.{◌≡◌, refl}
use mathlib.Core.Bool.{true}
use Rattle.words.specs.Ones.{low_ones}
use Rattle.register_words.specs.Sdr1.{sdr1_shape, hash_bits}
use Rattle.groups.specs.Hash.{groups_of}
use Rattle.groups.proofs.Hash.{primary_lt, secondary_lt}
use Rattle.test_cases.proofs.case1.Goals as goal

shape : sdr1_shape 0x0F980007 ≡ true
unfolding sdr1_shape low_ones size span climb
shape = refl

pub hash_mask-requires : goal.hash_mask-requires
hash_mask-requires c = shape

pub group_address-primary-requires : goal.group_address-primary-requires
unfolding groups_of
group_address-primary-requires c =
    let n = hash_bits 0x0F980007 in
    (shape, rw (c.groups_of-numbers.ensures n c.hash_mask.ensures) (primary_lt n c.hash_of-hash.result))

pub group_address-secondary-requires : goal.group_address-secondary-requires
unfolding groups_of
group_address-secondary-requires c =
    let n = hash_bits 0x0F980007 in
    (shape, rw (c.groups_of-numbers.ensures n c.hash_mask.ensures) (secondary_lt n c.hash_of-hash.result))
