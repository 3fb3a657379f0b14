-- `groups::group_address` meets its contract: the origin's bits and those of 64 times the group do not overlap.
use mathlib.Core.Path.{◌≡◌}
use Prim.Native.Nat.{◌*◌, ◌/◌, ◌%◌, ◌^◌}
use native.Mathlib.Omega.{arith}
use lib.Dec.{lit≤}
use lib.Pow.{pow-add, pow_mono}
use Rattle.words.proofs.Masks.{and_top}
use Rattle.register_words.specs.Sdr1.{mask_ones, hash_bits}
use Rattle.register_words.proofs.Sdr1.{ones_at_most_9}
use Rattle.groups.proofs.Hash.{address_bits}
use Rattle.groups.proofs.group_address.Goals as goal

pub returns : goal.returns
unfolding hash_bits
returns c =
    let w = c.args.sdr1 in
    let g = c.args.group in
    let top : w / 2 ^ 16 * 2 ^ 16 ≡ w / 2 ^ 16 % 2 ^ 16 * 2 ^ 16 = omega (arith, c.ranges.sdr1.fits) in
    let moved : g * 2 ^ 6 % 2 ^ 32 ≡ 64 * g = omega (arith, c.requires.1, pow-add 2 10 (mask_ones w), pow_mono (ones_at_most_9 w c.requires.0)) in
    rw (and_top w 16 (lit≤ tt) c.ranges.sdr1.fits, top, moved) (address_bits w g c.requires.0 c.requires.1)
