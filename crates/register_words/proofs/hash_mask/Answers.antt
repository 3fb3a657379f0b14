-- `register_words::hash_mask` meets its contract: a mask 2 ^ k - 1 moved up by ten, and ten ones below it, are 2 ^ (10 + k) - 1.
use Rattle.std.proofs.Common.{◌≡◌, ◌*◌, ◌%◌, ◌^◌, arith, pow_pos, pow-add}
use lib.Bits.{and_mask}
use Rattle.words.proofs.Masks.{or_sum}
use Rattle.register_words.specs.Sdr1.{hash_bits, mask_ones}
use Rattle.register_words.proofs.Sdr1.{mask_is}
use Rattle.register_words.proofs.hash_mask.Goals as goal

pub returns : goal.returns
unfolding hash_bits
returns c =
    let m = c.args.sdr1 % 2 ^ 9 in
    let e : (m * 2 ^ 10) % 2 ^ 32 ≡ m * 2 ^ 10 = omega arith in
    rw (and_mask c.args.sdr1 9, e, or_sum 10 (m * 2 ^ 10) 1023 (omega arith) (omega arith))
    (omega (arith, mask_is c.args.sdr1 c.requires, pow-add 2 10 (mask_ones c.args.sdr1), pow_pos (mask_ones c.args.sdr1)))
