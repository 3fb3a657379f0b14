-- `register_words::block_physical` meets its contract: BRPN and the BL bits stay below 2 ^ 15, so the shift loses nothing.
use Rattle.std.proofs.Common.{◌≡◌, ◌*◌, ◌/◌, ◌%◌, ◌^◌, ◌<◌, div-one, arith}
use lib.Bits.{bit_and, bit_or, and_mask, or_lt, and_le_l}
use lib.Pow.{shr_mod}
use Rattle.words.proofs.Masks.{or_sum}
use Rattle.register_words.specs.Block.{block_physical}
use Rattle.register_words.proofs.block_physical.Goals as goal

pub returns : goal.returns
unfolding block_physical
returns c =
    let a = c.args.address in
    let put = bit_and (a / 2 ^ 17) (c.args.upper / 2 ^ 2 % 2 ^ 15) in
    let start = bit_or (c.args.lower / 2 ^ 17) put in
    let inside : start < 2 ^ 15 =
    or_lt 15 (c.args.lower / 2 ^ 17) put (omega arith) (omega (arith, and_le_l (a / 2 ^ 17) (c.args.upper / 2 ^ 2 % 2 ^ 15))) in
    let e : (start * 2 ^ 17) % 2 ^ 32 ≡ start * 2 ^ 17 = omega arith in
    rw (
      and_mask (c.args.upper / 2 ^ 2) 15,
      e,
      and_mask a 17,
      or_sum 17 (start * 2 ^ 17) (a % 2 ^ 17) (omega arith) (omega arith),
      shr_mod 15 17 c.ranges.lower.fits,
      shr_mod 15 17 c.ranges.address.fits,
      div-one a,
    )
