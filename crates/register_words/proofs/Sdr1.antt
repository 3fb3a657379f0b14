-- What the shape of SDR1 says of its mask, and that every SDR1 made of an origin and k ones has the shape.
--   mask_is, ones_at_most_9: where SDR1 has its shape its mask is k ones, and k is at most 9
--   length_is: its table has 65,536 × 2 ^ k bytes
--   made_shape: an SDR1 made of an origin that 2 ^ k divides and of k ones has the shape
--   made_ones, made_length: its k, and the length of its table
use Rattle.std.proofs.Common.{◌≡◌, ℕ, ◌+◌, ◌-◌, ◌*◌, ◌/◌, ◌%◌, ◌^◌, ◌≤◌, true, refl, ap, ◌∙◌, arith, pow_pos, pow_mono, eq-eqb}
use lib.Bits.{bit_and, and_mask}
use lib.Pow.{mod-mod-pow}
use lib.Ieee.{size}
use Rattle.words.specs.Ones.{low_ones}
use Rattle.words.proofs.Ones.{ones_true, true_ones, size_ones, ones_width}
use Rattle.words.proofs.Tests.{both}
use Rattle.register_words.specs.Sdr1.{origin_of, mask_of, sdr1_shape, table_length, mask_ones}

module _ (sdr1 : ℕ) (shape : sdr1_shape sdr1 ≡ true) where
  low_mask : low_ones (mask_of sdr1) ≡ true
  unfolding sdr1_shape
  low_mask = (both _ _ (both _ _ shape).0).0

  -- the mask is k ones
  pub mask_is : mask_of sdr1 ≡ 2 ^ mask_ones sdr1 - 1
  unfolding mask_ones
  mask_is = ones_true (mask_of sdr1) low_mask

  pub ones_at_most_9 : mask_ones sdr1 ≤ 9
  unfolding mask_ones
  ones_at_most_9 = ones_width (mask_of sdr1) 9 low_mask (omega arith)

  -- the table has 65,536 × 2 ^ k bytes
  pub length_is : table_length sdr1 ≡ 65536 * 2 ^ mask_ones sdr1
  unfolding table_length
  length_is = ap (λ (n : ℕ). 65536 * n) (omega (arith, mask_is, pow_pos (mask_ones sdr1)))

-- an SDR1 of origin o and k ones, where 2 ^ k divides o
module _ (o k : ℕ) (few : k ≤ 9) (whole : o % 2 ^ k ≡ 0) where
  made_mask : mask_of (o * 65536 + (2 ^ k - 1)) ≡ 2 ^ k - 1
  made_mask = omega (arith, pow_mono few, pow_pos k)

  made_origin : origin_of (o * 65536 + (2 ^ k - 1)) ≡ o % 2 ^ 16
  made_origin =
      let high : (o * 65536 + (2 ^ k - 1)) / 2 ^ 16 ≡ o = omega (arith, pow_mono few, pow_pos k) in
      rw high

  -- no bit of the origin lies under the mask
  clear_origin : bit_and (o % 2 ^ 16) (2 ^ k - 1) ≡ 0
  clear_origin =
      let width : (16 - k) + k ≡ 16 = omega arith in
      and_mask (o % 2 ^ 16) k ∙ (rw width at (mod-mod-pow o (16 - k) k)) ∙ whole

  pub made_ones : mask_ones (o * 65536 + (2 ^ k - 1)) ≡ k
  unfolding mask_ones
  made_ones = ap size made_mask ∙ size_ones k

  pub made_length : table_length (o * 65536 + (2 ^ k - 1)) ≡ 65536 * 2 ^ k
  unfolding table_length
  made_length = ap (λ (n : ℕ). 65536 * n) (omega (arith, made_mask, pow_pos k))

  pub made_shape : sdr1_shape (o * 65536 + (2 ^ k - 1)) ≡ true
  unfolding sdr1_shape
  made_shape =
      let w = o * 65536 + (2 ^ k - 1) in
      let zero_bits : w / 2 ^ 9 % 2 ^ 7 ≡ 0 = omega (arith, pow_mono few, pow_pos k) in
      rw (
        made_mask,
        true_ones (2 ^ k - 1) k refl,
        eq-eqb (w / 2 ^ 9 % 2 ^ 7) 0 zero_bits,
        made_origin,
        eq-eqb (bit_and (o % 2 ^ 16) (2 ^ k - 1)) 0 clear_origin,
      )
