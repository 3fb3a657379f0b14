-- The block that covers an address: in a set that passed the check it is the one pair that does, and it keeps the address's place in the block.
use Rattle.std.proofs.Common.{◌≡◌, ℕ, ◌+◌, ◌-◌, ◌*◌, ◌/◌, ◌%◌, ◌^◌, ◌<◌, ◌≤◌, Bool, true, false, List, sym, refl, ap, ◌∙◌, mod-lt, div-one, arith, pow_pos, eqb-true}
use lib.Bits.{bit_and, bit_or, and_mask}
use lib.Pow.{mod-pow-add, mod-mod-pow}
use lib.Ieee.{size}
use Rattle.words.specs.Bits.{bits, placed}
use Rattle.words.proofs.Below.{first_found, first_none}
use Rattle.words.proofs.Masks.{or_sum}
use Rattle.words.proofs.Ones.{ones_true}
use Rattle.words.proofs.Tests.{both}
use Rattle.register_words.specs.Block.{brpn_of, bl_of, upper_shape, lower_shape, block_physical}
use Rattle.registers.specs.Set.{check_words, pair_covers, covering_pair}
use Rattle.register_words.proofs.Blocks.{bl_ones, bl_few}
use Rattle.registers.proofs.Blocks.{blocks_decide}

module _ (pairs width : ℕ) (words : List ℕ) (side user : Bool) (address : ℕ) where
  pub covering_none : ((i : ℕ) → i < pairs → pair_covers pairs width words side user address i ≡ false) → covering_pair pairs width words side user address ≡ pairs
  unfolding covering_pair
  covering_none bare = first_none (pair_covers pairs width words side user address) pairs bare

  pub covering_one : width ≤ 15 → check_words pairs width words ≡ 0 → (i : ℕ) → i < pairs → pair_covers pairs width words side user address i ≡ true
      → covering_pair pairs width words side user address ≡ i
  unfolding covering_pair
  covering_one wide passed i h covered =
      first_found (pair_covers pairs width words side user address) pairs i h covered (λ k l. other k l (pair_covers pairs width words side user address k) refl)
    where
      other : (k : ℕ) → k < i → (t : Bool) → pair_covers pairs width words side user address k ≡ t → t ≡ false
      other k l true e = let same = (blocks_decide pairs width wide).at_most_one words passed side user address k i (omega arith) h e covered in absurd (omega arith)
      other k l false e = refl

-- a block of right shape, its BL a field of k ones
module _ (width : ℕ) (wide : width ≤ 15) (side : Bool) (upper lower address : ℕ)
    (upper-shape : upper_shape width upper ≡ true) (lower-shape : lower_shape width side upper lower ≡ true) where
  clear_brpn : bit_and (brpn_of lower) (bl_of width upper) ≡ 0
  unfolding lower_shape
  clear_brpn = eqb-true _ 0 (both _ _ (both _ _ (both _ _ (both _ _ lower-shape).0).0).0).0

  -- the address's BL bits fall into BRPN's zeros
  put_in_law : (k : ℕ) → bl_of width upper ≡ 2 ^ k - 1 → k ≤ 15
      → placed 14 (bit_or (brpn_of lower) (bit_and (bits 0 14 address) (bl_of width upper))) + bits 15 31 address ≡ placed 14 (brpn_of lower) + address % 2 ^ (17 + k)
  put_in_law k bl at_most =
      let b = brpn_of lower in
      let x = bits 0 14 address in
      let more : (15 - k) + k ≡ 15 = omega arith in
      let clear : b % 2 ^ k ≡ 0 = sym (and_mask b k) ∙ ap (bit_and b) (sym bl) ∙ clear_brpn in
      let bl-bits : bit_and x (bl_of width upper) ≡ x % 2 ^ k = ap (bit_and x) bl ∙ and_mask x k in
      let of-address : x % 2 ^ k ≡ address / 2 ^ 17 % 2 ^ k = rw more at (mod-mod-pow (address / 2 ^ 17) (15 - k) k) in
      let sum : bit_or b (bit_and x (bl_of width upper)) ≡ b + address / 2 ^ 17 % 2 ^ k =
      ap (bit_or b) (bl-bits ∙ of-address) ∙ or_sum k b (address / 2 ^ 17 % 2 ^ k) clear (mod-lt (address / 2 ^ 17) (pow_pos k)) in
      let low : address % 2 ^ (k + 17) ≡ (address / 2 ^ 17 % 2 ^ k) * 2 ^ 17 + address % 2 ^ 17 = mod-pow-add address k 17 in
      let order : 17 + k ≡ k + 17 = omega arith in
      rw (sum, order, low, div-one address) (omega arith)

  pub block_offset : block_physical width upper lower address ≡ placed 14 (brpn_of lower) + address % 2 ^ (17 + size (bl_of width upper))
  unfolding block_physical
  block_offset = put_in_law (size (bl_of width upper)) (ones_true (bl_of width upper) (bl_ones width wide upper upper-shape)) (bl_few width wide upper upper-shape)
