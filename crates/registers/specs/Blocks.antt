-- What the tests of blocks decide: refusal 4 speaks of a shared address, and after the check at most one block covers an address.
use Rattle.std.specs.Prelude.{ℕ, ◌+◌, ◌/◌, ◌^◌, ◌<◌, Bool, true, List, ◌↔◌, ◌≡◌}
use Rattle.std.specs.Float.Ieee.{size}
use Rattle.register_words.specs.Block.{bl_of, upper_shape, in_block, share_address}
use Rattle.registers.specs.Set.{check_words, pair_covers}

pub record BlocksDecide (pairs width : ℕ) : Type 0 where
  -- a block of right shape whose BL has k ones holds the 2 ^ (17 + k) addresses that agree with its start above them
  pub holds : (upper address : ℕ) → upper < 2 ^ 32 → address < 2 ^ 32 → upper_shape width upper ≡ true
      → (in_block width upper address ≡ true)
      ↔ (address / 2 ^ (17 + size (bl_of width upper)) ≡ upper / 2 ^ (17 + size (bl_of width upper)))
  -- two blocks of right shape share an address by the test exactly when some effective address lies in both
  pub shares : (upper₁ upper₂ : ℕ) → upper_shape width upper₁ ≡ true → upper_shape width upper₂ ≡ true
      → (share_address width upper₁ upper₂ ≡ true)
      ↔ ((address : ℕ) × ((address < 2 ^ 32) × ((in_block width upper₁ address ≡ true) × (in_block width upper₂ address ≡ true))))
  -- in a set that passed the check at most one pair of a side covers an address
  pub at_most_one : (words : List ℕ) → check_words pairs width words ≡ 0 → (side user : Bool) (address i j : ℕ) → i < pairs → j < pairs
      → pair_covers pairs width words side user address i ≡ true → pair_covers pairs width words side user address j ≡ true → i ≡ j
