-- The tests of blocks decide what they are meant to: two pairs that cover one address would clash, so that a checked set has at most one.
use Prim.Native.Nat.{ℕ, ◌≤◌, ◌<◌}
use mathlib.Core.Bool.{Bool, true, not, true≢false}
use mathlib.Core.List.{List}
use mathlib.Core.Logic.{⊎_elim}
use mathlib.Core.Path.{◌≡◌, sym, ap, ◌∙◌}
use Rattle.words.proofs.Below.{every_at}
use Rattle.words.proofs.Tests.{three}
use Rattle.register_words.specs.Block.{clash}
use Rattle.registers.specs.Set.{check_words, upper_of, side_apart, pair_apart, pair_covers}
use Rattle.registers.specs.Blocks.{BlocksDecide}
use Rattle.registers.proofs.Set.{checked}
use Rattle.register_words.proofs.Blocks.{covered_share, share_witness, holds_range, covers_clash}

module _ (pairs width : ℕ) (wide : width ≤ 15) where
  module _ (words : List ℕ) where
    pub before : (side user : Bool) (address i j : ℕ) → side_apart pairs width words side ≡ true → i < j → j < pairs
        → pair_covers pairs width words side user address i ≡ true → pair_covers pairs width words side user address j ≡ true → ⊥
    unfolding side_apart pair_apart pair_covers
    before side user address i j apart l h c₁ c₂ =
        let free = every_at (λ x. not (clash width (upper_of pairs words side x) (upper_of pairs words side j))) j i (every_at (pair_apart pairs width words side) pairs j apart h) l in
        true≢false (sym free ∙ ap not (covers_clash width wide user (upper_of pairs words side i) (upper_of pairs words side j) address c₁ c₂))

    one : check_words pairs width words ≡ 0 → (side user : Bool) (address i j : ℕ) → i < pairs → j < pairs
        → pair_covers pairs width words side user address i ≡ true → pair_covers pairs width words side user address j ≡ true → i ≡ j
    one passed side user address i j hi hj c₁ c₂ =
        let apart = (checked pairs width words passed).apart side in
        ⊎_elim (λ l. absurd (before side user address i j apart l hj c₁ c₂))
        (λ r. ⊎_elim (λ e. e) (λ g. absurd (before side user address j i apart g hi c₂ c₁)) r)
        (three i j)

  pub blocks_decide : BlocksDecide pairs width
  blocks_decide = record {
    holds = holds_range width wide;
    shares = λ u₁ u₂ shape₁ shape₂. (share_witness width wide u₁ u₂ shape₁ shape₂, λ w. covered_share width wide u₁ u₂ w.0 w.1.1.0 w.1.1.1);
    at_most_one = one;
  }
