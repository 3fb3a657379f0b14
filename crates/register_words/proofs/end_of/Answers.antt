-- `register_words::end_of` meets its contract: above its low 49 bits, which are ones, stand BEPI and the ones of the length.
use Rattle.std.proofs.Common.{◌≡◌, ℕ, ◌+◌, ◌-◌, ◌*◌, ◌/◌, ◌%◌, ◌^◌, sym, ap, ◌∙◌, ap₂, arith}
use lib.Bits.{bit_or, or_shr, or_mod, or_zero_r}
use lib.Pow.{split}
use Rattle.words.proofs.Masks.{or_full}
use Rattle.register_words.specs.Asked.{last_of}
use Rattle.register_words.specs.Block.{bepi_of}
use Rattle.register_words.proofs.Asked.{ones_top}
use Rattle.register_words.proofs.end_of.Goals as goal

pub returns : goal.returns
unfolding last_of
returns c =
    let pair = c.args.pair in
    let ones = c.args.ones in
    let fits = c.ranges.pair.fits in
    let end = bit_or (bit_or pair ones) (2 ^ 49 - 1) in
    let first : pair / 2 ^ 49 ≡ bepi_of (pair / 2 ^ 32) = omega arith in
    let above : end / 2 ^ 49 ≡ last_of (pair / 2 ^ 32) =
    or_shr (bit_or pair ones) (2 ^ 49 - 1) 49
    ∙ or_zero_r (bit_or pair ones / 2 ^ 49)
    ∙ or_shr pair ones 49
    ∙ ap₂ bit_or first (ap (λ (n : ℕ). n / 2 ^ 49) c.requires ∙ ones_top pair) in
    let below : end % 2 ^ 49 ≡ 2 ^ 49 - 1 = or_mod (bit_or pair ones) (2 ^ 49 - 1) 49 ∙ or_full 49 (bit_or pair ones) in
    sym (split end 49) ∙ ap₂ (λ (x y : ℕ). x * 2 ^ 49 + y) above below
