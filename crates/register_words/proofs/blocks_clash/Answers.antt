-- `register_words::blocks_clash` meets its contract: above the low 17 bits, which are ones in both, each mask leaves the field that the definition names.
use Rattle.std.proofs.Common.{◌≡◌, ℕ, ◌+◌, ◌-◌, ◌*◌, ◌/◌, ◌%◌, ◌^◌, ◌<◌, eqb, sym, ap, ◌∙◌, ap₂, div-one, arith}
use lib.Bits.{bit_and, bit_or, and_mask, and_mod, or_shr, or_mod, or_comm, or_zero_r}
use lib.Pow.{split}
use Rattle.words.proofs.Masks.{or_full}
use Rattle.words.proofs.Tests.{eqb_same}
use Rattle.register_words.specs.Block.{clash, common_v, share_address, bl_of, bepi_of}
use Rattle.register_words.proofs.blocks_clash.Goals as goal

module _ (a b : ℕ) (a_lt : a < 2 ^ 32) (b_lt : b < 2 ^ 32) where
  -- the BL bits of either in the places of BEPI, with ones below
  abbrev E : ℕ
  E = bit_or (a * 2 ^ 15 % 2 ^ 32) (bit_or (b * 2 ^ 15 % 2 ^ 32) 0x1FFFF)

  abbrev either : ℕ
  either = bit_or (bl_of 15 a) (bl_of 15 b)

  above : E / 2 ^ 17 ≡ either
  above =
      let moved : (w : ℕ) → w * 2 ^ 15 % 2 ^ 32 / 2 ^ 17 ≡ bl_of 15 w = λ w. omega arith in
      or_shr (a * 2 ^ 15 % 2 ^ 32) (bit_or (b * 2 ^ 15 % 2 ^ 32) 0x1FFFF) 17
      ∙ ap₂ bit_or (moved a) (or_shr (b * 2 ^ 15 % 2 ^ 32) 0x1FFFF 17 ∙ or_zero_r (b * 2 ^ 15 % 2 ^ 32 / 2 ^ 17) ∙ moved b)

  below : E % 2 ^ 17 ≡ 2 ^ 17 - 1
  below =
      or_mod (a * 2 ^ 15 % 2 ^ 32) (bit_or (b * 2 ^ 15 % 2 ^ 32) 0x1FFFF) 17
      ∙ ap (bit_or (a * 2 ^ 15 % 2 ^ 32 % 2 ^ 17)) (or_mod (b * 2 ^ 15 % 2 ^ 32) 0x1FFFF 17 ∙ or_full 17 (b * 2 ^ 15 % 2 ^ 32))
      ∙ or_full 17 (a * 2 ^ 15 % 2 ^ 32)

  -- a word with them put in
  with_ones : (w : ℕ) → w < 2 ^ 32 → bit_or w E ≡ bit_or either (bepi_of w) * 2 ^ 17 + (2 ^ 17 - 1)
  with_ones w h =
      let start : w / 2 ^ 17 ≡ bepi_of w = omega arith in
      let top : bit_or w E / 2 ^ 17 ≡ bit_or either (bepi_of w) =
      or_shr w E 17 ∙ ap₂ bit_or start above ∙ or_comm (bepi_of w) either in
      let rest : bit_or w E % 2 ^ 17 ≡ 2 ^ 17 - 1 = or_mod w E 17 ∙ ap (bit_or (w % 2 ^ 17)) below ∙ or_full 17 w in
      sym (split (bit_or w E) 17) ∙ ap₂ (λ (x y : ℕ). x * 2 ^ 17 + y) top rest

  starts : eqb (bit_or a E) (bit_or b E) ≡ eqb (bit_or either (bepi_of a)) (bit_or either (bepi_of b))
  starts =
      let p = with_ones a a_lt in
      let q = with_ones b b_lt in
      eqb_same (bit_or a E) (bit_or b E) (bit_or either (bepi_of a)) (bit_or either (bepi_of b)) (λ e. omega arith) (λ e. omega arith)

  common : bit_and (bit_and a b) 3 ≡ bit_and (a % 2 ^ 2) (b % 2 ^ 2)
  common = and_mask (bit_and a b) 2 ∙ and_mod a b 2

pub returns : goal.returns
unfolding clash common_v share_address
returns c =
    let a = c.args.first in
    let b = c.args.second in
    rw (div-one a, div-one b, common a b c.ranges.first.fits c.ranges.second.fits, starts a b c.ranges.first.fits c.ranges.second.fits)
