-- `register_words::sdr1_shape` meets its contract: the low half of SDR1 is below 2 ^ 9 exactly where bits 16 to 22 are zero, and then it is the mask.
use Rattle.std.proofs.Common.{◌≡◌, ℕ, ◌%◌, ◌^◌, Bool, true, false, ◌&&◌, eqb, ltb, sym, refl, ◌∙◌, arith, ltb-false, ltb-true, eq-eqb, ne_eqb}
use mathlib.Core.Bool.{and_comm}
use lib.Bits.{bit_and, and_mask, and_zero_r}
use lib.Pow.{shr_mod}
use Rattle.words.specs.Bits.{bits}
use Rattle.words.specs.Ones.{low_ones}
use Rattle.words.proofs.Ones.{true_ones}
use Rattle.register_words.specs.Sdr1.{origin_of, mask_of, sdr1_shape}
use Rattle.register_words.proofs.sdr1_shape.Goals as goal

-- the shape by the low half as one field
by_half : (w h : ℕ) → w % 2 ^ 16 ≡ h → sdr1_shape w ≡ (ltb h 512 && low_ones h && eqb (bit_and (origin_of w) h) 0)
unfolding sdr1_shape
by_half w h low = rw (and_comm (low_ones (mask_of w)) (eqb (bits 16 22 w) 0)) (go (ltb h 512) refl)
  where
    go : (t : Bool) → ltb h 512 ≡ t
        → (eqb (bits 16 22 w) 0 && low_ones (mask_of w) && eqb (bit_and (origin_of w) (mask_of w)) 0) ≡ (t && low_ones h && eqb (bit_and (origin_of w) h) 0)
    go true e =
        let small = ltb-true h 512 e in
        let mask : mask_of w ≡ h = omega arith in
        rw (eq-eqb (bits 16 22 w) 0 (omega arith), mask)
    go false e = let large = ltb-false h 512 e in rw (ne_eqb (bits 16 22 w) 0 (λ z. omega arith))

pub returns-then-mask-eq0 : goal.returns-then-mask-eq0
returns-then-mask-eq0 c =
    let w = c.args.sdr1 in
    rw (by_half w 0 (sym (and_mask w 16) ∙ c.if-mask-eq0.true), true_ones 0 0 refl, and_zero_r (origin_of w))

pub returns : goal.returns
returns c =
    let w = c.args.sdr1 in
    rw (by_half w (bit_and w 0xFFFF) (sym (and_mask w 16)), c.low_ones.ensures, shr_mod 16 16 c.ranges.sdr1.fits)
