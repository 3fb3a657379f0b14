-- `register_words::asked_of` meets its contract: what the ones leave of the pair is what the laws of Shape speak of, for either page and side.
use Rattle.std.proofs.Common.{◌≡◌, ℕ, Bool, true, false, refl, ◌∙◌, ap₂}
use lib.Bits.{bit_and, bit_xor}
use Rattle.register_words.specs.Asked.{bl_place}
use Rattle.register_words.specs.Block.{bl_width}
use Rattle.register_words.proofs.Asked.{asked, place}
use Rattle.register_words.proofs.Shape.{asked_shape}
use Rattle.register_words.proofs.asked_of.Goals as goal

place_is : (long : Bool) → bl_place long ≡ place (bl_width long)
place_is true = refl
place_is false = refl

pub returns : goal.returns
returns c = λ long side lengths sum on.
    let a = c.args in
    let x = bit_and (bit_xor a.pair a.lengths) a.ones in
    let is : x ≡ asked (bl_width long) a.pair =
    ap₂ (λ (p o : ℕ). bit_and (bit_xor a.pair p) o) (lengths ∙ place_is long) c.requires in
    rw (sum, is) (asked_shape long a.pair c.ranges.pair.fits side on)
