-- `register_pages::any_on` meets its contract. The invariant: each pair that was passed is off.
use native.Mathlib.Omega.{arith}
use mathlib.Core.Bool.{true≢false}
use mathlib.Core.Path.{◌≡◌, refl, ap, ◌∙◌}
use Prim.Native.Nat.{◌*◌, ◌/◌}
use lib.ListN.{length}
use Rattle.words.specs.Below.{every_below}
use Rattle.words.proofs.Below.{every_more}
use Rattle.register_words.specs.Block.{off}
use Rattle.register_pages.specs.Side.{upper_at, pairs_off}
use Rattle.register_pages.proofs.Pass.{off_byte}
use Rattle.register_pages.proofs.any_on.Goals as goal

pub loop-i-init : goal.loop-i-init
unfolding pairs_off every_below
loop-i-init c = (omega arith, refl)

pub returns-then-pairs-i-ne0 : goal.returns-then-pairs-i-ne0
returns-then-pairs-i-ne0 c = λ e. absurd (true≢false e)

pub loop-i-preserved : goal.loop-i-preserved
unfolding pairs_off
loop-i-preserved c =
    let l = c.loop-i in
    let pairs = c.args.pairs.now in
    (omega (arith, c.loop-i-test.true), every_more (λ i. off (upper_at pairs i)) l.i l.invariant.1 (off_byte pairs (8 * l.i) c.if-pairs-i-ne0.false))

pub returns : goal.returns
returns c =
    let l = c.loop-i in
    let end : length c.args.pairs.now / 8 ≡ l.i = omega (arith, l.invariant.0, c.loop-i-test.false) in
    λ none. ap (pairs_off c.args.pairs.now) end ∙ l.invariant.1
