-- `register_pages::pair_apart` meets its contract. The invariant: the block is apart from each pair that was passed.
use native.Mathlib.Omega.{arith}
use mathlib.Core.Bool.{Bool, not}
use mathlib.Core.List.{List}
use mathlib.Core.Path.{◌≡◌, refl, sym, ap, ◌∙◌}
use Prim.Native.Nat.{ℕ, ◌/◌}
use Rattle.words.specs.Below.{every_below}
use Rattle.words.specs.Words.{word_at}
use Rattle.words.proofs.Below.{every_not}
use Rattle.register_words.specs.Block.{clash}
use Rattle.register_pages.specs.Side.{upper_at, apart_from}
use Rattle.register_pages.proofs.Pass.{at_pair, passed_more}
use Rattle.register_pages.proofs.pair_apart.Goals as goal
use Rattle.register_pages.proofs.pair_apart.Goals.{After-blocks_clash}

pub loop-before-init : goal.loop-before-init
unfolding apart_from every_below
loop-before-init c = (omega arith, refl, refl)

abbrev apart : List ℕ → ℕ → ℕ → Bool
apart pairs own i = not (clash 15 (upper_at pairs i) own)

-- what the call gave is the test of the pair at hand
apart_is : (c : After-blocks_clash) → apart c.args.pairs.now c.args.own (c.loop-before.before / 8) ≡ not c.blocks_clash.result
apart_is c =
    let l = c.loop-before in
    ap not (sym (c.blocks_clash.ensures ∙ ap (λ (w : ℕ). clash 15 w c.args.own) (c.read_word.ensures ∙ ap (word_at c.args.pairs.now) (sym (at_pair l.before l.invariant.1)))))

pub returns-then-blocks_clash : goal.returns-then-blocks_clash
unfolding apart_from
returns-then-blocks_clash c =
    let l = c.loop-before in
    every_not (apart c.args.pairs.now c.args.own) (c.args.at / 8) (l.before / 8) (omega (arith, c.loop-before-test.true, c.requires.1, l.invariant.1))
    (apart_is (goal.at.returns-then-blocks_clash c).After-blocks_clash ∙ ap not c.if-blocks_clash.true)

pub loop-before-preserved : goal.loop-before-preserved
unfolding apart_from
loop-before-preserved c =
    let l = c.loop-before in
    let (upto, whole, before) = l.invariant in (
      omega (arith, c.loop-before-test.true, c.requires.1),
      omega arith,
      passed_more (apart c.args.pairs.now c.args.own) l.before whole before (apart_is (goal.at.loop-before-preserved c).After-blocks_clash ∙ ap not c.if-blocks_clash.false),
    )

pub returns : goal.returns
returns c =
    let l = c.loop-before in
    let a = c.args in
    let end : l.before ≡ a.at = omega (arith, c.loop-before-test.false) in
    sym (ap (λ (n : ℕ). apart_from a.pairs.now a.own (n / 8)) (sym end) ∙ l.invariant.2)
