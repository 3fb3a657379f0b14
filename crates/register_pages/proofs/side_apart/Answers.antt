-- `register_pages::side_apart` meets its contract. The invariant: each pair that was passed is apart from those before it.
use native.Mathlib.Omega.{arith}
use mathlib.Core.Bool.{Bool, true, not}
use mathlib.Core.List.{List}
use mathlib.Core.Path.{◌≡◌, refl, sym, ap, ◌∙◌}
use Prim.Native.Nat.{ℕ, ◌/◌}
use lib.ListN.{length}
use Rattle.words.specs.Below.{every_below}
use Rattle.words.specs.Words.{word_at}
use Rattle.words.proofs.Below.{every_not, every_all}
use Rattle.register_words.proofs.Blocks.{off_clash}
use Rattle.register_pages.specs.Side.{upper_at, apart_from, pairs_apart}
use Rattle.register_pages.proofs.Pass.{off_word, at_pair, passed_more}
use Rattle.register_pages.proofs.side_apart.Goals as goal
use Rattle.register_pages.proofs.side_apart.Goals.{After-read_word-own, then-own-ne0+else-not-pair_apart, else-own-ne0}

pub loop-at-init : goal.loop-at-init
unfolding pairs_apart every_below
loop-at-init c = (omega arith, refl, refl)

abbrev apart : List ℕ → ℕ → Bool
apart pairs j = apart_from pairs (upper_at pairs j) j

-- the pair at hand
own_is : (c : After-read_word-own) → c.read_word-own.result ≡ upper_at c.args.pairs.now (c.loop-at.at / 8)
own_is c = c.read_word-own.ensures ∙ ap (word_at c.args.pairs.now) (sym (at_pair c.loop-at.at c.loop-at.invariant.1))

pub returns-then-not-pair_apart : goal.returns-then-not-pair_apart
unfolding pairs_apart
returns-then-not-pair_apart c =
    let at = c.loop-at.at in
    let pairs = c.args.pairs.now in
    every_not (apart pairs) (length pairs / 8) (at / 8)
    (omega (arith, c.loop-at-test.true, c.loop-at.invariant.1, c.requires))
    (ap (λ (w : ℕ). apart_from pairs w (at / 8)) (sym (own_is (goal.at.returns-then-not-pair_apart c).After-read_word-own)) ∙ sym c.pair_apart.ensures
    ∙ c.if-not-pair_apart.true)

pub loop-at-preserved : goal.loop-at-preserved
unfolding pairs_apart apart_from
loop-at-preserved c =
    let at = c.loop-at.at in
    let pairs = c.args.pairs.now in
    let (upto, whole, before) = c.loop-at.invariant in
    let here : apart pairs (at / 8) ≡ true =
    ap (λ (w : ℕ). apart_from pairs w (at / 8)) (sym (own_is (goal.at.loop-at-preserved c).After-read_word-own))
    ∙ elim c.if-own-ne0.branch [
      | then-own-ne0+else-not-pair_apart w ↦ sym w.pair_apart.ensures ∙ w.if-not-pair_apart.false
      | else-own-ne0 w ↦ every_all _ (at / 8) (λ i l. ap not (off_clash 15 c.read_word-own.result (off_word c.read_word-own.result w.if-own-ne0.false) (upper_at pairs i)).1)
    ] in
    (omega (arith, c.loop-at-test.true, c.requires), omega arith, passed_more (apart pairs) at whole before here)

pub returns : goal.returns
returns c =
    let l = c.loop-at in
    let pairs = c.args.pairs.now in
    let end : length pairs ≡ l.at = omega (arith, c.loop-at-test.false) in
    sym (ap (λ (n : ℕ). pairs_apart pairs (n / 8)) end ∙ l.invariant.2)
