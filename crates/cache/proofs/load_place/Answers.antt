-- `cache::load_place` meets its contract: it asks both places in order, and then whose load is the newer.
use mathlib.Core.Path.{◌≡◌, sym, ap, ap₂, ◌∙◌}
use mathlib.Core.Bool.{false, true, not, ◌&&◌}
use Prim.Native.Nat.{ℕ, ◌+◌}
use native.Mathlib.Omega.{arith}
use lib.Dec.{eqb}
use Rattle.words.specs.Words.{word_at}
use Rattle.cache.specs.Cache.{place_at, older_place}
use Rattle.cache.proofs.Cache.{place_0, place_1, load_0, load_1, load_older}
use Rattle.cache.proofs.Steps.{held_0, held_1}
use Rattle.cache.proofs.load_place.Goals as goal

pub returns-then-holds : goal.returns-then-holds
returns-then-holds c = sym (load_0 _ _ (sym (held_0 _ _ _ _ c.requires.2 c.holds.ensures) ∙ c.if-holds.true))

pub returns-then-holds-2 : goal.returns-then-holds-2
returns-then-holds-2 c =
    sym (load_1 _ _ (sym (held_0 _ _ _ _ c.requires.2 c.holds.ensures) ∙ c.if-holds.false) (sym (held_1 _ _ _ _ c.requires.2 c.holds-2.ensures) ∙ c.if-holds-2.true))

pub returns : goal.returns
unfolding older_place
returns c =
    let a = c.args in
    let s = a.cache.now in
    let first : a.start + 12 ≡ place_at a.page.index false + 12 = omega (arith, place_0 a.page.index, c.requires.2) in
    let second : a.start + 16 + 12 ≡ place_at a.page.index true + 12 = omega (arith, place_1 a.page.index, c.requires.2) in
    ap₂ (λ (x y : ℕ). eqb x 1 && not (eqb y 1)) (c.read_word.ensures ∙ ap (word_at s) first) (c.read_word-2.ensures ∙ ap (word_at s) second)
    ∙ sym (load_older s a.page (sym (held_0 _ _ _ _ c.requires.2 c.holds.ensures) ∙ c.if-holds.false) (sym (held_1 _ _ _ _ c.requires.2 c.holds-2.ensures) ∙ c.if-holds-2.false))
