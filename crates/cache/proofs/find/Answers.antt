-- `cache::find` meets its contract. Where the arms meet, the byte is that of the place that holds the page, place 0 first, and a hit is what is met
-- there.
use Prim.Native.Nat.{ℕ, ◌+◌, ◌≤◌}
use mathlib.Core.Option.{some}
use mathlib.Core.Path.{◌≡◌, sym, ap, ap₂, ◌∙◌}
use mathlib.Core.Bool.{Bool, true, false, not, ◌&&◌}
use native.Mathlib.Omega.{arith}
use lib.ListN.{length}
use Rattle.words.specs.Words.{word_at}
use Rattle.entry.specs.Entry.{changed}
use Rattle.groups.specs.declared.Page.{Page}
use Rattle.cache.specs.Cache.{place_at, second_in, met, hit}
use Rattle.cache.proofs.Cache.{place_0, place_1, place_le, hit_0, hit_1, hit_none}
use Rattle.cache.proofs.Steps.{held_0, held_1, met_clear, met_set}
use Rattle.cache.proofs.find.Goals as goal
use Rattle.cache.proofs.find.Goals.{After-is_changed, Joined-holds, then-holds, else-holds+then-holds-2}

pub returns-else-holds-2 : goal.returns-else-holds-2
returns-else-holds-2 c =
    let page : Page = c.args.page in
    let s = c.args.cache.now in
    let at = c.set_start-start.ensures.at in
    sym (hit_none _ page (sym (held_0 s page _ _ at c.holds.ensures) ∙ c.if-holds.false) (sym (held_1 s page _ _ at c.holds-else-holds.ensures) ∙ c.if-holds-2.false) _)

-- where the arms meet: the place that was found
spot : (c : Joined-holds)
    → (place : Bool) × (c.if-holds.at ≡ place_at c.args.page.index place)
    × ((storing : Bool) → hit storing c.args.cache.now c.args.page ≡ met storing c.args.cache.now c.args.page.index place)
spot c =
    let page : Page = c.args.page in
    let s = c.args.cache.now in
    let at-start = c.set_start-start.ensures.at in
    let index = c.args.page.index in
    elim c.if-holds.branch [
      | then-holds w ↦ (false, w.at-is ∙ at-start ∙ sym (place_0 index), hit_0 s page (sym (held_0 s page _ _ at-start c.holds.ensures) ∙ w.if-holds.true))
      | else-holds+then-holds-2 w ↦ (
        true,
        w.at-is ∙ omega (arith, at-start, place_1 index),
        hit_1 s page (sym (held_0 s page _ _ at-start c.holds.ensures) ∙ w.if-holds.false) (sym (held_1 s page _ _ at-start w.holds-else-holds.ensures) ∙ w.if-holds-2.true),
      )
    ]

spot_le : (c : Joined-holds) → c.if-holds.at + 16 ≤ length c.args.cache.now
spot_le c =
    let (place, at, hits) = spot c in omega (arith, at, place_le c.args.page.index place, c.requires.0)

pub overflow_add-at : goal.overflow_add-at
overflow_add-at c = omega (arith, spot_le (goal.at.overflow_add-at c).Joined-holds, c.requires.0)

pub read_word-second-requires : goal.read_word-second-requires
read_word-second-requires c = omega (arith, spot_le (goal.at.read_word-second-requires c).Joined-holds)

pub read_word-requires : goal.read_word-requires
read_word-requires c = omega (arith, spot_le (goal.at.read_word-requires c).Joined-holds)

-- what the test of C said
module _ (c : After-is_changed) where
  told : (place : Bool) → c.if-holds.at ≡ place_at c.args.page.index place
      → (c.args.storing && not c.is_changed.result) ≡ (c.args.storing && not (changed (second_in c.args.cache.now c.args.page.index place)))
  told place at =
      let second = c.read_word-second.ensures ∙ ap (λ (n : ℕ). word_at c.args.cache.now (n + 4)) at in
      ap (λ (b : Bool). c.args.storing && not b) (c.is_changed.ensures ∙ ap changed second)

pub returns-then-storing-is_changed : goal.returns-then-storing-is_changed
returns-then-storing-is_changed c =
    let (place, at, hits) = spot (goal.at.returns-then-storing-is_changed c).Joined-holds in
    sym (hits c.args.storing ∙ met_clear _ _ _ place (sym (told (goal.at.returns-then-storing-is_changed c).After-is_changed place at) ∙ c.if-storing-is_changed.true))

pub returns : goal.returns
returns c =
    let s = c.args.cache.now in
    let (place, at, hits) = spot (goal.at.returns c).Joined-holds in
    ap₂ (λ (x y : ℕ). some (x, y)) (c.read_word.ensures ∙ ap (word_at s) at) (c.read_word-second.ensures ∙ ap (λ (n : ℕ). word_at s (n + 4)) at)
    ∙ sym (hits c.args.storing ∙ met_set _ _ _ place (sym (told (goal.at.returns c).After-is_changed place at) ∙ c.if-storing-is_changed.false))
