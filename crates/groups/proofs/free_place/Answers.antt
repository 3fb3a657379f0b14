-- `groups::free_place` meets its contract. The invariants: no entry of this group before this one is free, and no group before this one has a free
-- entry.
use Prim.Native.Nat.{◌<◌}
use mathlib.Core.Path.{refl, sym, ◌∙◌}
use native.Mathlib.Omega.{arith}
use borrow.Author.Tests.{eq-eqb, ne_eqb}
use borrow.Author.Count.{below_more, below_none}
use Rattle.words.proofs.Below.{first_none, first_found}
use Rattle.groups.specs.Group.{first_free}
use Rattle.groups.proofs.Free.{free_asked, free_found, free_nowhere}
use Rattle.groups.proofs.free_place.Goals as goal

pub search-init : goal.search-init
search-init c = (omega arith, refl, λ p s is k l. absurd (omega (arith, l)))

pub loop-entry-init : goal.loop-entry-init
loop-entry-init c = (omega arith, c.search.invariant.1, λ p s is. below_none _)

pub loop-entry-preserved : goal.loop-entry-preserved
loop-entry-preserved c = (
  omega arith,
  c.loop-entry.invariant.1,
  λ p s is.
      below_more _ _ (c.loop-entry.invariant.2 p s is)
      (sym (free_asked p s c.args.free c.search.h c.loop-entry.entry is (omega arith) (omega arith)) ∙ ne_eqb _ _ c.if-free-behind-eq1.false),
)

pub search-preserved : goal.search-preserved
unfolding first_free
search-preserved c = (
  omega arith,
  c.loop-entry.invariant.1,
  λ p s is. below_more _ _ (c.search.invariant.2 p s is) (first_none _ 8 (λ k below. c.loop-entry.invariant.2 p s is k (omega (arith, below)))),
)

pub returns-after-search : goal.returns-after-search
returns-after-search c p s is =
    let i = c.search.invariant in
    i.1 ∙ sym (free_nowhere p s (omega (arith, i.2 p s is 0 (omega arith))) (omega (arith, i.2 p s is 1 (omega arith))))

pub returns-then-free-behind-eq1 : goal.returns-then-free-behind-eq1
unfolding first_free
returns-then-free-behind-eq1 c p s is =
    let h = c.search.h in
    let i = c.loop-entry.entry in
    let few : h < 2 = omega arith in
    let here = sym (free_asked p s c.args.free h i is few (omega arith)) ∙ eq-eqb _ _ c.if-free-behind-eq1.true in
    free_found p s h i few (omega arith) (c.search.invariant.2 p s is) (first_found _ 8 i (omega arith) here (c.loop-entry.invariant.2 p s is))
