-- `page_calls::map_in_range` meets its contract: W and I are both one where WIMG is 12 or more.
use Prim.Native.Nat.{ℕ, ◌^◌, ◌/◌}
use mathlib.Core.Path.{◌≡◌, refl, sym}
use mathlib.Core.Bool.{Bool, true, false, not, ◌&&◌}
use native.Mathlib.Omega.{arith}
use lib.Dec.{ltb}
use borrow.Author.Tests.{ltb-true, ltb-false, eq-eqb, ne_eqb}
use Rattle.theory_calls.specs.Rules.{page_in_range, write_through_inhibited}
use Rattle.page_calls.proofs.map_in_range.Goals as goal

and_true : (b : Bool) → b && true ≡ b
and_true true = refl
and_true false = refl

and_false : (b : Bool) → b && false ≡ false
and_false true = refl
and_false false = refl

-- below 12 WIMG is below 16 and W and I are not both one; and of 12 to 15 they are
narrow : (a d : Bool) (w : ℕ) → (a && ltb w 12) && d ≡ ((a && ltb w (2 ^ 4)) && d) && not (write_through_inhibited w)
unfolding write_through_inhibited
narrow false d w = refl
narrow true d w = go (ltb w 12) refl (ltb w (2 ^ 4)) refl
  where
    go : (s : Bool) → ltb w 12 ≡ s → (t : Bool) → ltb w (2 ^ 4) ≡ t → s && d ≡ (t && d) && not (write_through_inhibited w)
    go true e true f = let l = ltb-true w 12 e in rw (ne_eqb (w / 2 ^ 2) 3 (λ q. omega (arith, l, q))) (sym (and_true d))
    go true e false f = absurd (omega (arith, ltb-true w 12 e, ltb-false w (2 ^ 4) f))
    go false e true f = let q : w / 2 ^ 2 ≡ 3 = omega (arith, ltb-false w 12 e, ltb-true w (2 ^ 4) f) in rw (eq-eqb (w / 2 ^ 2) 3 q) (sym (and_false d))
    go false e false f = refl

pub returns : goal.returns
returns c sdr1 =
    let a = c.args in
    rw c.page_in_range.ensures (narrow (page_in_range a.page && ltb a.rpn (2 ^ 20)) (ltb a.pp (2 ^ 2)) a.wimg)
