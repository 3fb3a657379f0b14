-- `register_pages::side_of` meets its contract. The invariant of both loops: what the laws of Pass say of the pairs that were passed.
use native.Mathlib.Omega.{arith}
use mathlib.Core.Path.{◌≡◌, refl, sym, ap, ap₂, subst, ◌∙◌}
use Prim.Native.Nat.{ℕ, ◌+◌, ◌*◌, ◌/◌, ◌%◌, ◌^◌, ◌≤◌, ◌<◌}
use mathlib.Core.Bool.{Bool, true, false}
use lib.Dec.{eqb, leb, lit≤}
use lib.ListN.{length}
use borrow.Author.Tests.{leb-false}
use mir.Val.{bool_byte}
use Rattle.words.proofs.Tests.{by_test}
use mathlib.Core.List.{List}
use lib.Bits.{bit_and, bit_or}
use Rattle.register_words.specs.Asked.{bl_place, side_sum, zero_bits}
use Rattle.register_words.specs.Block.{bl_width, off, block_shape}
use Rattle.words.specs.Words.{word_at}
use Rattle.register_pages.proofs.Pass.{Seen, end_of, seen_none, seen_same, seen_off, seen_on, seen_apart, off_byte, on_byte}
use Rattle.register_pages.proofs.side_of.Goals as goal
use Rattle.register_pages.proofs.side_of.Goals.{then-pairs-from-ne0, else-pairs-from-ne0}

pub loop-at-init : goal.loop-at-init
loop-at-init c = (omega arith, refl, seen_none _ _ _)

fall_one : (t : Bool) → bool_byte t ≤ 1
fall_one true = lit≤ tt
fall_one false = lit≤ tt

-- a pair that does not fall begins behind the end
no_fall : (pair end : ℕ) → bool_byte (leb pair end) ≡ 0 → end < pair
no_fall pair end z = by_test (leb pair end) (λ e. absurd (let one : ◌≡◌ {A = ℕ} 1 0 = (rw e at z) in omega arith)) (λ e. leb-false pair end e)

-- what was passed, and a pair that is on
module _ (lengths sum : ℕ) (pairs : List ℕ) (n any falls end : ℕ) (before : Seen lengths sum pairs n any falls end) where
  on_more : (pair asked next : ℕ) → pair ≡ word_at pairs (8 * n) * 2 ^ 32 + word_at pairs (8 * n + 4) → word_at pairs (8 * n) < 2 ^ 32
      → word_at pairs (8 * n + 4) < 2 ^ 32 → off (word_at pairs (8 * n)) ≡ false
      → ((long side : Bool) → lengths ≡ bl_place long → sum ≡ side_sum side → off (pair / 2 ^ 32) ≡ false
      → eqb (bit_and asked (zero_bits side)) 0 ≡ block_shape (bl_width long) side (pair / 2 ^ 32) (pair % 2 ^ 32))
      → next ≡ end_of (pair / 2 ^ 32)
      → Seen lengths sum pairs (n + 1) (bit_or any asked) (falls + bool_byte (leb pair end)) next
  on_more pair asked next is upper_lt lower-lt on own next_is =
      let high : pair / 2 ^ 32 ≡ word_at pairs (8 * n) = omega arith in
      let low : pair % 2 ^ 32 ≡ word_at pairs (8 * n + 4) = omega arith in
      let seen = seen_on lengths sum pairs n any falls end before pair asked (bool_byte (leb pair end))
      is upper_lt lower-lt (fall_one (leb pair end)) (no_fall pair end)
      (λ long side l s. own long side l s (ap off high ∙ on) ∙ ap₂ (block_shape (bl_width long) side) high low) in
      subst (Seen lengths sum pairs (n + 1) (bit_or any asked) (falls + bool_byte (leb pair end))) (sym (next_is ∙ ap end_of high)) seen

pub loop-i-preserved : goal.loop-i-preserved
loop-i-preserved c =
    let a = c.args in
    let l2 = c.loop-i in
    let n = c.loop-at.at / 8 + l2.i in
    let at = c.loop-at.at + 8 * l2.i in
    let from : 8 * n ≡ at = (let whole = c.loop-at.invariant.1 in omega arith) in
    let next : n + 1 ≡ c.loop-at.at / 8 + (l2.i + 1) = omega arith in (
      omega (arith, c.loop-i-test.true),
      subst (λ (k : ℕ). Seen a.lengths a.sum a.pairs.now k c.if-pairs-from-ne0.any c.if-pairs-from-ne0.falls c.if-pairs-from-ne0.end) next
          (elim c.if-pairs-from-ne0.branch [
            | then-pairs-from-ne0 w ↦
                let (is, upper_lt, lower-lt) = w.read_pair-pair.ensures in
                seen_same _ _ _ (n + 1) _ _ _ _ _ _ w.any-is w.falls-is w.end-is
                (on_more a.lengths a.sum a.pairs.now n l2.any l2.falls l2.end l2.invariant.1
                w.read_pair-pair.result w.asked_of-any.result w.end_of-end.result (rw from is) (rw from upper_lt) (rw from lower-lt)
                (rw from (on_byte a.pairs.now at w.if-pairs-from-ne0.true)) w.asked_of-any.ensures w.end_of-end.ensures)
            | else-pairs-from-ne0 w ↦
                seen_same _ _ _ (n + 1) _ _ _ _ _ _ w.any-is w.falls-is w.end-is
                (seen_off _ _ a.pairs.now n l2.any l2.falls l2.end l2.invariant.1
                (ap (λ (k : ℕ). off (word_at a.pairs.now k)) from ∙ off_byte a.pairs.now at w.if-pairs-from-ne0.false))
          ]),
    )

pub returns : goal.returns
returns c =
    let a = c.args in
    let l = c.loop-at in
    let end : l.at / 8 ≡ length a.pairs.now / 8 = omega (arith, c.loop-at-test.false) in
    let all = subst (λ (n : ℕ). Seen a.lengths a.sum a.pairs.now n l.any l.falls l.end) end l.invariant.2 in
    record { shape = all.shape; rises = seen_apart a.lengths a.sum a.pairs.now (length a.pairs.now / 8) l.any l.falls l.end all }
