-- `entry::second_word` meets its contract. No shift loses a bit, and no two of the shifted fields have a bit in common.
use mathlib.Core.Path.{◌≡◌}
use Prim.Native.Nat.{◌+◌, ◌*◌, ◌%◌, ◌^◌}
use native.Mathlib.Omega.{arith}
use Rattle.words.proofs.Masks.{or_sum}
use Rattle.entry.specs.Entry.{second_word}
use Rattle.entry.proofs.second_word.Goals as goal

pub returns : goal.returns
unfolding second_word
returns c =
    let p = c.args.rpn in
    let r = c.args.r in
    let d = c.args.c in
    let w = c.args.wimg in
    let e₁ : (p * 2 ^ 12) % 2 ^ 32 ≡ p * 2 ^ 12 = omega arith in
    let e₂ : (r * 2 ^ 8) % 2 ^ 32 ≡ r * 2 ^ 8 = omega arith in
    let e₃ : (d * 2 ^ 7) % 2 ^ 32 ≡ d * 2 ^ 7 = omega arith in
    let e₄ : (w * 2 ^ 3) % 2 ^ 32 ≡ w * 2 ^ 3 = omega arith in
    rw (
      e₁,
      e₂,
      e₃,
      e₄,
      or_sum 12 (p * 2 ^ 12) (r * 2 ^ 8) (omega arith) (omega arith),
      or_sum 8 (p * 2 ^ 12 + r * 2 ^ 8) (d * 2 ^ 7) (omega arith) (omega arith),
      or_sum 7 (p * 2 ^ 12 + r * 2 ^ 8 + d * 2 ^ 7) (w * 2 ^ 3) (omega arith) (omega arith),
      or_sum 3 (p * 2 ^ 12 + r * 2 ^ 8 + d * 2 ^ 7 + w * 2 ^ 3) c.args.pp (omega arith) (omega arith),
    )
