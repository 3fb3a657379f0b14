-- `entry::first_word` meets its contract. No shift loses a bit, and no two of the shifted fields have a bit in common.
use mathlib.Core.Path.{◌≡◌}
use Prim.Native.Nat.{◌+◌, ◌*◌, ◌%◌, ◌^◌}
use native.Mathlib.Omega.{arith}
use Rattle.words.proofs.Masks.{or_sum}
use Rattle.entry.specs.Entry.{first_word}
use Rattle.entry.proofs.first_word.Goals as goal

pub returns : goal.returns
unfolding first_word
returns c =
    let v = c.args.v in
    let s = c.args.vsid in
    let h = c.args.h in
    let e₁ : (v * 2 ^ 31) % 2 ^ 32 ≡ v * 2 ^ 31 = omega arith in
    let e₂ : (s * 2 ^ 7) % 2 ^ 32 ≡ s * 2 ^ 7 = omega arith in
    let e₃ : (h * 2 ^ 6) % 2 ^ 32 ≡ h * 2 ^ 6 = omega arith in
    rw (
      e₁,
      e₂,
      e₃,
      or_sum 31 (v * 2 ^ 31) (s * 2 ^ 7) (omega arith) (omega arith),
      or_sum 7 (v * 2 ^ 31 + s * 2 ^ 7) (h * 2 ^ 6) (omega arith) (omega arith),
      or_sum 6 (v * 2 ^ 31 + s * 2 ^ 7 + h * 2 ^ 6) c.args.api (omega arith) (omega arith),
    )
