-- `entry::with_marks` meets its contract: each mark is or-ed in as a one in its place, or as a zero, which changes nothing.
use mathlib.Core.Bool.{Bool, true, false}
use mathlib.Core.Path.{◌≡◌}
use Prim.Native.Nat.{ℕ, ◌*◌, ◌%◌, ◌^◌}
use lib.Bits.{bit_or, or_zero_r}
use mir.Val.{bool_byte}
use Rattle.words.specs.Bits.{with_bits}
use Rattle.words.proofs.Masks.{or_bit}
use Rattle.entry.specs.Entry.{with_marks}
use Rattle.entry.proofs.with_marks.Goals as goal

marks : (r c : Bool) (w : ℕ) → bit_or (bit_or w ((bool_byte r * 2 ^ 8) % 2 ^ 32)) ((bool_byte c * 2 ^ 7) % 2 ^ 32) ≡ with_marks r c w
unfolding with_marks
marks true true w = rw (or_bit 8 w, or_bit 7 (with_bits 23 23 1 w))
marks true false w = rw (or_bit 8 w, or_zero_r (with_bits 23 23 1 w))
marks false true w = rw (or_zero_r w, or_bit 7 w)
marks false false w = rw (or_zero_r w, or_zero_r w)

pub returns : goal.returns
returns c = rw (c.from.ensures, c.from-2.ensures) (marks c.args.referenced c.args.changed c.args.second)
