-- `register_pages::RegisterPage::segments_refusal` meets its contract. The invariant: the mask leaves nothing of the number exactly where each segment register that was
-- passed has its shape; read from the low end, the first byte of each word is the lowest of its half.
use mathlib.Core.Path.{◌≡◌}
use mathlib.Core.Bool.{Bool}
use mathlib.Core.List.{List}
use Prim.Native.Nat.{ℕ, ◌+◌, ◌*◌, ◌≤◌}
use lib.Bits.{bit_and}
use lib.Dec.{eqb}
use Rattle.words.specs.Below.{every_below}
use Rattle.words.specs.Words.{word_at}
use Rattle.register_words.specs.Segment.{segment_shape}
use Rattle.register_pages.proofs.register_page.RegisterPage.segments_refusal.Given as goal

-- segment register i has its shape
abbrev pub good : List ℕ → ℕ → Bool
good page i = segment_shape (word_at page (4 + 4 * i))

abbrev pub invariant-loop-i : goal.invariant-loop-i
invariant-loop-i l = (l.i ≤ 8) × (eqb (bit_and l.any 0x8F0000008F) 0 ≡ every_below (2 * l.i) (good l.self.bytes.now))
