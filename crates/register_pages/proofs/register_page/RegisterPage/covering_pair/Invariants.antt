-- `register_pages::RegisterPage::covering_pair` meets its contract. The invariant of both loops: no pair that was passed covers the address; behind the page's own pairs
-- the set's are zero, so they are off and cover nothing.
use mathlib.Core.Path.{◌≡◌}
use mathlib.Core.Bool.{Bool, false}
use Prim.Native.Nat.{ℕ, ◌+◌, ◌*◌, ◌/◌, ◌≤◌, ◌<◌}
use mathlib.Core.List.{List}
use Rattle.registers.specs.Set.{set_words, pair_covers}
use Rattle.register_pages.proofs.register_page.RegisterPage.covering_pair.Given as goal

-- no pair of a side before a number covers the address
abbrev pub NoneBefore : List ℕ → Bool → Bool → ℕ → ℕ → Type 0
NoneBefore page side user address n = (k : ℕ) → k < n → pair_covers 8 15 (set_words page) side user address k ≡ false

abbrev pub invariant-loop-i : goal.invariant-loop-i
invariant-loop-i l = (l.i ≤ 4 * l.four + 4) × NoneBefore l.self.bytes.now l.side l.user l.address l.i

abbrev pub invariant-loop-four : goal.invariant-loop-four
invariant-loop-four l = (l.four ≤ l.pairs / 4) × NoneBefore l.self.bytes.now l.side l.user l.address (4 * l.four)
