-- `register_pages::RegisterPage::blocks_refusal` meets its contract. The invariant: what the laws of Sides say of the sides that were passed.
use mathlib.Core.Bool.{true}
use mathlib.Core.Path.{◌≡◌}
use Prim.Native.Nat.{◌+◌, ◌-◌, ◌*◌, ◌≤◌}
use lib.ListN.{length}
use Rattle.register_words.specs.Asked.{bl_place}
use Rattle.registers.specs.Set.{is_page, is_long, block_pairs}
use Rattle.register_pages.proofs.Sides.{SidesSeen}
use Rattle.register_pages.proofs.register_page.RegisterPage.blocks_refusal.Given as goal

abbrev pub invariant-loop-side : goal.invariant-loop-side
invariant-loop-side l = (l.side ≤ 2) × (l.half ≡ 8 * block_pairs (is_long (length l.self.bytes.now))) × (68 + 2 * l.half ≡ length l.self.bytes.now) × (l.lengths ≡ bl_place (is_long (length l.self.bytes.now)))
    × ((right : is_page (length l.self.bytes.now) ≡ true) → SidesSeen l.self.bytes.now right l.side l.good l.apart)

abbrev pub decreases-loop-side : goal.decreases-loop-side
decreases-loop-side l = 2 - l.side
