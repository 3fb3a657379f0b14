-- `register_pages::side_at` meets its contract: a page's data pairs begin at half of its length and 34 bytes, by either length.
use mathlib.Core.Path.{◌≡◌, refl}
use mathlib.Core.Bool.{Bool, true}
use Prim.Native.Nat.{ℕ, ◌+◌, ◌/◌}
use Rattle.register_pages.specs.Side.{side_byte}
use Rattle.register_pages.proofs.Page.{PageSize, short_size, long_size, page_size_law}
use Rattle.register_pages.proofs.side_at.Goals as goal

data_byte : {size : ℕ} {long : Bool} → PageSize size long → size / 2 + 34 ≡ side_byte long true
data_byte short_size = refl
data_byte long_size = refl

pub returns-then-side : goal.returns-then-side
returns-then-side c = rw c.if-side.true (data_byte (page_size_law c.args.size c.requires))
