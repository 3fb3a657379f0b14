-- Laws of page index, API and physical address: their bounds, and the physical address by a second word's fields.
use mathlib.Core.Path.{◌≡◌}
use Prim.Native.Nat.{ℕ, ◌+◌, ◌^◌, ◌<◌}
use native.Mathlib.Omega.{arith}
use Rattle.words.specs.Bits.{bits, placed}
use Rattle.entry.specs.Entry.{page_index, api_of, physical_address}
use Rattle.entry.proofs.Packing.{SecondFields}

pub index_lt : (address : ℕ) → page_index address < 2 ^ 16
unfolding page_index
index_lt address = omega arith

pub api_lt : (index : ℕ) → index < 2 ^ 16 → api_of index < 2 ^ 6
unfolding api_of
api_lt index h = omega arith

pub physical_lt : (second address : ℕ) → physical_address second address < 2 ^ 32
unfolding physical_address
physical_lt second address = omega arith

-- of the second word's fields only RPN plays a part
pub physical_fields : {rpn r c wimg pp w : ℕ} → SecondFields rpn r c wimg pp w → (address : ℕ)
    → physical_address w address ≡ placed 19 rpn + bits 20 31 address
unfolding physical_address
physical_fields f address = rw f.has_rpn
