-- An operand of one to 128 bytes (rules 5): its bytes lie in one page or in two, and each page's part goes through the steps by itself.
-- In what follows false is the first part and true the second.
use Rattle.std.specs.Prelude.{ℕ, ◌+◌, ◌-◌, ◌%◌, ◌^◌, Bool, true, false, cond, ◌==◌, nat_lt}
use Rattle.numbers.specs.Numbers.{done, page_size}
use Rattle.translation.specs.declared.Answer.{Answer}
use Rattle.translation.specs.declared.decision.Decision.{Decision}
use Rattle.translation.specs.declared.operand.OperandAnswer.{OperandAnswer}

-- the bytes in the first page: all, or those up to the page's end
unfoldable pub first_bytes : ℕ → ℕ → ℕ
first_bytes address length = let room = page_size - address % page_size in cond (nat_lt length room) length room

-- the operand goes over the page's end
unfoldable pub over_edge : ℕ → ℕ → Bool
over_edge address length = nat_lt (first_bytes address length) length

-- the address of a part's first byte; after FFFFFFFF comes 00000000
unfoldable pub part_start : ℕ → ℕ → Bool → ℕ
part_start address length false = address
part_start address length true = (address + first_bytes address length) % 2 ^ 32

-- a part that is not done answers for all, with what decided it and four zero words
abbrev pub stopped : Answer → Decision → OperandAnswer
stopped part decision = record { part = part; decision = decision; address = 0; attributes = 0; bytes = 0; rest = 0 }

-- done within one page: no second part, and all bytes in the first
abbrev pub within : Answer → Decision → ℕ → OperandAnswer
within part decision length = record { part = part; decision = decision; address = 0; attributes = 0; bytes = length; rest = 0 }

-- done over a page edge: what decided the first part; the second part's physical address and attributes, and the bytes in each page
abbrev pub across_edge : Answer → Decision → Answer → ℕ → ℕ → OperandAnswer
across_edge first decision second bytes length = record {
  part = first;
  decision = decision;
  address = second.address;
  attributes = second.attributes;
  bytes = bytes;
  rest = length - bytes;
}

-- the answer of an operand by what its parts answer and what decided each: the first part that is not done answers for all
unfoldable pub operand_answer : ℕ → ℕ → (Bool → Answer) → (Bool → Decision) → OperandAnswer
operand_answer address length answer decision =
    cond ((answer false).result == done)
    (cond (over_edge address length)
    (cond ((answer true).result == done) (across_edge (answer false) (decision false) (answer true) (first_bytes address length) length)
    (stopped (answer true) (decision true)))
    (within (answer false) (decision false) length))
    (stopped (answer false) (decision false))
