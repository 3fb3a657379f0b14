-- Storage faults: "The fault word is a sum by cause" (rules 5).
use Rattle.std.specs.Prelude.{ℕ, ◌+◌, cond, eqb}
use Rattle.numbers.specs.Numbers.{data_storage_fault, instruction_storage_fault}
use Rattle.protection.specs.Access.{fetching, storing}
use Rattle.protection.specs.declared.Fault.{Fault}

-- the causes by number: no match, N or G (met by a fetch alone), protection
abbrev pub no_match : ℕ
no_match = 0

abbrev pub no_fetch : ℕ
no_fetch = 1

abbrev pub protection : ℕ
protection = 2

-- the cause's part of the fault word
unfoldable pub cause_word : ℕ → ℕ
cause_word cause = cond (eqb cause no_match) 0x40000000 (cond (eqb cause no_fetch) 0x10000000 0x08000000)

-- a fetch meets an instruction storage fault, at 0x400, a load or a store a data storage fault, at 0x300; a store has its own part of the word
unfoldable pub fault_of : ℕ → ℕ → Fault
fault_of cause kind = record {
  result = cond (fetching kind) instruction_storage_fault data_storage_fault;
  word = cause_word cause + cond (storing kind) 0x02000000 0;
  offset = cond (fetching kind) 0x400 0x300;
}
