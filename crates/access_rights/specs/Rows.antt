-- Rows of the whole call. Each closes by computation. A table here is group 0 with one or two entries for VSID 0 and page index 0, and 1,023 groups of
-- zeros behind it.
use Rattle.std.specs.Prelude.{ℕ, List, [], ◌∷◌, ◌++◌, replicate}
use Rattle.numbers.specs.Numbers.{done, data_storage_fault, instruction_storage_fault, refused_table_length, refused_argument, refused_lent_length, refused_contradiction}
use Rattle.words.specs.Rows.{Hold}
use Rattle.words.specs.Words.{bytes_of}
use Rattle.theory_calls.specs.PageRows.{zero_registers, rule, no_rule, stop, one_byte}
use Rattle.theory_calls.specs.OperandRows.{group}
use Rattle.access_rights.specs.Rights.{rights_call}

-- a table of which group 0 has these four words first
abbrev pub table_with : ℕ → ℕ → ℕ → ℕ → List ℕ
table_with first second third fourth = group first second third fourth ++ replicate 65472 0

-- what is asked in a mode at 00000ABC, lent an answer of n bytes 170
abbrev pub asked_in : ℕ → List ℕ → ℕ → List ℕ → ℕ × List ℕ
asked_in mode registers n table = rights_call (record { registers = registers; mode = mode; address = 0xABC }) (replicate n 170) table

-- three answers and the marks of each
abbrev pub three : List ℕ → List ℕ → List ℕ → ℕ → ℕ → ℕ → List ℕ
three fetch load store f l s = fetch ++ (load ++ (store ++ bytes_of (f ∷ l ∷ s ∷ [])))

-- done by that entry, of frame 12345, WIMG 2 and PP 2
abbrev pub by_page : ℕ → List ℕ
by_page entry = one_byte 0x12345ABC 2 0xABC (rule 6 2 0 entry)

-- a refusal is told three times
abbrev pub refused_alike : ℕ → List ℕ
refused_alike number = let one : List ℕ = stop number 0 0 0 no_rule in three one one one 0 0 0

pub record RightsRows : Type 0 where
  -- the marks of a page with neither, told of the second entry where the first is another page's with both
  pub marks : Hold (
      (asked_in 3 zero_registers 156 (table_with 0x80000080 0x00001192 0x80000000 0x12345012), (done, three (by_page 1) (by_page 1) (by_page 1) 0x100 0x100 0x180))
      ∷ []
      )
  -- a guarded page with PP 3 that has R: the fetch and the store fault, each at its own place, and no access has new marks
  pub kinds : Hold ((
    asked_in 3 zero_registers 156 (table_with 0x80000000 0x1234511B 0 0),
    (
      done,
      three (stop instruction_storage_fault 0x10000000 0x400 0xABC (rule 4 0 0 0)) (one_byte 0x12345ABC 3 0xABC (rule 6 3 0 0))
          (stop data_storage_fault 0x0A000000 0x300 0xABC (rule 5 3 0 0)) 0 0 0,
    ),
  )
      ∷ []
      )
  -- contradicting matches, where DR alone is on: the fetch is done in real mode, and the call is done
  pub contradiction : Hold ((
    asked_in 1 zero_registers 156 (table_with 0x80000000 0x12345012 0x80000000 0x12346012),
    (done, three (one_byte 0xABC 3 0xABC no_rule) (stop refused_contradiction 0 0 0 no_rule) (stop refused_contradiction 0 0 0 no_rule) 0 0 0),
  )
      ∷ []
      )
  -- refusals: a mode, a table's length; a length of the answer or of the register page, which leaves the answer
  pub refusals : Hold (
      (asked_in 8 zero_registers 156 [], (refused_argument, refused_alike refused_argument))
      ∷ (asked_in 0 zero_registers 156 [], (refused_table_length, refused_alike refused_table_length))
      ∷ (asked_in 8 zero_registers 155 [], (refused_lent_length, replicate 155 170))
      ∷ (asked_in 8 zero_registers 157 [], (refused_lent_length, replicate 157 170))
      ∷ (asked_in 8 (replicate 131 0) 156 [], (refused_lent_length, replicate 156 170))
      ∷ []
      )
