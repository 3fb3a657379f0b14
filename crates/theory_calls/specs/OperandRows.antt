-- Rows of operands over a page edge (rules 5): the bytes and the address of each part, which part answers, and what is marked. Each closes by
-- computation. A table here is one or two groups, groups 0 and 1; what lies past their end reads as zero.
use Rattle.std.specs.Prelude.{ℕ, List, [], ◌∷◌, ◌++◌, replicate}
use Rattle.numbers.specs.Numbers.{done, data_storage_fault, instruction_storage_fault, refused_contradiction, refused_lent_length}
use Rattle.words.specs.Rows.{Hold}
use Rattle.words.specs.Words.{with_word, bytes_of}
use Rattle.theory_calls.specs.Made.{to_look, to_access}
use Rattle.theory_calls.specs.Answers.{word_answer, without_place, seen_of, compared}
use Rattle.theory_calls.specs.OnBytes.{ended, bytes_do}
use Rattle.theory_calls.specs.PageRows.{page_of, zero_registers, rule, no_rule, stop, one_byte}

-- the pages with VSID 0 and page index 0 and 1, whose groups are 0 and 1: one entry each, by its second word
abbrev pub group : ℕ → ℕ → ℕ → ℕ → List ℕ
group first second third fourth = bytes_of (first ∷ second ∷ third ∷ fourth ∷ replicate 12 0)

abbrev pub pages : ℕ → ℕ → List ℕ
pages first second = group 0x80000000 first 0 0 ++ group 0x80000000 second 0 0

-- the same with two entries for page 1
abbrev pub duplicates : ℕ → ℕ → ℕ → List ℕ
duplicates first second other = group 0x80000000 first 0 0 ++ group 0x80000000 second 0x80000000 other

-- the 48 bytes of a done operand within one page, and over an edge
abbrev pub in_one : ℕ → ℕ → ℕ → ℕ → List ℕ → List ℕ
in_one physical attributes address bytes decided = bytes_of ((done ∷ physical ∷ attributes ∷ address ∷ 0 ∷ 0 ∷ bytes ∷ 0 ∷ []) ++ decided)

abbrev pub in_two : ℕ → ℕ → ℕ → ℕ → ℕ → ℕ → ℕ → List ℕ → List ℕ
in_two physical attributes address further others bytes rest decided =
    bytes_of ((done ∷ physical ∷ attributes ∷ address ∷ further ∷ others ∷ bytes ∷ rest ∷ []) ++ decided)

-- segment 0 has VSID 0xFFFF, so that its last page and the first page of segment 1, which has VSID 0, have group 0; segment 1 has these keys and N
abbrev pub two_segments : ℕ → List ℕ
two_segments keys = with_word (with_word zero_registers 4 0x0000FFFF) 8 keys

-- a data block over the last 256 MB, at A0000000
abbrev pub last_block : List ℕ
last_block = with_word (with_word zero_registers 100 0xF0001FFE) 104 0xA0000012

-- a block at 0 that maps 128 KB at 20000000, in instruction pair 2 or data pair 3
abbrev pub third_instruction : ℕ → List ℕ
third_instruction lower = with_word (with_word zero_registers 84 0x00000003) 88 lower

abbrev pub fourth_data : ℕ → List ℕ
fourth_data lower = with_word (with_word zero_registers 124 0x00000003) 128 lower

pub record OperandRows : Type 0 where
  -- done by two pages: both are marked, and both have C after a store
  pub two_pages : Hold ((
    bytes_do 0 (to_access zero_registers 1 1 0x00000FFE 4 []) (pages 0x12345012 0x5432102A),
    ended done (pages 0x12345112 0x5432112A) (in_two 0x12345FFE 2 0x00000FFE 0x54321000 5 2 2 (rule 6 2 0 0)),
  )
      ∷ (
        bytes_do 0 (to_access zero_registers 1 2 0x00000FFF 2 []) (pages 0x12345012 0x5432102A),
        ended done (pages 0x12345192 0x543211AA) (in_two 0x12345FFF 2 0x00000FFF 0x54321000 5 1 1 (rule 6 2 0 0)),
      )
      ∷ (
        bytes_do 0 (to_access zero_registers 2 0 0x00000F81 128 []) (pages 0x12345012 0x54321012),
        ended done (pages 0x12345112 0x54321112) (in_two 0x12345F81 2 0x00000F81 0x54321000 2 127 1 (rule 6 2 0 0)),
      )
      ∷ []
      )
  -- an operand that ends with its page has no second part
  pub one_page : Hold ((
    bytes_do 0 (to_access zero_registers 1 1 0x00000FFC 4 []) (pages 0x12345012 0x5432102A),
    ended done (pages 0x12345112 0x5432102A) (in_one 0x12345FFC 2 0x00000FFC 4 (rule 6 2 0 0)),
  )
      ∷ (
        bytes_do 0 (to_access zero_registers 1 2 0x00000F80 128 []) (pages 0x12345012 0x5432102A),
        ended done (pages 0x12345192 0x5432102A) (in_one 0x12345F80 2 0x00000F80 128 (rule 6 2 0 0)),
      )
      ∷ []
      )
  -- a fault of either part: its own address, and neither page is marked
  pub faults : Hold ((
    bytes_do 0 (to_access zero_registers 1 2 0x00000FFE 4 []) (pages 0x12345012 0x5432102B),
    ended data_storage_fault (pages 0x12345012 0x5432102B) (stop data_storage_fault 0x0A000000 0x300 0x00001000 (rule 5 3 1 0)),
  )
      ∷ (
        bytes_do 0 (to_access zero_registers 1 2 0x00000FFE 4 []) (pages 0x12345013 0x5432102A),
        ended data_storage_fault (pages 0x12345013 0x5432102A) (stop data_storage_fault 0x0A000000 0x300 0x00000FFE (rule 5 3 0 0)),
      )
      ∷ (
        bytes_do 0 (to_access zero_registers 1 1 0x00000FFE 4 []) (group 0x80000000 0x12345012 0 0),
        ended data_storage_fault (group 0x80000000 0x12345012 0 0) (stop data_storage_fault 0x40000000 0x300 0x00001000 (rule 3 0 0 0)),
      )
      ∷ (
        bytes_do 0 (to_access zero_registers 2 0 0x00000FFE 4 []) (pages 0x12345012 0x5432102A),
        ended instruction_storage_fault (pages 0x12345012 0x5432102A) (stop instruction_storage_fault 0x10000000 0x400 0x00001000 (rule 4 0 1 0)),
      )
      ∷ []
      )
  -- contradicting matches of either part refuse the operand, unless the part before them faults
  pub contradictions : Hold ((
    bytes_do 0 (to_access zero_registers 1 1 0x00000FFE 4 []) (duplicates 0x12345012 0x54321012 0x54321013),
    ended refused_contradiction (duplicates 0x12345012 0x54321012 0x54321013) (stop refused_contradiction 0 0 0 no_rule),
  )
      ∷ (
        bytes_do 0 (to_access zero_registers 1 2 0x00000FFE 4 []) (duplicates 0x12345013 0x54321012 0x54321013),
        ended data_storage_fault (duplicates 0x12345013 0x54321012 0x54321013) (stop data_storage_fault 0x0A000000 0x300 0x00000FFE (rule 5 3 0 0)),
      )
      ∷ (
        bytes_do 0 (to_access zero_registers 1 1 0x00000FFE 4 []) (group 0x80000000 0x54321012 0x80000000 0x54321013),
        ended refused_contradiction (group 0x80000000 0x54321012 0x80000000 0x54321013) (stop refused_contradiction 0 0 0 no_rule),
      )
      ∷ []
      )
  -- two segments: each part goes by its own VSID, key and N, and the two entries may stand in one group
  pub segments : Hold ((
    bytes_do 0 (to_access (two_segments 0) 1 2 0x0FFFFFFF 2 []) (group 0x80000000 0x54321012 0x807FFFBF 0x12345012),
    ended done (group 0x80000000 0x54321192 0x807FFFBF 0x12345192) (in_two 0x12345FFF 2 0x0FFFFFFF 0x54321000 2 1 1 (rule 6 2 0 1)),
  )
      ∷ (
        bytes_do 0 (to_access (two_segments 0x40000000) 1 1 0x0FFFFFFF 2 []) (group 0x80000000 0x54321010 0x807FFFBF 0x12345010),
        ended data_storage_fault (group 0x80000000 0x54321010 0x807FFFBF 0x12345010) (stop data_storage_fault 0x08000000 0x300 0x10000000 (rule 5 4 0 0)),
      )
      ∷ (
        bytes_do 0 (to_access (two_segments 0x10000000) 2 0 0x0FFFFFFF 2 []) (group 0x80000000 0x54321012 0x807FFFBF 0x12345012),
        ended instruction_storage_fault (group 0x80000000 0x54321012 0x807FFFBF 0x12345012) (stop instruction_storage_fault 0x10000000 0x400 0x10000000 (rule 2 0 0 0)),
      )
      ∷ []
      )
  -- after FFFFFFFF comes 00000000: from a block to page 0 of segment 0, where the page alone is marked, and in real mode; real mode has two parts too
  pub wraps : Hold ((
    bytes_do 0 (to_access last_block 1 2 0xFFFFFFFC 8 []) (pages 0x12345012 0x5432102A),
    ended done (pages 0x12345192 0x5432102A) (in_two 0xAFFFFFFC 2 0xFFFFFFFC 0x12345000 2 4 4 (rule 1 0 0 0)),
  )
      ∷ (bytes_do 0 (to_access zero_registers 0 1 0xFFFFFFFF 2 []) [], ended done [] (in_two 0xFFFFFFFF 3 0xFFFFFFFF 0 3 1 1 no_rule))
      ∷ (bytes_do 0 (to_access zero_registers 0 1 0x00000FFF 2 []) [], ended done [] (in_two 0x00000FFF 3 0x00000FFF 0x00001000 3 1 1 no_rule))
      ∷ (
        bytes_do 0 (to_access last_block 1 1 0xF0000FFF 3 []) (pages 0x12345012 0x5432102A),
        ended done (pages 0x12345012 0x5432102A) (in_two 0xA0000FFF 2 0xF0000FFF 0xA0001000 2 1 2 (rule 1 0 0 0)),
      )
      ∷ []
      )
  -- the rule that decided: a block is told by its number on its side, done or not; a page by the key and PP
  pub rules : Hold (
      (bytes_do 0 (to_access (third_instruction 0x20000001) 2 0 0x00000123 1 []) [], ended done [] (one_byte 0x20000123 0 0x00000123 (rule 1 2 0 0)))
      ∷ (
        bytes_do 0 (to_access (third_instruction 0x20000000) 2 0 0x00000123 1 []) [],
        ended instruction_storage_fault [] (stop instruction_storage_fault 0x08000000 0x400 0x00000123 (rule 1 2 0 0)),
      )
      ∷ (bytes_do 0 (to_access (fourth_data 0x20000002) 5 2 0x00000123 1 []) [], ended done [] (one_byte 0x20000123 0 0x00000123 (rule 1 3 0 0)))
      ∷ (
        bytes_do 0 (to_access (fourth_data 0x20000001) 5 2 0x00000123 1 []) [],
        ended data_storage_fault [] (stop data_storage_fault 0x0A000000 0x300 0x00000123 (rule 1 3 0 0)),
      )
      ∷ (
        bytes_do 0 (to_access (two_segments 0x20000000) 5 1 0x10000123 1 []) (group 0x80000000 0x54321011 0 0),
        ended done (group 0x80000000 0x54321111 0 0) (one_byte 0x54321123 2 0x10000123 (rule 6 5 0 0)),
      )
      ∷ []
      )
  -- what is compared of an answer: every byte; not the place of an entry in rules 4 to 6; nothing where a length is refused
  pub compared_bytes : Hold (
      (compared (seen_of {A = ℕ} (to_access [] 0 0 0 1 48)) done (one_byte 1 2 3 (rule 6 2 7 1)), (done, bytes_of (done ∷ 1 ∷ 2 ∷ 3 ∷ 0 ∷ 0 ∷ 1 ∷ 0 ∷ 6 ∷ 2 ∷ [])))
      ∷ (compared without_place data_storage_fault (stop data_storage_fault 1 2 3 (rule 5 7 7 1)), (data_storage_fault, bytes_of (data_storage_fault ∷ 1 ∷ 2 ∷ 3 ∷ 0 ∷ 0 ∷ 0 ∷ 0 ∷ 5 ∷ 7 ∷ [])))
      ∷ (compared without_place data_storage_fault (stop data_storage_fault 1 2 3 (rule 4 0 7 1)), (data_storage_fault, bytes_of (data_storage_fault ∷ 1 ∷ 2 ∷ 3 ∷ 0 ∷ 0 ∷ 0 ∷ 0 ∷ 4 ∷ 0 ∷ [])))
      ∷ (compared without_place data_storage_fault (stop data_storage_fault 1 2 3 (rule 3 0 7 1)), (data_storage_fault, stop data_storage_fault 1 2 3 (rule 3 0 7 1)))
      ∷ (compared without_place done (one_byte 1 2 3 (rule 1 3 7 1)), (done, one_byte 1 2 3 (rule 1 3 7 1)))
      ∷ (compared (seen_of {A = ℕ} (to_look 0 (page_of 0 0) 16)) done (word_answer done 0x12345012), (done, word_answer done 0x12345012))
      ∷ (compared without_place refused_lent_length (one_byte 1 2 3 no_rule), (refused_lent_length, []))
      ∷ []
      )
