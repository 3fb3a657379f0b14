-- Rows that pin what the theorem over histories cannot see of single calls: refusals and their order, contradicting and equal duplicates, merged
-- marks, ignored bits, which free entry is taken, and that nothing else is written (rules 4 to 7). Each closes by computation.
-- Most tables here are one group of 64 bytes, group 0; what lies past their end reads as zero.
use Rattle.std.specs.Prelude.{ℕ, List, [], ◌∷◌, ◌++◌, replicate, set}
use Rattle.numbers.specs.Numbers.{done, data_storage_fault, instruction_storage_fault, refused_table_length, refused_sdr1, refused_block, refused_blocks_share}
use Rattle.numbers.specs.Numbers.{refused_segment, refused_argument, refused_mapped, refused_no_match, refused_contradiction, refused_lent_length, refused_operand_length}
use Rattle.words.specs.Rows.{Hold}
use Rattle.words.specs.Words.{with_word, bytes_of}
use Rattle.groups.specs.declared.Page.{Page}
use Rattle.theory_calls.specs.Made.{to_clear, to_map, to_unmap, to_protect, to_look, to_access}
use Rattle.theory_calls.specs.Rules.{refusal}
use Rattle.theory_calls.specs.Answers.{word_answer, seen_of, compared}
use Rattle.theory_calls.specs.OnBytes.{ended, bytes_do, on_bytes}

abbrev pub page_of : ℕ → ℕ → Page
page_of vsid index = record { vsid = vsid; index = index }

-- each number of a page at its largest
abbrev pub inside : Page
inside = page_of 0xFFFFFF 0xFFFF

-- a register page of zeros with bytes changed: SDR1 of mask 5; a block of BL 2; two data blocks at 0; segment 15 with T = 1
abbrev pub zero_registers : List ℕ
zero_registers = replicate 132 0

abbrev pub broken : List ℕ
broken = set (set (set zero_registers 3 5) 71 10) 64 128

abbrev pub blocks : List ℕ
blocks = set (set (set zero_registers 103 2) 111 2) 64 128

abbrev pub segment : List ℕ
segment = set zero_registers 64 128

-- one group: two matches of VSID 0x400, page 0, ignored bits set; an entry of VSID 0; an entry of VSID 0x400 with H = 1; then free entries that are
-- not zero
unfoldable pub group_with : ℕ → ℕ → ℕ → ℕ → List ℕ
group_with first second other duplicate =
    bytes_of (
    first ∷ second ∷ first ∷ duplicate
    ∷ 0x80000000 ∷ other ∷ 0x80020040 ∷ 0x11111111
    ∷ 0x7FFFFFFF ∷ 0x22222222 ∷ 0x00020000 ∷ 0x33333333
    ∷ 0x80030000 ∷ 0x44444444 ∷ 0x80000001 ∷ 0x55555555
    ∷ []
    )

-- equal duplicates; duplicates that agree though the second has R and C set and no ignored bit; duplicates that differ in PP, of which the second has
-- R set
abbrev pub equal : List ℕ
equal = group_with 0x80020000 0x12345E16 0x54321E96 0x12345E16

abbrev pub touched : List ℕ
touched = group_with 0x80020000 0x12345E16 0x54321E96 0x12345192

abbrev pub differing : List ℕ
differing = group_with 0x80020000 0x12345E96 0x54321E96 0x12345F15

abbrev pub doubled : Page
doubled = page_of 0x400 0

-- segment register 0 with VSID 0x400
abbrev pub registers : List ℕ
registers = set (set zero_registers 6 4) 7 0

-- a page that may only be read, and a guarded one
abbrev pub readable : List ℕ
readable = group_with 0x80020000 0x12345E17 0 0x12345E17

abbrev pub guarded_page : List ℕ
guarded_page = group_with 0x80020000 0x12345E1E 0 0x12345E1E

-- what decided an access: the rule, the block's number or key × 4 + PP, the group and the entry; nothing for a refusal
abbrev pub rule : ℕ → ℕ → ℕ → ℕ → List ℕ
rule number detail place entry = number ∷ detail ∷ place ∷ entry ∷ []

abbrev pub no_rule : List ℕ
no_rule = rule 0 0 0 0

-- the 48 bytes of an access that is not done, and of one byte that is
abbrev pub stop : ℕ → ℕ → ℕ → ℕ → List ℕ → List ℕ
stop result word offset address decided = bytes_of ((result ∷ word ∷ offset ∷ address ∷ 0 ∷ 0 ∷ 0 ∷ 0 ∷ []) ++ decided)

abbrev pub one_byte : ℕ → ℕ → ℕ → List ℕ → List ℕ
one_byte physical attributes address decided = bytes_of ((done ∷ physical ∷ attributes ∷ address ∷ 0 ∷ 0 ∷ 1 ∷ 0 ∷ []) ++ decided)

pub record PageRows : Type 0 where
  -- the refusals of the page calls, each argument at its limit, each length one below and one above, and each adjacent pair of their order
  pub page_refusals : Hold (
      (refusal (to_clear 0) 65536, done)
      ∷ (refusal (to_clear 7) 524288, done)
      ∷ (refusal (to_clear 0) 65535, refused_table_length)
      ∷ (refusal (to_clear 0) 65537, refused_table_length)
      ∷ (refusal (to_clear 7) 65536, refused_table_length)
      ∷ (refusal (to_clear 5) 0, refused_sdr1)
      ∷ (refusal (to_map 0 inside 0xFFFFF 11 3) 65536, done)
      ∷ (refusal (to_map 0 inside 0xFFFFF 4 3) 65536, done)
      ∷ (refusal (to_map 0 inside 0xFFFFF 8 3) 65536, done)
      ∷ (refusal (to_map 0 inside 0xFFFFF 7 3) 65536, done)
      ∷ (refusal (to_map 0 (page_of 0x1000000 0) 0 0 0) 65536, refused_argument)
      ∷ (refusal (to_map 0 (page_of 0 0x10000) 0 0 0) 65536, refused_argument)
      ∷ (refusal (to_map 0 inside 0x100000 0 0) 65536, refused_argument)
      ∷ (refusal (to_map 0 inside 0 16 0) 65536, refused_argument)
      ∷ (refusal (to_map 0 inside 0 12 0) 65536, refused_argument)
      ∷ (refusal (to_map 0 inside 0 15 0) 65536, refused_argument)
      ∷ (refusal (to_map 0 inside 0 0 4) 65536, refused_argument)
      ∷ (refusal (to_map 5 inside 0 0 4) 0, refused_argument)
      ∷ (refusal (to_map 5 inside 0 0 0) 0, refused_sdr1)
      ∷ (refusal (to_map 0 inside 0 0 0) 65535, refused_table_length)
      ∷ (refusal (to_map 0 inside 0 0 0) 65537, refused_table_length)
      ∷ (refusal (to_unmap 0 inside 16) 65536, done)
      ∷ (refusal (to_unmap 5 (page_of 0x1000000 0) 15) 0, refused_lent_length)
      ∷ (refusal (to_unmap 5 (page_of 0x1000000 0) 17) 0, refused_lent_length)
      ∷ (refusal (to_unmap 5 (page_of 0x1000000 0) 16) 0, refused_argument)
      ∷ (refusal (to_unmap 5 (page_of 0 0x10000) 16) 0, refused_argument)
      ∷ (refusal (to_unmap 5 inside 16) 0, refused_sdr1)
      ∷ (refusal (to_unmap 0 inside 15) 65536, refused_lent_length)
      ∷ (refusal (to_unmap 0 inside 17) 65536, refused_lent_length)
      ∷ (refusal (to_unmap 0 inside 16) 65535, refused_table_length)
      ∷ (refusal (to_unmap 0 inside 16) 65537, refused_table_length)
      ∷ (refusal (to_protect 0 inside 3) 65536, done)
      ∷ (refusal (to_protect 5 (page_of 0x1000000 0) 0) 0, refused_argument)
      ∷ (refusal (to_protect 5 inside 4) 0, refused_argument)
      ∷ (refusal (to_protect 5 inside 0) 0, refused_sdr1)
      ∷ (refusal (to_protect 5 (page_of 0 0x10000) 0) 0, refused_argument)
      ∷ (refusal (to_protect 0 inside 0) 65535, refused_table_length)
      ∷ (refusal (to_protect 0 inside 0) 65537, refused_table_length)
      ∷ (refusal (to_look 0 inside 16) 65536, done)
      ∷ (refusal (to_look 5 (page_of 0x1000000 0) 0) 0, refused_lent_length)
      ∷ (refusal (to_look 5 (page_of 0 0x10000) 16) 0, refused_argument)
      ∷ (refusal (to_look 5 inside 16) 0, refused_sdr1)
      ∷ (refusal (to_look 5 (page_of 0x1000000 0) 16) 0, refused_argument)
      ∷ (refusal (to_look 0 inside 15) 65536, refused_lent_length)
      ∷ (refusal (to_look 0 inside 17) 65536, refused_lent_length)
      ∷ (refusal (to_look 0 inside 16) 65535, refused_table_length)
      ∷ (refusal (to_look 0 inside 16) 65537, refused_table_length)
      ∷ []
      )
  -- the refusals of an access in every mode, each length one below and one above, and each adjacent pair of their order
  pub access_refusals : Hold (
      (refusal (to_access zero_registers 7 2 0 1 48) 65536, done)
      ∷ (refusal (to_access zero_registers 0 0 0 1 48) 65536, done)
      ∷ (refusal (to_access (replicate 131 0) 8 0 0 1 48) 0, refused_lent_length)
      ∷ (refusal (to_access (replicate 133 0) 0 0 0 1 48) 65536, refused_lent_length)
      ∷ (refusal (to_access (replicate 196 0) 7 2 0 1 48) 65536, done)
      ∷ (refusal (to_access (replicate 195 0) 0 0 0 1 48) 65536, refused_lent_length)
      ∷ (refusal (to_access (replicate 197 0) 0 0 0 1 48) 65536, refused_lent_length)
      ∷ (refusal (to_access (replicate 164 0) 0 0 0 1 48) 65536, refused_lent_length)
      ∷ (refusal (to_access (set (set (replicate 196 0) 95 2) 103 2) 0 0 0 1 48) 65536, refused_blocks_share)
      ∷ (refusal (to_access (set (set zero_registers 70 0x3F) 71 0xFE) 0 0 0 1 48) 65536, refused_block)
      ∷ (refusal (to_access zero_registers 8 0 0 1 47) 65536, refused_lent_length)
      ∷ (refusal (to_access (replicate 131 0) 0 0 0 1 48) 65536, refused_lent_length)
      ∷ (refusal (to_access zero_registers 0 0 0 1 47) 65536, refused_lent_length)
      ∷ (refusal (to_access zero_registers 0 0 0 1 49) 65536, refused_lent_length)
      ∷ (refusal (to_access zero_registers 8 0 0 1 48) 65536, refused_argument)
      ∷ (refusal (to_access zero_registers 0 3 0 1 48) 65536, refused_argument)
      ∷ (refusal (to_access broken 8 0 0 1 48) 0, refused_argument)
      ∷ (refusal (to_access broken 0 3 0 1 48) 0, refused_argument)
      ∷ (refusal (to_access zero_registers 0 0 0 128 48) 65536, done)
      ∷ (refusal (to_access zero_registers 7 2 0xFFFFFFFF 128 48) 65536, done)
      ∷ (refusal (to_access zero_registers 0 0 0 0 47) 65536, refused_lent_length)
      ∷ (refusal (to_access zero_registers 8 0 0 0 48) 65536, refused_argument)
      ∷ (refusal (to_access zero_registers 0 3 0 129 48) 65536, refused_argument)
      ∷ (refusal (to_access broken 0 0 0 0 48) 0, refused_operand_length)
      ∷ (refusal (to_access zero_registers 0 0 0 129 48) 65536, refused_operand_length)
      ∷ (refusal (to_access zero_registers 0 0 0 257 48) 65536, refused_operand_length)
      ∷ (refusal (to_access zero_registers 0 0 0 0x80000001 48) 65536, refused_operand_length)
      ∷ (refusal (to_access zero_registers 0 0 0 0xFFFFFFFF 48) 65536, refused_operand_length)
      ∷ (refusal (to_access broken 0 0 0 1 48) 0, refused_sdr1)
      ∷ (refusal (to_access (set broken 3 0) 0 0 0 1 48) 0, refused_block)
      ∷ (refusal (to_access blocks 0 0 0 1 48) 0, refused_blocks_share)
      ∷ (refusal (to_access segment 0 0 0 1 48) 0, refused_segment)
      ∷ (refusal (to_access zero_registers 0 0 0 1 48) 0, refused_table_length)
      ∷ (refusal (to_access zero_registers 0 0 0 1 48) 65535, refused_table_length)
      ∷ (refusal (to_access zero_registers 0 0 0 1 48) 65537, refused_table_length)
      ∷ []
      )
  -- after a refusal table and answer: nothing where a length is refused, else the number and zero words
  pub left_rows : Hold (
      (on_bytes (to_unmap 0 inside (replicate 15 255)) (7 ∷ []), ended refused_lent_length (7 ∷ []) (replicate 15 255))
      ∷ (on_bytes (to_look 0 inside (replicate 17 255)) (7 ∷ []), ended refused_lent_length (7 ∷ []) (replicate 17 255))
      ∷ (on_bytes (to_access [] 0 0 0 1 (replicate 48 255)) (7 ∷ []), ended refused_lent_length (7 ∷ []) (replicate 48 255))
      ∷ (on_bytes (to_access zero_registers 0 0 0 1 []) (7 ∷ []), ended refused_lent_length (7 ∷ []) [])
      ∷ (on_bytes (to_unmap 0 inside (replicate 16 255)) (7 ∷ []), ended refused_table_length (7 ∷ []) (bytes_of (refused_table_length ∷ 0 ∷ 0 ∷ 0 ∷ [])))
      ∷ (on_bytes (to_look 0 inside (replicate 16 255)) (7 ∷ []), ended refused_table_length (7 ∷ []) (bytes_of (refused_table_length ∷ 0 ∷ 0 ∷ 0 ∷ [])))
      ∷ (on_bytes (to_access segment 0 0 0 1 (replicate 48 255)) (7 ∷ []), ended refused_segment (7 ∷ []) (stop refused_segment 0 0 0 no_rule))
      ∷ (on_bytes (to_access segment 0 0 0 0 (replicate 48 255)) (7 ∷ []), ended refused_operand_length (7 ∷ []) (stop refused_operand_length 0 0 0 no_rule))
      ∷ (on_bytes (to_clear 0) (7 ∷ []), ended refused_table_length (7 ∷ []) [])
      ∷ (on_bytes (to_map 0 inside 0 0 4) (7 ∷ []), ended refused_argument (7 ∷ []) [])
      ∷ (on_bytes (to_protect 5 inside 0) (7 ∷ []), ended refused_sdr1 (7 ∷ []) [])
      ∷ []
      )
  -- of a refusal of unmap, look and access, unless it is 11, every byte is compared
  pub compared_rows : Hold (
      (compared (seen_of {A = ℕ} (to_unmap 0 inside 16)) refused_no_match (word_answer refused_no_match 7), (refused_no_match, word_answer refused_no_match 7))
      ∷ (compared (seen_of {A = ℕ} (to_look 0 inside 16)) refused_contradiction (word_answer refused_contradiction 7), (refused_contradiction, word_answer refused_contradiction 7))
      ∷ (compared (seen_of {A = ℕ} (to_access [] 0 0 0 1 48)) refused_operand_length (stop refused_operand_length 0 0 7 no_rule), (refused_operand_length, stop refused_operand_length 0 0 7 no_rule))
      ∷ []
      )
  -- look: duplicates that agree answer the first's raw word, with its own R, C and ignored bits; ones that differ in PP contradict; the entry with
  -- H = 1 does not match
  pub look_rows : Hold (
      (bytes_do 0 (to_look 0 doubled []) equal, ended done equal (word_answer done 0x12345E16))
      ∷ (bytes_do 0 (to_look 0 doubled []) touched, ended done touched (word_answer done 0x12345E16))
      ∷ (bytes_do 0 (to_look 0 doubled []) differing, ended refused_contradiction differing (word_answer refused_contradiction 0))
      ∷ (bytes_do 0 (to_look 0 (page_of 0 0) []) differing, ended done differing (word_answer done 0x54321E96))
      ∷ (bytes_do 0 (to_look 0 (page_of 0x800 0) []) differing, ended refused_no_match differing (word_answer refused_no_match 0))
      ∷ []
      )
  -- unmap: every match zeroed, ignored bits too, and no other byte; the first's word with the marks of all
  pub unmap_rows : Hold (
      (bytes_do 0 (to_unmap 0 doubled []) touched, ended done (group_with 0 0 0x54321E96 0) (word_answer done 0x12345F96))
      ∷ (bytes_do 0 (to_unmap 0 doubled []) differing, ended done (group_with 0 0 0x54321E96 0) (word_answer done 0x12345F96))
      ∷ (bytes_do 0 (to_unmap 0 (page_of 0x800 0) []) differing, ended refused_no_match differing (word_answer refused_no_match 0))
      ∷ []
      )
  -- protect: PP of every match, every other bit kept
  pub protect_rows : Hold (
      (bytes_do 0 (to_protect 0 doubled 0) differing, ended done (group_with 0x80020000 0x12345E94 0x54321E96 0x12345F14) [])
      ∷ (bytes_do 0 (to_protect 0 (page_of 0x800 0) 1) differing, ended refused_no_match differing [])
      ∷ []
      )
  -- map: refused for a page with matches, though they contradict; else the first entry with V = 0, its R, C and ignored bits zero
  pub map_rows : Hold (
      (bytes_do 0 (to_map 0 doubled 0 0 0) differing, ended refused_mapped differing [])
      ∷ (
        bytes_do 0 (to_map 0 (page_of 0x800 0) 0xABCDE 11 3) differing,
        ended done (with_word (with_word differing 32 0x80040000) 36 0xABCDE05B) [],
      )
      ∷ []
      )
  -- an access: the first of duplicates that agree is used and marked, whatever marks the others have, with C on a store alone; a fault or a refusal
  -- marks none
  pub access_rows : Hold ((
    bytes_do 0 (to_access registers 1 2 0x00000123 1 []) equal,
    ended done (group_with 0x80020000 0x12345F96 0x54321E96 0x12345E16) (one_byte 0x12345123 2 0x00000123 (rule 6 2 0 0)),
  )
      ∷ (
        bytes_do 0 (to_access registers 1 1 0x00000123 1 []) equal,
        ended done (group_with 0x80020000 0x12345F16 0x54321E96 0x12345E16) (one_byte 0x12345123 2 0x00000123 (rule 6 2 0 0)),
      )
      ∷ (
        bytes_do 0 (to_access registers 1 1 0x00000123 1 []) touched,
        ended done (group_with 0x80020000 0x12345F16 0x54321E96 0x12345192) (one_byte 0x12345123 2 0x00000123 (rule 6 2 0 0)),
      )
      ∷ (
        bytes_do 0 (to_access registers 1 2 0x00000123 1 []) touched,
        ended done (group_with 0x80020000 0x12345F96 0x54321E96 0x12345192) (one_byte 0x12345123 2 0x00000123 (rule 6 2 0 0)),
      )
      ∷ (bytes_do 0 (to_access registers 1 2 0x00000123 1 []) differing, ended refused_contradiction differing (stop refused_contradiction 0 0 0 no_rule))
      ∷ (bytes_do 0 (to_access registers 1 2 0x00000123 1 []) readable, ended data_storage_fault readable (stop data_storage_fault 0x0A000000 0x300 0x00000123 (rule 5 3 0 0)))
      ∷ (bytes_do 0 (to_access registers 2 0 0x00000123 1 []) guarded_page, ended instruction_storage_fault guarded_page (stop instruction_storage_fault 0x10000000 0x400 0x00000123 (rule 4 0 0 0)))
      ∷ (bytes_do 0 (to_access registers 1 2 0x00001123 1 []) equal, ended data_storage_fault equal (stop data_storage_fault 0x42000000 0x300 0x00001123 (rule 3 0 0 0)))
      ∷ (bytes_do 0 (to_access registers 0 2 0x00000123 1 []) differing, ended done differing (one_byte 0x00000123 3 0x00000123 no_rule))
      ∷ []
      )
  -- an access by a long register page: data pair 7, a block of 4 GB, and the pair's number
  pub long_access_rows : Hold ((
    bytes_do 0 (to_access (set (set (set (set (replicate 196 0) 189 1) 190 0xFF) 191 0xFE) 195 2) 1 1 0xDEADBEEF 1 []) equal,
    ended done equal (one_byte 0xDEADBEEF 0 0xDEADBEEF (rule 1 7 0 0)),
  )
      ∷ []
      )
  -- a page whose secondary group is group 0: its entry has H = 1
  pub secondary_rows : Hold ((
    bytes_do 0 (to_unmap 0 (page_of 0x3FF 0) []) (group_with 0x8001FFC0 0x12345E16 0 0x12345F16),
    ended done (group_with 0 0 0 0) (word_answer done 0x12345F16),
  )
      ∷ (bytes_do 0 (to_look 0 (page_of 0x3FF 0) []) (group_with 0x8001FF80 0 0 0), ended refused_no_match (group_with 0x8001FF80 0 0 0) (word_answer refused_no_match 0))
      ∷ []
      )
