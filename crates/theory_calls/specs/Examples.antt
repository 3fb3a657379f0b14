-- Rows that pin what the calls without a table answer and leave (rules 2 to 4), each closed by computation.
use Rattle.std.specs.Prelude.{ℕ, List, [], ◌∷◌, replicate, set}
use Rattle.numbers.specs.Numbers.{done, refused_sdr1, refused_block, refused_blocks_share, refused_segment, refused_argument, refused_lent_length}
use Rattle.words.specs.Rows.{Hold}
use Rattle.words.specs.Words.{bytes_of}
use Rattle.entry.specs.Examples.{fields}
use Rattle.theory_calls.specs.WithoutTable.{check_call, set_register_call, pack_call, unpack_call}

-- n zero bytes, and n bytes of ones
abbrev pub zeros : ℕ → List ℕ
zeros n = replicate n 0

abbrev pub ones : ℕ → List ℕ
ones n = replicate n 255

pub record WithoutTableTables : Type 0 where
  -- check: a wrong length before all else, one byte short and one byte long; and the last word is looked at
  pub check_rows : Hold (
      (check_call (zeros 132), done)
      ∷ (check_call (zeros 131), refused_lent_length)
      ∷ (check_call (zeros 133), refused_lent_length)
      ∷ (check_call [], refused_lent_length)
      ∷ (check_call (set (zeros 131) 3 5), refused_lent_length)
      ∷ (check_call (set (zeros 132) 3 5), refused_sdr1)
      ∷ (check_call (set (set (zeros 132) 127 2) 131 4), refused_block)
      ∷ (check_call (set (set (zeros 132) 103 2) 111 2), refused_blocks_share)
      ∷ (check_call (set (zeros 132) 64 128), refused_segment)
      ∷ []
      )
  -- a long page: its length, its last word, pairs 3 and 4 of a side, and BL of 15 bits; the length alone tells which page it is
  pub long_check_rows : Hold (
      (check_call (zeros 196), done)
      ∷ (check_call (zeros 195), refused_lent_length)
      ∷ (check_call (zeros 197), refused_lent_length)
      ∷ (check_call (zeros 164), refused_lent_length)
      ∷ (check_call (set (set (zeros 196) 191 2) 195 4), refused_block)
      ∷ (check_call (set (set (zeros 196) 95 2) 103 2), refused_blocks_share)
      ∷ (check_call (set (set (zeros 132) 95 2) 103 2), done)
      ∷ (check_call (set (set (zeros 196) 70 0x3F) 71 0xFE), done)
      ∷ (check_call (set (set (zeros 132) 70 0x3F) 71 0xFE), refused_block)
      ∷ (check_call (set (set (zeros 132) 70 0x3F) 71 0xFC), done)
      ∷ []
      )
  -- set_register: the word's four bytes and no other; a refusal leaves the page
  pub set_rows : Hold (
      (set_register_call (zeros 132) 0 0x0F980007, (done, set (set (set (zeros 132) 0 0x0F) 1 0x98) 3 7))
      ∷ (set_register_call (zeros 132) 32 0x00000002, (done, set (zeros 132) 131 2))
      ∷ (set_register_call (zeros 132) 33 0, (refused_argument, zeros 132))
      ∷ (set_register_call (zeros 132) 0xFFFFFFFF 0, (refused_argument, zeros 132))
      ∷ (set_register_call (zeros 132) 0 5, (refused_sdr1, zeros 132))
      ∷ (set_register_call (zeros 131) 33 0, (refused_lent_length, zeros 131))
      ∷ (set_register_call (zeros 133) 0 0, (refused_lent_length, zeros 133))
      ∷ (set_register_call [] 0 0, (refused_lent_length, []))
      ∷ []
      )
  pub long_set_rows : Hold (
      (set_register_call (zeros 196) 48 0x00000002, (done, set (zeros 196) 195 2))
      ∷ (set_register_call (zeros 196) 33 0x00000002, (done, set (zeros 196) 135 2))
      ∷ (set_register_call (zeros 196) 49 0, (refused_argument, zeros 196))
      ∷ (set_register_call (zeros 196) 17 0x0001FFFE, (done, set (set (set (zeros 196) 69 1) 70 0xFF) 71 0xFE))
      ∷ (set_register_call (zeros 132) 17 0x0001FFFE, (refused_block, zeros 132))
      ∷ (set_register_call (zeros 164) 0 0, (refused_lent_length, zeros 164))
      ∷ []
      )
  -- pack: case 2, zero words where a field is refused, and nothing written at another length
  pub pack_rows : Hold (
      (pack_call (fields 1 0x0C701C 0 3 0x12345 0 0 2 2) (zeros 8), (done, 0x86 ∷ 0x38 ∷ 0x0E ∷ 0x03 ∷ 0x12 ∷ 0x34 ∷ 0x50 ∷ 0x12 ∷ []))
      ∷ (pack_call (fields 2 0 0 0 0 0 0 0 0) (ones 8), (refused_argument, zeros 8))
      ∷ (pack_call (fields 2 0 0 0 0 0 0 0 0) (ones 7), (refused_lent_length, ones 7))
      ∷ (pack_call (fields 1 0 0 0 0 0 0 0 0) (ones 9), (refused_lent_length, ones 9))
      ∷ []
      )
  -- unpack: the fields in their order, and nothing written at another length
  pub unpack_rows : Hold (
      (unpack_call 0x86380E43 0x12345112 (ones 36), (done, bytes_of (1 ∷ 0x0C701C ∷ 1 ∷ 3 ∷ 0x12345 ∷ 1 ∷ 0 ∷ 2 ∷ 2 ∷ [])))
      ∷ (unpack_call 0xFFFFFFFF 0xFFFFFFFF (zeros 36), (done, bytes_of (1 ∷ 0xFFFFFF ∷ 1 ∷ 63 ∷ 0xFFFFF ∷ 1 ∷ 1 ∷ 15 ∷ 3 ∷ [])))
      ∷ (unpack_call 1 1 (zeros 35), (refused_lent_length, zeros 35))
      ∷ (unpack_call 1 1 (ones 37), (refused_lent_length, ones 37))
      ∷ []
      )
