-- Worked examples of words, fields and tests below a bound, each row closed by computation (rules 1).
use Rattle.std.specs.Prelude.{true, false, [], ◌∷◌, ◌++◌, map, eqb, ltb, replicate}
use Rattle.words.specs.Bits.{bits, placed, with_bits}
use Rattle.words.specs.Ones.{low_ones}
use Rattle.words.specs.Words.{word_bytes, word_at, swapped, with_word, bytes_of, words_at}
use Rattle.words.specs.Below.{every_below, first_below}
use Rattle.words.specs.Rows.{Hold, each_bit, all_but_each, field_of_each, field_of_all_but}

pub record WordsTables : Type 0 where
  -- bit 0 is the most significant: a field read, placed, and put into a word of ones and of zeros
  pub fields : Hold (
      (map (bits 0 0) each_bit, field_of_each 0 0)
      ∷ (map (bits 4 19) each_bit, field_of_each 4 19)
      ∷ (map (bits 31 31) each_bit, field_of_each 31 31)
      ∷ (map (bits 4 19) all_but_each, field_of_all_but 4 19)
      ∷ (map (λ b. placed b 1) (0 ∷ 19 ∷ 31 ∷ []), 0x80000000 ∷ 0x00001000 ∷ 1 ∷ [])
      ∷ (map (with_bits 4 7 0) (0xFFFFFFFF ∷ 0 ∷ []), 0xF0FFFFFF ∷ 0 ∷ [])
      ∷ (map (with_bits 4 7 0xA) (0xFFFFFFFF ∷ 0 ∷ []), 0xFAFFFFFF ∷ 0x0A000000 ∷ [])
      ∷ []
      )
  -- ones only at the low end: 0, and each number of ones; not a one above a zero
  pub low_ones : Hold (
      (map low_ones (0 ∷ 1 ∷ 3 ∷ 7 ∷ 0x1FF ∷ 0x7FF ∷ 0x7FFF ∷ []), replicate 7 true)
      ∷ (map low_ones (2 ∷ 4 ∷ 5 ∷ 6 ∷ 0x1FE ∷ 0xFF7 ∷ 0x400 ∷ []), replicate 7 false)
      ∷ []
      )
  -- big-endian: the most significant byte first, at any place, and the others kept
  pub bytes : Hold (
      (word_bytes 0x12345678, 0x12 ∷ 0x34 ∷ 0x56 ∷ 0x78 ∷ [])
      ∷ (bytes_of (0x12345678 ∷ 0x9ABCDEF0 ∷ []), 0x12 ∷ 0x34 ∷ 0x56 ∷ 0x78 ∷ 0x9A ∷ 0xBC ∷ 0xDE ∷ 0xF0 ∷ [])
      ∷ (with_word (replicate 6 0xFF) 1 0x12345678, 0xFF ∷ 0x12 ∷ 0x34 ∷ 0x56 ∷ 0x78 ∷ 0xFF ∷ [])
      ∷ (words_at (0xFF ∷ 0x12 ∷ 0x34 ∷ 0x56 ∷ 0x78 ∷ 0x9A ∷ 0xBC ∷ 0xDE ∷ 0xF0 ∷ []) 1 2, 0x12345678 ∷ 0x9ABCDEF0 ∷ [])
      ∷ (map (word_at (0x12 ∷ 0x34 ∷ 0x56 ∷ 0x78 ∷ 0x9A ∷ [])) (0 ∷ 1 ∷ []), 0x12345678 ∷ 0x3456789A ∷ [])
      ∷ []
      )
  -- the bytes in reverse order, and each bit by itself
  pub reversed : Hold (
      (swapped 0x12345678 ∷ [], 0x78563412 ∷ [])
      ∷ (
        map swapped each_bit,
        (0x80 ∷ 0x40 ∷ 0x20 ∷ 0x10 ∷ 8 ∷ 4 ∷ 2 ∷ 1 ∷ [])
            ++ (0x8000 ∷ 0x4000 ∷ 0x2000 ∷ 0x1000 ∷ 0x800 ∷ 0x400 ∷ 0x200 ∷ 0x100 ∷ [])
            ++ (0x800000 ∷ 0x400000 ∷ 0x200000 ∷ 0x100000 ∷ 0x80000 ∷ 0x40000 ∷ 0x20000 ∷ 0x10000 ∷ [])
            ++ (0x80000000 ∷ 0x40000000 ∷ 0x20000000 ∷ 0x10000000 ∷ 0x8000000 ∷ 0x4000000 ∷ 0x2000000 ∷ 0x1000000 ∷ []),
      )
      ∷ []
      )
  -- tests of the numbers below a bound
  pub every : Hold (
      (every_below 0 (λ i. false), true)
      ∷ (every_below 3 (λ i. ltb i 3), true)
      ∷ (every_below 4 (λ i. ltb i 3), false)
      ∷ (every_below 4 (λ i. ltb 0 i), false)
      ∷ []
      )
  pub first : Hold (
      (first_below 4 (λ i. ltb 1 i), 2)
      ∷ (first_below 4 (λ i. eqb i 0), 0)
      ∷ (first_below 4 (λ i. ltb 3 i), 4)
      ∷ []
      )
