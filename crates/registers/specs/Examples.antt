-- Tables that pin the definitions of the register set: the refusals and each adjacent pair of their order, the pair that covers an address, and the
-- replacement of a word. Each closes by computation.
use Rattle.std.specs.Prelude.{ℕ, true, false, List, [], ◌∷◌, ◌++◌, map, set, replicate, take, drop}
use Rattle.numbers.specs.Numbers.{done, refused_sdr1, refused_block, refused_blocks_share, refused_segment, refused_argument}
use Rattle.words.specs.Rows.{Hold}
use Rattle.words.specs.Words.{bytes_of}
use Rattle.register_words.specs.Block.{bl_width}
use Rattle.registers.specs.Set.{is_page, is_long, block_pairs, register_count, sdr1_of, segment_of, upper_of, lower_of, check_words, covering_pair}
use Rattle.registers.specs.Set.{register_words, replacing, widened, set_words, place_in_set}

-- a short page's words, all zero, with one word, two words or three words changed; and a long page's
unfoldable pub blank : List ℕ
blank = replicate (register_count false) 0

unfoldable pub one : ℕ → ℕ → List ℕ
unfolding blank
one n w = set blank n w

unfoldable pub two : ℕ → ℕ → ℕ → ℕ → List ℕ
unfolding one
two n w m v = set (one n w) m v

unfoldable pub three : ℕ → ℕ → ℕ → ℕ → ℕ → ℕ → List ℕ
unfolding two
three n w m v k u = set (two n w m v) k u

unfoldable pub long_two : ℕ → ℕ → ℕ → ℕ → List ℕ
long_two n w m v = set (set (replicate (register_count true) 0) n w) m v

-- the words 0 to 32, each its own number; and 33 to 48
abbrev pub numbered : List ℕ
numbered =
    0 ∷ 1 ∷ 2 ∷ 3 ∷ 4 ∷ 5 ∷ 6 ∷ 7 ∷ 8 ∷ 9 ∷ 10 ∷ 11 ∷ 12 ∷ 13 ∷ 14 ∷ 15 ∷ 16 ∷ 17 ∷ 18 ∷ 19 ∷ 20 ∷ 21 ∷ 22 ∷ 23 ∷ 24
    ∷ 25 ∷ 26 ∷ 27 ∷ 28 ∷ 29 ∷ 30 ∷ 31 ∷ 32 ∷ []

abbrev pub further : List ℕ
further = 33 ∷ 34 ∷ 35 ∷ 36 ∷ 37 ∷ 38 ∷ 39 ∷ 40 ∷ 41 ∷ 42 ∷ 43 ∷ 44 ∷ 45 ∷ 46 ∷ 47 ∷ 48 ∷ []

pub record RegistersTables : Type 0 where
  -- where each word stands in the set, and in the bytes of the page
  pub places : Hold (
      (sdr1_of numbered ∷ [], 0 ∷ [])
      ∷ (map (segment_of numbered) (0 ∷ 1 ∷ 2 ∷ 3 ∷ 4 ∷ 5 ∷ 6 ∷ 7 ∷ 8 ∷ 9 ∷ 10 ∷ 11 ∷ 12 ∷ 13 ∷ 14 ∷ 15 ∷ []), 1 ∷ 2 ∷ 3 ∷ 4 ∷ 5 ∷ 6 ∷ 7 ∷ 8 ∷ 9 ∷ 10 ∷ 11 ∷ 12 ∷ 13 ∷ 14 ∷ 15 ∷ 16 ∷ [])
      ∷ (map (upper_of (block_pairs false) numbered false) (0 ∷ 1 ∷ 2 ∷ 3 ∷ []), 17 ∷ 19 ∷ 21 ∷ 23 ∷ [])
      ∷ (map (lower_of (block_pairs false) numbered false) (0 ∷ 1 ∷ 2 ∷ 3 ∷ []), 18 ∷ 20 ∷ 22 ∷ 24 ∷ [])
      ∷ (map (upper_of (block_pairs false) numbered true) (0 ∷ 1 ∷ 2 ∷ 3 ∷ []), 25 ∷ 27 ∷ 29 ∷ 31 ∷ [])
      ∷ (map (lower_of (block_pairs false) numbered true) (0 ∷ 1 ∷ 2 ∷ 3 ∷ []), 26 ∷ 28 ∷ 30 ∷ 32 ∷ [])
      ∷ (register_words (bytes_of numbered), numbered)
      ∷ []
      )
  pub long_places : Hold (
      (map (upper_of (block_pairs true) (numbered ++ further) false) (0 ∷ 3 ∷ 4 ∷ 7 ∷ []), 17 ∷ 23 ∷ 25 ∷ 31 ∷ [])
      ∷ (map (lower_of (block_pairs true) (numbered ++ further) false) (0 ∷ 3 ∷ 4 ∷ 7 ∷ []), 18 ∷ 24 ∷ 26 ∷ 32 ∷ [])
      ∷ (map (upper_of (block_pairs true) (numbered ++ further) true) (0 ∷ 3 ∷ 4 ∷ 7 ∷ []), 33 ∷ 39 ∷ 41 ∷ 47 ∷ [])
      ∷ (map (lower_of (block_pairs true) (numbered ++ further) true) (0 ∷ 3 ∷ 4 ∷ 7 ∷ []), 34 ∷ 40 ∷ 42 ∷ 48 ∷ [])
      ∷ (register_words (bytes_of (numbered ++ further)), numbered ++ further)
      ∷ []
      )
  -- the lengths of a page, and the limits that they tell
  pub limits : Hold (
      (map is_page (0 ∷ 131 ∷ 132 ∷ 133 ∷ 164 ∷ 195 ∷ 196 ∷ 197 ∷ []), false ∷ false ∷ true ∷ false ∷ false ∷ false ∷ true ∷ false ∷ [])
      ∷ (map is_long (132 ∷ 196 ∷ []), false ∷ true ∷ [])
      ∷ []
      )
  -- a short page's words in a set: the data pairs at 33, zeros at 25 to 32 and 41 to 48
  pub widened_rows : Hold (
      (set_words (bytes_of numbered), take 25 numbered ++ replicate 8 0 ++ drop 25 numbered ++ replicate 8 0)
      ∷ (set_words (bytes_of (numbered ++ further)), numbered ++ further)
      ∷ (map (upper_of (block_pairs true) (widened numbered) true) (0 ∷ 3 ∷ 4 ∷ 7 ∷ []), 25 ∷ 31 ∷ 0 ∷ 0 ∷ [])
      ∷ (map (upper_of (block_pairs true) (widened numbered) false) (0 ∷ 3 ∷ 4 ∷ 7 ∷ []), 17 ∷ 23 ∷ 0 ∷ 0 ∷ [])
      ∷ (map (place_in_set false) (0 ∷ 24 ∷ 25 ∷ 32 ∷ []), 0 ∷ 24 ∷ 33 ∷ 40 ∷ [])
      ∷ (map (place_in_set true) (0 ∷ 24 ∷ 25 ∷ 48 ∷ []), 0 ∷ 24 ∷ 25 ∷ 48 ∷ [])
      ∷ []
      )
  -- each refusal, at the first and the last word that it looks at; then each adjacent pair of the order 2, 3, 4, 5
  pub check_rows : Hold (
      (check_words (block_pairs false) (bl_width false) blank, done)
      ∷ (check_words (block_pairs false) (bl_width false) (one 0 5), refused_sdr1)
      ∷ (check_words (block_pairs false) (bl_width false) (one 17 0x0000000A), refused_block)
      ∷ (check_words (block_pairs false) (bl_width false) (one 23 0x0000000A), refused_block)
      ∷ (check_words (block_pairs false) (bl_width false) (one 25 0x0000000A), refused_block)
      ∷ (check_words (block_pairs false) (bl_width false) (one 31 0x0000000A), refused_block)
      ∷ (check_words (block_pairs false) (bl_width false) (two 23 2 24 0x00000008), refused_block)
      ∷ (check_words (block_pairs false) (bl_width false) (two 31 2 32 0x00000008), done)
      ∷ (check_words (block_pairs false) (bl_width false) (two 17 2 23 2), refused_blocks_share)
      ∷ (check_words (block_pairs false) (bl_width false) (two 25 2 31 3), refused_blocks_share)
      ∷ (check_words (block_pairs false) (bl_width false) (two 25 1 31 2), done)
      ∷ (check_words (block_pairs false) (bl_width false) (two 17 2 25 2), done)
      ∷ (check_words (block_pairs false) (bl_width false) (two 23 2 25 2), done)
      ∷ (check_words (block_pairs false) (bl_width false) (one 1 0x80000000), refused_segment)
      ∷ (check_words (block_pairs false) (bl_width false) (one 16 0x01000000), refused_segment)
      ∷ (check_words (block_pairs false) (bl_width false) (one 16 0x70FFFFFF), done)
      ∷ (check_words (block_pairs false) (bl_width false) (two 0 5 17 0x0000000A), refused_sdr1)
      ∷ (check_words (block_pairs false) (bl_width false) (three 17 2 19 2 31 0x0000000A), refused_block)
      ∷ (check_words (block_pairs false) (bl_width false) (three 17 2 19 2 1 0x80000000), refused_blocks_share)
      ∷ []
      )
  -- the pair that covers an address, of its side and for its privilege
  pub covering_rows : Hold (
      (covering_pair (block_pairs false) (bl_width false) (two 31 0x80001FFE 23 0x80001FFD) true false 0x8FFFFFFF, 3)
      ∷ (covering_pair (block_pairs false) (bl_width false) (two 31 0x80001FFE 23 0x80001FFD) false false 0x8FFFFFFF, 4)
      ∷ (covering_pair (block_pairs false) (bl_width false) (two 31 0x80001FFE 23 0x80001FFD) false true 0x8FFFFFFF, 3)
      ∷ (covering_pair (block_pairs false) (bl_width false) (two 31 0x80001FFE 23 0x80001FFD) true false 0x90000000, 4)
      ∷ (covering_pair (block_pairs false) (bl_width false) (one 17 2) false false 0, 0)
      ∷ (covering_pair (block_pairs true) (bl_width true) (long_two 47 0x80001FFE 31 0x80001FFD) true false 0x8FFFFFFF, 7)
      ∷ (covering_pair (block_pairs true) (bl_width true) (long_two 47 0x80001FFE 31 0x80001FFD) false true 0x8FFFFFFF, 7)
      ∷ (covering_pair (block_pairs true) (bl_width true) (long_two 47 0x80001FFE 31 0x80001FFD) false false 0x8FFFFFFF, 8)
      ∷ []
      )
  -- a long page: each refusal at the first and the last pair; a clash of pairs 3 and 4; bits 15 to 18; a block of 4 GB clashes with every other
  pub long_rows : Hold (
      (check_words (block_pairs true) (bl_width true) (long_two 17 0x0000000A 0 0), refused_block)
      ∷ (check_words (block_pairs true) (bl_width true) (long_two 31 0x0000000A 0 0), refused_block)
      ∷ (check_words (block_pairs true) (bl_width true) (long_two 33 0x0000000A 0 0), refused_block)
      ∷ (check_words (block_pairs true) (bl_width true) (long_two 47 0x0000000A 0 0), refused_block)
      ∷ (check_words (block_pairs true) (bl_width true) (long_two 31 2 32 0x00000008), refused_block)
      ∷ (check_words (block_pairs true) (bl_width true) (long_two 33 2 34 0x00000008), done)
      ∷ (check_words (block_pairs true) (bl_width true) (long_two 25 2 26 0x00000008), refused_block)
      ∷ (check_words (block_pairs true) (bl_width true) (long_two 23 2 25 2), refused_blocks_share)
      ∷ (check_words (block_pairs true) (bl_width true) (long_two 39 2 41 2), refused_blocks_share)
      ∷ (check_words (block_pairs true) (bl_width true) (long_two 33 2 47 2), refused_blocks_share)
      ∷ (check_words (block_pairs true) (bl_width true) (long_two 31 2 33 2), done)
      ∷ (check_words (block_pairs true) (bl_width true) (long_two 17 0x0001FFFE 31 0xFFFE0002), refused_blocks_share)
      ∷ (check_words (block_pairs true) (bl_width true) (long_two 17 0x0001FFFE 31 0xFFFE0001), done)
      ∷ (check_words (block_pairs true) (bl_width true) (long_two 47 0x00003FFE 0 0), done)
      ∷ (check_words (block_pairs false) (bl_width false) (one 31 0x00003FFE), refused_block)
      ∷ (check_words (block_pairs false) (bl_width false) (one 31 0x00003FFC), done)
      ∷ []
      )
  -- replacing a word: 0, or the refusal; a broken set is repaired by its broken word; each page has its own numbers
  pub replacing_rows : Hold (
      (replacing false blank 32 0x10000002, done)
      ∷ (replacing false blank 33 0, refused_argument)
      ∷ (replacing false blank 0 5, refused_sdr1)
      ∷ (replacing false blank 31 0x0000000A, refused_block)
      ∷ (replacing false (one 17 2) 19 2, refused_blocks_share)
      ∷ (replacing false blank 16 0x80000000, refused_segment)
      ∷ (replacing false (one 0 5) 0 0, done)
      ∷ (replacing false (one 0 5) 1 0, refused_sdr1)
      ∷ (replacing true (long_two 0 0 0 0) 31 0x00003FFE, done)
      ∷ (replacing true (long_two 0 0 0 0) 33 0, done)
      ∷ (replacing true (long_two 0 0 0 0) 48 0x10000002, done)
      ∷ (replacing true (long_two 0 0 0 0) 49 0, refused_argument)
      ∷ (replacing false blank 31 0x00003FFE, refused_block)
      ∷ (replacing true (long_two 0 0 0 0) 47 0x00003FFE, done)
      ∷ []
      )
