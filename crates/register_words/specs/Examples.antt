-- Tables that pin the definitions of a register word: a good and a bad row for each reserved field and each shape rule, each bit by itself, and
-- the block edges of cases 8 to 10 (rules 9). Each closes by computation.
use Rattle.std.specs.Prelude.{◌+◌, true, false, [], ◌∷◌, ◌++◌, map, take, replicate}
use Rattle.words.specs.Rows.{Hold, each_bit, all_but_each, only_at, not_at, field_of_each, field_of_all_but}
use Rattle.register_words.specs.Sdr1.{sdr1_shape, table_length, hash_bits}
use Rattle.register_words.specs.Segment.{segment_shape, key_of, no_execute, segment_vsid}
use Rattle.register_words.specs.Block.{bl_width, valid_for, common_v, block_shape, in_block, block_physical, clash, covers, block_attributes, block_pp}

pub record RegisterWordsTables : Type 0 where
  -- SDR1: case 7, the largest mask, and each end of bits 16 to 22
  pub sdr1_rows : Hold (
      (sdr1_shape 0x0F980007, true)
      ∷ (sdr1_shape 0x0F980000, true)
      ∷ (sdr1_shape 0, true)
      ∷ (sdr1_shape 0xFE0001FF, true)
      ∷ (sdr1_shape 0x0F980005, false)
      ∷ (sdr1_shape 0x0F980006, false)
      ∷ (sdr1_shape 0x0F910007, false)
      ∷ (sdr1_shape 0x0F9C0007, false)
      ∷ (sdr1_shape 0xFF0001FF, false)
      ∷ (sdr1_shape 0x0F988000, false)
      ∷ (sdr1_shape 0x0F980200, false)
      ∷ []
      )
  -- SDR1 by one bit alone: an origin bit is free where the mask is 0; of the mask only its lowest bit stands alone
  pub sdr1_bits : Hold ((map sdr1_shape each_bit, replicate 16 true ++ replicate 15 false ++ (true ∷ [])) ∷ [])
  -- table lengths and n = 10 + k
  pub length_rows : Hold (
      (table_length 0x0F980000, 65536)
      ∷ (table_length 0x0F980007, 524288)
      ∷ (table_length 0xFE0001FF, 33554432)
      ∷ (hash_bits 0x0F980000, 10)
      ∷ (hash_bits 0x0F980007, 13)
      ∷ (hash_bits 0xFE0001FF, 19)
      ∷ []
      )
  -- segment registers: T, bits 4 to 7, and which bit each field is
  pub segment_rows : Hold (
      (segment_shape 0, true)
      ∷ (segment_shape 0x70FFFFFF, true)
      ∷ (segment_shape 0x80000000, false)
      ∷ (segment_shape 0x08000000, false)
      ∷ (segment_shape 0x04000000, false)
      ∷ (segment_shape 0x02000000, false)
      ∷ (segment_shape 0x01000000, false)
      ∷ []
      )
  -- every bit of a segment register by itself, and every bit alone missing: T and bits 4 to 7, Ks, Kp, N, VSID
  pub segment_bits : Hold (
      (map segment_shape each_bit, false ∷ true ∷ true ∷ true ∷ replicate 4 false ++ replicate 24 true)
      ∷ (map (key_of false) each_bit, only_at 1 1)
      ∷ (map (key_of false) all_but_each, not_at 1 1)
      ∷ (map (key_of true) each_bit, only_at 2 2)
      ∷ (map (key_of true) all_but_each, not_at 2 2)
      ∷ (map no_execute each_bit, only_at 3 3)
      ∷ (map no_execute all_but_each, not_at 3 3)
      ∷ []
      )
  pub vsid_bits : Hold ((map segment_vsid each_bit, field_of_each 8 31) ∷ (map segment_vsid all_but_each, field_of_all_but 8 31) ∷ [])
  -- the key: Ks and Kp × PR, and beside every other bit
  pub key_rows : Hold (
      (key_of false 0x00FFFFFF, false)
      ∷ (key_of true 0x00FFFFFF, false)
      ∷ (key_of false 0x40000000, true)
      ∷ (key_of true 0x40000000, false)
      ∷ (key_of false 0x20000000, false)
      ∷ (key_of true 0x20000000, true)
      ∷ (key_of false 0x60000000, true)
      ∷ (key_of true 0x60000000, true)
      ∷ (key_of false 0x30FFFFFF, false)
      ∷ (key_of true 0x50FFFFFF, false)
      ∷ []
      )
  -- upper words: bits 15 to 18, BL (case 10), BEPI under BL, pairs off
  pub upper_rows : Hold (
      (block_shape (bl_width false) true 0x80001FFE 0x10000002, true)
      ∷ (block_shape (bl_width false) true 0xFFFE0003 0, true)
      ∷ (block_shape (bl_width false) true 0x00010002 0, false)
      ∷ (block_shape (bl_width false) true 0x00008002 0, false)
      ∷ (block_shape (bl_width false) true 0x00004002 0, false)
      ∷ (block_shape (bl_width false) true 0x00002002 0, false)
      ∷ (block_shape (bl_width false) true 0x00000006 0, true)
      ∷ (block_shape (bl_width false) true 0x0000000A 0, false)
      ∷ (block_shape (bl_width false) true 0x0000000E 0, true)
      ∷ (block_shape (bl_width false) true 0x00000016 0, false)
      ∷ (block_shape (bl_width false) true 0x00001002 0, false)
      ∷ (block_shape (bl_width false) true 0x00020006 0, false)
      ∷ (block_shape (bl_width false) true 0x00040006 0, true)
      ∷ (block_shape (bl_width false) true 0x08001FFE 0, false)
      ∷ (block_shape (bl_width false) true 0x10001FFE 0, true)
      ∷ (block_shape (bl_width false) true 0x00000009 0, false)
      ∷ (block_shape (bl_width false) true 0x00000008 0, true)
      ∷ (block_shape (bl_width false) true 0xFFFFFFFC 0xFFFFFFFF, true)
      ∷ (block_shape (bl_width false) false 0xFFFFFFFC 0xFFFFFFFF, true)
      ∷ (block_shape (bl_width false) false 0x0000000A 0, false)
      ∷ []
      )
  -- lower words: BRPN under BL, bits 15 to 24, bit 29, W with I, and W and G of an instruction block
  pub lower_rows : Hold (
      (block_shape (bl_width false) true 0x00000006 0x00020000, false)
      ∷ (block_shape (bl_width false) true 0x00000006 0x00040000, true)
      ∷ (block_shape (bl_width false) true 0x00000002 0x00010000, false)
      ∷ (block_shape (bl_width false) true 0x00000002 0x00000080, false)
      ∷ (block_shape (bl_width false) true 0x00000002 0x00000004, false)
      ∷ (block_shape (bl_width false) true 0x00000002 0xFFFE0003, true)
      ∷ (block_shape (bl_width false) true 0x00000002 0x00000060, false)
      ∷ (block_shape (bl_width false) true 0x00000002 0x00000078, false)
      ∷ (block_shape (bl_width false) true 0x00000002 0x00000058, true)
      ∷ (block_shape (bl_width false) true 0x00000002 0x00000038, true)
      ∷ (block_shape (bl_width false) false 0x00000002 0x00000040, false)
      ∷ (block_shape (bl_width false) false 0x00000002 0x00000008, false)
      ∷ (block_shape (bl_width false) false 0x00000002 0x00000060, false)
      ∷ (block_shape (bl_width false) false 0x00000002 0x00000030, true)
      ∷ []
      )
  -- a pair that is on, with one bit more in its upper word: BEPI, bits 15 to 18, BL, of which only the lowest bit stands alone
  pub upper_bits : Hold (
      (map (λ bit. block_shape (bl_width false) true (bit + 2) 0) (take 30 each_bit), replicate 15 true ++ replicate 14 false ++ (true ∷ []))
      ∷ (map (λ bit. block_shape (bl_width false) false (bit + 1) 0) (take 30 each_bit), replicate 15 true ++ replicate 14 false ++ (true ∷ []))
      ∷ []
      )
  -- and one bit in its lower word: BRPN, bits 15 to 24, W, I, M, G, bit 29, PP
  pub lower_bits : Hold (
      (map (block_shape (bl_width false) true 2) each_bit, replicate 15 true ++ replicate 10 false ++ replicate 4 true ++ (false ∷ true ∷ true ∷ []))
      ∷ (
        map (block_shape (bl_width false) false 2) each_bit,
        replicate 15 true ++ replicate 10 false ++ (false ∷ true ∷ true ∷ false ∷ []) ++ (false ∷ true ∷ true ∷ []),
      )
      ∷ []
      )
  -- BL of 15 bits: bits 15 to 18 belong to it, and the largest block is 4 GB
  pub wide_rows : Hold (
      (block_shape (bl_width true) true 0x0001FFFE 0, true)
      ∷ (block_shape (bl_width false) true 0x0001FFFE 0, false)
      ∷ (block_shape (bl_width true) true 0x00003FFE 0, true)
      ∷ (block_shape (bl_width false) true 0x00003FFE 0, false)
      ∷ (block_shape (bl_width true) true 0x00010002 0, false)
      ∷ (block_shape (bl_width true) true 0x0002FFFE 0, false)
      ∷ (block_shape (bl_width true) true 0x80001FFE 0x10000002, true)
      ∷ (block_shape (bl_width true) true 0x0001FFFC 0, true)
      ∷ (block_shape (bl_width false) true 0x0001FFFC 0, true)
      ∷ (block_shape (bl_width true) true 0x0001FFFE 0x80000000, false)
      ∷ []
      )
  pub wide_bits : Hold (
      (map (λ bit. block_shape (bl_width true) true (bit + 2) 0) (take 30 each_bit), replicate 15 true ++ replicate 14 false ++ true ∷ [])
      ∷ (map (λ bit. in_block (bl_width true) 0x0001FFFE bit) each_bit, replicate 32 true)
      ∷ (map (λ bit. clash (bl_width true) 0x0001FFFE (bit + 2)) (take 15 each_bit), replicate 15 true)
      ∷ (map (λ bit. clash (bl_width true) (bit + 1) 0x0001FFFF) (take 15 each_bit), replicate 15 true)
      ∷ []
      )
  -- a block of 4 GB holds every address and clashes with each block that has its V bit; one of 512 MB
  pub wide_blocks : Hold (
      (covers (bl_width true) false 0x0001FFFE 0 ∷ covers (bl_width true) false 0x0001FFFE 0xFFFFFFFF ∷ covers (bl_width true) true 0x0001FFFE 0 ∷ [], true ∷ true ∷ false ∷ [])
      ∷ (clash (bl_width true) 0x0001FFFE 0xFFFE0002 ∷ clash (bl_width true) 0x0001FFFE 0xFFFE0001 ∷ clash (bl_width true) 0x0001FFFE 0x0001FFFE ∷ [], true ∷ false ∷ true ∷ [])
      ∷ (covers (bl_width true) false 0x20003FFE 0x3FFFFFFF ∷ covers (bl_width true) false 0x20003FFE 0x40000000 ∷ covers (bl_width true) false 0x20003FFE 0x1FFFFFFF ∷ [], true ∷ false ∷ false ∷ [])
      ∷ []
      )
  pub wide_physical : Hold (
      (block_physical (bl_width true) 0x0001FFFE 0x00000002 0xDEADBEEF, 0xDEADBEEF)
      ∷ (block_physical (bl_width true) 0x20003FFE 0x60000002 0x3FFFFFFF, 0x7FFFFFFF)
      ∷ []
      )
  -- Vs for the supervisor, Vp for the user, and a V bit in common
  pub valid_bits : Hold (
      (map (valid_for false) each_bit, only_at 30 30)
      ∷ (map (valid_for false) all_but_each, not_at 30 30)
      ∷ (map (valid_for true) each_bit, only_at 31 31)
      ∷ (map (valid_for true) all_but_each, not_at 31 31)
      ∷ (map (common_v 0xFFFFFFFF) each_bit, only_at 30 31)
      ∷ (map (common_v 2) each_bit, only_at 30 30)
      ∷ []
      )
  pub valid_rows : Hold (
      (common_v 2 1, false)
      ∷ (common_v 0 3, false)
      ∷ (common_v 3 1, true)
      ∷ (common_v 3 2, true)
      ∷ []
      )
  -- the edges of blocks: cases 8 and 9, and the privilege
  pub edge_rows : Hold (
      (covers (bl_width false) false 0x80001FFE 0x8FFFFFFF, true)
      ∷ (covers (bl_width false) false 0x80001FFE 0x80000000, true)
      ∷ (covers (bl_width false) false 0x80001FFE 0x90000000, false)
      ∷ (covers (bl_width false) false 0x80001FFE 0x7FFFFFFF, false)
      ∷ (covers (bl_width false) true 0x80001FFE 0x8FFFFFFF, false)
      ∷ (covers (bl_width false) false 0x00000002 0x0001FFFF, true)
      ∷ (covers (bl_width false) false 0x00000002 0x00020000, false)
      ∷ (clash (bl_width false) 0x80001FFE 0x88000002, true)
      ∷ (clash (bl_width false) 0x88000002 0x80001FFE, true)
      ∷ (clash (bl_width false) 0x90000002 0x80001FFE, false)
      ∷ (clash (bl_width false) 0x80001FFE 0x90000002, false)
      ∷ (clash (bl_width false) 0x80001FFE 0x88000001, false)
      ∷ []
      )
  pub physical_rows : Hold (
      (block_physical (bl_width false) 0x80001FFE 0x10000002 0x8FFFFFFF, 0x1FFFFFFF)
      ∷ (block_physical (bl_width false) 0x80001FFE 0x10000002 0x80000000, 0x10000000)
      ∷ (block_physical (bl_width false) 0x00000002 0x20000002 0x0001FFFF, 0x2001FFFF)
      ∷ []
      )
  -- of the lower word WIMG is bits 25 to 28 and PP bits 30 and 31
  pub attribute_bits : Hold (
      (map block_attributes each_bit, field_of_each 25 28)
      ∷ (map block_attributes all_but_each, field_of_all_but 25 28)
      ∷ (map block_pp each_bit, field_of_each 30 31)
      ∷ (map block_pp all_but_each, field_of_all_but 30 31)
      ∷ []
      )
