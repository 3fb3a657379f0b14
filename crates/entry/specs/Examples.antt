-- Worked examples of an entry's definitions, each row closed by computation: cases 2 and 3 (rules 9), every field's place and limits, and for
-- what reads or changes a word each bit of it by itself.
use Rattle.std.specs.Prelude.{ℕ, ◌+◌, ◌-◌, true, false, [], ◌∷◌, ◌++◌, map, ◌≡◌, replicate, take}
use Rattle.std.specs.Int.Bits.{bit_xor}
use Rattle.words.specs.Rows.{Hold, powers, each_bit, all_but_each, only_at, not_at, field_of_each, field_of_all_but}
use Rattle.entry.specs.declared.Fields.{Fields}
use Rattle.entry.specs.Entry.{ignored_bits, packed, unpacked, matches, free, page_index, api_of}
use Rattle.entry.specs.Entry.{referenced, changed, with_marks, with_pp, physical_address}

-- fields in the order of the rules
abbrev pub fields : ℕ → ℕ → ℕ → ℕ → ℕ → ℕ → ℕ → ℕ → ℕ → Fields
fields v vsid h api rpn r c wimg pp =
    record { v = v; vsid = vsid; h = h; api = api; rpn = rpn; r = r; c = c; wimg = wimg; pp = pp }

pub record EntryTables : Type 0 where
  -- case 2, in the primary group and in the secondary
  pub case_2 :
      (packed (fields 1 0x0C701C 0 3 0x12345 0 0 2 2) ≡ (0, (0x86380E03, 0x12345012)))
      × (packed (fields 1 0x0C701C 1 3 0x12345 0 0 2 2) ≡ (0, (0x86380E43, 0x12345012)))
  -- a one in each field alone
  pub places :
      (packed (fields 1 0 0 0 0 0 0 0 0) ≡ (0, (0x80000000, 0)))
      × (packed (fields 0 1 0 0 0 0 0 0 0) ≡ (0, (0x00000080, 0)))
      × (packed (fields 0 0 1 0 0 0 0 0 0) ≡ (0, (0x00000040, 0)))
      × (packed (fields 0 0 0 1 0 0 0 0 0) ≡ (0, (0x00000001, 0)))
      × (packed (fields 0 0 0 0 1 0 0 0 0) ≡ (0, (0, 0x00001000)))
      × (packed (fields 0 0 0 0 0 1 0 0 0) ≡ (0, (0, 0x00000100)))
      × (packed (fields 0 0 0 0 0 0 1 0 0) ≡ (0, (0, 0x00000080)))
      × (packed (fields 0 0 0 0 0 0 0 1 0) ≡ (0, (0, 0x00000008)))
      × (packed (fields 0 0 0 0 0 0 0 0 1) ≡ (0, (0, 0x00000001)))
  -- each field at its largest, W and I both one among them, and each alone one past it
  pub widths :
      (packed (fields 1 0xFFFFFF 1 63 0xFFFFF 1 1 15 3) ≡ (0, (0xFFFFFFFF, 0xFFFFF1FB)))
      × (packed (fields 2 0 0 0 0 0 0 0 0) ≡ (6, (0, 0)))
      × (packed (fields 0 0x1000000 0 0 0 0 0 0 0) ≡ (6, (0, 0)))
      × (packed (fields 0 0 2 0 0 0 0 0 0) ≡ (6, (0, 0)))
      × (packed (fields 0 0 0 64 0 0 0 0 0) ≡ (6, (0, 0)))
      × (packed (fields 0 0 0 0 0x100000 0 0 0 0) ≡ (6, (0, 0)))
      × (packed (fields 0 0 0 0 0 2 0 0 0) ≡ (6, (0, 0)))
      × (packed (fields 0 0 0 0 0 0 2 0 0) ≡ (6, (0, 0)))
      × (packed (fields 0 0 0 0 0 0 0 16 0) ≡ (6, (0, 0)))
      × (packed (fields 0 0 0 0 0 0 0 0 4) ≡ (6, (0, 0)))
  -- unpacking, with the ignored bits one
  pub fields_read :
      (unpacked 0x86380E43 0x12345E16 ≡ fields 1 0x0C701C 1 3 0x12345 0 0 2 2)
      × (unpacked 0xFFFFFFFF 0xFFFFFFFF ≡ fields 1 0xFFFFFF 1 63 0xFFFFF 1 1 15 3)
      × (unpacked 0 0xE04 ≡ fields 0 0 0 0 0 0 0 0 0)
  -- the ignored bits, alone one and alone zero
  pub ignored : (ignored_bits 0x00000E04 ≡ 7 ∷ 1 ∷ []) × (ignored_bits 0xFFFFF1FB ≡ 0 ∷ 0 ∷ [])
  -- the entry of case 2 matches; with V, H, or the highest or the lowest bit of VSID or API another, none does
  pub match :
      (matches 0x0C701C 0 3 0x86380E03 ≡ true)
      × (matches 0x0C701C 1 3 0x86380E43 ≡ true)
      × (matches 0x0C701C 0 3 0x06380E03 ≡ false)
      × (matches 0x0C701C 0 3 0x86380E43 ≡ false)
      × (matches 0x0C701C 1 3 0x86380E03 ≡ false)
      × (matches 0x0C701C 0 3 0xC6380E03 ≡ false)
      × (matches 0x0C701C 0 3 0x86380E83 ≡ false)
      × (matches 0x0C701C 0 3 0x86380E23 ≡ false)
      × (matches 0x0C701C 0 3 0x86380E02 ≡ false)
  -- only V makes an entry free
  pub freed : (free 0x7FFFFFFF ≡ true) × (free 0x80000000 ≡ false)
  -- case 3 after a store and after a load; marks that stand are kept, and so is every other bit, one or zero
  pub marks :
      (with_marks true true 0x12345012 ≡ 0x12345192)
      × (with_marks true false 0x12345012 ≡ 0x12345112)
      × (with_marks false true 0x12345012 ≡ 0x12345092)
      × (with_marks false false 0x12345012 ≡ 0x12345012)
      × (with_marks false false 0x12345192 ≡ 0x12345192)
      × (with_marks true true 0x12345192 ≡ 0x12345192)
      × (with_marks true true 0xFFFFFE7F ≡ 0xFFFFFFFF)
      × (with_marks true true 0x00000000 ≡ 0x00000180)
  -- R alone and all but R; C alone and all but C
  pub marks_read :
      (referenced 0x00000100 ≡ true)
      × (referenced 0xFFFFFEFF ≡ false)
      × (changed 0x00000080 ≡ true)
      × (changed 0xFFFFFF7F ≡ false)
  -- another PP in the entry of case 2; every other bit kept, one or zero
  pub protection :
      (with_pp 3 0x12345012 ≡ 0x12345013)
      × (with_pp 0 0xFFFFFFFF ≡ 0xFFFFFFFC)
      × (with_pp 3 0x00000000 ≡ 0x00000003)
  -- case 3; RPN alone and the byte in the page alone
  pub physical :
      (physical_address 0x12345012 0x00FFA01B ≡ 0x1234501B)
      × (physical_address 0xFFFFFFFF 0x00000000 ≡ 0xFFFFF000)
      × (physical_address 0x00000000 0xFFFFFFFF ≡ 0x00000FFF)
  -- the page index of case 3 and its API; the page index alone zero and alone ones
  pub page :
      (page_index 0x00FFA01B ≡ 0x0FFA)
      × (api_of 0x0FFA ≡ 3)
      × (page_index 0xF0000FFF ≡ 0)
      × (page_index 0x0FFFF000 ≡ 0xFFFF)
      × (api_of 0x03FF ≡ 0)
      × (api_of 0xFFFF ≡ 63)
  -- the page index is address bits 4 to 19, and the API its six highest
  pub page_bits : Hold (
      (map page_index each_bit, field_of_each 4 19)
      ∷ (map page_index all_but_each, field_of_all_but 4 19)
      ∷ (map api_of (powers 16), powers 6 ++ replicate 10 0)
      ∷ []
      )
  -- V alone makes an entry used; R is bit 23 and C bit 24
  pub bit_tests : Hold (
      (map free each_bit, not_at 0 0)
      ∷ (map free all_but_each, only_at 0 0)
      ∷ (map referenced each_bit, only_at 23 23)
      ∷ (map referenced all_but_each, not_at 23 23)
      ∷ (map changed each_bit, only_at 24 24)
      ∷ (map changed all_but_each, not_at 24 24)
      ∷ []
      )
  -- a first word that differs from a match in one bit is none, whichever bit it is
  pub one_bit_off : Hold ((map (λ bit. matches 0x0C701C 0 3 (bit_xor 0x86380E03 bit)) each_bit, replicate 32 false) ∷ [])
  -- R, C or both set, another PP: every other bit is kept, one or zero
  pub change_bits : Hold (
      (map (with_marks true false) each_bit, map (λ bit. bit + 0x100) (take 23 each_bit) ++ (0x100 ∷ map (λ bit. bit + 0x100) (powers 8)))
      ∷ (map (with_marks false true) each_bit, map (λ bit. bit + 0x80) (take 24 each_bit) ++ (0x80 ∷ map (λ bit. bit + 0x80) (powers 7)))
      ∷ (map (with_marks false false) each_bit, each_bit)
      ∷ (map (with_marks true false) all_but_each, take 23 all_but_each ++ (0xFFFFFFFF ∷ map (λ bit. 0xFFFFFFFF - bit) (powers 8)))
      ∷ (map (with_marks false true) all_but_each, take 24 all_but_each ++ (0xFFFFFFFF ∷ map (λ bit. 0xFFFFFFFF - bit) (powers 7)))
      ∷ (map (with_pp 0) each_bit, take 30 each_bit ++ (0 ∷ 0 ∷ []))
      ∷ (map (with_pp 3) all_but_each, take 30 all_but_each ++ (0xFFFFFFFF ∷ 0xFFFFFFFF ∷ []))
      ∷ (map (λ pp. with_pp pp 0) (0 ∷ 1 ∷ 2 ∷ 3 ∷ []), 0 ∷ 1 ∷ 2 ∷ 3 ∷ [])
      ∷ []
      )
  -- the frame is bits 0 to 19 of the second word, the byte in the page bits 20 to 31 of the address
  pub physical_bits : Hold (
      (map (λ second. physical_address second 0) each_bit, take 20 each_bit ++ replicate 12 0)
      ∷ (map (λ address. physical_address 0 address) each_bit, replicate 20 0 ++ powers 12)
      ∷ []
      )
