-- Worked examples of hash, groups and free entries, each row closed by computation: cases 1, 6 and 11 (rules 9), the manual's group addresses,
-- and a group of 64 bytes with used and free entries.
use Rattle.std.specs.Prelude.{ℕ, ◌-◌, ◌^◌, true, false, List, [], ◌∷◌, ◌++◌, map, ◌≡◌, replicate, Some, None}
use Rattle.words.specs.Rows.{Hold, powers}
use Rattle.words.specs.Words.{bytes_of}
use Rattle.register_words.specs.Sdr1.{hash_bits}
use Rattle.groups.specs.declared.Page.{Page}
use Rattle.groups.specs.Page.{same_page}
use Rattle.groups.specs.Hash.{hash_of, groups_of, group_number, group_address}
use Rattle.groups.specs.Group.{group_of, first_of, second_of, put_at, place, first_free_place, free_after}

abbrev pub page_at : ℕ → ℕ → Page
page_at vsid index = record { vsid = vsid; index = index }

-- VSID 0x0C701C and API 3 match in entries 1, 3 and 6 with H = 0 and in entry 0 with H = 1; entries 2 and 5 are free
abbrev pub mixed : ℕ → ℕ → ℕ → ℕ → ℕ → ℕ → List ℕ
mixed first₁ second₁ first₃ second₃ first₆ second₆ = bytes_of (
    0x86380E43 ∷ 0x12345012
    ∷ first₁ ∷ second₁
    ∷ 0x06380E03 ∷ 0x12345E96
    ∷ first₃ ∷ second₃
    ∷ 0x86380E83 ∷ 0x12345E96
    ∷ 0 ∷ 0
    ∷ first₆ ∷ second₆
    ∷ 0xFFFFFFFF ∷ 0xFFFFFFFF
    ∷ []
    )

abbrev pub example : List ℕ
example = mixed 0x86380E03 0x12345E96 0x86380E03 0x12345E96 0x86380E03 0x12345112

-- no entry is free
abbrev pub full : List ℕ
full = replicate 64 255

-- only entry 7 is free
abbrev pub last : List ℕ
last = replicate 56 255 ++ (127 ∷ replicate 7 255)

pub record GroupsTables : Type 0 where
  -- case 1; each end of the 19 bits, and the page index alone
  pub hashes : Hold (
      (hash_of 0x0C701C 0x0FFA, 0x47FE6)
      ∷ (hash_of 0xFFFFFF 0, 0x7FFFF)
      ∷ (hash_of 0x40000 0, 0x40000)
      ∷ (hash_of 0x80000 0, 0)
      ∷ (hash_of 0 0xFFFF, 0xFFFF)
      ∷ (hash_of 0xFFFF 0xFFFF, 0)
      ∷ []
      )
  -- case 1, which is the manual's example of section 7.7.1.7: a table of 8192 groups at 0F980000
  pub case_1 : Hold (
      (2 ^ hash_bits 0x0F980007, 8192)
      ∷ (group_address 0x0F980007 0, 0x0F980000)
      ∷ (group_address 0x0F980007 (group_number (hash_bits 0x0F980007) false (page_at 0x0C701C 0x0FFA)), 0x0F9FF980)
      ∷ (group_address 0x0F980007 (group_number (hash_bits 0x0F980007) true (page_at 0x0C701C 0x0FFA)), 0x0F980640)
      ∷ []
      )
  -- and its note: the three highest bits of the page index play no part in the group's number there
  pub same_group : map (λ index. group_number 13 false (page_at 0x0C701C index)) (0x0FFA ∷ 0x2FFA ∷ 0x4FFA ∷ 0x6FFA ∷ 0x8FFA ∷ 0xAFFA ∷ 0xCFFA ∷ 0xEFFA ∷ [])
      ≡ replicate 8 0x1FE6
  -- cases 6 and 11
  pub groups : Hold (
      (group_number (hash_bits 0x0F980000) false (page_at 0x0C701C 0x0FFA), 0x3E6)
      ∷ (group_number (hash_bits 0x0F980000) true (page_at 0x0C701C 0x0FFA), 0x019)
      ∷ (group_number (hash_bits 0) false (page_at 0x3C00 0), 0)
      ∷ (group_number (hash_bits 0) true (page_at 0x3C00 0), 0x3FF)
      ∷ (group_number (hash_bits 0) false (page_at 0 0x3FF), 0x3FF)
      ∷ (group_number (hash_bits 0) true (page_at 0 0x3FF), 0)
      ∷ (group_number 19 true (page_at 0x0C701C 0x0FFA), 0x38019)
      ∷ []
      )
  -- both groups of a hash, at each number of hash bits' ends; the complement is in n bits
  pub both_groups_rows : Hold (
      (groups_of 10 0x47FE6, record { primary = 0x3E6; secondary = 0x019 })
      ∷ (groups_of 13 0x47FE6, record { primary = 0x1FE6; secondary = 0x0019 })
      ∷ (groups_of 19 0x47FE6, record { primary = 0x47FE6; secondary = 0x38019 })
      ∷ (groups_of 10 0, record { primary = 0; secondary = 0x3FF })
      ∷ (groups_of 19 0x7FFFF, record { primary = 0x7FFFF; secondary = 0 })
      ∷ []
      )
  -- each bit of the VSID and of the page index by itself
  pub hash_bits_rows : Hold (
      (map (λ vsid. hash_of vsid 0) (powers 24), replicate 5 0 ++ powers 19)
      ∷ (map (hash_of 0) (powers 16), powers 16)
      ∷ (map (hash_of 0x7FFFF) (powers 16), map (λ bit. 0x7FFFF - bit) (powers 16))
      ∷ []
      )
  pub pages : Hold (
      (same_page (page_at 1 2) (page_at 1 2), true)
      ∷ (same_page (page_at 1 2) (page_at 3 2), false)
      ∷ (same_page (page_at 1 2) (page_at 1 3), false)
      ∷ []
      )
  -- the first free entry: of the primary group, of the secondary where the primary is full, or none
  pub free_places : Hold (
      (first_free_place example last, Some (place false 2))
      ∷ (first_free_place last example, Some (place false 7))
      ∷ (first_free_place full example, Some (place true 2))
      ∷ (first_free_place full last, Some (place true 7))
      ∷ (first_free_place (replicate 64 0) example, Some (place false 0))
      ∷ (first_free_place full (replicate 64 0), Some (place true 0))
      ∷ (first_free_place full full, None)
      ∷ []
      )
  -- which entries are free, a bit for each, the last one's the lowest: of one group, and behind those of another
  pub free_entries : Hold (
      (map (free_after 0) (example ∷ full ∷ last ∷ replicate 64 0 ∷ []), 0x24 ∷ 0 ∷ 0x01 ∷ 0xFF ∷ [])
      ∷ (map (free_after 0x24) (example ∷ full ∷ last ∷ replicate 64 0 ∷ []), 0x2424 ∷ 0x2400 ∷ 0x2401 ∷ 0x24FF ∷ [])
      ∷ []
      )
  -- groups of a table, and an entry put in one
  pub stored : Hold (
      (group_of (example ++ full ++ last) 1, full)
      ∷ (group_of (example ++ full ++ last) 2, last)
      ∷ (put_at (example ++ full ++ full) 2 7 0x7FFFFFFF 0xFFFFFFFF, example ++ full ++ last)
      ∷ (put_at (example ++ full ++ example) 1 7 0x7FFFFFFF 0xFFFFFFFF, example ++ last ++ example)
      ∷ (put_at (full ++ last ++ example) 0 7 0x7FFFFFFF 0xFFFFFFFF, last ++ last ++ example)
      ∷ (put_at (full ++ full) 0 0 0 0, replicate 8 0 ++ replicate 120 255)
      ∷ []
      )
  pub words : Hold (
      (first_of (full ++ example) 1 6, 0x86380E03)
      ∷ (second_of (full ++ example) 1 6, 0x12345112)
      ∷ []
      )
