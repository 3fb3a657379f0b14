-- Worked examples of searches, each row closed by computation: a group of 64 bytes with duplicate matches, a match that contradicts and matches
-- of the other H.
use Rattle.std.specs.Prelude.{ℕ, Bool, true, false, List, [], ◌∷◌, ◌++◌, map, replicate, Some, None}
use Rattle.std.specs.Int.Bits.{bit_xor}
use Rattle.words.specs.Rows.{Hold, each_bit}
use Rattle.theory_tables.specs.Matches.{Match}
use Rattle.groups.specs.Group.{place}
use Rattle.groups.specs.Examples.{mixed, example, full, last}
use Rattle.matches.specs.Search.{group_matches, agree, merged, told, in_primary, in_both}
use Rattle.matches.specs.declared.Told.{Told}
use Rattle.matches.specs.declared.Others.{Others}
use Rattle.matches.specs.declared.Others.TheVariants.{Absent, Agreeing, Differing}

-- the answer of a search: that there is no match, or the first match's place, its second word and what is told of the others; and which entries are free
abbrev pub nothing : ℕ → Told
nothing free = record { first = None; free = free }

abbrev pub telling : Bool → ℕ → ℕ → Others → ℕ → Told
telling secondary entry second others free = record { first = Some (record { place = place secondary entry; second = second; others = others }); free = free }

abbrev pub matched : Bool → ℕ → ℕ → ℕ → Match
matched secondary entry first second = record { secondary = secondary; entry = entry; first = first; second = second }

-- the bits in which second words that agree may differ: the ignored ones and the marks, bits 20 to 24, and bit 29
abbrev pub may_differ : List Bool
may_differ = replicate 20 false ++ replicate 5 true ++ replicate 4 false ++ true ∷ replicate 2 false

pub record MatchesTables : Type 0 where
  -- every match is found, in order, and H tells which
  pub all_found : Hold (
      (group_matches true 0x0C701C 3 example, matched true 0 0x86380E43 0x12345012 ∷ [])
      ∷ (
        group_matches false 0x0C701C 3 example,
        matched false 1 0x86380E03 0x12345E96 ∷ matched false 3 0x86380E03 0x12345E96 ∷ matched false 6 0x86380E03 0x12345112 ∷ [],
      )
      ∷ (group_matches false 0x0C701D 3 example, matched false 4 0x86380E83 0x12345E96 ∷ [])
      ∷ (group_matches true 0xFFFFFF 63 example, matched true 7 0xFFFFFFFF 0xFFFFFFFF ∷ [])
      ∷ (group_matches false 0xFFFFFF 63 example, [])
      ∷ (group_matches false 0x0C701C 2 example, [])
      ∷ []
      )
  -- second words that differ in one bit agree if it is one of bits 20 to 24 or bit 29, and do not if it is another
  pub agreement : Hold (
      (map (λ bit. agree 0x12345E96 (bit_xor 0x12345E96 bit)) each_bit, may_differ)
      ∷ (map (λ bit. agree (bit_xor 0x12345E96 bit) 0x12345E96) each_bit, may_differ)
      ∷ (map (λ bit. agree 0 bit) each_bit, may_differ)
      ∷ (agree 0x12345012 0x12345F96 ∷ agree 0x12345E96 0x12345112 ∷ [], true ∷ true ∷ [])
      ∷ (agree 0x12345E96 0x12345E96 ∷ agree 0 0 ∷ agree 0xFFFFFFFF 0xFFFFFFFF ∷ [], true ∷ true ∷ true ∷ [])
      ∷ []
      )
  -- the first's second word with R and C of any
  pub merged_words : Hold (
      (merged (matched false 1 0x86380E03 0x12345E96) (matched false 6 0x86380E03 0x12345112 ∷ []), 0x12345F96)
      ∷ (merged (matched true 0 0x86380E43 0x12345012) (matched true 6 0x86380E43 0x12345E9E ∷ []), 0x12345092)
      ∷ (merged (matched false 1 0x86380E03 0x12345012) (matched false 2 0x86380E03 0x12345113 ∷ matched true 0 0x86380E43 0x12345093 ∷ []), 0x12345192)
      ∷ (merged (matched false 1 0x86380E03 0x12345012) [], 0x12345012)
      ∷ []
      )
  -- what is told of a list: none; one, in the first and the last entry of each group; several that agree; one that disagrees, the second or a third,
  -- in one group or across both
  pub lists_told : Hold (
      (told [] 0xA5, nothing 0xA5)
      ∷ (told (matched false 0 0x86380E03 0x12345E96 ∷ []) 0, telling false 0 0x12345E96 Absent 0)
      ∷ (told (matched false 7 0x86380E03 0x12345E96 ∷ []) 0, telling false 7 0x12345E96 Absent 0)
      ∷ (told (matched true 0 0x86380E43 0x12345E96 ∷ []) 0, telling true 0 0x12345E96 Absent 0)
      ∷ (told (matched true 7 0x86380E43 0x12345E96 ∷ []) 0, telling true 7 0x12345E96 Absent 0)
      ∷ (told (matched false 1 0x86380E03 0x12345E96 ∷ matched false 3 0x86380E03 0x12345112 ∷ []) 0, telling false 1 0x12345E96 Agreeing 0)
      ∷ (told (matched false 6 0x86380E03 0x12345112 ∷ matched true 0 0x86380E43 0x12344012 ∷ []) 0, telling false 6 0x12345112 Differing 0)
      ∷ (told (matched true 0 0x86380E43 0x12345012 ∷ matched true 6 0x86380E43 0x12345E9E ∷ []) 0, telling true 0 0x12345012 Differing 0)
      ∷ (
        told (matched false 1 0x86380E03 0x12345012 ∷ matched false 2 0x86380E03 0x12345016 ∷ matched true 0 0x86380E43 0x12345013 ∷ []) 0,
        telling false 1 0x12345012 Differing 0,
      )
      ∷ (
        told (matched false 1 0x86380E03 0x12345012 ∷ matched false 2 0x86380E03 0x12345113 ∷ matched true 0 0x86380E43 0x12345012 ∷ []) 0,
        telling false 1 0x12345012 Differing 0,
      )
      ∷ []
      )
  -- the search of one group and of two: a match behind free entries is seen, and each entry with V = 0 is told, wherever the matches stand: none, all,
  -- entry 7 alone
  pub groups_told : Hold (
      (in_primary 0x0C701C 3 example, telling false 1 0x12345E96 Agreeing 0x24)
      ∷ (in_primary 0x0C701C 3 (mixed 0 0 0 0 0x86380E03 0x12345112), telling false 6 0x12345112 Absent 0x74)
      ∷ (in_primary 0x0C701C 3 (mixed 0x86380E03 0x12345012 0 0 0x86380E03 0x12345011), telling false 1 0x12345012 Differing 0x34)
      ∷ (in_primary 0x0C701C 2 example, nothing 0x24)
      ∷ (in_primary 0xFFFFFF 63 full, nothing 0)
      ∷ (in_primary 0 0 (replicate 64 0), nothing 0xFF)
      ∷ (in_primary 0xFFFFFF 63 last, nothing 0x01)
      ∷ (in_both 0x0C701C 3 example example, telling false 1 0x12345E96 Agreeing 0x2424)
      ∷ (in_both 0x0C701C 3 (mixed 0x86380E03 0x12345112 0 0 0 0) example, telling false 1 0x12345112 Agreeing 0x3624)
      ∷ (in_both 0x0C701C 3 (mixed 0x86380E03 0x12345011 0 0 0 0) example, telling false 1 0x12345011 Differing 0x3624)
      ∷ (in_both 0x0C701C 3 full example, telling true 0 0x12345012 Absent 0x0024)
      ∷ (in_both 0x0C701C 2 last (replicate 64 0), nothing 0x01FF)
      ∷ (in_both 0xFFFFFF 63 full full, telling true 0 0xFFFFFFFF Agreeing 0)
      ∷ (in_both 0xFFFFFF 63 full last, telling true 0 0xFFFFFFFF Agreeing 0x0001)
      ∷ []
      )
