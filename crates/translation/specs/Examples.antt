-- Tables that pin the steps of an access and what an outcome answers, each closed by computation: a good and a bad row for each step and its order.
use Rattle.std.specs.Prelude.{ℕ, ◌+◌, ◌*◌, Bool, true, false, cond, ◌&&◌, List, [], ◌∷◌, ◌++◌, map, replicate, ◌==◌}
use Rattle.numbers.specs.Numbers.{done, data_storage_fault, instruction_storage_fault, refused_contradiction}
use Rattle.words.specs.Rows.{Hold, each_bit}
use Rattle.register_words.specs.Block.{bl_width}
use Rattle.registers.specs.Set.{block_pairs}
use Rattle.protection.specs.Examples.{by_kind}
use Rattle.registers.specs.Examples.{one, two, three, long_two}
use Rattle.translation.specs.Steps.{segment_at, before_search, after_search, outcome_of, answer_of}
use Rattle.translation.specs.declared.Outcome.{Outcome}
use Rattle.translation.specs.declared.Outcome.TheVariants.{Real, Block, BlockProtection, NoExecute, NoMatch, Guarded, Protection, Done, Refused}
use Rattle.translation.specs.declared.Wanted.{Wanted}
use Rattle.translation.specs.declared.Early.{Early}
use Rattle.translation.specs.declared.Early.TheVariants.{Decided, Search}
use Rattle.translation.specs.declared.Searched.{Searched}
use Rattle.translation.specs.declared.Searched.TheVariants.{Nothing, At, Contradicting}
use Rattle.translation.specs.declared.Answer.{Answer}
use Rattle.translation.specs.declared.operand.OperandAnswer.{OperandAnswer}
use Rattle.translation.specs.declared.decision.Decision.{Decision}
use Rattle.translation.specs.declared.decision.Used.{Used}
use Rattle.translation.specs.Decision.{decision_of}
use Rattle.translation.specs.Operand.{first_bytes, over_edge, part_start, operand_answer}

-- a page that is looked for, and an answer, by their values
abbrev pub search : ℕ → ℕ → Bool → Early
search vsid index key = Search (record { vsid = vsid; index = index; key = key })

abbrev pub answer : ℕ → ℕ → ℕ → ℕ → Answer
answer result address attributes effective = record { result = result; address = address; attributes = attributes; effective = effective }

-- what a page of this key and second word comes to
abbrev pub found_with : Bool → ℕ → List Outcome
found_with key second = by_kind (λ (kind : ℕ). after_search kind key (At second))

abbrev pub outcomes : Outcome → Outcome → Outcome → List Outcome
outcomes fetch load store = fetch ∷ load ∷ store ∷ []

-- the search of a table that has page index 0xFFA of VSID 0x0C701C alone
abbrev pub holding : ℕ → Wanted → Searched
holding second wanted = cond (wanted.vsid == 0x0C701C && wanted.index == 0x0FFA) (At second) Nothing

-- a whole access to that table
abbrev pub whole_access : ℕ → List ℕ → ℕ → ℕ → ℕ → Answer
whole_access second words mode kind address = answer_of kind address (outcome_of kind (holding second) (before_search (block_pairs false) (bl_width false) words mode kind address))

-- segment 0 no-execute, and blocks that allow nothing over its first 128 KB on both sides
abbrev pub forbidding : List ℕ
forbidding = three 1 0x10000000 17 0x00000003 25 0x00000003

-- SDR1 0, sixteen segment registers with sixteen VSIDs, all blocks off
abbrev pub below16 : List ℕ
below16 = 0 ∷ 1 ∷ 2 ∷ 3 ∷ 4 ∷ 5 ∷ 6 ∷ 7 ∷ 8 ∷ 9 ∷ 10 ∷ 11 ∷ 12 ∷ 13 ∷ 14 ∷ 15 ∷ []

abbrev pub sixteen_segments : List ℕ
sixteen_segments = 0 ∷ map (λ i. 0x00A5A500 + i) below16 ++ replicate 16 0

-- fetch, load and store by segment register 0, in a mode with IR and DR on
abbrev pub through : ℕ → ℕ → List Early
through segment mode = by_kind (λ (kind : ℕ). before_search (block_pairs false) (bl_width false) (one 1 segment) mode kind 0x00FFA01B)

-- each of the three goes to the search with this key; the fetch faults, and the others do
abbrev pub keyed : Bool → List Early
keyed key = search 0x0C701C 0x0FFA key ∷ search 0x0C701C 0x0FFA key ∷ search 0x0C701C 0x0FFA key ∷ []

abbrev pub fetch_faults : Bool → List Early
fetch_faults key = Decided NoExecute ∷ search 0x0C701C 0x0FFA key ∷ search 0x0C701C 0x0FFA key ∷ []

-- what an operand's parts answer, and what it answers itself
abbrev pub parts : Answer → Answer → Bool → Answer
parts first second true = second
parts first second false = first

abbrev pub operand : Answer → Decision → ℕ → ℕ → ℕ → ℕ → OperandAnswer
operand part decision address attributes bytes rest =
    record { part = part; decision = decision; address = address; attributes = attributes; bytes = bytes; rest = rest }

-- what decided the first part and the second, by its values
abbrev pub decision : ℕ → ℕ → ℕ → ℕ → Decision
decision rule detail group entry = record { rule = rule; detail = detail; group = group; entry = entry }

abbrev pub first_rule : Decision
first_rule = decision 6 2 0x3E6 1

abbrev pub second_rule : Decision
second_rule = decision 5 7 0x019 3

abbrev pub deciding : Bool → Decision
deciding true = second_rule
deciding false = first_rule

abbrev pub first_done : Answer
first_done = answer done 0x12345FFE 2 0x00000FFE

abbrev pub second_done : Answer
second_done = answer done 0x54321000 5 0x00001000

abbrev pub first_fault : Answer
first_fault = answer data_storage_fault 0x0A000000 0x300 0x00000FFE

abbrev pub second_fault : Answer
second_fault = answer data_storage_fault 0x42000000 0x300 0x00001000

abbrev pub contradicting : Answer
contradicting = answer refused_contradiction 0 0 0

-- a search by this key whose first match is entry 5 of group 0x3E6
abbrev pub went : Bool → Used
went key = record { key = key; group = 0x3E6; entry = 5 }

pub record AccessTables : Type 0 where
  -- step 1 comes before all others
  pub real_mode : Hold (
      (before_search (block_pairs false) (bl_width false) forbidding 0 0 0x00001234, Decided Real)
      ∷ (before_search (block_pairs false) (bl_width false) forbidding 5 0 0x00001234, Decided Real)
      ∷ (before_search (block_pairs false) (bl_width false) forbidding 2 1 0x00001234, Decided Real)
      ∷ (before_search (block_pairs false) (bl_width false) forbidding 6 2 0x00001234, Decided Real)
      ∷ (before_search (block_pairs false) (bl_width false) forbidding 2 0 0x00001234, Decided (BlockProtection 0))
      ∷ (before_search (block_pairs false) (bl_width false) forbidding 1 1 0x00001234, Decided (BlockProtection 0))
      ∷ []
      )
  -- step 2: cases 8 and 9, the edges, the attributes, the first and the last pair of each side
  pub blocks : Hold (
      (before_search (block_pairs false) (bl_width false) (two 25 0x80001FFE 26 0x10000002) 1 1 0x8FFFFFFF, Decided (Block 0 0x1FFFFFFF 0))
      ∷ (before_search (block_pairs false) (bl_width false) (two 25 0x80001FFE 26 0x10000002) 1 1 0x80000000, Decided (Block 0 0x10000000 0))
      ∷ (before_search (block_pairs false) (bl_width false) (two 25 0x80001FFE 26 0x10000002) 1 1 0x90000000, search 0 0 false)
      ∷ (before_search (block_pairs false) (bl_width false) (two 25 0x00000002 26 0x20000002) 1 1 0x0001FFFF, Decided (Block 0 0x2001FFFF 0))
      ∷ (before_search (block_pairs false) (bl_width false) (two 25 0x00000002 26 0x20000002) 1 1 0x00020000, search 0 0x20 false)
      ∷ (before_search (block_pairs false) (bl_width false) (two 31 0x00000002 32 0x2000005A) 1 2 0x00001234, Decided (Block 3 0x20001234 11))
      ∷ (before_search (block_pairs false) (bl_width false) (two 17 0x00000002 18 0x20000033) 2 0 0x00001234, Decided (Block 0 0x20001234 6))
      ∷ (before_search (block_pairs false) (bl_width false) (two 23 0x00000002 24 0x20000001) 2 0 0x00001234, Decided (Block 3 0x20001234 0))
      ∷ []
      )
  -- a long page: the first and the last pair of each side, and a block of 4 GB
  pub long_blocks : Hold (
      (before_search (block_pairs true) (bl_width true) (long_two 33 0x80001FFE 34 0x10000002) 1 1 0x8FFFFFFF, Decided (Block 0 0x1FFFFFFF 0))
      ∷ (before_search (block_pairs true) (bl_width true) (long_two 47 0x00000002 48 0x2000005A) 1 2 0x00001234, Decided (Block 7 0x20001234 11))
      ∷ (before_search (block_pairs true) (bl_width true) (long_two 31 0x00000002 32 0x20000033) 2 0 0x00001234, Decided (Block 7 0x20001234 6))
      ∷ (before_search (block_pairs true) (bl_width true) (long_two 25 0x00000002 26 0x20000001) 2 0 0x00001234, Decided (Block 4 0x20001234 0))
      ∷ (before_search (block_pairs true) (bl_width true) (long_two 25 0x00000002 26 0x20000002) 1 1 0x00001234, search 0 1 false)
      ∷ (before_search (block_pairs true) (bl_width true) (long_two 41 0x0001FFFE 42 0x00000002) 1 1 0xDEADBEEF, Decided (Block 4 0xDEADBEEF 0))
      ∷ (before_search (block_pairs true) (bl_width true) (long_two 41 0x0001FFFE 42 0x00000001) 1 2 0xDEADBEEF, Decided (BlockProtection 4))
      ∷ []
      )
  -- the other side's block does not count
  pub block_sides : Hold (
      (before_search (block_pairs false) (bl_width false) (two 17 0x00000003 18 0x20000002) 3 0 0x00001234, Decided (Block 0 0x20001234 0))
      ∷ (before_search (block_pairs false) (bl_width false) (two 17 0x00000003 18 0x20000002) 3 1 0x00001234, search 0 1 false)
      ∷ (before_search (block_pairs false) (bl_width false) (two 17 0x00000003 18 0x20000002) 3 2 0x00001234, search 0 1 false)
      ∷ (before_search (block_pairs false) (bl_width false) (two 25 0x00000003 26 0x20000002) 3 0 0x00001234, search 0 1 false)
      ∷ (before_search (block_pairs false) (bl_width false) (two 25 0x00000003 26 0x20000002) 3 1 0x00001234, Decided (Block 0 0x20001234 0))
      ∷ (before_search (block_pairs false) (bl_width false) (two 25 0x00000003 26 0x20000002) 3 2 0x00001234, Decided (Block 0 0x20001234 0))
      ∷ []
      )
  -- Vs for the supervisor, Vp for the user
  pub block_privilege : Hold (
      (before_search (block_pairs false) (bl_width false) (two 25 0x00000002 26 0x20000002) 3 1 0x00001234, Decided (Block 0 0x20001234 0))
      ∷ (before_search (block_pairs false) (bl_width false) (two 25 0x00000002 26 0x20000002) 7 1 0x00001234, search 0 1 false)
      ∷ (before_search (block_pairs false) (bl_width false) (two 25 0x00000001 26 0x20000002) 3 1 0x00001234, search 0 1 false)
      ∷ (before_search (block_pairs false) (bl_width false) (two 25 0x00000001 26 0x20000002) 7 1 0x00001234, Decided (Block 0 0x20001234 0))
      ∷ (before_search (block_pairs false) (bl_width false) (three 25 0x00000002 27 0x00000001 28 0x30000002) 7 1 0x00001234, Decided (Block 1 0x30001234 0))
      ∷ []
      )
  -- a block decides before the segment, also by its protection
  pub block_before_segment : Hold (
      (before_search (block_pairs false) (bl_width false) (three 1 0x700C701C 17 0x00000003 18 0x20000001) 2 0 0x00001234, Decided (Block 0 0x20001234 0))
      ∷ (before_search (block_pairs false) (bl_width false) (three 1 0x700C701C 17 0x00000003 18 0x20000000) 2 0 0x00001234, Decided (BlockProtection 0))
      ∷ (before_search (block_pairs false) (bl_width false) (three 1 0x000C701C 25 0x00000003 26 0x20000001) 1 1 0x00001234, Decided (Block 0 0x20001234 0))
      ∷ (before_search (block_pairs false) (bl_width false) (three 1 0x000C701C 25 0x00000003 26 0x20000001) 1 2 0x00001234, Decided (BlockProtection 0))
      ∷ (before_search (block_pairs false) (bl_width false) (three 1 0x000C701C 31 0x00000003 32 0x20000003) 5 2 0x00001234, Decided (BlockProtection 3))
      ∷ []
      )
  -- step 3: the segment by address bits 0 to 3; N stops a fetch and no other access; the key goes with the page
  pub segments : Hold (
      (before_search (block_pairs false) (bl_width false) (one 16 0x100C701C) 3 0 0xF0FFA01B, Decided NoExecute)
      ∷ (before_search (block_pairs false) (bl_width false) (one 16 0x100C701C) 3 1 0xF0FFA01B, search 0x0C701C 0x0FFA false)
      ∷ (before_search (block_pairs false) (bl_width false) (one 16 0x100C701C) 3 2 0xF0FFA01B, search 0x0C701C 0x0FFA false)
      ∷ (before_search (block_pairs false) (bl_width false) (one 16 0x100C701C) 3 0 0x00FFA01B, search 0 0x0FFA false)
      ∷ (before_search (block_pairs false) (bl_width false) (one 1 0x100C701C) 3 0 0x00FFA01B, Decided NoExecute)
      ∷ (before_search (block_pairs false) (bl_width false) (one 1 0x60FFFFFF) 3 0 0x0FFFFFFF, search 0xFFFFFF 0xFFFF true)
      ∷ (before_search (block_pairs false) (bl_width false) (one 1 0x400C701C) 3 1 0x00FFA01B, search 0x0C701C 0x0FFA true)
      ∷ (before_search (block_pairs false) (bl_width false) (one 1 0x400C701C) 7 1 0x00FFA01B, search 0x0C701C 0x0FFA false)
      ∷ (before_search (block_pairs false) (bl_width false) (one 1 0x200C701C) 3 1 0x00FFA01B, search 0x0C701C 0x0FFA false)
      ∷ (before_search (block_pairs false) (bl_width false) (one 1 0x200C701C) 7 1 0x00FFA01B, search 0x0C701C 0x0FFA true)
      ∷ []
      )
  -- each of the sixteen segments, at its first and its last address; and by each address bit alone
  pub sixteen_segments_rows : Hold ((
    map (λ i. before_search (block_pairs false) (bl_width false) sixteen_segments 3 1 (i * 0x10000000)) below16,
    map (λ i. search (0x00A5A500 + i) 0 false) below16,
  )
      ∷ (
        map (λ i. before_search (block_pairs false) (bl_width false) sixteen_segments 3 1 (i * 0x10000000 + 0x0FFFFFFF)) below16,
        map (λ i. search (0x00A5A500 + i) 0xFFFF false) below16,
      )
      ∷ []
      )
  pub segment_bits : Hold ((map (segment_at sixteen_segments) each_bit, 0x00A5A508 ∷ 0x00A5A504 ∷ 0x00A5A502 ∷ 0x00A5A501 ∷ replicate 28 0x00A5A500) ∷ [])
  -- Ks × Kp × N × PR × kind: the supervisor (mode 3) goes by Ks, the user (mode 7) by Kp; N stops a fetch, whatever the keys
  pub keys : Hold (
      (through 0x000C701C 3, keyed false)
      ∷ (through 0x000C701C 7, keyed false)
      ∷ (through 0x200C701C 3, keyed false)
      ∷ (through 0x200C701C 7, keyed true)
      ∷ (through 0x400C701C 3, keyed true)
      ∷ (through 0x400C701C 7, keyed false)
      ∷ (through 0x600C701C 3, keyed true)
      ∷ (through 0x600C701C 7, keyed true)
      ∷ (through 0x100C701C 3, fetch_faults false)
      ∷ (through 0x100C701C 7, fetch_faults false)
      ∷ (through 0x300C701C 3, fetch_faults false)
      ∷ (through 0x300C701C 7, fetch_faults true)
      ∷ (through 0x500C701C 3, fetch_faults true)
      ∷ (through 0x500C701C 7, fetch_faults false)
      ∷ (through 0x700C701C 3, fetch_faults true)
      ∷ (through 0x700C701C 7, fetch_faults true)
      ∷ []
      )
  -- step 4
  pub searched : Hold (
      (by_kind (λ (kind : ℕ). after_search kind false Contradicting), outcomes (Refused refused_contradiction) (Refused refused_contradiction) (Refused refused_contradiction))
      ∷ (by_kind (λ (kind : ℕ). after_search kind true Nothing), outcomes NoMatch NoMatch NoMatch)
      ∷ []
      )
  -- steps 5 to 7, key × PP × kind: first W, I and M alone, then G too, which stops a fetch before protection and no other access
  pub pages : Hold (
      (found_with false 0x12345070, outcomes (Done 0x12345070) (Done 0x12345070) (Done 0x12345070))
      ∷ (found_with false 0x12345071, outcomes (Done 0x12345071) (Done 0x12345071) (Done 0x12345071))
      ∷ (found_with false 0x12345072, outcomes (Done 0x12345072) (Done 0x12345072) (Done 0x12345072))
      ∷ (found_with false 0x12345073, outcomes (Done 0x12345073) (Done 0x12345073) (Protection 0x12345073))
      ∷ (found_with true 0x12345070, outcomes (Protection 0x12345070) (Protection 0x12345070) (Protection 0x12345070))
      ∷ (found_with true 0x12345071, outcomes (Done 0x12345071) (Done 0x12345071) (Protection 0x12345071))
      ∷ (found_with true 0x12345072, outcomes (Done 0x12345072) (Done 0x12345072) (Done 0x12345072))
      ∷ (found_with true 0x12345073, outcomes (Done 0x12345073) (Done 0x12345073) (Protection 0x12345073))
      ∷ (found_with false 0x12345008, outcomes Guarded (Done 0x12345008) (Done 0x12345008))
      ∷ (found_with false 0x12345009, outcomes Guarded (Done 0x12345009) (Done 0x12345009))
      ∷ (found_with false 0x1234500A, outcomes Guarded (Done 0x1234500A) (Done 0x1234500A))
      ∷ (found_with false 0x1234500B, outcomes Guarded (Done 0x1234500B) (Protection 0x1234500B))
      ∷ (found_with true 0x12345008, outcomes Guarded (Protection 0x12345008) (Protection 0x12345008))
      ∷ (found_with true 0x12345009, outcomes Guarded (Done 0x12345009) (Protection 0x12345009))
      ∷ (found_with true 0x1234500A, outcomes Guarded (Done 0x1234500A) (Done 0x1234500A))
      ∷ (found_with true 0x1234500B, outcomes Guarded (Done 0x1234500B) (Protection 0x1234500B))
      ∷ []
      )
  -- what each outcome answers
  pub answers : Hold (
      (answer_of 0 0x00FFA01B Real, answer done 0x00FFA01B 3 0x00FFA01B)
      ∷ (answer_of 2 0x8FFFFFFF (Block 3 0x1FFFFFFF 11), answer done 0x1FFFFFFF 11 0x8FFFFFFF)
      ∷ (answer_of 0 0x00FFA01B (BlockProtection 3), answer instruction_storage_fault 0x08000000 0x400 0x00FFA01B)
      ∷ (answer_of 1 0x00FFA01B (BlockProtection 3), answer data_storage_fault 0x08000000 0x300 0x00FFA01B)
      ∷ (answer_of 2 0x00FFA01B (BlockProtection 3), answer data_storage_fault 0x0A000000 0x300 0x00FFA01B)
      ∷ (answer_of 0 0x00FFA01B NoExecute, answer instruction_storage_fault 0x10000000 0x400 0x00FFA01B)
      ∷ (answer_of 0 0x00FFA01B NoMatch, answer instruction_storage_fault 0x40000000 0x400 0x00FFA01B)
      ∷ (answer_of 1 0x00FFA01B NoMatch, answer data_storage_fault 0x40000000 0x300 0x00FFA01B)
      ∷ (answer_of 2 0x00FFA01B NoMatch, answer data_storage_fault 0x42000000 0x300 0x00FFA01B)
      ∷ (answer_of 0 0x00FFA01B Guarded, answer instruction_storage_fault 0x10000000 0x400 0x00FFA01B)
      ∷ (answer_of 0 0x00FFA01B (Protection 0x12345013), answer instruction_storage_fault 0x08000000 0x400 0x00FFA01B)
      ∷ (answer_of 1 0x00FFA01B (Protection 0x12345013), answer data_storage_fault 0x08000000 0x300 0x00FFA01B)
      ∷ (answer_of 2 0x00FFA01B (Protection 0x12345013), answer data_storage_fault 0x0A000000 0x300 0x00FFA01B)
      ∷ (answer_of 2 0x00FFA01B (Done 0x12345012), answer done 0x1234501B 2 0x00FFA01B)
      ∷ (answer_of 1 0xFFFFFFFF (Done 0xABCDE07B), answer done 0xABCDEFFF 15 0xFFFFFFFF)
      ∷ (answer_of 1 0x00FFA01B (Refused refused_contradiction), answer refused_contradiction 0 0 0)
      ∷ []
      )
  -- whole accesses: cases 3, 4, 5 and 8, then the same page fetched, and its fetch forbidden by G, by N and by N before any search
  pub accesses : Hold (
      (whole_access 0x12345012 (one 1 0x000C701C) 1 2 0x00FFA01B, answer done 0x1234501B 2 0x00FFA01B)
      ∷ (whole_access 0x12345013 (one 1 0x000C701C) 1 2 0x00FFA01B, answer data_storage_fault 0x0A000000 0x300 0x00FFA01B)
      ∷ (whole_access 0x12345012 (one 1 0x000C701C) 1 2 0x00FFB01B, answer data_storage_fault 0x42000000 0x300 0x00FFB01B)
      ∷ (whole_access 0x12345012 (two 25 0x80001FFE 26 0x10000002) 1 1 0x8FFFFFFF, answer done 0x1FFFFFFF 0 0x8FFFFFFF)
      ∷ (whole_access 0x12345012 (one 1 0x000C701C) 2 0 0x00FFA01B, answer done 0x1234501B 2 0x00FFA01B)
      ∷ (whole_access 0x1234501A (one 1 0x000C701C) 2 0 0x00FFA01B, answer instruction_storage_fault 0x10000000 0x400 0x00FFA01B)
      ∷ (whole_access 0x12345012 (one 1 0x100C701C) 2 0 0x00FFA01B, answer instruction_storage_fault 0x10000000 0x400 0x00FFA01B)
      ∷ (whole_access 0x12345012 (one 1 0x100C701C) 2 0 0x00FFB01B, answer instruction_storage_fault 0x10000000 0x400 0x00FFB01B)
      ∷ []
      )
  -- a fetch, a load and a store by a block answer its WIMG
  pub block_answers : Hold (
      (whole_access 0 (two 17 0x00000002 18 0x20000033) 2 0 0x00001234, answer done 0x20001234 6 0x00001234)
      ∷ (whole_access 0 (two 25 0x00000002 26 0x2000005A) 1 1 0x00001234, answer done 0x20001234 11 0x00001234)
      ∷ (whole_access 0 (two 25 0x00000002 26 0x2000005A) 1 2 0x00001234, answer done 0x20001234 11 0x00001234)
      ∷ []
      )
  -- the bytes in the first page, whether there is a second, and where each part starts
  pub first_bytes_rows : Hold (
      (first_bytes 0x00000FFE 4, 2)
      ∷ (first_bytes 0x00000FFC 4, 4)
      ∷ (first_bytes 0x00000F80 128, 128)
      ∷ (first_bytes 0x00000F81 128, 127)
      ∷ (first_bytes 0x12345FFF 1, 1)
      ∷ (first_bytes 0xFFFFFFFF 128, 1)
      ∷ []
      )
  pub edges : Hold (
      (over_edge 0x00000FFE 4, true)
      ∷ (over_edge 0x00000FFC 4, false)
      ∷ (over_edge 0x00000F80 128, false)
      ∷ (over_edge 0x00000F81 128, true)
      ∷ (over_edge 0x12345FFF 1, false)
      ∷ (over_edge 0xFFFFFFFF 2, true)
      ∷ []
      )
  pub starts : Hold (
      (part_start 0x00000FFE 4 false, 0x00000FFE)
      ∷ (part_start 0x00000FFE 4 true, 0x00001000)
      ∷ (part_start 0x0FFFFF81 128 true, 0x10000000)
      ∷ (part_start 0xFFFFFFFF 2 false, 0xFFFFFFFF)
      ∷ (part_start 0xFFFFFFFF 2 true, 0x00000000)
      ∷ []
      )
  -- what an operand answers by its parts: over an edge and within one page, the parts done, faulting or refused
  pub operands : Hold (
      (operand_answer 0x00000FFE 4 (parts first_done second_done) deciding, operand first_done first_rule 0x54321000 5 2 2)
      ∷ (operand_answer 0x00000F81 128 (parts first_done second_done) deciding, operand first_done first_rule 0x54321000 5 127 1)
      ∷ (operand_answer 0x00000FFE 4 (parts first_done second_fault) deciding, operand second_fault second_rule 0 0 0 0)
      ∷ (operand_answer 0x00000FFE 4 (parts first_fault second_done) deciding, operand first_fault first_rule 0 0 0 0)
      ∷ (operand_answer 0x00000FFE 4 (parts first_fault contradicting) deciding, operand first_fault first_rule 0 0 0 0)
      ∷ (operand_answer 0x00000FFE 4 (parts contradicting second_fault) deciding, operand contradicting first_rule 0 0 0 0)
      ∷ (operand_answer 0x00000FFE 4 (parts first_done contradicting) deciding, operand contradicting second_rule 0 0 0 0)
      ∷ (operand_answer 0x00000FFC 4 (parts first_done second_fault) deciding, operand first_done first_rule 0 0 4 0)
      ∷ (operand_answer 0x00000FFC 4 (parts first_fault second_done) deciding, operand first_fault first_rule 0 0 0 0)
      ∷ []
      )
  -- the rule of each outcome, what it went by, and the entry used; a refusal shows zero words
  pub decisions : Hold (
      (decision_of (went true) Real, decision 0 0 0 0)
      ∷ (decision_of (went true) (Block 3 0x1FFFFFFF 11), decision 1 3 0 0)
      ∷ (decision_of (went true) (BlockProtection 2), decision 1 2 0 0)
      ∷ (decision_of (went true) NoExecute, decision 2 0 0 0)
      ∷ (decision_of (went true) NoMatch, decision 3 0 0 0)
      ∷ (decision_of (went true) Guarded, decision 4 0 0x3E6 5)
      ∷ (decision_of (went true) (Protection 0x12345011), decision 5 5 0x3E6 5)
      ∷ (decision_of (went false) (Protection 0x12345013), decision 5 3 0x3E6 5)
      ∷ (decision_of (went true) (Done 0x12345012), decision 6 6 0x3E6 5)
      ∷ (decision_of (went false) (Done 0x12345010), decision 6 0 0x3E6 5)
      ∷ (decision_of (went true) (Refused refused_contradiction), decision 0 0 0 0)
      ∷ []
      )
