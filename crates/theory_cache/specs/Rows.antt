-- Rows of whole calls with a cache (request 7): what an access answers, every byte that it leaves in table and cache, and what an invalidate zeroes.
-- Each closes by computation.
-- In most rows a table is group 0, or groups 0 and 1; what lies past its end reads as zero. The access is then one that its arguments do not refuse.
use Rattle.std.specs.Prelude.{ℕ, replicate, take, drop}
use mathlib.Core.List.{List, [], ◌∷◌, ◌++◌, map, foldl}
use Rattle.numbers.specs.Numbers.{done, data_storage_fault, instruction_storage_fault, refused_table_length, refused_sdr1, refused_segment, refused_argument}
use Rattle.numbers.specs.Numbers.{refused_contradiction, refused_lent_length, refused_operand_length}
use Rattle.words.specs.Rows.{Hold}
use Rattle.words.specs.Words.{with_word, bytes_of}
use Rattle.theory_calls.specs.Request.{AccessCall}
use Rattle.theory_calls.specs.OnBytes.{Ended, ended}
use Rattle.theory_calls.specs.PageRows.{zero_registers, rule, no_rule, stop, one_byte}
use Rattle.theory_calls.specs.OperandRows.{in_two, two_segments}
use Rattle.theory_cache.specs.Cached.{cached_does, on_cached, invalidate_call}

-- ---- accesses

-- a register page of zeros, SDR1 among them, but for segment register 0; and with VSID 0x0C701C there, keys and N zero
abbrev pub registers_with : ℕ → List ℕ
registers_with segment = with_word zero_registers 4 segment

abbrev pub registers : List ℕ
registers = registers_with 0x000C701C

-- the same with a data block: 128 KB at 0, to 20000000
abbrev pub with_block : List ℕ
with_block = with_word (with_word registers 100 0x00000003) 104 0x20000002

abbrev pub lent_answer : List ℕ
lent_answer = replicate 48 255

-- an access by a register page, in a mode, of a kind, to an address, of so many bytes
abbrev pub to_cached : List ℕ → ℕ → ℕ → ℕ → ℕ → AccessCall (List ℕ)
to_cached page mode kind address bytes =
    record { registers = page; mode = mode; kind = kind; address = address; length = bytes; answer = lent_answer }

-- a load, a store and a fetch of one byte by the supervisor
abbrev pub load : ℕ → AccessCall (List ℕ)
load address = to_cached registers 1 1 address 1

abbrev pub store : ℕ → AccessCall (List ℕ)
store address = to_cached registers 1 2 address 1

abbrev pub fetch : ℕ → AccessCall (List ℕ)
fetch address = to_cached registers 2 0 address 1

-- an access that its arguments do not refuse, on a table for mask 0 and a cache
abbrev pub does : AccessCall (List ℕ) → List ℕ × List ℕ → Ended (List ℕ × List ℕ)
does c lent = cached_does 0 c lent

-- ---- tables

-- pages 0x001C, 0x041C, 0x081C and 0x0C1C are of set 28 and have primary group 0: an entry each, 0 to 3, by their second words
abbrev pub four : ℕ → ℕ → ℕ → ℕ → List ℕ
four second₀ second₁ second₂ second₃ =
    bytes_of ((0x86380E00 ∷ second₀ ∷ 0x86380E01 ∷ second₁ ∷ 0x86380E02 ∷ second₂ ∷ 0x86380E03 ∷ second₃ ∷ []) ++ replicate 8 0)

-- as mapped, but that the second has the ignored bits set
abbrev pub fresh : List ℕ
fresh = four 0x12345012 0x54321E16 0x6789A012 0xABCDE012

-- pages 0x001C and 0x001D, in groups 0 and 1
abbrev pub pages : ℕ → ℕ → List ℕ
pages second other = bytes_of ((0x86380E00 ∷ second ∷ replicate 14 0) ++ (0x86380E00 ∷ other ∷ replicate 14 0))

-- two entries for page 0x001C
abbrev pub two_entries : ℕ → ℕ → List ℕ
two_entries second other = bytes_of ((0x86380E00 ∷ second ∷ 0x86380E00 ∷ other ∷ []) ++ replicate 12 0)

-- ---- caches

abbrev pub zero_cache : List ℕ
zero_cache = replicate 2048 0

-- the four words of a place; an empty one; and those that the pages have, by the second word and the fourth
abbrev pub place : ℕ → ℕ → ℕ → ℕ → List ℕ
place first second index newer = first ∷ second ∷ index ∷ newer ∷ []

abbrev pub empty : List ℕ
empty = replicate 4 0

abbrev pub page₀ : ℕ → ℕ → List ℕ
page₀ second newer = place 0x86380E00 second 0x001C newer

abbrev pub page₁ : ℕ → ℕ → List ℕ
page₁ second newer = place 0x86380E01 second 0x041C newer

abbrev pub page₂ : ℕ → ℕ → List ℕ
page₂ second newer = place 0x86380E02 second 0x081C newer

abbrev pub page₃ : ℕ → ℕ → List ℕ
page₃ second newer = place 0x86380E03 second 0x0C1C newer

-- page 0x001D, of set 29
abbrev pub next : ℕ → ℕ → List ℕ
next second newer = place 0x86380E00 second 0x001D newer

-- a cache with these two places in set 28, or these four in sets 28 and 29, and zeros elsewhere
abbrev pub set28 : List ℕ → List ℕ → List ℕ
set28 place₀ place₁ = replicate 896 0 ++ bytes_of (place₀ ++ place₁) ++ replicate 1120 0

abbrev pub sets28and29 : List ℕ → List ℕ → List ℕ → List ℕ → List ℕ
sets28and29 place₀ place₁ other₀ other₁ = replicate 896 0 ++ bytes_of (place₀ ++ place₁ ++ other₀ ++ other₁) ++ replicate 1088 0

-- table and cache after loads of these addresses one after the other
abbrev pub after_loads : List ℕ → List ℕ × List ℕ
after_loads addresses = foldl (λ lent address. (does (load address) lent).state) (fresh, zero_cache) addresses

-- the same stated, after loads of pages 0x001C and 0x041C
abbrev pub two_loaded : List ℕ × List ℕ
two_loaded = (four 0x12345112 0x54321F16 0x6789A012 0xABCDE012, set28 (page₀ 0x12345112 0) (page₁ 0x54321F16 1))

-- and after a load of page 0x081C behind them
abbrev pub three_loaded : List ℕ × List ℕ
three_loaded = (four 0x12345112 0x54321F16 0x6789A112 0xABCDE012, set28 (page₂ 0x6789A112 1) (page₁ 0x54321F16 0))

-- the cache after a load of page 0x001C where set 28 held two other pages with these fourth words; and what it is if place 0 or place 1 was replaced
abbrev pub aged : ℕ → ℕ → List ℕ
aged newer₀ newer₁ = (does (load 0x0001C123) (fresh, set28 (page₁ 0x54321F16 newer₀) (page₂ 0x6789A112 newer₁))).state.1

abbrev pub in_place0 : List ℕ
in_place0 = set28 (page₀ 0x12345112 1) (page₂ 0x6789A112 0)

abbrev pub in_place1 : List ℕ
in_place1 = set28 (page₁ 0x54321F16 0) (page₀ 0x12345112 1)

-- page 0x03E2 is of set 34 and has groups 0x3FE and 1: entry 5 of group 1 with H = 1, by its second word; and a cache that has it, by both words
abbrev pub in_secondary : ℕ → List ℕ
in_secondary second = bytes_of (replicate 26 0 ++ (0x86380E40 ∷ second ∷ replicate 4 0))

abbrev pub set34 : ℕ → ℕ → List ℕ
set34 first second = replicate 1088 0 ++ bytes_of (place first second 0x03E2 1) ++ replicate 944 0

-- of what an access leaves, all but the table behind group 0
abbrev pub told : Ended (List ℕ × List ℕ) → Ended (List ℕ × List ℕ)
told e = ended e.number (take 64 e.state.0, e.state.1) e.answer

-- ---- calls that are refused

-- a refusal leaves what was lent; its number and zero words are the answer
abbrev pub refused_with : ℕ → List ℕ × List ℕ → Ended (List ℕ × List ℕ)
refused_with number lent = ended number lent (stop number 0 0 0 no_rule)

-- where a length is refused, the answer too is as lent
abbrev pub refused_length : List ℕ × List ℕ → Ended (List ℕ × List ℕ)
refused_length lent = ended refused_lent_length lent lent_answer

-- one byte lent as the table, and a cache that has page 0x001C
abbrev pub wrong_table : List ℕ × List ℕ
wrong_table = (7 ∷ [], set28 (page₀ 0x12345112 1) empty)

pub record CachedRows : Type 0 where
  -- a first load goes into place 0: the entry's words once marked, ignored bits as they stand, the page index, and 1; of two_entries the first is loaded
  -- (R48, R50)
  pub first_loads : Hold ((
    does (load 0x0001C123) (fresh, zero_cache),
    ended done (four 0x12345112 0x54321E16 0x6789A012 0xABCDE012, set28 (page₀ 0x12345112 1) empty) (one_byte 0x12345123 2 0x0001C123 (rule 6 2 0 0)),
  )
      ∷ (
        does (store 0x0041C123) (fresh, zero_cache),
        ended done (four 0x12345012 0x54321F96 0x6789A012 0xABCDE012, set28 (page₁ 0x54321F96 1) empty) (one_byte 0x54321123 2 0x0041C123 (rule 6 2 0 1)),
      )
      ∷ (
        does (fetch 0x0081C123) (fresh, zero_cache),
        ended done (four 0x12345012 0x54321E16 0x6789A112 0xABCDE012, set28 (page₂ 0x6789A112 1) empty) (one_byte 0x6789A123 2 0x0081C123 (rule 6 2 0 2)),
      )
      ∷ (
        does (load 0x0001C123) (two_entries 0x12345E16 0x12345192, zero_cache),
        ended done (two_entries 0x12345F16 0x12345192, set28 (page₀ 0x12345F16 1) empty) (one_byte 0x12345123 2 0x0001C123 (rule 6 2 0 0)),
      )
      ∷ []
      )
  -- a load of another page of the set goes into place 1, and place 0's fourth word is 0 (R51)
  pub second_load : Hold ((
    does (load 0x0041C123) (four 0x12345112 0x54321E16 0x6789A012 0xABCDE012, set28 (page₀ 0x12345112 1) empty),
    ended done two_loaded (one_byte 0x54321123 2 0x0041C123 (rule 6 2 0 1)),
  )
      ∷ []
      )
  -- the 32 bytes of the set then, the most significant of each word first, place 0 first (R39)
  pub bytes : Hold ((
    take 32 (drop 896 (after_loads (0x0001C123 ∷ 0x0041C123 ∷ [])).1),
    (0x86 ∷ 0x38 ∷ 0x0E ∷ 0x00 ∷ 0x12 ∷ 0x34 ∷ 0x51 ∷ 0x12 ∷ 0x00 ∷ 0x00 ∷ 0x00 ∷ 0x1C ∷ 0 ∷ 0 ∷ 0 ∷ 0 ∷ [])
        ++ (0x86 ∷ 0x38 ∷ 0x0E ∷ 0x01 ∷ 0x54 ∷ 0x32 ∷ 0x1F ∷ 0x16 ∷ 0x00 ∷ 0x00 ∷ 0x04 ∷ 0x1C ∷ 0 ∷ 0 ∷ 0 ∷ 1 ∷ []),
  )
      ∷ []
      )
  -- pages of one set go into places 0, 1, 0, 1: the older load is replaced, the same page though it was there before (R50)
  pub replacements : Hold (
      (after_loads (0x0001C123 ∷ 0x0041C123 ∷ []), two_loaded)
      ∷ ((does (load 0x0081C123) two_loaded).state, three_loaded)
      ∷ (
        (does (load 0x00C1C123) three_loaded).state,
        (four 0x12345112 0x54321F16 0x6789A112 0xABCDE112, set28 (page₂ 0x6789A112 0) (page₃ 0xABCDE112 1)),
      )
      ∷ (
        (does (load 0x0001C123) three_loaded).state,
        (four 0x12345112 0x54321F16 0x6789A112 0xABCDE012, set28 (page₂ 0x6789A112 0) (page₀ 0x12345112 1)),
      )
      ∷ []
      )
  -- a hit in place 0 and in place 1, for fetches and users too: entry number 8, and no byte of table or cache is written (R39, R43, R46); R is set
  -- nowhere where it was clear
  pub hits : Hold (
      (does (load 0x0001C456) two_loaded, ended done two_loaded (one_byte 0x12345456 2 0x0001C456 (rule 6 2 0 8)))
      ∷ (does (load 0x0041C456) two_loaded, ended done two_loaded (one_byte 0x54321456 2 0x0041C456 (rule 6 2 0 8)))
      ∷ (does (fetch 0x0001C456) two_loaded, ended done two_loaded (one_byte 0x12345456 2 0x0001C456 (rule 6 2 0 8)))
      ∷ (does (to_cached registers 5 1 0x0001C456 1) two_loaded, ended done two_loaded (one_byte 0x12345456 2 0x0001C456 (rule 6 2 0 8)))
      ∷ (
        does (load 0x0001C456) (fresh, set28 (page₀ 0x12345012 1) empty),
        ended done (fresh, set28 (page₀ 0x12345012 1) empty) (one_byte 0x12345456 2 0x0001C456 (rule 6 2 0 8)),
      )
      ∷ []
      )
  -- a hit is no load: the page that was hit last is replaced, if it was loaded first (R43)
  pub hits_do_not_age : Hold ((
    after_loads (0x0001C123 ∷ 0x0041C123 ∷ 0x0001C123 ∷ 0x0081C123 ∷ []),
    (four 0x12345112 0x54321F16 0x6789A112 0xABCDE012, set28 (page₂ 0x6789A112 1) (page₁ 0x54321F16 0)),
  )
      ∷ []
      )
  -- a store that meets C clear goes to the table, and the page is loaded again with C where it was, as the newer load (R49, R55); then it hits; place
  -- 1 is not asked where place 0 holds the page (R42)
  pub stores : Hold ((
    does (store 0x0001C123) two_loaded,
    ended done (four 0x12345192 0x54321F16 0x6789A012 0xABCDE012, set28 (page₀ 0x12345192 1) (page₁ 0x54321F16 0))
        (one_byte 0x12345123 2 0x0001C123 (rule 6 2 0 0)),
  )
      ∷ (
        does (store 0x0041C123) two_loaded,
        ended done (four 0x12345112 0x54321F96 0x6789A012 0xABCDE012, set28 (page₀ 0x12345112 0) (page₁ 0x54321F96 1))
            (one_byte 0x54321123 2 0x0041C123 (rule 6 2 0 1)),
      )
      ∷ (
        does (store 0x0041C123) (four 0x12345112 0x54321F16 0x6789A012 0xABCDE012, set28 (page₀ 0x12345112 1) (page₁ 0x54321F16 0)),
        ended done (four 0x12345112 0x54321F96 0x6789A012 0xABCDE012, set28 (page₀ 0x12345112 0) (page₁ 0x54321F96 1))
            (one_byte 0x54321123 2 0x0041C123 (rule 6 2 0 1)),
      )
      ∷ (
        does (store 0x0001C456) (four 0x12345192 0 0 0, set28 (page₀ 0x12345192 0) (page₁ 0x54321F16 1)),
        ended done (four 0x12345192 0 0 0, set28 (page₀ 0x12345192 0) (page₁ 0x54321F16 1)) (one_byte 0x12345456 2 0x0001C456 (rule 6 2 0 8)),
      )
      ∷ (
        does (store 0x0001C123) (fresh, set28 (page₀ 0x12345112 0) (page₀ 0x77777192 1)),
        ended done (four 0x12345192 0x54321E16 0x6789A012 0xABCDE012, set28 (page₀ 0x12345192 1) (page₀ 0x77777192 0))
            (one_byte 0x12345123 2 0x0001C123 (rule 6 2 0 0)),
      )
      ∷ []
      )
  -- nothing is loaded after a fault or a 10: no match, page protection, a guarded fetch, matches that contradict (R47)
  pub faults_load_nothing : Hold (
      (does (load 0x0101C123) two_loaded, ended data_storage_fault two_loaded (stop data_storage_fault 0x40000000 0x300 0x0101C123 (rule 3 0 0 0)))
      ∷ (
        does (store 0x0001C123) (four 0x12345013 0 0 0, zero_cache),
        ended data_storage_fault (four 0x12345013 0 0 0, zero_cache) (stop data_storage_fault 0x0A000000 0x300 0x0001C123 (rule 5 3 0 0)),
      )
      ∷ (
        does (fetch 0x0001C123) (four 0x1234501A 0 0 0, zero_cache),
        ended instruction_storage_fault (four 0x1234501A 0 0 0, zero_cache) (stop instruction_storage_fault 0x10000000 0x400 0x0001C123 (rule 4 0 0 0)),
      )
      ∷ (does (load 0x0001C123) (two_entries 0x12345012 0x12345013, zero_cache), refused_with refused_contradiction (two_entries 0x12345012 0x12345013, zero_cache))
      ∷ []
      )
  -- real mode, a block and a segment's N come before the cache: a page that it has is not asked for, and nothing is loaded (R40, R47)
  pub before_the_cache : Hold ((
    does (to_cached registers 0 1 0x0001C123 1) two_loaded,
    ended done two_loaded (one_byte 0x0001C123 3 0x0001C123 no_rule),
  )
      ∷ (does (to_cached registers 0 1 0x0081C123 1) two_loaded, ended done two_loaded (one_byte 0x0081C123 3 0x0081C123 no_rule))
      ∷ (does (to_cached with_block 1 1 0x0001C123 1) two_loaded, ended done two_loaded (one_byte 0x2001C123 0 0x0001C123 (rule 1 0 0 0)))
      ∷ (does (to_cached with_block 1 2 0x0001C123 1) (fresh, zero_cache), ended done (fresh, zero_cache) (one_byte 0x2001C123 0 0x0001C123 (rule 1 0 0 0)))
      ∷ (
        does (to_cached (registers_with 0x100C701C) 2 0 0x0001C123 1) two_loaded,
        ended instruction_storage_fault two_loaded (stop instruction_storage_fault 0x10000000 0x400 0x0001C123 (rule 2 0 0 0)),
      )
      ∷ []
      )
  -- place 1 is replaced only where place 0's fourth word is 1 and its own is not; other words than 1 are not 1; the other place's fourth word
  -- becomes 0, whatever it was (R50, R51)
  pub ages : Hold (
      (map (λ newer. aged 1 newer) (0 ∷ 7 ∷ 0x80000001 ∷ 0x01000000 ∷ 1 ∷ []), in_place1 ∷ in_place1 ∷ in_place1 ∷ in_place1 ∷ in_place0 ∷ [])
      ∷ (map (λ newer. aged newer 0) (0 ∷ 7 ∷ 0x80000001 ∷ 0x01000000 ∷ []), in_place0 ∷ in_place0 ∷ in_place0 ∷ in_place0 ∷ [])
      ∷ (map (λ newer. aged newer 1) (0 ∷ 7 ∷ 0x80000001 ∷ 0x01000000 ∷ []), in_place0 ∷ in_place0 ∷ in_place0 ∷ in_place0 ∷ [])
      ∷ []
      )
  -- an empty place 1 is not preferred (R50); words with V = 0, and the VSID with another page index, are no reload (R49)
  pub empty_places : Hold (
      ((does (load 0x0001C123) (fresh, set28 (page₁ 0x54321F16 0) empty)).state.1, set28 (page₀ 0x12345112 1) empty)
      ∷ ((does (load 0x0001C123) (fresh, set28 (page₁ 0x54321F16 7) empty)).state.1, set28 (page₀ 0x12345112 1) empty)
      ∷ ((does (load 0x0001C123) (fresh, set28 empty (page₁ 0x54321F16 1))).state.1, set28 (page₀ 0x12345112 1) (page₁ 0x54321F16 0))
      ∷ (
        (does (load 0x0001C123) (fresh, set28 (place 0x06380E00 0x12345112 0x001C 1) empty)).state.1,
        set28 (place 0x06380E00 0x12345112 0x001C 0) (page₀ 0x12345112 1),
      )
      ∷ (
        (does (load 0x0001C123) (fresh, set28 (place 0x86380E00 0x12345112 0x0001001C 1) (place 0x86380E80 0x12345112 0x001C 5))).state.1,
        set28 (place 0x86380E00 0x12345112 0x0001001C 0) (page₀ 0x12345112 1),
      )
      ∷ []
      )
  -- an operand over two pages: each is loaded or is a hit by itself, and the record is the first's (R46, R47, R52)
  pub two_pages : Hold ((
    does (to_cached registers 1 1 0x0001CFFE 4) (pages 0x12345012 0x5432102A, zero_cache),
    ended done (pages 0x12345112 0x5432112A, sets28and29 (page₀ 0x12345112 1) empty (next 0x5432112A 1) empty)
        (in_two 0x12345FFE 2 0x0001CFFE 0x54321000 5 2 2 (rule 6 2 0 0)),
  )
      ∷ (
        does (to_cached registers 1 1 0x0001CFFE 4) (pages 0x12345112 0x5432102A, set28 (page₀ 0x12345112 0) (page₁ 0x54321F16 1)),
        ended done (pages 0x12345112 0x5432112A, sets28and29 (page₀ 0x12345112 0) (page₁ 0x54321F16 1) (next 0x5432112A 1) empty)
            (in_two 0x12345FFE 2 0x0001CFFE 0x54321000 5 2 2 (rule 6 2 0 8)),
      )
      ∷ (
        does (to_cached registers 1 1 0x0001CFFE 4) (pages 0x12345012 0x5432112A, sets28and29 empty empty (page₁ 0x54321F16 1) (next 0x5432112A 0)),
        ended done (pages 0x12345112 0x5432112A, sets28and29 (page₀ 0x12345112 1) empty (page₁ 0x54321F16 1) (next 0x5432112A 0))
            (in_two 0x12345FFE 2 0x0001CFFE 0x54321000 5 2 2 (rule 6 2 0 0)),
      )
      ∷ (
        does (to_cached registers 1 1 0x0001CFFE 4) (pages 0 0, sets28and29 (page₀ 0x12345112 0) empty (next 0x5432112A 0) empty),
        ended done (pages 0 0, sets28and29 (page₀ 0x12345112 0) empty (next 0x5432112A 0) empty)
            (in_two 0x12345FFE 2 0x0001CFFE 0x54321000 5 2 2 (rule 6 2 0 8)),
      )
      ∷ (
        does (to_cached registers 1 2 0x0001CFFE 4) (pages 0x12345192 0x5432112A, sets28and29 (page₀ 0x12345192 1) empty (next 0x5432112A 1) empty),
        ended done (pages 0x12345192 0x543211AA, sets28and29 (page₀ 0x12345192 1) empty (next 0x543211AA 1) empty)
            (in_two 0x12345FFE 2 0x0001CFFE 0x54321000 5 2 2 (rule 6 2 0 8)),
      )
      ∷ []
      )
  -- the last page of segment 0, with VSID 0xFFFF, and the first of segment 1, with VSID 0: sets 63 and 0 (R52)
  pub two_segments_rows : Hold ((
    does (to_cached (two_segments 0) 1 1 0x0FFFFFFF 2) (bytes_of (0x80000000 ∷ 0x54321012 ∷ 0x807FFFBF ∷ 0x12345012 ∷ replicate 12 0), zero_cache),
    ended done (
      bytes_of (0x80000000 ∷ 0x54321112 ∷ 0x807FFFBF ∷ 0x12345112 ∷ replicate 12 0),
      bytes_of (place 0x80000000 0x54321112 0 1) ++ replicate 2000 0 ++ bytes_of (place 0x807FFFBF 0x12345112 0xFFFF 1 ++ empty),
    ) (in_two 0x12345FFF 2 0x0FFFFFFF 0x54321000 2 1 1 (rule 6 2 0 1)),
  )
      ∷ []
      )
  -- where either page faults or is refused, nothing is loaded or marked; the record is that of the page whose fault is given (R46, R47)
  pub two_pages_faults : Hold ((
    does (to_cached registers 1 1 0x0001CFFE 4) (fresh, zero_cache),
    ended data_storage_fault (fresh, zero_cache) (stop data_storage_fault 0x40000000 0x300 0x0001D000 (rule 3 0 0 0)),
  )
      ∷ (
        does (to_cached registers 1 2 0x0001CFFE 4) (pages 0x12345012 0x5432102B, zero_cache),
        ended data_storage_fault (pages 0x12345012 0x5432102B, zero_cache) (stop data_storage_fault 0x0A000000 0x300 0x0001D000 (rule 5 3 1 0)),
      )
      ∷ (
        does (to_cached registers 1 2 0x0001CFFE 4) (pages 0x12345012 0x543211AB, sets28and29 empty empty (next 0x543211AB 1) empty),
        ended data_storage_fault (pages 0x12345012 0x543211AB, sets28and29 empty empty (next 0x543211AB 1) empty)
            (stop data_storage_fault 0x0A000000 0x300 0x0001D000 (rule 5 3 1 8)),
      )
      ∷ (
        does (to_cached registers 1 2 0x0001CFFE 4) (pages 0x12345193 0x5432102A, set28 (page₀ 0x12345193 1) empty),
        ended data_storage_fault (pages 0x12345193 0x5432102A, set28 (page₀ 0x12345193 1) empty)
            (stop data_storage_fault 0x0A000000 0x300 0x0001CFFE (rule 5 3 0 8)),
      )
      ∷ (
        does (to_cached registers 1 1 0x0001BFFE 4) (two_entries 0x12345012 0x12345013, replicate 864 0 ++ bytes_of (place 0x86380E00 0x54321112 0x001B 1) ++ replicate 1168 0),
        refused_with refused_contradiction (two_entries 0x12345012 0x12345013, replicate 864 0 ++ bytes_of (place 0x86380E00 0x54321112 0x001B 1) ++ replicate 1168 0),
      )
      ∷ []
      )
  -- a page that stands in its secondary group: H = 1 is loaded, and the hit shows the group that the loaded H names, whatever it is (R46, R48)
  pub secondary_groups : Hold ((
    does (load 0x003E2123) (in_secondary 0x12345012, zero_cache),
    ended done (in_secondary 0x12345112, set34 0x86380E40 0x12345112) (one_byte 0x12345123 2 0x003E2123 (rule 6 2 1 5)),
  )
      ∷ (
        does (load 0x003E2123) (in_secondary 0x12345112, set34 0x86380E40 0x12345112),
        ended done (in_secondary 0x12345112, set34 0x86380E40 0x12345112) (one_byte 0x12345123 2 0x003E2123 (rule 6 2 1 8)),
      )
      ∷ (
        does (load 0x003E2123) (in_secondary 0x12345112, set34 0x86380E00 0x12345112),
        ended done (in_secondary 0x12345112, set34 0x86380E00 0x12345112) (one_byte 0x12345123 2 0x003E2123 (rule 6 2 0x3FE 8)),
      )
      ∷ (
        cached_does 1 (load 0x003E2123) (in_secondary 0x12345112, set34 0x86380E40 0x12345112),
        ended done (in_secondary 0x12345112, set34 0x86380E40 0x12345112) (one_byte 0x12345123 2 0x003E2123 (rule 6 2 0x401 8)),
      )
      ∷ []
      )
  -- a guarded fetch and page protection by a hit fault with entry number 8, the key by the segment at hand; a store that meets C clear goes to the
  -- table, and its fault shows the entry there (R44, R46)
  pub hit_faults : Hold ((
    does (fetch 0x0001C123) (four 0x1234511A 0 0 0, set28 (page₀ 0x1234511A 1) empty),
    ended instruction_storage_fault (four 0x1234511A 0 0 0, set28 (page₀ 0x1234511A 1) empty)
        (stop instruction_storage_fault 0x10000000 0x400 0x0001C123 (rule 4 0 0 8)),
  )
      ∷ (
        does (to_cached (registers_with 0x200C701C) 5 1 0x0001C123 1) (four 0x12345110 0 0 0, set28 (page₀ 0x12345110 1) empty),
        ended data_storage_fault (four 0x12345110 0 0 0, set28 (page₀ 0x12345110 1) empty) (stop data_storage_fault 0x08000000 0x300 0x0001C123 (rule 5 4 0 8)),
      )
      ∷ (
        does (to_cached (registers_with 0x200C701C) 1 1 0x0001C123 1) (four 0x12345110 0 0 0, set28 (page₀ 0x12345110 1) empty),
        ended done (four 0x12345110 0 0 0, set28 (page₀ 0x12345110 1) empty) (one_byte 0x12345123 2 0x0001C123 (rule 6 0 0 8)),
      )
      ∷ (
        does (store 0x0041C123) (four 0 0x54321193 0 0, set28 empty (page₁ 0x54321193 1)),
        ended data_storage_fault (four 0 0x54321193 0 0, set28 empty (page₁ 0x54321193 1)) (stop data_storage_fault 0x0A000000 0x300 0x0041C123 (rule 5 3 0 8)),
      )
      ∷ (
        does (store 0x0041C123) (four 0 0x54321113 0 0, set28 empty (page₁ 0x54321113 1)),
        ended data_storage_fault (four 0 0x54321113 0 0, set28 empty (page₁ 0x54321113 1)) (stop data_storage_fault 0x0A000000 0x300 0x0041C123 (rule 5 3 0 1)),
      )
      ∷ (
        does (store 0x0041C123) ([], set28 empty (page₁ 0x54321112 1)),
        ended data_storage_fault ([], set28 empty (page₁ 0x54321112 1)) (stop data_storage_fault 0x42000000 0x300 0x0041C123 (rule 3 0 0 0)),
      )
      ∷ []
      )
  -- a hit hides the table: a page that it has not, another entry, matches that contradict (R45); place 0 is asked first
  pub hides : Hold ((
    does (load 0x0001C123) ([], set28 (page₀ 0x77777112 1) empty),
    ended done ([], set28 (page₀ 0x77777112 1) empty) (one_byte 0x77777123 2 0x0001C123 (rule 6 2 0 8)),
  )
      ∷ (
        does (load 0x0001C123) (fresh, set28 empty (page₀ 0x7777712B 0)),
        ended done (fresh, set28 empty (page₀ 0x7777712B 0)) (one_byte 0x77777123 5 0x0001C123 (rule 6 3 0 8)),
      )
      ∷ (
        does (store 0x0001C123) (two_entries 0x12345012 0x12345013, set28 (page₀ 0x77777192 1) empty),
        ended done (two_entries 0x12345012 0x12345013, set28 (page₀ 0x77777192 1) empty) (one_byte 0x77777123 2 0x0001C123 (rule 6 2 0 8)),
      )
      ∷ (
        does (load 0x0001C123) ([], set28 (page₀ 0x77777112 0) (page₀ 0x12345112 1)),
        ended done ([], set28 (page₀ 0x77777112 0) (page₀ 0x12345112 1)) (one_byte 0x77777123 2 0x0001C123 (rule 6 2 0 8)),
      )
      ∷ []
      )
  -- the test of a hit: another API and another fourth word still hit; another page index of 32 bits, V = 0 and another VSID do not (R41)
  pub tests : Hold (
      ((does (load 0x0001C123) ([], set28 (place 0x86380E3F 0x77777112 0x001C 7) empty)).answer, one_byte 0x77777123 2 0x0001C123 (rule 6 2 0 8))
      ∷ (
        (does (load 0x0001C123) ([], set28 (place 0x86380E00 0x77777112 0x0001001C 1) empty)).answer,
        stop data_storage_fault 0x40000000 0x300 0x0001C123 (rule 3 0 0 0),
      )
      ∷ (
        (does (load 0x0001C123) ([], set28 (place 0x06380E00 0x77777112 0x001C 1) empty)).answer,
        stop data_storage_fault 0x40000000 0x300 0x0001C123 (rule 3 0 0 0),
      )
      ∷ (
        (does (load 0x0001C123) ([], set28 (place 0x86380E80 0x77777112 0x001C 1) empty)).answer,
        stop data_storage_fault 0x40000000 0x300 0x0001C123 (rule 3 0 0 0),
      )
      ∷ []
      )
  -- a cache of another length is 11, before 6 and whatever else is wrong, and leaves the answer (R37)
  pub cache_lengths : Hold (
      (on_cached (load 0x0001C123) (7 ∷ [], replicate 2047 9), refused_length (7 ∷ [], replicate 2047 9))
      ∷ (on_cached (load 0x0001C123) (7 ∷ [], replicate 2049 9), refused_length (7 ∷ [], replicate 2049 9))
      ∷ (on_cached (load 0x0001C123) (7 ∷ [], []), refused_length (7 ∷ [], []))
      ∷ (on_cached (to_cached registers 1 3 0x0001C123 1) (7 ∷ [], replicate 2047 9), refused_length (7 ∷ [], replicate 2047 9))
      ∷ (on_cached (to_cached [] 1 1 0x0001C123 1) wrong_table, refused_length wrong_table)
      ∷ []
      )
  -- the other refusals in their order; 1 though the page would hit (R38)
  pub refusals : Hold (
      (on_cached (to_cached registers 1 3 0x0001C123 0) wrong_table, refused_with refused_argument wrong_table)
      ∷ (on_cached (to_cached registers 8 1 0x0001C123 1) wrong_table, refused_with refused_argument wrong_table)
      ∷ (on_cached (to_cached (with_word registers 0 5) 1 1 0x0001C123 0) wrong_table, refused_with refused_operand_length wrong_table)
      ∷ (on_cached (to_cached (with_word (with_word registers 0 5) 8 0x80000000) 1 1 0x0001C123 1) wrong_table, refused_with refused_sdr1 wrong_table)
      ∷ (on_cached (to_cached (with_word registers 8 0x80000000) 1 1 0x0001C123 1) wrong_table, refused_with refused_segment wrong_table)
      ∷ (on_cached (load 0x0001C123) wrong_table, refused_with refused_table_length wrong_table)
      ∷ (on_cached (to_cached registers 0 1 0x0001C123 1) wrong_table, refused_with refused_table_length wrong_table)
      ∷ []
      )
  -- an access that is not refused, on a whole table: number, group 0, cache and answer; and a hit under mask 1, whose group numbers have 11 bits
  pub whole_tables : Hold ((
    told (on_cached (load 0x0001C123) (fresh ++ replicate 65472 0, zero_cache)),
    told (ended done (four 0x12345112 0x54321E16 0x6789A012 0xABCDE012, set28 (page₀ 0x12345112 1) empty) (one_byte 0x12345123 2 0x0001C123 (rule 6 2 0 0))),
  )
      ∷ (
        told (on_cached (to_cached (with_word registers 0 1) 1 1 0x003E2123 1) (replicate 131072 0, set34 0x86380E40 0x12345112)),
        told (ended done (replicate 64 0, set34 0x86380E40 0x12345112) (one_byte 0x12345123 2 0x003E2123 (rule 6 2 0x401 8))),
      )
      ∷ []
      )
  -- an invalidate zeroes the 32 bytes of its page index's set and no other; 11 before 6, and 6 from 65,536 on (R37, R38, R54)
  pub invalidates : Hold (
      (invalidate_call 0x001C two_loaded.1, (done, zero_cache))
      ∷ (invalidate_call 0x0C1C two_loaded.1, (done, zero_cache))
      ∷ (invalidate_call 0x001D two_loaded.1, (done, two_loaded.1))
      ∷ (invalidate_call 0 (replicate 2048 255), (done, replicate 32 0 ++ replicate 2016 255))
      ∷ (invalidate_call 65535 (replicate 2048 255), (done, replicate 2016 255 ++ replicate 32 0))
      ∷ (invalidate_call 65536 (replicate 2048 255), (refused_argument, replicate 2048 255))
      ∷ (invalidate_call 0x0001001C two_loaded.1, (refused_argument, two_loaded.1))
      ∷ (invalidate_call 0xFFFFFFFF two_loaded.1, (refused_argument, two_loaded.1))
      ∷ (invalidate_call 0 (replicate 2047 255), (refused_lent_length, replicate 2047 255))
      ∷ (invalidate_call 0 (replicate 2049 255), (refused_lent_length, replicate 2049 255))
      ∷ (invalidate_call 65536 [], (refused_lent_length, []))
      ∷ []
      )
