-- The twelve cases (rules 9) as rows: a case's number, and a claim that sets what the definitions compute beside what is stated. The calls of a row are whole calls on a table, of which only the length is known before its clear.
use Rattle.std.specs.Prelude.{ℕ, ◌+◌, ◌*◌, Bool, true, false, List, [], ◌∷◌, ◌++◌, map, ◌≡◌, length, replicate}
use Rattle.numbers.specs.Numbers.{done, data_storage_fault, refused_sdr1, refused_block, refused_full, answer_size, access_answer_size}
use Rattle.words.specs.Words.{bytes_of}
use Rattle.entry.specs.Entry.{page_index}
use Rattle.register_words.specs.Sdr1.{table_length, hash_bits}
use Rattle.groups.specs.declared.Page.{Page}
use Rattle.groups.specs.Hash.{hash_of, group_number, group_address}
use Rattle.groups.specs.Group.{group_of}
use Rattle.theory_tables.specs.Runs.{run, after, Each}
use Rattle.theory_calls.specs.Request.{Request}
use Rattle.theory_calls.specs.Made.{to_clear, to_map, to_unmap, to_look, to_access}
use Rattle.theory_calls.specs.WithoutTable.{check_call}
use Rattle.theory_calls.specs.OnBytes.{on_bytes}
use Rattle.theory_histories.specs.Calls.{State, Call, plain}
use Rattle.theory_histories.specs.Fed.{bytes_step}
use Rattle.theory_histories.specs.Histories.{own_call}

-- ---- rows, and when they hold

-- what a row claims
pub data Claim : Type 0 where
  -- a number that is computed, and the one stated
  computes : ℕ → ℕ → Claim
  -- a call, and the refusal stated of it whatever slice is lent as the table
  refused : Request (List ℕ) → ℕ → Claim
  -- SDR1, the calls that follow a clear, and what is stated of their answers
  answered : ℕ → List (Request (List ℕ)) → List (ℕ × List ℕ) → Claim
  -- SDR1, the calls that follow a clear, the number of a group, and the sixteen words stated of it after them
  stored : ℕ → List (Request (List ℕ)) → ℕ → List ℕ → Claim

-- a clear and the calls that follow it, each on the table as the one before left it
abbrev pub OnTable : Request (List ℕ) → Call
OnTable request = own_call (plain request)

abbrev pub clear_then : ℕ → List (Request (List ℕ)) → List Call
clear_then sdr1 requests = map OnTable (to_clear sdr1 ∷ requests)

-- what clear, map and protect answer: a result number alone
abbrev pub result : ℕ → ℕ × List ℕ
result n = (n, [])

-- what look and unmap answer: the result number, and four words of which it is the first
abbrev pub four_words : ℕ → ℕ → ℕ → ℕ → ℕ × List ℕ
four_words w₀ w₁ w₂ w₃ = (w₀, bytes_of (w₀ ∷ w₁ ∷ w₂ ∷ w₃ ∷ []))

-- what an access to one byte answers, as far as it is compared: done, with that byte in the first page; or a fault, with four zero words behind its
-- own; then the rule that decided and what it went by, and no place where an entry was used
abbrev pub byte_done : ℕ → ℕ → ℕ → List ℕ → ℕ × List ℕ
byte_done physical attributes effective decided = (done, bytes_of ((done ∷ physical ∷ attributes ∷ effective ∷ 0 ∷ 0 ∷ 1 ∷ 0 ∷ []) ++ decided))

abbrev pub data_fault : ℕ → ℕ → List ℕ → ℕ × List ℕ
data_fault word effective decided =
    (data_storage_fault, bytes_of ((data_storage_fault ∷ word ∷ 0x300 ∷ effective ∷ 0 ∷ 0 ∷ 0 ∷ 0 ∷ []) ++ decided))

-- page done and page protection by key 0 and this PP; no match; the first data block
abbrev pub by_page : ℕ → List ℕ
by_page pp = 6 ∷ pp ∷ []

abbrev pub by_protection : ℕ → List ℕ
by_protection pp = 5 ∷ pp ∷ []

abbrev pub by_no_match : List ℕ
by_no_match = 3 ∷ 0 ∷ 0 ∷ 0 ∷ []

abbrev pub by_first_block : List ℕ
by_first_block = 1 ∷ 0 ∷ 0 ∷ 0 ∷ []

abbrev pub Holds : Claim → Type 0
Holds (computes computed stated) = computed ≡ stated
Holds (refused request stated) = (t : List ℕ) → ((on_bytes request t).number ≡ stated) × ((on_bytes request t).state ≡ t)
Holds (answered sdr1 requests stated) =
    (s : State) → length s.table ≡ table_length sdr1 → run bytes_step (clear_then sdr1 requests) s ≡ result done ∷ stated
Holds (stored sdr1 requests group stated) =
    (s : State) → length s.table ≡ table_length sdr1 → group_of (after bytes_step (clear_then sdr1 requests) s).table group ≡ bytes_of stated

abbrev pub Row : Type 0
Row = ℕ × Claim

abbrev pub AllHold : List Row → Type 0
AllHold rows = Each (λ row. Holds row.1) rows

-- ---- the inputs of the cases

-- VSID 0x0C701C and address 00FFA01B, whose page index is 0x0FFA
abbrev pub the_page : Page
the_page = record { vsid = 0x0C701C; index = 0x0FFA }

-- its primary (false) or secondary (true) group under an SDR1
abbrev pub group_under : ℕ → Bool → ℕ
group_under sdr1 secondary = group_number (hash_bits sdr1) secondary the_page

-- a page mapped to RPN 0x12345 with WIMG 2 and PP pp
abbrev pub map_to : ℕ → ℕ → Page → Request (List ℕ)
map_to sdr1 pp page = to_map sdr1 page 0x12345 2 pp

-- a lent answer of look or unmap, and of an access
abbrev pub lent_answer : List ℕ
lent_answer = replicate answer_size 0

abbrev pub lent_access_answer : List ℕ
lent_access_answer = replicate access_answer_size 0

-- a register page: SDR1, segment register 0 and the first data block; every other word is zero
abbrev pub register_page : ℕ → ℕ → ℕ → ℕ → List ℕ
register_page sdr1 segment upper lower = bytes_of ((sdr1 ∷ segment ∷ replicate 23 0) ++ (upper ∷ lower ∷ replicate 6 0))

-- a store of one byte to address 00FFA01B in mode 1, by segment 0 with Ks and Kp zero and all blocks off
abbrev pub store_at : ℕ → Request (List ℕ)
store_at sdr1 = to_access (register_page sdr1 0x000C701C 0 0) 1 2 0x00FFA01B 1 lent_access_answer

-- eight other pages with the same primary group under both SDR1s: their VSIDs agree in the low 13 bits
abbrev pub others : List Page
others = map (λ i. record { vsid = 0x0C701C + 0x2000 * i; index = 0x0FFA }) (1 ∷ 2 ∷ 3 ∷ 4 ∷ 5 ∷ 6 ∷ 7 ∷ 8 ∷ [])

-- a load of one byte in mode 1 with a data block
abbrev pub load_at : ℕ → ℕ → ℕ → ℕ → Request (List ℕ)
load_at sdr1 upper lower address = to_access (register_page sdr1 0 upper lower) 1 1 address 1 lent_access_answer

-- VSIDs 0, 0x400 .. 0x3C00, page 0
abbrev pub sixteen : List Page
sixteen = map (λ i. record { vsid = 0x400 * i; index = 0 }) (0 ∷ 1 ∷ 2 ∷ 3 ∷ 4 ∷ 5 ∷ 6 ∷ 7 ∷ 8 ∷ 9 ∷ 10 ∷ 11 ∷ 12 ∷ 13 ∷ 14 ∷ 15 ∷ [])

abbrev pub sixteen_maps : List (Request (List ℕ))
sixteen_maps = map (map_to 0 2) sixteen

-- VSID 0x4000 page 0, and VSID 0 page 0x3FF
abbrev pub one_more : Page
one_more = record { vsid = 0x4000; index = 0 }

abbrev pub exchanged : Page
exchanged = record { vsid = 0; index = 0x3FF }

-- ---- the rows

-- page index, hash, and the two groups: their numbers and their addresses
abbrev pub case1 : List Row
case1 =
    (1, computes (page_index 0x00FFA01B) 0x0FFA)
    ∷ (1, computes (hash_of 0x0C701C 0x0FFA) 0x47FE6)
    ∷ (1, computes (group_under 0x0F980007 false) 0x1FE6)
    ∷ (1, computes (group_under 0x0F980007 true) 0x0019)
    ∷ (1, computes (group_address 0x0F980007 (group_under 0x0F980007 false)) 0x0F9FF980)
    ∷ (1, computes (group_address 0x0F980007 (group_under 0x0F980007 true)) 0x0F980640)
    ∷ []

-- under an SDR1, given the numbers of the page's two groups there: the entry in the primary, and in the secondary where the primary is full; then stores
abbrev pub cases2to5 : ℕ → ℕ → ℕ → List Row
cases2to5 sdr1 primary secondary =
    (2, answered sdr1 (map_to sdr1 2 the_page ∷ []) (result done ∷ []))
    ∷ (2, stored sdr1 (map_to sdr1 2 the_page ∷ []) primary (0x86380E03 ∷ 0x12345012 ∷ replicate 14 0))
    ∷ (2, answered sdr1 (map (map_to sdr1 2) (others ++ (the_page ∷ []))) (replicate 9 (result done)))
    ∷ (2, stored sdr1 (map (map_to sdr1 2) (others ++ (the_page ∷ []))) secondary (0x86380E43 ∷ 0x12345012 ∷ replicate 14 0))
    ∷ (
      3,
      answered sdr1 (map_to sdr1 2 the_page ∷ store_at sdr1 ∷ to_look sdr1 the_page lent_answer ∷ [])
          (result done ∷ byte_done 0x1234501B 2 0x00FFA01B (by_page 2) ∷ four_words done 0x12345192 0 0 ∷ []),
    )
    ∷ (3, stored sdr1 (map_to sdr1 2 the_page ∷ store_at sdr1 ∷ []) primary (0x86380E03 ∷ 0x12345192 ∷ replicate 14 0))
    ∷ (
      4,
      answered sdr1 (map_to sdr1 3 the_page ∷ store_at sdr1 ∷ to_look sdr1 the_page lent_answer ∷ [])
          (result done ∷ data_fault 0x0A000000 0x00FFA01B (by_protection 3) ∷ four_words done 0x12345013 0 0 ∷ []),
    )
    ∷ (4, stored sdr1 (map_to sdr1 3 the_page ∷ store_at sdr1 ∷ []) primary (0x86380E03 ∷ 0x12345013 ∷ replicate 14 0))
    ∷ (5, answered sdr1 (store_at sdr1 ∷ []) (data_fault 0x42000000 0x00FFA01B by_no_match ∷ []))
    ∷ []

abbrev pub case6 : List Row
case6 =
    (6, computes (group_under 0x0F980000 false) 0x3E6)
    ∷ (6, computes (group_under 0x0F980000 true) 0x019)
    ∷ []

-- under an SDR1 of wrong shape: clear, map and access, and the check of a register page with it
abbrev pub case7 : ℕ → List Row
case7 sdr1 =
    (7, refused (to_clear sdr1) refused_sdr1)
    ∷ (7, refused (map_to sdr1 2 the_page) refused_sdr1)
    ∷ (7, refused (store_at sdr1) refused_sdr1)
    ∷ (7, computes (check_call (register_page sdr1 0 0 0)) refused_sdr1)
    ∷ []

-- an address outside the block goes by its segment, and its page has no match; BL 2 is refused by access and by check
abbrev pub cases8to10 : ℕ → List Row
cases8to10 sdr1 =
    (8, answered sdr1 (load_at sdr1 0x80001FFE 0x10000002 0x8FFFFFFF ∷ []) (byte_done 0x1FFFFFFF 0 0x8FFFFFFF by_first_block ∷ []))
    ∷ (8, answered sdr1 (load_at sdr1 0x80001FFE 0x10000002 0x90000000 ∷ []) (data_fault 0x40000000 0x90000000 by_no_match ∷ []))
    ∷ (9, answered sdr1 (load_at sdr1 0x00000002 0x10000002 0x0001FFFF ∷ []) (byte_done 0x1001FFFF 0 0x0001FFFF by_first_block ∷ []))
    ∷ (9, answered sdr1 (load_at sdr1 0x00000002 0x10000002 0x00020000 ∷ []) (data_fault 0x40000000 0x00020000 by_no_match ∷ []))
    ∷ (10, refused (load_at sdr1 0x0000000A 0x10000002 0) refused_block)
    ∷ (10, computes (check_call (register_page sdr1 0 0x0000000A 0x10000002)) refused_block)
    ∷ []

-- the sixteen map, two more do not; and what the two groups then hold, eight entries each with V = 1, in the secondary group with H = 1
abbrev pub case11 : List Row
case11 =
    (11, answered 0 (sixteen_maps ++ (map_to 0 2 one_more ∷ map_to 0 2 exchanged ∷ [])) (replicate 16 (result done) ++ (result refused_full ∷ result refused_full ∷ [])))
    ∷ (
      11,
      stored 0 sixteen_maps 0
          (
          0x80000000 ∷ 0x12345012 ∷ 0x80020000 ∷ 0x12345012 ∷ 0x80040000 ∷ 0x12345012 ∷ 0x80060000 ∷ 0x12345012
          ∷ 0x80080000 ∷ 0x12345012 ∷ 0x800A0000 ∷ 0x12345012 ∷ 0x800C0000 ∷ 0x12345012 ∷ 0x800E0000 ∷ 0x12345012
          ∷ []
          ),
    )
    ∷ (
      11,
      stored 0 sixteen_maps 0x3FF
          (
          0x80100040 ∷ 0x12345012 ∷ 0x80120040 ∷ 0x12345012 ∷ 0x80140040 ∷ 0x12345012 ∷ 0x80160040 ∷ 0x12345012
          ∷ 0x80180040 ∷ 0x12345012 ∷ 0x801A0040 ∷ 0x12345012 ∷ 0x801C0040 ∷ 0x12345012 ∷ 0x801E0040 ∷ 0x12345012
          ∷ []
          ),
    )
    ∷ []

-- after the sixteen maps one of them is unmapped, and then `page` maps: a row for each of the sixteen
abbrev pub freed : Page → Page → Row
freed page one = (
  12,
  answered 0 (sixteen_maps ++ (to_unmap 0 one lent_answer ∷ map_to 0 2 page ∷ [])) (replicate 16 (result done) ++ (four_words done 0x12345012 0 0 ∷ result done ∷ [])),
)

abbrev pub case12 : Page → List Row
case12 page = map (freed page) sixteen

-- the twelve cases, under each SDR1 that they name
pub record TwelveCases : Type 0 where
  pub hold : Each AllHold (
      case1
      ∷ cases2to5 0x0F980007 0x1FE6 0x0019
      ∷ cases2to5 0x0F980000 0x3E6 0x019
      ∷ case6
      ∷ case7 0x0F980005
      ∷ case7 0x0F910007
      ∷ cases8to10 0x0F980007
      ∷ cases8to10 0x0F980000
      ∷ case11
      ∷ case12 one_more
      ∷ case12 exchanged
      ∷ []
      )
