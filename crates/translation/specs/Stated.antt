-- What is stated of one access for all arguments, beside the rows of the tables: each step with its conditions (rules 5), and what an outcome answers.
use Rattle.std.specs.Prelude.{◌≡◌, ℕ, ◌+◌, ◌/◌, ◌%◌, ◌^◌, ◌<◌, ◌≤◌, Bool, true, false, ◌&&◌, ◌↔◌, List, ◌≢◌}
use Rattle.std.specs.Float.Ieee.{size}
use Rattle.numbers.specs.Numbers.{done, data_storage_fault, instruction_storage_fault, refused_contradiction, fetch, store, attributes_real, page_size}
use Rattle.numbers.specs.Examples.{NumbersTables}
use Rattle.words.specs.Bits.{placed}
use Rattle.words.specs.Examples.{WordsTables}
use Rattle.entry.specs.Entry.{rpn_of, wimg_of, pp_of}
use Rattle.entry.specs.RoundTrip.{PackingAgrees, MatchAgrees}
use Rattle.entry.specs.Examples.{EntryTables}
use Rattle.register_words.specs.Examples.{RegisterWordsTables}
use Rattle.registers.specs.Examples.{RegistersTables}
use Rattle.register_words.specs.Segment.{no_execute}
use Rattle.register_words.specs.Block.{bl_width, brpn_of, bl_of, upper_shape, lower_shape, block_attributes, block_pp, block_physical}
use Rattle.registers.specs.Blocks.{BlocksDecide}
use Rattle.registers.specs.Check.{CheckDecides, ReplacingDecides}
use Rattle.registers.specs.Set.{block_pairs, upper_of, lower_of, check_words, pair_covers}
use Rattle.protection.specs.Access.{user_mode, fetching, relocated, side_of}
use Rattle.protection.specs.Protection.{page_allows, block_allows, guarded}
use Rattle.protection.specs.Fault.{fault_of}
use Rattle.translation.specs.Steps.{segment_at, wanted_of, before_search, after_search, outcome_of, done_answer, refused_answer, answer_of}
use Rattle.translation.specs.Operand.{first_bytes, over_edge, part_start}
use Rattle.protection.specs.Examples.{ProtectionTables}
use Rattle.translation.specs.Examples.{AccessTables}
use Rattle.translation.specs.declared.Outcome.{Outcome}
use Rattle.translation.specs.declared.Outcome.TheVariants.{Real, Block, BlockProtection, NoExecute, NoMatch, Guarded, Protection, Done, Refused}
use Rattle.translation.specs.declared.Wanted.{Wanted}
use Rattle.translation.specs.declared.Early.TheVariants.{Decided, Search}
use Rattle.translation.specs.declared.Searched.{Searched}
use Rattle.translation.specs.declared.Searched.TheVariants.{Nothing, At, Contradicting}

-- the outcomes of steps 1 to 3; the others come of the search
unfoldable pub early_outcome : Outcome → Bool
early_outcome Real = true
early_outcome (Block i physical attributes) = true
early_outcome (BlockProtection i) = true
early_outcome NoExecute = true
early_outcome NoMatch = false
early_outcome Guarded = false
early_outcome (Protection second) = false
early_outcome (Done second) = false
early_outcome (Refused number) = false

-- steps 1 to 3: in each case that they tell apart, what they come to
pub record StepsBefore (pairs width : ℕ) (words : List ℕ) (mode kind address : ℕ) : Type 0 where
  -- step 1: IR off for a fetch, DR off for data
  pub real_mode : relocated mode kind ≡ false → before_search pairs width words mode kind address ≡ Decided Real
  -- step 2: the block of the side that covers the address decides, by its PP
  pub block_done : relocated mode kind ≡ true → check_words pairs width words ≡ done
      → (i : ℕ) → i < pairs → pair_covers pairs width words (side_of kind) (user_mode mode) address i ≡ true
      → block_allows (block_pp (lower_of pairs words (side_of kind) i)) kind ≡ true
      → let upper = upper_of pairs words (side_of kind) i in
      let lower = lower_of pairs words (side_of kind) i in
      before_search pairs width words mode kind address ≡ Decided (Block i (block_physical width upper lower address) (block_attributes lower))
  pub block_fault : relocated mode kind ≡ true → check_words pairs width words ≡ done
      → (i : ℕ) → i < pairs → pair_covers pairs width words (side_of kind) (user_mode mode) address i ≡ true
      → block_allows (block_pp (lower_of pairs words (side_of kind) i)) kind ≡ false
      → before_search pairs width words mode kind address ≡ Decided (BlockProtection i)
  -- step 3: where no block of the side covers it, a fetch with N = 1 faults, and else the page is looked for
  pub no_execute_law : relocated mode kind ≡ true
      → ((i : ℕ) → i < pairs → pair_covers pairs width words (side_of kind) (user_mode mode) address i ≡ false)
      → fetching kind && no_execute (segment_at words address) ≡ true
      → before_search pairs width words mode kind address ≡ Decided NoExecute
  pub looks : relocated mode kind ≡ true
      → ((i : ℕ) → i < pairs → pair_covers pairs width words (side_of kind) (user_mode mode) address i ≡ false)
      → fetching kind && no_execute (segment_at words address) ≡ false
      → before_search pairs width words mode kind address ≡ Search (wanted_of (user_mode mode) (segment_at words address) address)
  -- the page looked for is in the page calls' range
  pub in_range_law : (wanted : Wanted) → before_search pairs width words mode kind address ≡ Search wanted → (wanted.vsid < 2 ^ 24) × (wanted.index < 2 ^ 16)
  -- no other outcome is decided before the search
  pub only_early : (outcome : Outcome) → before_search pairs width words mode kind address ≡ Decided outcome → early_outcome outcome ≡ true
  -- N is met by a fetch alone
  pub only_fetches : before_search pairs width words mode kind address ≡ Decided NoExecute → kind ≡ fetch

-- steps 4 to 7: what the search found, and the entry's G and PP
pub record StepsAfter (kind : ℕ) (key : Bool) : Type 0 where
  -- step 4
  pub contradiction : after_search kind key Contradicting ≡ Refused refused_contradiction
  pub no_match_law : after_search kind key Nothing ≡ NoMatch
  -- step 5: a fetch with G = 1
  pub guarded_fetch : (second : ℕ) → fetching kind && guarded (wimg_of second) ≡ true → after_search kind key (At second) ≡ Guarded
  -- step 6: neither that, nor allowed
  pub page_fault : (second : ℕ) → fetching kind && guarded (wimg_of second) ≡ false → page_allows key (pp_of second) kind ≡ false
      → after_search kind key (At second) ≡ Protection second
  -- step 7: an access is done by an entry exactly when the search found it and steps 5 and 6 let it pass
  pub page_done : (searched : Searched) (second : ℕ)
      → (after_search kind key searched ≡ Done second)
      ↔ ((searched ≡ At second) × ((fetching kind && guarded (wimg_of second) ≡ false) × (page_allows key (pp_of second) kind ≡ true)))
  -- a store is done only by a page that its key may write
  pub store_done : (searched : Searched) (second : ℕ) → kind ≡ store → after_search kind key searched ≡ Done second
      → (key ≡ false → pp_of second ≢ 3) × (key ≡ true → pp_of second ≡ 2)
  -- no outcome of an earlier step comes of the search
  pub only_late : (searched : Searched) → early_outcome (after_search kind key searched) ≡ false
  -- G is met by a fetch alone
  pub only_fetches : (searched : Searched) → after_search kind key searched ≡ Guarded → kind ≡ fetch
  -- of the entry only RPN, WIMG and PP play a part in the answer
  pub by_fields : (address u w : ℕ) → rpn_of u ≡ rpn_of w → wimg_of u ≡ wimg_of w → pp_of u ≡ pp_of w
      → answer_of kind address (after_search kind key (At u)) ≡ answer_of kind address (after_search kind key (At w))

-- what an access answers
pub record AnswersStated (kind address : ℕ) : Type 0 where
  -- in real mode the address itself, whatever the registers hold and whatever a search would find
  pub real_mode : (pairs width : ℕ) (words : List ℕ) (mode : ℕ) (search : Wanted → Searched) → relocated mode kind ≡ false
      → answer_of kind address (outcome_of kind search (before_search pairs width words mode kind address)) ≡ done_answer address attributes_real address
  -- done by a block: the physical address and the WIMG of the block of the side that covers the address, whatever a search would find
  pub by_block : (long : Bool) (words : List ℕ) (mode : ℕ) (search : Wanted → Searched) (i : ℕ) → let pairs = block_pairs long in
      let width = bl_width long in
      let upper = upper_of pairs words (side_of kind) i in
      let lower = lower_of pairs words (side_of kind) i in
      relocated mode kind ≡ true → check_words pairs width words ≡ done → i < pairs
      → pair_covers pairs width words (side_of kind) (user_mode mode) address i ≡ true → block_allows (block_pp lower) kind ≡ true
      → answer_of kind address (outcome_of kind search (before_search pairs width words mode kind address))
      ≡ done_answer (block_physical width upper lower address) (block_attributes lower) address
  -- done by a page: the entry's frame with the byte in the page, the entry's attributes
  pub done : (second : ℕ) → (answer_of kind address (Done second)).result ≡ done
  pub frame : (second : ℕ) → (answer_of kind address (Done second)).address / 2 ^ 12 ≡ rpn_of second
  pub byte : (second : ℕ) → (answer_of kind address (Done second)).address % 2 ^ 12 ≡ address % 2 ^ 12
  pub attributes : (second : ℕ) → (answer_of kind address (Done second)).attributes ≡ wimg_of second
  -- a fetch's fault is an instruction storage fault at 0x400, any other's a data storage fault at 0x300, whatever the cause
  pub fetch_fault : (cause : ℕ) → kind ≡ fetch → ((fault_of cause kind).result ≡ instruction_storage_fault) × ((fault_of cause kind).offset ≡ 0x400)
  pub data_fault_rows : (cause : ℕ) → (kind ≢ fetch) → ((fault_of cause kind).result ≡ data_storage_fault) × ((fault_of cause kind).offset ≡ 0x300)
  -- the effective address is answered unless the access is refused; then the last three words are zero
  pub effective : (outcome : Outcome) → ((number : ℕ) → outcome ≢ Refused number) → (answer_of kind address outcome).effective ≡ address
  pub refused : (number : ℕ) → answer_of kind address (Refused number) ≡ refused_answer number

-- how an operand lies in pages
pub record OperandStated (address length : ℕ) : Type 0 where
  -- in one page, where it ends with that page or before
  pub one_page : address % page_size + length ≤ page_size → (over_edge address length ≡ false) × (first_bytes address length ≡ length)
  -- else in two: the first has the bytes up to its end, fewer than all
  pub two_pages : page_size < address % page_size + length
      → (over_edge address length ≡ true) × (address % page_size + first_bytes address length ≡ page_size) × (first_bytes address length < length)
  -- the first part starts with the operand, the second with the next page; after the last page comes page 0
  pub first_start : part_start address length false ≡ address
  pub next_page : page_size < address % page_size + length → address + first_bytes address length < 2 ^ 32
      → part_start address length true ≡ address + first_bytes address length
  pub wraps : page_size < address % page_size + length → address + first_bytes address length ≡ 2 ^ 32 → part_start address length true ≡ 0

-- packing, entries, registers, blocks and the steps of an access are as the rules state them
pub record AccessAsStated : Type 0 where
  pub numbers : NumbersTables
  pub words : WordsTables
  pub packing : PackingAgrees
  pub matching : MatchAgrees
  pub entries : EntryTables
  pub register_words_law : RegisterWordsTables
  pub registers : RegistersTables
  -- both limits: four pairs and BL of 11 bits on a short register page, eight and 15 on a long one
  pub blocks : (long : Bool) → BlocksDecide (block_pairs long) (bl_width long)
  -- when the check of a register set answers 0, and when a word of it is replaced
  pub check : CheckDecides
  pub replacing : ReplacingDecides
  -- in a block of right shape the physical address is its physical start and the address's 17 + k low bits, where BL has k ones
  pub block_physical_law : (long side : Bool) (upper lower address : ℕ) → upper_shape (bl_width long) upper ≡ true → lower_shape (bl_width long) side upper lower ≡ true
      → block_physical (bl_width long) upper lower address ≡ placed 14 (brpn_of lower) + address % 2 ^ (17 + size (bl_of (bl_width long) upper))
  pub before : (long : Bool) (words : List ℕ) (mode kind address : ℕ) → StepsBefore (block_pairs long) (bl_width long) words mode kind address
  pub after : (kind : ℕ) (key : Bool) → StepsAfter kind key
  pub answers : (kind address : ℕ) → AnswersStated kind address
  pub operands : (address length : ℕ) → OperandStated address length
  pub protection : ProtectionTables
  pub tables : AccessTables
