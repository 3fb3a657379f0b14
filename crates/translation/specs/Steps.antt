-- One access by its steps (rules 5): what is decided before the search, what after it, and what an outcome answers.
-- The register set is given by its words; `pairs` is the number of block pairs a side, and `width` the width of BL.
use Rattle.std.specs.Prelude.{ℕ, Bool, cond, not, ◌&&◌, List, nat_lt}
use Rattle.numbers.specs.Numbers.{done, refused_contradiction, attributes_real}
use Rattle.words.specs.Bits.{bits}
use Rattle.entry.specs.Entry.{wimg_of, pp_of, page_index, physical_address}
use Rattle.register_words.specs.Segment.{key_of, no_execute, segment_vsid}
use Rattle.register_words.specs.Block.{block_attributes, block_pp, block_physical}
use Rattle.registers.specs.Set.{segment_of, upper_of, lower_of, covering_pair}
use Rattle.protection.specs.Access.{user_mode, fetching, relocated, side_of}
use Rattle.protection.specs.Protection.{page_allows, block_allows, guarded}
use Rattle.protection.specs.Fault.{no_match, no_fetch, protection, fault_of}
use Rattle.translation.specs.declared.Outcome.{Outcome}
use Rattle.translation.specs.declared.Outcome.TheVariants.{Real, Block, BlockProtection, NoExecute, NoMatch, Guarded, Protection, Done, Refused}
use Rattle.translation.specs.declared.Wanted.{Wanted}
use Rattle.translation.specs.declared.Early.{Early}
use Rattle.translation.specs.declared.Early.TheVariants.{Decided, Search}
use Rattle.translation.specs.declared.Searched.{Searched}
use Rattle.translation.specs.declared.Searched.TheVariants.{Nothing, At, Contradicting}
use Rattle.protection.specs.declared.Fault.{Fault}
use Rattle.translation.specs.declared.Answer.{Answer}

-- step 3: the segment register by address bits 0 to 3
abbrev pub segment_at : List ℕ → ℕ → ℕ
segment_at words address = segment_of words (bits 0 3 address)

-- what the search looks for, at the segment's VSID and the page index, and the key of step 6
abbrev pub wanted_of : Bool → ℕ → ℕ → Wanted
wanted_of user segment address = record { vsid = segment_vsid segment; index = page_index address; key = key_of user segment }

module _ (pairs width : ℕ) where
  -- step 2, by the block of pair i of the access's side
  unfoldable pub block_outcome : List ℕ → ℕ → ℕ → ℕ → Outcome
  block_outcome words kind address i =
      let lower = lower_of pairs words (side_of kind) i in
      cond (block_allows (block_pp lower) kind) (Block i (block_physical width (upper_of pairs words (side_of kind) i) lower address) (block_attributes lower)) (BlockProtection i)

  -- steps 1 to 3: real mode, else a block, else a fetch with N = 1, else the search
  unfoldable pub before_search : List ℕ → ℕ → ℕ → ℕ → Early
  before_search words mode kind address =
      let pair = covering_pair pairs width words (side_of kind) (user_mode mode) address in
      let segment = segment_at words address in
      cond (not (relocated mode kind)) (Decided Real)
      (cond (nat_lt pair pairs) (Decided (block_outcome words kind address pair))
      (cond (fetching kind && no_execute segment) (Decided NoExecute) (Search (wanted_of (user_mode mode) segment address))))

-- steps 5 to 7, by the second word of the entry found
unfoldable pub page_outcome : ℕ → Bool → ℕ → Outcome
page_outcome kind key second =
    cond (fetching kind && guarded (wimg_of second)) Guarded (cond (page_allows key (pp_of second) kind) (Done second) (Protection second))

-- steps 4 to 7, by what the search found
unfoldable pub after_search : ℕ → Bool → Searched → Outcome
after_search kind key Contradicting = Refused refused_contradiction
after_search kind key Nothing = NoMatch
after_search kind key (At second) = page_outcome kind key second

-- all steps, where `search` tells what the search of a page finds
unfoldable pub outcome_of : ℕ → (Wanted → Searched) → Early → Outcome
outcome_of kind search (Decided outcome) = outcome
outcome_of kind search (Search wanted) = after_search kind wanted.key (search wanted)

-- a done access answers its number, the physical address, the attributes and the effective address
abbrev pub done_answer : ℕ → ℕ → ℕ → Answer
done_answer physical attributes address = record { result = done; address = physical; attributes = attributes; effective = address }

-- a fault answers its number, the fault word, the interrupt offset and the effective address
abbrev pub fault_answer : Fault → ℕ → Answer
fault_answer fault address = record { result = fault.result; address = fault.word; attributes = fault.offset; effective = address }

-- a refusal answers its number and three zero words
abbrev pub refused_answer : ℕ → Answer
refused_answer number = record { result = number; address = 0; attributes = 0; effective = 0 }

-- the number and the values that each outcome answers (rules 2 and 5)
unfoldable pub answer_of : ℕ → ℕ → Outcome → Answer
answer_of kind address Real = done_answer address attributes_real address
answer_of kind address (Block i physical attributes) = done_answer physical attributes address
answer_of kind address (BlockProtection i) = fault_answer (fault_of protection kind) address
answer_of kind address NoExecute = fault_answer (fault_of no_fetch kind) address
answer_of kind address NoMatch = fault_answer (fault_of no_match kind) address
answer_of kind address Guarded = fault_answer (fault_of no_fetch kind) address
answer_of kind address (Protection second) = fault_answer (fault_of protection kind) address
answer_of kind address (Done second) = done_answer (physical_address second address) (wimg_of second) address
answer_of kind address (Refused number) = refused_answer number
