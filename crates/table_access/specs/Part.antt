-- A part of an operand as the code holds it, and what an operand answers and leaves, by a table and a cache and what steps 1 to 3 of its parts come to.
-- A cache of no bytes is none: no page is a hit there, and nothing is loaded.
use Rattle.std.specs.Prelude.{ℕ, ◌+◌, ◌*◌, ◌<◌, ◌≤◌, Bool, true, false, cond, List, Option, Some, None, ◌≡◌, eqb, ltb, length, ⊤}
use Rattle.std.specs.declared.ops.ControlFlow.{ControlFlow}
use Rattle.std.specs.declared.ops.ControlFlow.TheVariants.{Break, Continue}
use Rattle.numbers.specs.Numbers.{group_entries}
use Rattle.words.specs.Bits.{bits}
use Rattle.entry.specs.Entry.{page_index, with_marks}
use Rattle.register_words.specs.Block.{bl_width}
use Rattle.registers.specs.Set.{block_pairs, covering_pair}
use Rattle.groups.specs.Hash.{group_number}
use Rattle.groups.specs.Group.{first_of, put_at}
use Rattle.matches.specs.Search.{contradict}
use Rattle.theory_tables.specs.Layout.{matches_of}
use Rattle.protection.specs.Access.{storing}
use Rattle.translation.specs.Steps.{before_search, after_search, outcome_of, answer_of}
use Rattle.translation.specs.Decision.{decided, decision_of}
use Rattle.translation.specs.Operand.{over_edge, part_start, operand_answer}
use Rattle.translation.specs.declared.Answer.{Answer}
use Rattle.translation.specs.declared.decision.Decision.{Decision}
use Rattle.translation.specs.declared.decision.Used.{Used}
use Rattle.translation.specs.declared.operand.OperandAnswer.{OperandAnswer}
use Rattle.translation.specs.declared.Outcome.{Outcome}
use Rattle.translation.specs.declared.Early.{Early}
use Rattle.translation.specs.declared.Early.TheVariants.{Decided, Search}
use Rattle.translation.specs.declared.Searched.{Searched}
use Rattle.translation.specs.declared.Searched.TheVariants.{Nothing, At, Contradicting}
use Rattle.translation.specs.declared.Wanted.{Wanted}
use Rattle.cache.specs.Cache.{cache_size, loaded}
use Rattle.theory_calls.specs.Request.{AccessCall}
use Rattle.theory_calls.specs.Answers.{access_answer}
use Rattle.theory_calls.specs.OnBytes.{by_matches, by_option, layout, used_by, wanted_page}
use Rattle.theory_cache.specs.Cached.{hit_entry, hit_of, cached_search, cached_place, missed, taken}
use Rattle.table_access.specs.declared.Access.{Access}
use Rattle.table_access.specs.declared.Found.{Found}
use Rattle.table_access.specs.declared.Found.TheVariants.{Unmatched, Contradicted, InCache, InTable}
use Rattle.table_access.specs.declared.Part.{Part}

-- ---- what is lent

-- the call of an access with a lent register page and a lent answer
abbrev pub call_of : List ℕ → Access → List ℕ → AccessCall (List ℕ)
call_of registers access answer = record {
  registers = registers;
  mode = access.mode;
  kind = access.kind;
  address = access.address;
  length = access.length;
  answer = answer;
}

-- a cache, or none, which has no bytes
abbrev pub CacheOrNone : List ℕ → Type 0
CacheOrNone cache = (length cache ≡ cache_size → ⊥) → length cache ≡ 0

-- ---- what is found of a page

-- by the search of a table for a mask of k ones: the first match, and whether the others contradict it
unfoldable pub table_found : ℕ → List ℕ → Wanted → Found
table_found k t wanted =
    by_matches (matches_of (layout k) t (wanted_page wanted)) Unmatched
    (λ x xs.
    let group = group_number (10 + k) x.secondary (wanted_page wanted) in
    cond (contradict x xs) (Contradicted x.second group x.entry) (InTable x.second group x.entry))

-- by a cache, and by the search where it has no hit: a hit shows the group that the loaded H names, and no entry
unfoldable pub found_by : ℕ → ℕ → List ℕ → List ℕ → Wanted → Found
found_by k kind t d wanted =
    by_option (hit_of k kind t d wanted) (table_found k t wanted)
    (λ words. InCache words.1 (group_number (10 + k) (eqb (bits 25 25 words.0) 1) (wanted_page wanted)))

-- what step 4 makes of it
abbrev pub searched_of : Found → Searched
searched_of Unmatched = Nothing
searched_of (Contradicted second group entry) = Contradicting
searched_of (InCache second group) = At second
searched_of (InTable second group entry) = At second

-- what is shown of it beside the key
abbrev pub shown_of : Bool → Found → Used
shown_of key Unmatched = record { key = key; group = 0; entry = hit_entry }
shown_of key (Contradicted second group entry) = record { key = key; group = group; entry = entry }
shown_of key (InCache second group) = record { key = key; group = group; entry = hit_entry }
shown_of key (InTable second group entry) = record { key = key; group = group; entry = entry }

-- what is found lies in the table: the group of a hit, and the entry that the search tells
abbrev pub LiesIn : Found → ℕ → Type 0
LiesIn Unmatched lent = ⊤
LiesIn (Contradicted second group entry) lent = (64 * group + 64 ≤ lent) × (entry < group_entries)
LiesIn (InCache second group) lent = 64 * group + 64 ≤ lent
LiesIn (InTable second group entry) lent = (64 * group + 64 ≤ lent) × (entry < group_entries)

-- ---- a part

-- by an answer and a rule in which no page plays a part
abbrev pub without_page : ℕ → ℕ → Answer → Part
without_page rule detail answer = record { answer = answer; decision = decided rule detail; found = Unmatched }

-- by an outcome, what is shown of an entry, and what was found
abbrev pub part_as : ℕ → ℕ → Used → Outcome → Found → Part
part_as kind address used outcome found = record { answer = answer_of kind address outcome; decision = decision_of used outcome; found = found }

-- by an outcome of steps 1 to 3
abbrev pub by_outcome : ℕ → ℕ → Outcome → Part
by_outcome kind address outcome = part_as kind address (record { key = false; group = 0; entry = 0 }) outcome Unmatched

-- by what was found of its page
abbrev pub by_found : ℕ → ℕ → Bool → Found → Part
by_found kind address key found = part_as kind address (shown_of key found) (after_search kind key (searched_of found)) found

-- the pair of a side that covers an address for the user or the supervisor, or none
abbrev pub covered_by : List ℕ → Bool → Bool → ℕ → Option ℕ
covered_by words side user address =
    let pair = covering_pair (block_pairs true) (bl_width true) words side user address in
    cond (ltb pair (block_pairs true)) (Some pair) None

-- what steps 1 to 3 come to, as the code holds it: they end with the part, or go on with the page that is searched for
unfoldable pub begun_by : ℕ → ℕ → Early → ControlFlow Part Wanted
begun_by kind address (Decided outcome) = Break (by_outcome kind address outcome)
begun_by kind address (Search wanted) = Continue wanted

-- steps 1 to 6, where `find` tells what is found of a page
unfoldable pub part_by : ℕ → ℕ → (Wanted → Found) → Early → Part
part_by kind address find (Decided outcome) = by_outcome kind address outcome
part_by kind address find (Search wanted) = by_found kind address wanted.key (find wanted)

-- step 7 by what was found of its page: an entry of the table is marked, and its page loaded with the words that the entry then has
unfoldable pub taken_by : ℕ → ℕ → Found → List ℕ × List ℕ → List ℕ × List ℕ
taken_by kind address Unmatched lent = lent
taken_by kind address (Contradicted second group entry) lent = lent
taken_by kind address (InCache second group) lent = lent
taken_by kind address (InTable second group entry) lent =
    let first = first_of lent.0 group entry in
    let second = with_marks true (storing kind) second in
    (put_at lent.0 group entry first second, loaded (record { vsid = bits 1 24 first; index = page_index address }) first second lent.1)

-- ---- an operand

module _ (words : List ℕ) (access : Access) where
  -- steps 1 to 3 of the first part (false) or the second (true)
  abbrev pub part_early : Bool → Early
  part_early second = before_search (block_pairs true) (bl_width true) words access.mode access.kind (part_start access.address access.length second)

module _ (access : Access) (k : ℕ) (lent : List ℕ × List ℕ) (early : Bool → Early) where
  -- a part of it by the table and the cache as they were lent
  abbrev pub own_part : Bool → Part
  own_part second = part_by access.kind (part_start access.address access.length second) (found_by k access.kind lent.0 lent.1) (early second)

  -- what a part answers by itself, and what decided it
  abbrev pub part_told : Bool → Answer
  part_told second =
      answer_of access.kind (part_start access.address access.length second)
      (outcome_of access.kind (cached_search k access.kind lent.0 lent.1) (early second))

  abbrev pub part_decided : Bool → Decision
  part_decided second =
      decision_of (used_by (cached_place k access.kind lent.0 lent.1) (early second))
      (outcome_of access.kind (cached_search k access.kind lent.0 lent.1) (early second))

  -- what the operand answers
  abbrev pub whole_told : OperandAnswer
  whole_told = operand_answer access.address access.length part_told part_decided

  -- a part taken, by the operand's result
  abbrev pub part_taken : ℕ → Bool → List ℕ × List ℕ → List ℕ × List ℕ
  part_taken result second left =
      cond (missed k access.kind lent.0 lent.1 (early second)) (taken k access.kind (early second) result left) left

  -- the table and the cache that the operand leaves, by its result
  abbrev pub left_at : ℕ → List ℕ × List ℕ
  left_at result =
      cond (over_edge access.address access.length) (part_taken result true (part_taken result false lent)) (part_taken result false lent)

  -- an answer, and the table and the cache that are left with it
  abbrev pub Comes : OperandAnswer → List ℕ × List ℕ → Type 0
  Comes answer left = (answer ≡ whole_told) × (left ≡ left_at whole_told.part.result)

  -- the result, the table, the cache and the bytes of the answer that the operand ends with
  abbrev pub EndsAs : ℕ → List ℕ × List ℕ → List ℕ → Type 0
  EndsAs result left answer = (result ≡ whole_told.part.result) × (left ≡ left_at whole_told.part.result) × (answer ≡ access_answer whole_told)
