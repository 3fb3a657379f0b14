-- What each call does to a lent table, for any bytes, one clause a call.
use Rattle.std.specs.Prelude.{ℕ, ◌+◌, ◌^◌, Bool, true, false, cond, List, [], ◌∷◌, eqb, length, replicate}
use Rattle.std.proofs.Math.Option.{Option, none, some}
use Rattle.numbers.specs.Numbers.{done, refused_mapped, refused_no_match, refused_full, refused_contradiction, group_entries}
use Rattle.entry.specs.Entry.{first_word, second_word, matches, free, api_of, with_marks, with_pp}
use Rattle.register_words.specs.Sdr1.{mask_ones}
use Rattle.register_words.specs.Block.{bl_width}
use Rattle.registers.specs.Set.{block_pairs, register_words}
use Rattle.groups.specs.declared.Page.{Page}
use Rattle.groups.specs.Hash.{group_number}
use Rattle.groups.specs.Group.{first_of, second_of, put_at}
use Rattle.matches.specs.Search.{h_of, contradict, merged}
use Rattle.theory_tables.specs.Matches.{Match}
use Rattle.theory_tables.specs.Layout.{Layout, matches_of, free_place, overwrite, overwrite_each}
use Rattle.protection.specs.Access.{storing}
use Rattle.translation.specs.Steps.{before_search, outcome_of, answer_of}
use Rattle.translation.specs.Decision.{decision_of}
use Rattle.translation.specs.Operand.{over_edge, part_start, operand_answer}
use Rattle.translation.specs.declared.Answer.{Answer}
use Rattle.translation.specs.declared.decision.Decision.{Decision}
use Rattle.translation.specs.declared.decision.Used.{Used}
use Rattle.translation.specs.declared.operand.OperandAnswer.{OperandAnswer}
use Rattle.translation.specs.declared.Early.{Early}
use Rattle.translation.specs.declared.Early.TheVariants.{Decided, Search}
use Rattle.translation.specs.declared.Searched.{Searched}
use Rattle.translation.specs.declared.Searched.TheVariants.{Nothing, At, Contradicting}
use Rattle.translation.specs.declared.Wanted.{Wanted}
use Rattle.theory_calls.specs.Request.{AccessCall, Request, clear, map_page, unmap, protect, look, access, sdr1_in, fed}
use Rattle.theory_calls.specs.Rules.{on_long_page, refusal}
use Rattle.theory_calls.specs.Answers.{word_answer, access_answer, answer_refused}

-- the table for a mask of k ones (rules 4): 2 ^ (10 + k) groups of eight entries; an entry matches by V, VSID, H and API
abbrev pub layout : ℕ → Layout Page (List ℕ)
layout k = record {
  group = group_number (10 + k);
  half = 2 ^ (9 + k);
  capacity = group_entries;
  matching = λ secondary page first. matches page.vsid (h_of secondary) (api_of page.index) first;
  free = free;
  first = first_of;
  second = second_of;
  put = put_at;
}

-- what a call leaves: its result number, its answer, and the state of a machine: the table here, the finite map in `OnMap`
pub record Ended (S : Type 0) : Type 0 where
  pub number : ℕ
  pub state : S
  pub answer : List ℕ

abbrev pub ended : {S : Type 0} → ℕ → S → List ℕ → Ended S
ended number state answer = record { number = number; state = state; answer = answer }

-- by the matches of a page: none, or the first and the others
abbrev pub by_matches : {X : Type 0} → List Match → X → (Match → List Match → X) → X
by_matches [] missing found = missing
by_matches (x ∷ xs) missing found = found x xs

-- by an option: none, or the one
abbrev pub by_option : {A X : Type 0} → Option A → X → (A → X) → X
by_option none missing found = missing
by_option (some a) missing found = found a

-- the first word of a page's entry in its primary or its secondary group
unfoldable pub entry_word : Bool → Page → ℕ
entry_word secondary page = first_word 1 page.vsid (h_of secondary) (api_of page.index)

-- the address of the first byte of an operand's first part (false) or second (true)
abbrev pub start_of : {A : Type 0} → AccessCall A → Bool → ℕ
start_of c second = part_start c.address c.length second

-- steps 1 to 3 of that part, by the register page's own limits
abbrev pub early_of : {A : Type 0} → AccessCall A → Bool → Early
early_of c second = before_search (block_pairs (on_long_page c)) (bl_width (on_long_page c)) (register_words c.registers) c.mode c.kind (start_of c second)

-- what that part answers by itself, where `search` tells what the search of a page finds
abbrev pub part_answer : {A : Type 0} → AccessCall A → (Wanted → Searched) → Bool → Answer
part_answer c search second = answer_of c.kind (start_of c second) (outcome_of c.kind search (early_of c second))

-- what a part went by, where `place` tells the group and the number of a page's first match
abbrev pub used_by : (Wanted → ℕ × ℕ) → Early → Used
used_by place (Decided outcome) = record { key = false; group = 0; entry = 0 }
used_by place (Search wanted) = record { key = wanted.key; group = (place wanted).0; entry = (place wanted).1 }

-- what decided that part
abbrev pub part_decision : {A : Type 0} → AccessCall A → (Wanted → Searched) → (Wanted → ℕ × ℕ) → Bool → Decision
part_decision c search place second = decision_of (used_by place (early_of c second)) (outcome_of c.kind search (early_of c second))

-- what the operand answers
abbrev pub whole_answer : {A : Type 0} → AccessCall A → (Wanted → Searched) → (Wanted → ℕ × ℕ) → OperandAnswer
whole_answer c search place = operand_answer c.address c.length (part_answer c search) (part_decision c search place)

-- a step for each part of the operand, in order
abbrev pub each_part : {A S : Type 0} → AccessCall A → (Bool → S → S) → S → S
each_part c step s = cond (over_edge c.address c.length) (step true (step false s)) (step false s)

-- the page that a search wants
abbrev pub wanted_page : Wanted → Page
wanted_page wanted = record { vsid = wanted.vsid; index = wanted.index }

-- what the search of a page's matches found
unfoldable pub searched : List Match → Searched
searched xs = by_matches xs Nothing (λ x rest. cond (contradict x rest) Contradicting (At x.second))

module _ (k : ℕ) where
  -- what the search of a page finds in a table
  abbrev pub search_in : List ℕ → Wanted → Searched
  search_in t wanted = searched (matches_of (layout k) t (wanted_page wanted))

  -- where the first match of a page stands in a table: its group and its number there
  abbrev pub first_place_in : List ℕ → Wanted → ℕ × ℕ
  first_place_in t wanted =
      by_matches (matches_of (layout k) t (wanted_page wanted)) (0, 0) (λ x xs. (group_number (10 + k) x.secondary (wanted_page wanted), x.entry))

  -- step 7: where the operand is done, a part that reached the search is done by a page; the page's first match is marked
  unfoldable pub marked_by : ℕ → Early → ℕ → List ℕ → List ℕ
  marked_by kind (Decided outcome) result t = t
  marked_by kind (Search wanted) result t =
      let page = wanted_page wanted in
      cond (eqb result done)
      (by_matches (matches_of (layout k) t page) t (λ x xs. overwrite (layout k) page x x.first (with_marks true (storing kind) x.second) t)) t

  -- a call that its arguments do not refuse
  unfoldable pub bytes_do : Request (List ℕ) → List ℕ → Ended (List ℕ)
  bytes_do (clear c) t = ended done (replicate (length t) 0) []
  bytes_do (map_page c) t =
      by_matches (matches_of (layout k) t c.page)
      (by_option (free_place (layout k) t c.page) (ended refused_full t [])
      (λ place. ended done
      (put_at t (group_number (10 + k) place.0 c.page) place.1 (entry_word place.0 c.page) (second_word c.rpn 0 0 c.wimg c.pp)) []))
      (λ x xs. ended refused_mapped t [])
  bytes_do (unmap c) t =
      by_matches (matches_of (layout k) t c.page) (ended refused_no_match t (word_answer refused_no_match 0))
      (λ x xs. ended done (overwrite_each (layout k) c.page (λ y. (0, 0)) (x ∷ xs) t) (word_answer done (merged x xs)))
  bytes_do (protect c) t =
      by_matches (matches_of (layout k) t c.page) (ended refused_no_match t [])
      (λ x xs. ended done (overwrite_each (layout k) c.page (λ y. (y.first, with_pp c.pp y.second)) (x ∷ xs) t) [])
  bytes_do (look c) t =
      by_matches (matches_of (layout k) t c.page) (ended refused_no_match t (word_answer refused_no_match 0))
      (λ x xs. cond (contradict x xs) (ended refused_contradiction t (word_answer refused_contradiction 0)) (ended done t (word_answer done x.second)))
  bytes_do (access c) t =
      let answer = whole_answer c (search_in t) (first_place_in t) in
      let result = answer.part.result in
      ended result (each_part c (λ second. marked_by c.kind (early_of c second) result) t) (access_answer answer)

-- a call on a lent table
unfoldable pub on_bytes : Request (List ℕ) → List ℕ → Ended (List ℕ)
on_bytes request t =
    let number = refusal (fed request) (length t) in
    cond (eqb number 0) (bytes_do (mask_ones (sdr1_in request)) request t) (ended number t (answer_refused (λ lent. lent) request number))
