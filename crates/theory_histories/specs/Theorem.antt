-- Demand 3 (rules 8): over every history of calls after a first clear that was done, the answers on the bytes are those of the plain finite map; and what
-- that means for a page.
use Rattle.std.specs.Prelude.{ℕ, ◌+◌, ◌/◌, ◌^◌, ◌<◌, Bool, true, false, cond, List, [], ◌∷◌, ◌++◌, ◌≡◌, length}
use Rattle.std.proofs.Math.Option.{Option, none, some}
use Rattle.numbers.specs.Numbers.{done, refused_mapped, refused_full, answer_size, rule_no_match}
use Rattle.words.specs.Bits.{bits, placed}
use Rattle.words.specs.Words.{word_at}
use Rattle.theory_placement.specs.FiniteMap.{fields_at, mapped_pages}
use Rattle.register_words.specs.Sdr1.{mask_ones}
use Rattle.theory_tables.specs.Runs.{run, after}
use Rattle.groups.specs.declared.Page.{Page}
use Rattle.groups.specs.Page.{same_page}
use Rattle.translation.specs.Steps.{answer_of}
use Rattle.translation.specs.Decision.{decided}
use Rattle.translation.specs.Operand.{over_edge, stopped}
use Rattle.translation.specs.declared.Answer.{Answer}
use Rattle.translation.specs.declared.Early.TheVariants.{Search}
use Rattle.translation.specs.declared.Outcome.TheVariants.{NoMatch}
use Rattle.translation.specs.declared.Wanted.{Wanted}
use Rattle.theory_calls.specs.Request.{ClearCall, MapCall, AnsweredCall, AccessCall, Request, clear, map_page, unmap, protect, look, access, sdr1_in}
use Rattle.theory_calls.specs.Answers.{access_answer}
use Rattle.theory_calls.specs.OnBytes.{start_of, early_of, part_answer, wanted_page, search_in}
use Rattle.theory_calls.specs.OnMap.{PageFields, Arranged}
use Rattle.theory_calls.specs.FirstClear.{clearing, sdr1_with, Start}
use Rattle.access_rights.specs.Rights.{RightsCall, asking}
use Rattle.theory_histories.specs.Calls.{Asked, plain, cached, rights, State, Call, calling, refusal_of}
use Rattle.theory_histories.specs.Fed.{fed_of, bytes_step, map_step}
use Rattle.theory_histories.specs.Discipline.{Disciplined, filled}
use Rattle.theory_histories.specs.Histories.{own_call, History, own, begun, state_after, fed_calls, map_after, CacheKept, next}

module _ (h : History) where
  -- the number that a request which follows the history answers
  abbrev pub next_number : Request (List ℕ) → ℕ
  next_number request = (next h (own_call (plain request))).number

  -- what the map has of a page after it
  abbrev pub mapped_to : Page → Option PageFields
  mapped_to page = fields_at same_page page (map_after h)

  -- an arrangement of the mapped pages and a new one
  abbrev pub ArrangedWith : Page → Type 0
  ArrangedWith page = Arranged (mask_ones h.sdr1) (page ∷ mapped_pages (map_after h))

-- a map under the history's SDR1, its arguments in range
pub record MapInRange (h : History) (c : MapCall) : Type 0 where
  pub same_sdr1 : c.sdr1 ≡ h.sdr1
  pub vsid_lt : c.page.vsid < 2 ^ 24
  pub index_lt : c.page.index < 2 ^ 16
  pub rpn_lt : c.rpn < 2 ^ 20
  pub wimg_lt : c.wimg < 16
  pub not_both : c.wimg / 4 ≡ 3 → ⊥
  pub pp_lt : c.pp < 4

-- what calls on a mapped page answer: map is refused, and unmap, protect and look are done
pub record MappedAnswers (h : History) (page : Page) : Type 0 where
  pub map_refused : (c : MapCall) → MapInRange h c → c.page ≡ page → next_number h (map_page c) ≡ refused_mapped
  pub unmap_done : (answer : List ℕ) → length answer ≡ answer_size → next_number h (unmap (record { sdr1 = h.sdr1; page = page; answer = answer })) ≡ done
  pub protect_done : (pp : ℕ) → pp < 4 → next_number h (protect (record { sdr1 = h.sdr1; page = page; pp = pp })) ≡ done
  pub look_done : (answer : List ℕ) → length answer ≡ answer_size → next_number h (look (record { sdr1 = h.sdr1; page = page; answer = answer })) ≡ done

pub record TableRefinesMap : Type 0 where
  -- such a clear is done, and every clear that is done is such a one
  pub clear_done : (origin k : ℕ) (t : List ℕ) → Start origin k t → (clearing (sdr1_with origin k) t).number ≡ done
  pub only_these : (sdr1 : ℕ) (t : List ℕ) → sdr1 < 2 ^ 32 → (clearing sdr1 t).number ≡ done
      → (origin : ℕ) × (k : ℕ) × (sdr1 ≡ sdr1_with origin k) × Start origin k t
  -- after a clear that was done each answer is that of the finite map, where the cache's discipline is kept
  pub answers : (h : History) → CacheKept h → run bytes_step h.calls (begun h) ≡ run map_step (fed_calls h) []
  -- a page that is not mapped is mapped where an arrangement with it exists, and refused as full where none does
  pub not_mapped : (h : History) (c : MapCall) → MapInRange h c → mapped_to h c.page ≡ none
      → (ArrangedWith h c.page → next_number h (map_page c) ≡ done) × ((ArrangedWith h c.page → ⊥) → next_number h (map_page c) ≡ refused_full)
  -- a page that is mapped
  pub mapped : (h : History) (page : Page) (f : PageFields) → mapped_to h page ≡ some f → MappedAnswers h page

-- ---- what it means for a page

-- a request to map the page
pub data Maps {A : Type 0} (page : Page) : Request A → Type 0 where
  by_map : (c : MapCall) → c.page ≡ page → Maps page (map_page c)

-- a request to take the page out, by a clear or an unmap
pub data TakesOut {A : Type 0} (page : Page) : Request A → Type 0 where
  by_clear : (c : ClearCall) → TakesOut page (clear c)
  by_unmap : (c : AnsweredCall A) → c.page ≡ page → TakesOut page (unmap c)

-- along a list of calls none of these requests is done
abbrev pub NoneDone : (Request (List ℕ) → Type 0) → List Call → State → Type 0
NoneDone These [] s = Unit {0}
NoneDone These (c ∷ cs) s =
    ((request : Request (List ℕ)) → c.asked ≡ plain request → These request → (calling c s).number ≡ done → ⊥) × NoneDone These cs (calling c s).state

-- in a history one of these requests was done, and none of those since
pub record DoneSince (h : History) (These Those : Request (List ℕ) → Type 0) : Type 0 where
  pub before : List Call
  pub call : Call
  pub behind : List Call
  pub parts : h.calls ≡ before ++ call ∷ behind
  pub request : Request (List ℕ)
  pub asks : call.asked ≡ plain request
  pub one_of_these : These request
  pub was_done : (calling call (after bytes_step before (begun h))).number ≡ done
  pub none_of_those : NoneDone Those behind (calling call (after bytes_step before (begun h))).state

-- an access is asked for, by the table or with the cache
pub data Accesses (c : AccessCall (List ℕ)) : Asked (List ℕ) → Type 0 where
  by_table : Accesses c (plain (access c))
  with_cache : Accesses c (cached c)

-- it follows the history under its SDR1, is not refused by its arguments and lengths, and keeps the cache's discipline; that part of it reaches step 4,
-- wanting the page
pub record Reaches (h : History) (asked : Asked (List ℕ)) (c : AccessCall (List ℕ)) (second : Bool) (page : Page) : Type 0 where
  pub accesses : Accesses c asked
  pub same_sdr1 : sdr1_in (access c) ≡ h.sdr1
  pub taken : refusal_of asked (own h) ≡ 0
  pub kept : Disciplined (h.calls ++ own_call asked ∷ []) (begun h) (filled h.start.cache)
  pub has_part : second ≡ true → over_edge c.address c.length ≡ true
  pub wanted : Wanted
  pub searches : early_of c second ≡ Search wanted
  pub wants : wanted_page wanted ≡ page

-- what the first part (false) or the second (true) of an access answers by itself after the history
abbrev pub answered_after : History → AccessCall (List ℕ) → Bool → Answer
answered_after h c second = part_answer c (search_in (mask_ones h.sdr1) (state_after h).table) second

-- where the words of a part's physical address and attributes stand in an answer
abbrev pub address_byte : Bool → ℕ
address_byte second = cond second 16 4

abbrev pub attributes_byte : Bool → ℕ
attributes_byte second = cond second 20 8

pub record AccessFollowsHistory : Type 0 where
  -- after a done unmap of the page, or a done clear, a part that reaches step 4 faults with no match until the page is mapped again, and its fault
  -- answers for the operand unless the part before it is not done
  pub no_match_law : (h : History) (page : Page) → DoneSince h (TakesOut page) (Maps page)
      → (asked : Asked (List ℕ)) (c : AccessCall (List ℕ)) (second : Bool) → Reaches h asked c second page → (second ≡ true → (answered_after h c false).result ≡ done)
      → (next h (own_call asked)).answer ≡ access_answer (stopped (answer_of c.kind (start_of c second) NoMatch) (decided rule_no_match 0))
  -- after a done map of the page, an access that is done and of which a part reaches step 4 has that map's frame and attributes there, until the
  -- page is taken out
  pub frame : (h : History) (m : MapCall) → DoneSince h (λ request. request ≡ map_page m) (TakesOut m.page)
      → (asked : Asked (List ℕ)) (c : AccessCall (List ℕ)) (second : Bool) → Reaches h asked c second m.page → (next h (own_call asked)).number ≡ done
      → (word_at (next h (own_call asked)).answer (address_byte second) ≡ placed 19 m.rpn + bits 20 31 (start_of c second))
      × (word_at (next h (own_call asked)).answer (attributes_byte second) ≡ m.wimg)

-- what three accesses after a history would come to is what the finite map tells of them
abbrev pub RightsFollowHistory : Type 0
RightsFollowHistory = (h : History) → CacheKept h → (c : RightsCall) (answer : List ℕ) → sdr1_in (access (asking c 0)) ≡ h.sdr1
    → let call = own_call (rights c answer) in (bytes_step call (state_after h)).0 ≡ (map_step (fed_of (own h) call) (map_after h)).0
