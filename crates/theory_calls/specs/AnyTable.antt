-- What each call does to any table of bytes, whoever wrote it (rules 4 to 6). An entry is named by its group and its number, and a match is an
-- entry that matches: nothing here goes by the list of matches that the calls go by.
use Rattle.std.specs.Prelude.{ℕ, ◌+◌, ◌*◌, ◌/◌, ◌%◌, ◌^◌, ◌≤◌, ◌<◌, Bool, true, false, cond, List, ◌∷◌, ◌++◌, ◌↔◌, ◌≡◌, length, get_or, take, replicate}
use Rattle.numbers.specs.Numbers.{done, refused_mapped, refused_no_match, refused_full, refused_contradiction, fetch, store, group_entries, answer_size, page_size}
use Rattle.numbers.specs.Numbers.{rule_real, rule_block, rule_no_execute, rule_no_match, rule_guarded, rule_protection, rule_done}
use Rattle.words.specs.Bits.{bits}
use Rattle.words.specs.Words.{bytes_of}
use Rattle.entry.specs.Entry.{first_word, second_word, matches, free, api_of, page_index, wimg_of, pp_of}
use Rattle.register_words.specs.Sdr1.{mask_ones}
use Rattle.register_words.specs.Segment.{key_of, no_execute, segment_vsid}
use Rattle.register_words.specs.Block.{bl_width}
use Rattle.registers.specs.Set.{block_pairs, register_words, pair_covers}
use Rattle.protection.specs.Access.{user_mode, relocated, side_of}
use Rattle.protection.specs.Protection.{page_allows, guarded}
use Rattle.groups.specs.declared.Page.{Page}
use Rattle.groups.specs.Hash.{group_number}
use Rattle.groups.specs.Group.{first_of, second_of}
use Rattle.matches.specs.Search.{h_of, agree}
use Rattle.translation.specs.Steps.{segment_at, before_search, after_search, answer_of}
use Rattle.translation.specs.Decision.{decided}
use Rattle.translation.specs.Operand.{over_edge, part_start, stopped, within}
use Rattle.translation.specs.Stated.{AccessAsStated}
use Rattle.translation.specs.declared.Answer.{Answer}
use Rattle.translation.specs.declared.decision.Decision.{Decision}
use Rattle.translation.specs.declared.Early.TheVariants.{Decided, Search}
use Rattle.translation.specs.declared.Outcome.{Outcome}
use Rattle.translation.specs.declared.Outcome.TheVariants.{NoMatch}
use Rattle.translation.specs.declared.Searched.TheVariants.{At}
use Rattle.translation.specs.declared.Wanted.{Wanted}
use Rattle.theory_calls.specs.Request.{ClearCall, MapCall, ProtectCall, AnsweredCall, AccessCall, Request, clear, map_page, unmap, protect, look, access, sdr1_in, fed}
use Rattle.theory_calls.specs.Rules.{on_long_page, refusal}
use Rattle.theory_calls.specs.Answers.{word_answer, part_words, rule_words, access_answer}
use Rattle.theory_calls.specs.OnBytes.{Ended, on_bytes, start_of, early_of, part_answer, part_decision, wanted_page, search_in, first_place_in, marked_by}

-- ---- entries and matches

-- entry i of group g has the same words in both tables
abbrev pub SameEntry : List ℕ → List ℕ → ℕ → ℕ → Type 0
SameEntry t u g i = (first_of u g i ≡ first_of t g i) × (second_of u g i ≡ second_of t g i)

-- a place among a page's sixteen in search order: primary entries 0 to 7, then secondary
abbrev pub in_order : Bool → ℕ → ℕ
in_order b i = group_entries * h_of b + i

-- the number of a page's primary (false) or secondary (true) group, for a mask of k ones
abbrev pub group_at : ℕ → Page → Bool → ℕ
group_at k page b = group_number (10 + k) b page

-- a table for a mask of k ones, and a page; b tells the page's primary group from its secondary
module _ (k : ℕ) (t : List ℕ) (page : Page) where
  abbrev pub first_here : Bool → ℕ → ℕ
  first_here b i = first_of t (group_at k page b) i

  abbrev pub second_here : Bool → ℕ → ℕ
  second_here b i = second_of t (group_at k page b) i

  -- entry i of the group is a match
  abbrev pub Matching : Bool → ℕ → Type 0
  Matching b i = (i < group_entries) × (matches page.vsid (h_of b) (api_of page.index) (first_here b i) ≡ true)

  abbrev pub SomeMatch : Type 0
  SomeMatch = (b : Bool) × (i : ℕ) × Matching b i

  -- two matches do not agree, wherever they stand
  abbrev pub Disagreeing : Type 0
  Disagreeing = (b : Bool) × (i : ℕ) × (c : Bool) × (j : ℕ) × Matching b i × Matching c j × (agree (second_here b i) (second_here c j) ≡ false)

  -- the first match in search order
  pub record FirstMatch (b : Bool) (i : ℕ) : Type 0 where
    pub matching : Matching b i
    pub first : (c : Bool) (j : ℕ) → Matching c j → in_order b i ≤ in_order c j

  -- some match has bit n of its second word set
  abbrev pub SomeMatchHas : ℕ → Type 0
  SomeMatchHas n = (b : Bool) × (i : ℕ) × Matching b i × (bits n n (second_here b i) ≡ 1)

  -- entry i of the group has V = 0, and is the first such in search order
  abbrev pub Free : Bool → ℕ → Type 0
  Free b i = (i < group_entries) × (free (first_here b i) ≡ true)

  pub record FirstFree (b : Bool) (i : ℕ) : Type 0 where
    pub is_free : Free b i
    pub first : (c : Bool) (j : ℕ) → Free c j → in_order b i ≤ in_order c j

  -- every entry but the page's matches reads as before; every entry but one does
  abbrev pub OthersKept : List ℕ → Type 0
  OthersKept u = (g i : ℕ) → g < 2 ^ (10 + k) → i < group_entries → ((b : Bool) → g ≡ group_at k page b → Matching b i → ⊥) → SameEntry t u g i

  abbrev pub AllButKept : Bool → ℕ → List ℕ → Type 0
  AllButKept b i u = (g j : ℕ) → g < 2 ^ (10 + k) → j < group_entries → (g ≡ group_at k page b → j ≡ i → ⊥) → SameEntry t u g j

-- a second word before and after step 7: R is set, C too on a store, and every other bit is as before
pub record Marked (kind old new : ℕ) : Type 0 where
  pub referenced : bits 23 23 new ≡ 1
  pub changed : kind ≡ store → bits 24 24 new ≡ 1
  pub not_changed : (kind ≡ store → ⊥) → bits 24 24 new ≡ bits 24 24 old
  pub above : bits 0 22 new ≡ bits 0 22 old
  pub below : bits 25 31 new ≡ bits 25 31 old

-- ---- the calls

-- a call that its arguments do not refuse, on a table of bytes
pub record Taken (request : Request (List ℕ)) (t : List ℕ) : Type 0 where
  pub not_refused : refusal (fed request) (length t) ≡ 0
  pub bytes : (i : ℕ) → get_or t i 0 < 2 ^ 8

-- clear: done, and as many zero bytes as the table had
module _ (c : ClearCall) (t : List ℕ) where
  abbrev pub cleared_by : Ended (List ℕ)
  cleared_by = on_bytes (clear c) t

  pub record ClearOnAny : Type 0 where
    pub is_done : cleared_by.number ≡ done
    pub zeroed : cleared_by.state ≡ replicate (length t) 0

-- map: refused where the page has a match, and where it has none and all sixteen entries have V = 1; else the first with V = 0 is written
module _ (c : MapCall) (t : List ℕ) where
  abbrev pub mapped : Ended (List ℕ)
  mapped = on_bytes (map_page c) t

  pub record MapOnAny (k : ℕ) : Type 0 where
    pub done_where : (mapped.number ≡ done) ↔ ((SomeMatch k t c.page → ⊥) × ((b : Bool) × (i : ℕ) × Free k t c.page b i))
    pub refused_7 : (mapped.number ≡ refused_mapped) ↔ SomeMatch k t c.page
    pub refused_9 : (mapped.number ≡ refused_full) ↔ ((SomeMatch k t c.page → ⊥) × ((b : Bool) (i : ℕ) → Free k t c.page b i → ⊥))
    pub entered : mapped.number ≡ done → (b : Bool) (i : ℕ) → FirstFree k t c.page b i
        → (first_of mapped.state (group_at k c.page b) i ≡ first_word 1 c.page.vsid (h_of b) (api_of c.page.index))
        × (second_of mapped.state (group_at k c.page b) i ≡ second_word c.rpn 0 0 c.wimg c.pp)
    pub others : mapped.number ≡ done → (b : Bool) (i : ℕ) → FirstFree k t c.page b i → AllButKept k t c.page b i mapped.state

-- unmap: each match reads two zero words; the word answered is the first match's, with the marks of all
module _ (c : AnsweredCall (List ℕ)) (t : List ℕ) where
  abbrev pub unmapped : Ended (List ℕ)
  unmapped = on_bytes (unmap c) t

  pub record UnmapOnAny (k : ℕ) : Type 0 where
    pub done_where : (unmapped.number ≡ done) ↔ SomeMatch k t c.page
    pub refused_8 : (unmapped.number ≡ refused_no_match) ↔ (SomeMatch k t c.page → ⊥)
    pub zeroed : unmapped.number ≡ done → (b : Bool) (i : ℕ) → Matching k t c.page b i
        → (first_of unmapped.state (group_at k c.page b) i ≡ 0) × (second_of unmapped.state (group_at k c.page b) i ≡ 0)
    pub others : unmapped.number ≡ done → OthersKept k t c.page unmapped.state
    pub word : (b : Bool) (i : ℕ) → FirstMatch k t c.page b i → (w : ℕ) × (unmapped.answer ≡ word_answer done w)
        × ((bits 23 23 w ≡ 1) ↔ SomeMatchHas k t c.page 23) × ((bits 24 24 w ≡ 1) ↔ SomeMatchHas k t c.page 24)
        × (bits 0 22 w ≡ bits 0 22 (second_here k t c.page b i)) × (bits 25 31 w ≡ bits 25 31 (second_here k t c.page b i))

-- protect: each match has that PP and every other bit as before
module _ (c : ProtectCall) (t : List ℕ) where
  abbrev pub protected : Ended (List ℕ)
  protected = on_bytes (protect c) t

  pub record ProtectOnAny (k : ℕ) : Type 0 where
    pub done_where : (protected.number ≡ done) ↔ SomeMatch k t c.page
    pub refused_8 : (protected.number ≡ refused_no_match) ↔ (SomeMatch k t c.page → ⊥)
    pub put : protected.number ≡ done → (b : Bool) (i : ℕ) → Matching k t c.page b i
        → (first_of protected.state (group_at k c.page b) i ≡ first_here k t c.page b i)
        × (second_of protected.state (group_at k c.page b) i ≡ second_here k t c.page b i / 4 * 4 + c.pp)
    pub others : protected.number ≡ done → OthersKept k t c.page protected.state

-- look: refused where two matches do not agree; else the first match's second word
module _ (c : AnsweredCall (List ℕ)) (t : List ℕ) where
  abbrev pub looked : Ended (List ℕ)
  looked = on_bytes (look c) t

  pub record LookOnAny (k : ℕ) : Type 0 where
    pub done_where : (looked.number ≡ done) ↔ (SomeMatch k t c.page × (Disagreeing k t c.page → ⊥))
    pub refused_10 : (looked.number ≡ refused_contradiction) ↔ Disagreeing k t c.page
    pub refused_8 : (looked.number ≡ refused_no_match) ↔ (SomeMatch k t c.page → ⊥)
    pub word : looked.number ≡ done → (b : Bool) (i : ℕ) → FirstMatch k t c.page b i → looked.answer ≡ word_answer done (second_here k t c.page b i)
    pub left : looked.state ≡ t

-- an access, whose operand has a first part (false) and, over a page edge, a second (true)
module _ (c : AccessCall (List ℕ)) (t : List ℕ) where
  abbrev pub accessed : Ended (List ℕ)
  accessed = on_bytes (access c) t

  -- the operand has that part
  abbrev pub HasPart : Bool → Type 0
  HasPart second = second ≡ true → over_edge c.address c.length ≡ true

  module _ (k : ℕ) where
    -- what a part answers by itself, on the table as lent, and the table that it would leave
    abbrev pub answered : Bool → Answer
    answered second = part_answer c (search_in k t) second

    abbrev pub left_by : Bool → List ℕ
    left_by second = marked_by k c.kind (early_of c second) (answered second).result t

    -- what decided it
    abbrev pub decided_by : Bool → Decision
    decided_by second = part_decision c (search_in k t) (first_place_in k t) second

    -- the conditions of the steps (rules 5), each by itself
    module _ (second : Bool) where
      -- the segment and the page at the part's start
      abbrev pub segment_here : ℕ
      segment_here = segment_at (register_words c.registers) (part_start c.address c.length second)

      abbrev pub page_here : Page
      page_here = record { vsid = segment_vsid segment_here; index = page_index (part_start c.address c.length second) }

      -- the key of step 6: Kp for PR 1, Ks for PR 0
      abbrev pub key_here : Bool
      key_here = key_of (user_mode c.mode) segment_here

      -- step 2: pair i of the access's side covers the part
      abbrev pub Covered : ℕ → Type 0
      Covered i =
          (i < block_pairs (on_long_page c))
          × (pair_covers (block_pairs (on_long_page c)) (bl_width (on_long_page c)) (register_words c.registers) (side_of c.kind) (user_mode c.mode) (part_start c.address c.length second) i ≡ true)

      -- step r + 1's condition holds, whatever the other steps say; those of steps 5 to 7 are about the first match
      pub data Condition : ℕ → Type 0 where
        -- IR off for a fetch, DR off for data
        untranslated : relocated c.mode c.kind ≡ false → Condition rule_real
        -- a block of its side covers it
        by_block : (i : ℕ) → Covered i → Condition rule_block
        -- a fetch with N = 1
        not_executable : c.kind ≡ fetch → no_execute segment_here ≡ true → Condition rule_no_execute
        unmatched : (SomeMatch k t page_here → ⊥) → Condition rule_no_match
        -- a fetch with G = 1
        guarded_fetch : (b : Bool) (i : ℕ) → FirstMatch k t page_here b i → c.kind ≡ fetch → guarded (wimg_of (second_here k t page_here b i)) ≡ true
            → Condition rule_guarded
        -- the right is not there; it is there
        forbidden : (b : Bool) (i : ℕ) → FirstMatch k t page_here b i → page_allows key_here (pp_of (second_here k t page_here b i)) c.kind ≡ false
            → Condition rule_protection
        allowed : (b : Bool) (i : ℕ) → FirstMatch k t page_here b i → page_allows key_here (pp_of (second_here k t page_here b i)) c.kind ≡ true
            → Condition rule_done

      -- what is shown of a part that is not refused
      pub record RuleStated : Type 0 where
        -- the rule is r exactly where step r + 1's condition holds and no earlier step's does
        pub rule : (r : ℕ) → ((decided_by second).rule ≡ r) ↔ (Condition r × ((s : ℕ) → s < r → Condition s → ⊥))
        -- the number of the block, or the key and PP; else nothing
        pub block : (decided_by second).rule ≡ rule_block → Covered (decided_by second).detail
        pub right : rule_protection ≤ (decided_by second).rule → (b : Bool) (i : ℕ) → FirstMatch k t page_here b i
            → (decided_by second).detail ≡ 4 * cond key_here 1 0 + pp_of (second_here k t page_here b i)
        pub no_detail : ((decided_by second).rule ≡ rule_block → ⊥) → (decided_by second).rule < rule_protection → (decided_by second).detail ≡ 0
        -- the group and the number of the first match; else nothing
        pub place : rule_guarded ≤ (decided_by second).rule → (b : Bool) (i : ℕ) → FirstMatch k t page_here b i
            → ((decided_by second).group ≡ group_at k page_here b) × ((decided_by second).entry ≡ i)
        pub no_place : (decided_by second).rule < rule_guarded → ((decided_by second).group ≡ 0) × ((decided_by second).entry ≡ 0)

    -- a part that reaches step 4
    pub record SearchOnAny (second : Bool) (wanted : Wanted) : Type 0 where
      pub refused_10 : ((answered second).result ≡ refused_contradiction) ↔ Disagreeing k t (wanted_page wanted)
      pub no_match_law : (SomeMatch k t (wanted_page wanted) → ⊥) → answered second ≡ answer_of c.kind (start_of c second) NoMatch
      pub by_first : (Disagreeing k t (wanted_page wanted) → ⊥) → (b : Bool) (i : ℕ) → FirstMatch k t (wanted_page wanted) b i
          → answered second ≡ answer_of c.kind (start_of c second) (after_search c.kind wanted.key (At (second_here k t (wanted_page wanted) b i)))
      -- where the operand is done, the part's first match is marked
      pub marks : accessed.number ≡ done → (b : Bool) (i : ℕ) → FirstMatch k t (wanted_page wanted) b i
          → (first_of accessed.state (group_at k (wanted_page wanted) b) i ≡ first_here k t (wanted_page wanted) b i)
          × Marked c.kind (second_here k t (wanted_page wanted) b i) (second_of accessed.state (group_at k (wanted_page wanted) b) i)

    -- entry i of group g is the first match of a part that reaches step 4
    pub record FirstOfPart (g i : ℕ) : Type 0 where
      pub second : Bool
      pub has : HasPart second
      pub wanted : Wanted
      pub reaches : early_of c second ≡ Search wanted
      pub b : Bool
      pub group : g ≡ group_at k (wanted_page wanted) b
      pub first : FirstMatch k t (wanted_page wanted) b i

    pub record AccessOnAny : Type 0 where
      -- done exactly where each part is
      pub done_where : (accessed.number ≡ done) ↔ (((answered false).result ≡ done) × (HasPart true → (answered true).result ≡ done))
      -- each part goes through steps 1 to 3 at its own start, and answers for itself where they decide it
      pub own_steps : (second : Bool)
          → early_of c second ≡ before_search (block_pairs (on_long_page c)) (bl_width (on_long_page c)) (register_words c.registers) c.mode c.kind (part_start c.address c.length second)
      pub decided_early : (second : Bool) (outcome : Outcome) → early_of c second ≡ Decided outcome
          → answered second ≡ answer_of c.kind (part_start c.address c.length second) outcome
      -- the parts that reach step 4, each on the table as lent
      pub by_page_law : (second : Bool) → HasPart second → (wanted : Wanted) → early_of c second ≡ Search wanted → SearchOnAny second wanted
      -- the rule that decided a part; contradicting matches have none
      pub rules : (second : Bool) → ((answered second).result ≡ refused_contradiction → ⊥) → RuleStated second
      pub no_rule_law : (second : Bool) → (answered second).result ≡ refused_contradiction → decided_by second ≡ decided 0 0
      -- the first part that is not done answers for all, with what decided it and four zero words
      pub first_stops : ((answered false).result ≡ done → ⊥) → accessed.answer ≡ access_answer (stopped (answered false) (decided_by false))
      pub second_stops : (answered false).result ≡ done → HasPart true → ((answered true).result ≡ done → ⊥)
          → accessed.answer ≡ access_answer (stopped (answered true) (decided_by true))
      -- within one page: the words and the table of that page's access, and all bytes in it
      pub one_page : c.address % page_size + c.length ≤ page_size
          → (take answer_size accessed.answer ≡ bytes_of (part_words (answered false))) × (accessed.state ≡ left_by false)
          × ((answered false).result ≡ done → accessed.answer ≡ access_answer (within (answered false) (decided_by false) c.length))
      -- over a page edge, and done: the second part's address and attributes, the bytes in each page, which are those of the operand, and what
      -- decided the first part
      pub two_pages : page_size < c.address % page_size + c.length → (answered false).result ≡ done → (answered true).result ≡ done
          → (n m : ℕ) → c.address % page_size + n ≡ page_size → n + m ≡ c.length
          → accessed.answer ≡ bytes_of (part_words (answered false) ++ ((answered true).address ∷ (answered true).attributes ∷ n ∷ m ∷ rule_words (decided_by false)))
      -- a fault or a refusal of either part leaves the table
      pub not_done : (accessed.number ≡ done → ⊥) → accessed.state ≡ t
      -- so does an operand of which each part is decided before step 4, by real mode or a block
      pub no_page : ((second : Bool) → HasPart second → (outcome : Outcome) × (early_of c second ≡ Decided outcome)) → accessed.state ≡ t
      -- every entry but the parts' first matches reads as before
      pub others : (g i : ℕ) → g < 2 ^ (10 + k) → i < group_entries → (FirstOfPart g i → ⊥) → SameEntry t accessed.state g i
      -- the two marks in either order leave the same bytes
      pub either_order : HasPart true → (result : ℕ)
          → marked_by k c.kind (early_of c true) result (marked_by k c.kind (early_of c false) result t)
          ≡ marked_by k c.kind (early_of c false) result (marked_by k c.kind (early_of c true) result t)

-- every call on any table
pub record CallsOnAnyTable : Type 0 where
  pub clears : (c : ClearCall) (t : List ℕ) → Taken (clear c) t → ClearOnAny c t
  pub maps : (c : MapCall) (t : List ℕ) → Taken (map_page c) t → MapOnAny c t (mask_ones c.sdr1)
  pub unmaps : (c : AnsweredCall (List ℕ)) (t : List ℕ) → Taken (unmap c) t → UnmapOnAny c t (mask_ones c.sdr1)
  pub protects : (c : ProtectCall) (t : List ℕ) → Taken (protect c) t → ProtectOnAny c t (mask_ones c.sdr1)
  pub looks : (c : AnsweredCall (List ℕ)) (t : List ℕ) → Taken (look c) t → LookOnAny c t (mask_ones c.sdr1)
  pub accesses : (c : AccessCall (List ℕ)) (t : List ℕ) → Taken (access c) t → AccessOnAny c t (mask_ones (sdr1_in (access c)))

-- demand 2: each access gives the physical address, attributes and marks, or the fault, of the rules
pub record AccessStated : Type 0 where
  pub steps : AccessAsStated
  pub on_tables : (c : AccessCall (List ℕ)) (t : List ℕ) → Taken (access c) t → AccessOnAny c t (mask_ones (sdr1_in (access c)))
