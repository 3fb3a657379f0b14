-- What the theorem means for one page: after a done unmap or clear it is found no more until it is mapped again, and an access that is done by it, with or
-- without the cache, gives the frame and the attributes of its last done map. Both are shown on the finite map, call by call, and carried to the bytes.
use Prim.Native.Nat.{ℕ, ◌+◌, ◌^◌, ◌<◌}
use mathlib.Core.Path.{◌≡◌, refl, sym, ap, ap₂, ◌∙◌, subst}
use mathlib.Core.Bool.{Bool, true, false, cond, ◌&&◌}
use mathlib.Core.List.{List, [], ◌∷◌, ◌++◌, map, append_assoc, cons≢nil}
use mathlib.Core.Option.{none, some}
use native.Mathlib.Omega.{arith}
use lib.Dec.{eqb}
use lib.ListN.{length}
use Rattle.words.specs.Bits.{bits, placed}
use Rattle.words.specs.Words.{word_bytes, word_at, bytes_of}
use Rattle.words.proofs.Words.{own_bytes}
use Rattle.words.proofs.Tests.{by_test}
use Rattle.theory_placement.specs.Lists.{one_if}
use Rattle.theory_placement.specs.FiniteMap.{fields_at}
use Rattle.register_words.specs.Sdr1.{mask_ones}
use Rattle.entry.specs.Entry.{wimg_of, pp_of, physical_address}
use Rattle.entry.proofs.Packing.{SecondFields, second_packed}
use Rattle.entry.proofs.Addresses.{physical_lt, physical_fields}
use Rattle.groups.specs.declared.Page.{Page}
use Rattle.groups.specs.Page.{same_page}
use Rattle.theory_tables.specs.Runs.{after, Each}
use Rattle.theory_tables.proofs.Runs.{each_append}
use Rattle.theory_tables.proofs.Represented.{unmapped_matches}
use Rattle.protection.specs.Access.{fetching, storing}
use Rattle.protection.specs.Protection.{page_allows, guarded}
use Rattle.protection.specs.Fault.{no_match, no_fetch, protection}
use Rattle.translation.specs.Steps.{page_outcome, after_search, outcome_of, answer_of, done_answer}
use Rattle.translation.specs.Decision.{decided, decision_of}
use Rattle.translation.specs.Operand.{over_edge, stopped, operand_answer}
use Rattle.translation.specs.declared.Answer.{Answer}
use Rattle.translation.specs.declared.decision.Decision.{Decision}
use Rattle.translation.specs.declared.operand.OperandAnswer.{OperandAnswer}
use Rattle.translation.specs.declared.Wanted.{Wanted}
use Rattle.translation.specs.declared.Early.TheVariants.{Search}
use Rattle.translation.specs.declared.Outcome.TheVariants.{NoMatch, Guarded, Protection, Done}
use Rattle.translation.specs.declared.Searched.{Searched}
use Rattle.translation.specs.declared.Searched.TheVariants.{Nothing, At}
use Rattle.translation.proofs.Steps.{after_nothing, after_at, outcome_searched}
use Rattle.translation.proofs.Parts.{first_stops, second_stops, one_done, both_done, parts_done}
use Rattle.cache.specs.Cache.{set_of, hit}
use Rattle.cache.proofs.Cache.{set_lt}
use Rattle.theory_calls.specs.Made.{fed_access}
use Rattle.theory_calls.specs.Request.{MapCall, AccessCall, Request, map_page, access, fed}
use Rattle.theory_calls.specs.Answers.{access_answer}
use Rattle.theory_calls.specs.OnBytes.{Ended, start_of, early_of, part_answer, used_by, part_decision, wanted_page, search_in, first_place_in, bytes_do, on_bytes}
use Rattle.theory_calls.specs.OnMap.{PageFields, Map, fields_word, found_in, on_map}
use Rattle.theory_calls.specs.Represents.{FieldsInRange, TableRepresents}
use Rattle.theory_calls.proofs.Fields.{one_if_lt}
use Rattle.theory_calls.proofs.Access.{fault_number, wanted_valid}
use Rattle.theory_calls.proofs.TableLaws.{layout_laws}
use Rattle.theory_calls.proofs.Histories.{done_bytes, size_is}
use Rattle.theory_calls.proofs.Step.{outcome_same, part_same}
use Rattle.theory_cache.specs.Cached.{cached_search, cached_place, cached_does, cached_refusal, on_cached}
use Rattle.theory_cache.specs.Shown.{is_hit}
use Rattle.theory_cache.proofs.Found.{by_cases}
use Rattle.theory_cache.proofs.Refusals.{cached_taken}
use Rattle.theory_cache.proofs.Parts as cached-parts
use Rattle.theory_cache.proofs.Parts.{AllBacked}
use Rattle.theory_histories.specs.Calls.{Asked, plain, cached, invalidate, rights, Slices, Call, State, on_lent, calling, lent_lengths, refusal_of, Under}
use Rattle.theory_histories.specs.Fed.{fed_asked, fed_of, map_calling, bytes_step, map_step}
use Rattle.theory_histories.specs.Discipline.{Disciplined, filled}
use Rattle.theory_histories.specs.Histories.{own_call, History, own, begun, state_after, map_after, next}
use Rattle.theory_histories.specs.Theorem.{mapped_to, Maps, by_map, TakesOut, by_clear, by_unmap, NoneDone, DoneSince, Accesses, by_table, with_cache, Reaches, answered_after, address_byte, attributes_byte, AccessFollowsHistory}
use Rattle.theory_histories.proofs.Changes.{changed}
use Rattle.theory_histories.proofs.Pages.{Has, stays_out, stays_in, maps_fed, takes_fed, fed_takes, taken_out, put_in_law}
use Rattle.theory_histories.proofs.Along.{Linked, GoesAlong, along, Steps, steps, tells}
use Rattle.theory_histories.proofs.Theorem.{ones, fits, begins, all_along}

-- ---- a page along a list of calls

-- an access neither maps a page nor takes one out
maps_not : {page : Page} (request : Request ℕ) (c : AccessCall ℕ) → Maps page request → request ≡ access c → ⊥
maps_not request c (by_map d is) e = let z : ◌≡◌ {A = ℕ} 0 1 = cc in omega arith

takes_not : {page : Page} (request : Request ℕ) (c : AccessCall ℕ) → TakesOut page request → request ≡ access c → ⊥
takes_not request c (by_clear d) e = let z : ◌≡◌ {A = ℕ} 0 1 = cc in omega arith
takes_not request c (by_unmap d is) e = let z : ◌≡◌ {A = ℕ} 0 1 = cc in omega arith

-- a call keeps a page out unless it is a done request that maps it
call_out : (page : Page) (asked : Asked (List ℕ)) (lent : Slices ℕ) (m : Map) → fields_at same_page page m ≡ none
    → ((request : Request (List ℕ)) → asked ≡ plain request → Maps page request → (map_calling (fed_asked asked) lent m).number ≡ 0 → ⊥)
    → fields_at same_page page (map_calling (fed_asked asked) lent m).state ≡ none
unfolding map_calling fed_asked
call_out page (plain request) lent m e n =
    stays_out page (fed request) m (on_map (fed request) lent.table m) e (λ a z. n request refl (maps_fed page request a) z) (changed (fed request) lent.table m)
call_out page (cached c) lent m e n =
    let asks = access (fed_access c) in
    by_test (eqb lent.cache 2048)
    (λ z. rw z (stays_out page asks m (on_map asks lent.table m) e (λ a q. maps_not asks (fed_access c) a refl) (changed asks lent.table m))) (λ z. rw z e)
call_out page (invalidate index) lent m e n = e
call_out page (rights c answer) lent m e n = e

-- and keeps a mapped page's frame and attributes unless it is a done request that takes it out
call_in : (page : Page) (rpn wimg : ℕ) (asked : Asked (List ℕ)) (lent : Slices ℕ) (m : Map) → Has rpn wimg page m
    → ((request : Request (List ℕ)) → asked ≡ plain request → TakesOut page request → (map_calling (fed_asked asked) lent m).number ≡ 0 → ⊥)
    → Has rpn wimg page (map_calling (fed_asked asked) lent m).state
unfolding map_calling fed_asked
call_in page rpn wimg (plain request) lent m has n =
    stays_in page (fed request) m (on_map (fed request) lent.table m) rpn wimg has (λ a z. n request refl (takes_fed page request a) z) (changed (fed request) lent.table m)
call_in page rpn wimg (cached c) lent m has n =
    let asks = access (fed_access c) in
    by_test (eqb lent.cache 2048)
    (λ z. rw z (stays_in page asks m (on_map asks lent.table m) rpn wimg has (λ a q. takes_not asks (fed_access c) a refl) (changed asks lent.table m))) (λ z. rw z has)
call_in page rpn wimg (invalidate index) lent m has n = has
call_in page rpn wimg (rights c answer) lent m has n = has

-- a done request that takes a page out leaves it out, and a done map of it leaves it with the map's frame and attributes
call_takes : (page : Page) (asked : Asked (List ℕ)) (request : Request (List ℕ)) → asked ≡ plain request → TakesOut page request → (lent : Slices ℕ) (m : Map)
    → (map_calling (fed_asked asked) lent m).number ≡ 0 → fields_at same_page page (map_calling (fed_asked asked) lent m).state ≡ none
unfolding map_calling fed_asked
call_takes page asked request is takes lent m =
    subst (λ (a : Asked (List ℕ)). (map_calling (fed_asked a) lent m).number ≡ 0 → fields_at same_page page (map_calling (fed_asked a) lent m).state ≡ none) (sym is)
    (taken_out lent.table m page (fed request) (fed_takes page request takes))

call_maps : (c : MapCall) (asked : Asked (List ℕ)) → asked ≡ plain (map_page c) → (lent : Slices ℕ) (m : Map)
    → (map_calling (fed_asked asked) lent m).number ≡ 0 → Has c.rpn c.wimg c.page (map_calling (fed_asked asked) lent m).state
unfolding map_calling fed_asked fed
call_maps c asked is lent m =
    subst (λ (a : Asked (List ℕ)). (map_calling (fed_asked a) lent m).number ≡ 0 → Has c.rpn c.wimg c.page (map_calling (fed_asked a) lent m).state) (sym is)
    (put_in_law lent.table m c)

-- the finite map over a list of calls in two parts
map_parts : (own : Slices ℕ) (cs ds : List Call) (m : Map)
    → after map_step (map (fed_of own) (cs ++ ds)) m ≡ after map_step (map (fed_of own) ds) (after map_step (map (fed_of own) cs) m)
map_parts own [] ds m = refl
map_parts own (c ∷ cs) ds m = map_parts own cs ds (map_step (fed_of own c) m).1

module _ (h : History) where
  abbrev Joint : State → Map → (ℕ → Bool) → Type 0
  Joint = Linked h.sdr1 (own h) (fits h).shape (fits h).long

  -- what a call of the history, made in a state that belongs to the map, comes to
  step_of : (c : Call) → Under h.sdr1 (own h) c → (cs : List Call) (s : State) (m : Map) (waiting : ℕ → Bool) → Joint s m waiting → Disciplined (c ∷ cs) s waiting
      → Steps h.sdr1 (own h) (fits h).shape (fits h).long c s m waiting
  step_of c under cs s m waiting l kept = steps h.sdr1 (own h) (fits h).shape (fits h).long c s m under waiting l kept.0

  abbrev told : Call → State → Map → Ended Map
  told c s m = tells h.sdr1 (own h) (fits h).shape (fits h).long c s m

  module _ (page : Page) (rest : List Call) where
    out_along : (ds : List Call) → Each (Under h.sdr1 (own h)) ds → (s : State) (m : Map) (waiting : ℕ → Bool) → Joint s m waiting → Disciplined (ds ++ rest) s waiting
        → fields_at same_page page m ≡ none → NoneDone (Maps page) ds s → fields_at same_page page (after map_step (map (fed_of (own h)) ds) m) ≡ none
    unfolding map_step
    out_along [] each s m waiting l kept e n = e
    out_along (c ∷ ds) (under, each) s m waiting l kept e (n, none_behind) =
        let step = step_of c under (ds ++ rest) s m waiting l kept in
        out_along ds each (calling c s).state (told c s m).state _ step.linked kept.1
        (call_out page c.asked (lent_lengths (own h) c) m e (λ request is maps z. n request is maps (step.number ∙ z))) none_behind

    in_along : (rpn wimg : ℕ) (ds : List Call) → Each (Under h.sdr1 (own h)) ds → (s : State) (m : Map) (waiting : ℕ → Bool) → Joint s m waiting → Disciplined (ds ++ rest) s waiting
        → Has rpn wimg page m → NoneDone (TakesOut page) ds s → Has rpn wimg page (after map_step (map (fed_of (own h)) ds) m)
    unfolding map_step
    in_along rpn wimg [] each s m waiting l kept has n = has
    in_along rpn wimg (c ∷ ds) (under, each) s m waiting l kept has (n, none_behind) =
        let step = step_of c under (ds ++ rest) s m waiting l kept in
        in_along rpn wimg ds each (calling c s).state (told c s m).state _ step.linked kept.1
        (call_in page rpn wimg c.asked (lent_lengths (own h) c) m has (λ request is takes z. n request is takes (step.number ∙ z))) none_behind

-- ---- a history in which one of these requests was done and none of those since

module _ (h : History) (These Those : Request (List ℕ) → Type 0) (since : DoneSince h These Those) (rest : List Call)
    (kept : Disciplined (h.calls ++ rest) (begun h) (filled h.start.cache)) where
  abbrev call : Call
  call = since.call

  each_part : Each (Under h.sdr1 (own h)) since.before × Each (Under h.sdr1 (own h)) (call ∷ since.behind)
  each_part = (each_append (Under h.sdr1 (own h)) since.before (call ∷ since.behind)).0 (subst (Each (Under h.sdr1 (own h))) since.parts h.under)

  -- state and map before that call, and what the map tells of it
  up_to : GoesAlong h.sdr1 (own h) (fits h).shape (fits h).long since.before (call ∷ since.behind ++ rest) (begun h) []
  up_to =
      along h.sdr1 (own h) (fits h).shape (fits h).long since.before (call ∷ since.behind ++ rest) each_part.0 (begun h) [] (filled h.start.cache) (begins h)
      (subst (λ (calls : List Call). Disciplined calls (begun h) (filled h.start.cache))
      (ap (λ (calls : List Call). calls ++ rest) since.parts ∙ append_assoc since.before (call ∷ since.behind) rest) kept)

  abbrev before_state : State
  before_state = after bytes_step since.before (begun h)

  abbrev before_map : Map
  before_map = after map_step (map (fed_of (own h)) since.before) []

  step : Steps h.sdr1 (own h) (fits h).shape (fits h).long call before_state before_map up_to.waits
  step = step_of h call each_part.1.0 (since.behind ++ rest) before_state before_map up_to.waits up_to.linked up_to.kept

  told_done : (told h call before_state before_map).number ≡ 0
  told_done = sym step.number ∙ since.was_done

  rest_is : map_after h ≡ after map_step (map (fed_of (own h)) since.behind) (told h call before_state before_map).state
  unfolding map_step
  rest_is =
      ap (λ (cs : List Call). after map_step (map (fed_of (own h)) cs) []) since.parts ∙ map_parts (own h) since.before (call ∷ since.behind) []

out_after : (h : History) (page : Page) (since : DoneSince h (TakesOut page) (Maps page)) (rest : List Call)
    → Disciplined (h.calls ++ rest) (begun h) (filled h.start.cache) → mapped_to h page ≡ none
out_after h page since rest kept =
    let These = TakesOut page in
    let Those = Maps page in
    let m = before_map h These Those since rest kept in
    rw (rest_is h These Those since rest kept)
    (out_along h page rest since.behind (each_part h These Those since rest kept).1.1 _ _ _ (step h These Those since rest kept).linked
    (up_to h These Those since rest kept).kept.1
    (call_takes page since.call.asked since.request since.asks since.one_of_these (lent_lengths (own h) since.call) m (told_done h These Those since rest kept))
    since.none_of_those)

in_after : (h : History) (c : MapCall) (since : DoneSince h (λ request. request ≡ map_page c) (TakesOut c.page)) (rest : List Call)
    → Disciplined (h.calls ++ rest) (begun h) (filled h.start.cache) → Has c.rpn c.wimg c.page (map_after h)
in_after h c since rest kept =
    let These : Request (List ℕ) → Type 0 = λ request. request ≡ map_page c in
    let Those = TakesOut c.page in
    let m = before_map h These Those since rest kept in
    rw (rest_is h These Those since rest kept)
    (in_along h c.page rest c.rpn c.wimg since.behind (each_part h These Those since rest kept).1.1 _ _ _ (step h These Those since rest kept).linked
    (up_to h These Those since rest kept).kept.1
    (call_maps c since.call.asked (since.asks ∙ ap plain since.one_of_these) (lent_lengths (own h) since.call) m (told_done h These Those since rest kept))
    since.none_of_those)

-- ---- the answer of an access

-- an access that steps 5 to 7 let pass answers by the entry's word
passed : (kind : ℕ) (key : Bool) (address word : ℕ) → (answer_of kind address (page_outcome kind key word)).result ≡ 0
    → answer_of kind address (page_outcome kind key word) ≡ done_answer (physical_address word address) (wimg_of word) address
unfolding answer_of page_outcome
passed kind key address word z = by (fetching kind && guarded (wimg_of word)) (page_allows key (pp_of word) kind) z
  where
    by : (g a : Bool) → (answer_of kind address (cond g Guarded (cond a (Done word) (Protection word)))).result ≡ 0
        → answer_of kind address (cond g Guarded (cond a (Done word) (Protection word))) ≡ done_answer (physical_address word address) (wimg_of word) address
    by true a e = absurd (fault_number no_fetch kind e)
    by false true e = refl
    by false false e = absurd (fault_number protection kind e)

-- the word of fields gives their frame and attributes
module _ (f : PageFields) (range : FieldsInRange f) where
  word_fields : SecondFields f.frame (one_if f.referenced) (one_if f.changed) f.attributes f.protection (fields_word f)
  unfolding fields_word
  word_fields =
      second_packed f.frame (one_if f.referenced) (one_if f.changed) f.attributes f.protection
      range.frame_lt (one_if_lt f.referenced) (one_if_lt f.changed) range.attributes_lt range.protection_lt

-- a fault with no match is not done
no_match_number : (kind address : ℕ) → (answer_of kind address NoMatch).result ≡ 0 → ⊥
unfolding answer_of
no_match_number kind address z = fault_number no_match kind z

found_none : (m : Map) (page : Page) → fields_at same_page page m ≡ none → found_in m page ≡ Nothing
unfolding found_in
found_none m page e = rw e

found_some : (m : Map) (page : Page) (f : PageFields) → fields_at same_page page m ≡ some f → found_in m page ≡ At (fields_word f)
unfolding found_in
found_some m page f e = rw e

-- where the words of a done part stand in the answer
module _ (address length : ℕ) (answer : Bool → Answer) (decision : Bool → Decision) where
  abbrev answer_bytes : List ℕ
  answer_bytes = access_answer (operand_answer address length answer decision)

  part_words_law : (b : Bool) → (b ≡ true → over_edge address length ≡ true) → ((answer false).result ≡ 0) × (over_edge address length ≡ true → (answer true).result ≡ 0)
      → (physical attributes : ℕ) → (answer b).address ≡ physical → (answer b).attributes ≡ attributes → physical < 2 ^ 32 → attributes < 2 ^ 32
      → (word_at answer_bytes (address_byte b) ≡ physical) × (word_at answer_bytes (attributes_byte b) ≡ attributes)
  unfolding access_answer bytes_of word_bytes word_at
  part_words_law false has done physical attributes p a lp la = go (over_edge address length) refl
    where
      go : (over : Bool) → over_edge address length ≡ over → (word_at answer_bytes 4 ≡ physical) × (word_at answer_bytes 8 ≡ attributes)
      go true o = rw (both_done address length answer decision done.0 o (done.1 o), p, a) (own_bytes physical lp, own_bytes attributes la)
      go false o = rw (one_done address length answer decision done.0 o, p, a) (own_bytes physical lp, own_bytes attributes la)
  part_words_law true has done physical attributes p a lp la =
      rw (both_done address length answer decision done.0 (has refl) (done.1 (has refl)), p, a) (own_bytes physical lp, own_bytes attributes la)

-- an access by a search under which each part answers as by the map, of which that part reaches step 4
module _ (k : ℕ) (m : Map) (c : AccessCall (List ℕ)) (search : Wanted → Searched) (place : Wanted → ℕ × ℕ)
    (same : (b : Bool) → part_answer c search b ≡ part_answer c (λ wanted. found_in m (wanted_page wanted)) b)
    (second : Bool) (has_part : second ≡ true → over_edge c.address c.length ≡ true) (page : Page) (wanted : Wanted)
    (searches : early_of c second ≡ Search wanted) (wants : wanted_page wanted ≡ page) where
  abbrev kind : ℕ
  kind = c.kind

  abbrev start : ℕ
  start = start_of c second

  abbrev key : Bool
  key = wanted.key

  abbrev on_it : Wanted → Searched
  on_it w = found_in m (wanted_page w)

  abbrev parts : Bool → Answer
  parts = part_answer c search

  abbrev deciding : Bool → Decision
  deciding = part_decision c search place

  abbrev whole : OperandAnswer
  whole = operand_answer c.address c.length parts deciding

  outcome_is : outcome_of kind on_it (early_of c second) ≡ after_search kind key (found_in m page)
  outcome_is =
      ap (outcome_of kind on_it) searches ∙ outcome_searched kind on_it wanted ∙ ap (λ (q : Page). after_search kind key (found_in m q)) wants

  part_is : parts second ≡ answer_of kind start (after_search kind key (found_in m page))
  part_is = same second ∙ ap (answer_of kind start) outcome_is

  -- a part that is not done answers for all unless the part before it is not done
  stopping : (b : Bool) → (b ≡ true → over_edge c.address c.length ≡ true) → (b ≡ true → (parts false).result ≡ 0) → ((parts b).result ≡ 0 → ⊥)
      → whole ≡ stopped (parts b) (deciding b)
  stopping false has before n = first_stops c.address c.length parts deciding n
  stopping true has before n = second_stops c.address c.length parts deciding (before refl) (has refl) n

  not_found : fields_at same_page page m ≡ none → outcome_of kind on_it (early_of c second) ≡ NoMatch
  not_found e = outcome_is ∙ ap (after_search kind key) (found_none m page e) ∙ after_nothing kind key

  faults : fields_at same_page page m ≡ none → (second ≡ true → (parts false).result ≡ 0) → deciding second ≡ decided 3 0
      → access_answer whole ≡ access_answer (stopped (answer_of kind start NoMatch) (decided 3 0))
  faults e before by_none =
      let is : parts second ≡ answer_of kind start NoMatch = same second ∙ ap (answer_of kind start) (not_found e) in
      ap access_answer (stopping second has_part before (λ z. no_match_number kind start (ap (λ (a : Answer). a.result) (sym is) ∙ z)) ∙ ap₂ stopped is by_none)

  gives : (rpn wimg : ℕ) → Has rpn wimg page m → ((f : PageFields) → fields_at same_page page m ≡ some f → FieldsInRange f) → whole.part.result ≡ 0
      → (word_at (access_answer whole) (address_byte second) ≡ placed 19 rpn + bits 20 31 start) × (word_at (access_answer whole) (attributes_byte second) ≡ wimg)
  gives rpn wimg has ranges z =
      let f = has.fields in
      let range = ranges f has.mapped in
      let word = word_fields f range in
      let done = parts_done c.address c.length parts deciding z in
      let outcome : parts second ≡ answer_of kind start (page_outcome kind key (fields_word f)) =
      part_is ∙ ap (answer_of kind start) (ap (after_search kind key) (found_some m page f has.mapped) ∙ after_at kind key (fields_word f)) in
      let zero : (parts second).result ≡ 0 = pick second has_part done in
      let is : parts second ≡ done_answer (physical_address (fields_word f) start) (wimg_of (fields_word f)) start =
      outcome ∙ passed kind key start (fields_word f) (ap (λ (a : Answer). a.result) (sym outcome) ∙ zero) in
      let physical : physical_address (fields_word f) start ≡ placed 19 rpn + bits 20 31 start =
      physical_fields word start ∙ ap (λ (r : ℕ). placed 19 r + bits 20 31 start) has.frame in
      let fits : physical_address (fields_word f) start < 2 ^ 32 = physical_lt (fields_word f) start in
      let small : wimg_of (fields_word f) < 2 ^ 32 = rw word.has_wimg (let l = range.attributes_lt in omega arith) in
      let read = part_words_law c.address c.length parts deciding second has_part done (physical_address (fields_word f) start) (wimg_of (fields_word f)) (ap (λ (a : Answer). a.address) is) (ap (λ (a : Answer). a.attributes) is) fits small in
      (read.0 ∙ physical, read.1 ∙ word.has_wimg ∙ has.attributes)
    where
      pick : (b : Bool) → (b ≡ true → over_edge c.address c.length ≡ true)
          → ((parts false).result ≡ 0) × (over_edge c.address c.length ≡ true → (parts true).result ≡ 0) → (parts b).result ≡ 0
      pick false has done = done.0
      pick true has done = done.1 (has refl)

-- ---- after a history, by the table or with the cache

module _ (h : History) (asked : Asked (List ℕ)) (c : AccessCall (List ℕ)) (second : Bool) (page : Page) (reaches : Reaches h asked c second page) where
  abbrev table : List ℕ
  table = (state_after h).table

  all : GoesAlong h.sdr1 (own h) (fits h).shape (fits h).long h.calls (own_call asked ∷ []) (begun h) []
  all = all_along h (own_call asked ∷ []) reaches.kept

  related : TableRepresents (ones h) table (map_after h)
  related = all.linked.related

  plain_same : (b : Bool) → answered_after h c b ≡ part_answer c (λ wanted. found_in (map_after h) (wanted_page wanted)) b
  plain_same b = part_same (ones h) table (map_after h) related c b

  -- of a page that is not mapped the record says no match
  by_table_none : fields_at same_page page (map_after h) ≡ none → part_decision c (search_in (ones h) table) (first_place_in (ones h) table) second ≡ decided 3 0
  unfolding decision_of
  by_table_none e =
      ap (decision_of (used_by (first_place_in (ones h) table) (early_of c second)))
      (outcome_same (ones h) table (map_after h) related c second
      ∙ not_found (ones h) (map_after h) c (search_in (ones h) table) (first_place_in (ones h) table) plain_same second reaches.has_part page reaches.wanted reaches.searches reaches.wants e)

  -- what the access ends in, by the search that it goes by
  pub record Ends : Type 0 where
    pub search : Wanted → Searched
    pub place : Wanted → ℕ × ℕ
    pub same : (b : Bool) → part_answer c search b ≡ answered_after h c b
    pub number : (next h (own_call asked)).number ≡ (operand_answer c.address c.length (part_answer c search) (part_decision c search place)).part.result
    pub answer : (next h (own_call asked)).answer ≡ access_answer (operand_answer c.address c.length (part_answer c search) (part_decision c search place))
    pub undecided : fields_at same_page page (map_after h) ≡ none → part_decision c search place second ≡ decided 3 0

-- by the table
table_ends : (h : History) (c : AccessCall (List ℕ)) (second : Bool) (page : Page) (reaches : Reaches h (plain (access c)) c second page) → Ends h (plain (access c)) c second page reaches
unfolding calling on_lent bytes_do refusal_of
table_ends h c second page reaches =
    let t = (state_after h).table in
    let does : on_bytes (access c) t ≡ bytes_do (ones h) (access c) t
    = done_bytes h.sdr1 (own h).table (fits h).shape (fits h).long (access c) t (map_after h) (related h (plain (access c)) c second page reaches) reaches.same_sdr1 reaches.taken in
    record {
      search = search_in (ones h) t;
      place = first_place_in (ones h) t;
      same = λ b. refl;
      number = ap (λ (e : Ended (List ℕ)). e.number) does;
      answer = ap (λ (e : Ended (List ℕ)). e.answer) does;
      undecided = by_table_none h (plain (access c)) c second page reaches;
    }

-- with the cache
module _ (h : History) (c : AccessCall (List ℕ)) (second : Bool) (page : Page) (reaches : Reaches h (cached c) c second page) where
  abbrev t : List ℕ
  t = (state_after h).table

  abbrev d : List ℕ
  d = (state_after h).cache

  joined : TableRepresents (ones h) t (map_after h)
  joined = related h (cached c) c second page reaches

  zero : cached_refusal c (length t) (length d) ≡ 0
  unfolding refusal_of
  zero =
      rw (size_is h.sdr1 (own h).table (fits h).shape (fits h).long t (map_after h) joined, (all h (cached c) c second page reaches).linked.size) reaches.taken

  backed : AllBacked (ones h) t d
  unfolding refusal_of
  backed p v b held =
      let g = all h (cached c) c second page reaches in
      let (own_table, own-cache, none-waits) = g.kept.0 c refl zero in
      g.linked.sound.backed p v b (none-waits (set_of p.index) (set_lt p.index)) held

  does : on_cached c (t, d) ≡ cached_does (ones h) c (t, d)
  does = cached_taken c t d zero ∙ ap (λ (n : ℕ). cached_does (mask_ones n) c (t, d)) reaches.same_sdr1

  -- a page that is not mapped is no hit
  no_hit : fields_at same_page page (map_after h) ≡ none → is_hit c t d (early_of c second) ≡ false
  no_hit e =
      let w = reaches.wanted in
      let valid = wanted_valid c second w reaches.searches in
      rw reaches.searches
      (by_cases (hit (storing c.kind) d (wanted_page w)) (λ n. rw n)
      (λ words is.
      let b = (cached-parts.hit_backed (ones h) c t d joined.good backed (wanted_page w) valid words is).0 in
      absurd (cons≢nil (sym b.are ∙ unmapped_matches (layout_laws (ones h)) joined (wanted_page w) valid (ap (λ (q : Page). fields_at same_page q (map_after h)) reaches.wants ∙ e)))))

  cached_ends : Ends h (cached c) c second page reaches
  unfolding calling on_lent cached_does
  cached_ends = record {
    search = cached_search (ones h) c.kind t d;
    place = cached_place (ones h) c.kind t d;
    same = cached-parts.part_same (ones h) c t d joined.good backed;
    number = ap (λ (e : Ended (List ℕ × List ℕ)). e.number) does;
    answer = ap (λ (e : Ended (List ℕ × List ℕ)). e.answer) does;
    undecided = λ e.
        cached-parts.decision_same (ones h) c t d joined.good backed second ∙ (rw (no_hit e) (by_table_none h (cached c) c second page reaches e));
  }

ends : (h : History) (asked : Asked (List ℕ)) (c : AccessCall (List ℕ)) (second : Bool) (page : Page) (reaches : Reaches h asked c second page) → Ends h asked c second page reaches
ends h asked c second page reaches = pick asked reaches.accesses reaches
  where
    pick : (a : Asked (List ℕ)) → Accesses c a → (q : Reaches h a c second page) → Ends h a c second page q
    pick a by_table q = table_ends h c second page q
    pick a with_cache q = cached_ends h c second page q

module _ (h : History) (asked : Asked (List ℕ)) (c : AccessCall (List ℕ)) (second : Bool) (page : Page) (reaches : Reaches h asked c second page) where
  abbrev e : Ends h asked c second page reaches
  e = ends h asked c second page reaches

  as_map : (b : Bool) → part_answer c e.search b ≡ part_answer c (λ wanted. found_in (map_after h) (wanted_page wanted)) b
  as_map b = e.same b ∙ plain_same h asked c second page reaches b

  no_match_there : mapped_to h page ≡ none → (second ≡ true → (answered_after h c false).result ≡ 0)
      → (next h (own_call asked)).answer ≡ access_answer (stopped (answer_of c.kind (start_of c second) NoMatch) (decided 3 0))
  no_match_there out before =
      e.answer
      ∙ faults (ones h) (map_after h) c e.search e.place as_map second reaches.has_part page reaches.wanted reaches.searches reaches.wants out
      (λ s. ap (λ (a : Answer). a.result) (e.same false) ∙ before s) (e.undecided out)

  frame_there : (rpn wimg : ℕ) → Has rpn wimg page (map_after h) → (next h (own_call asked)).number ≡ 0
      → (word_at (next h (own_call asked)).answer (address_byte second) ≡ placed 19 rpn + bits 20 31 (start_of c second))
      × (word_at (next h (own_call asked)).answer (attributes_byte second) ≡ wimg)
  frame_there rpn wimg has z =
      rw e.answer
      (gives (ones h) (map_after h) c e.search e.place as_map second reaches.has_part page reaches.wanted reaches.searches reaches.wants rpn wimg has
      (λ f mapped. ((related h asked c second page reaches).valid page f mapped).1) (sym e.number ∙ z))

pub access_follows_history : AccessFollowsHistory
access_follows_history = record {
  no_match_law = λ h page since asked c second reaches before.
      no_match_there h asked c second page reaches (out_after h page since (own_call asked ∷ []) reaches.kept) before;
  frame = λ h m since asked c second reaches z.
      frame_there h asked c second m.page reaches m.rpn m.wimg (in_after h m since (own_call asked ∷ []) reaches.kept) z;
}
