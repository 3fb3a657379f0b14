-- One call on a table that represents a map answers what the map answers, and leaves a table that represents the map left: a lemma for each call.
use Prim.Native.Nat.{ℕ, ◌^◌, ◌<◌}
use mathlib.Core.Path.{◌≡◌, refl, ap, ◌∙◌, subst}
use mathlib.Core.Bool.{Bool, true, false}
use mathlib.Core.List.{List, [], ◌∷◌}
use mathlib.Core.Option.{Option, none, some}
use lib.Dec.{eqb, lit<}
use lib.ListN.{length}
use Rattle.words.proofs.Tests.{by_test}
use Rattle.theory_placement.specs.FiniteMap.{fields_at, take_out, revise, mapped_pages}
use Rattle.theory_placement.proofs.FiniteMap.{revise_unmapped}
use Rattle.groups.proofs.Hash.{same_page_refl, same_page_eq}
use Rattle.matches.proofs.Merged.{merged_one}
use Rattle.entry.specs.Entry.{api_of, with_marks, with_pp}
use Rattle.entry.proofs.Addresses.{api_lt}
use Rattle.entry.proofs.Matches.{match_own, free_zero}
use Rattle.entry.proofs.Packing.{first_lt}
use Rattle.groups.specs.declared.Page.{Page}
use Rattle.groups.specs.Page.{InRange, same_page}
use Rattle.matches.specs.Search.{h_of, contradict}
use Rattle.theory_tables.specs.Layout.{matches_of, free_place, overwrite_each}
use Rattle.theory_tables.proofs.Represented.{OneMatch, unmapped_matches, mapped_match, full_branch, free_branch}
use Rattle.theory_tables.proofs.Steps.{represents_put_in, represents_take_out, represents_revise, represents_revise_first}
use Rattle.protection.specs.Access.{storing}
use Rattle.translation.specs.Steps.{outcome_of, answer_of}
use Rattle.translation.specs.Operand.{over_edge, operand_answer}
use Rattle.translation.specs.declared.Answer.{Answer}
use Rattle.translation.specs.declared.decision.Decision.{Decision}
use Rattle.translation.specs.declared.Early.{Early}
use Rattle.translation.specs.declared.Early.TheVariants.{Decided, Search}
use Rattle.translation.specs.declared.Searched.{Searched}
use Rattle.translation.specs.declared.Searched.TheVariants.{At}
use Rattle.translation.specs.declared.Wanted.{Wanted}
use Rattle.translation.proofs.Parts.{SameButPlace, operand_same, operand_related, decisions_agree}
use Rattle.theory_calls.specs.Made.{fed_answered, fed_access}
use Rattle.theory_calls.specs.Request.{ClearCall, MapCall, ProtectCall, AnsweredCall, AccessCall, Request, clear, map_page, unmap, protect, look, access, fed}
use Rattle.theory_calls.specs.Rules.{refusal}
use Rattle.theory_calls.specs.Answers.{word_answer, access_answer, without_place, seen_of, compared}
use Rattle.theory_calls.specs.OnBytes.{layout, Ended, entry_word, start_of, early_of, part_answer, used_by, part_decision, each_part, wanted_page, searched, search_in, first_place_in, marked_by, bytes_do}
use Rattle.theory_calls.specs.OnMap.{PageFields, Map, fields_word, mark_fields, protect_fields, arranged?, found_in, map_marked, map_does}
use Rattle.theory_calls.specs.Represents.{FieldsInRange, TableRepresents}
use Rattle.theory_calls.proofs.TableLaws.{Word, layout_laws, represents_zeros}
use Rattle.theory_calls.proofs.Rules.{map_kept, unmap_kept, look_kept, protect_kept}
use Rattle.theory_calls.proofs.Access.{by_early, wanted_valid}
use Rattle.theory_calls.proofs.Compared.{compared_same}
use Rattle.theory_calls.proofs.Fields.{one_if_lt, word_fits, marked_word, protected_word, mark_range, protect_range}

-- the same number, the same compared of the answer, and a table that represents the map
pub record Alike (k : ℕ) (request : Request (List ℕ)) (e : Ended (List ℕ)) (d : Ended Map) : Type 0 where
  pub number : e.number ≡ d.number
  pub told : compared (seen_of request) e.number e.answer ≡ compared (seen_of (fed request)) d.number d.answer
  pub related : TableRepresents k e.state d.state

-- by the case of an option
by_cases : {A X : Type 0} (o : Option A) → (o ≡ none → X) → ((a : A) → o ≡ some a → X) → X
by_cases none missing found = missing refl
by_cases (some a) missing found = found a refl

-- the first word of a page's own entry matches it and fits
module _ (b : Bool) (page : Page) (valid : InRange page) where
  pub own_matches : (k : ℕ) → (layout k).matching b page (entry_word b page) ≡ true
  unfolding entry_word
  own_matches k = match_own page.vsid (h_of b) (api_of page.index)

  pub own_fits : Word (entry_word b page)
  unfolding entry_word
  own_fits = first_lt 1 page.vsid (h_of b) (api_of page.index) (lit< tt) valid.vsid_lt (one_if_lt b) (api_lt page.index valid.index_lt)

module _ (k : ℕ) (t : List ℕ) (m : Map) (r : TableRepresents k t m) where
  clear_step : (c : ClearCall) → Alike k (clear c) (bytes_do k (clear c) t) (map_does k (clear c) m)
  unfolding bytes_do map_does seen_of fed
  clear_step c = record { number = refl; told = refl; related = represents_zeros k (length t) r.good.long }

  map_step : (c : MapCall) → InRange c.page → c.rpn < 2 ^ 20 → c.wimg < 2 ^ 4 → c.pp < 2 ^ 2 → Alike k (map_page c) (bytes_do k (map_page c) t) (map_does k (map_page c) m)
  unfolding bytes_do map_does fields_word seen_of fed
  map_step c valid hr hw hp =
      let page = c.page in
      let new : PageFields = record { frame = c.rpn; attributes = c.wimg; protection = c.pp; referenced = false; changed = false } in
      let range : FieldsInRange new = record { frame_lt = hr; attributes_lt = hw; protection_lt = hp } in
      let d = arranged? k (page ∷ mapped_pages m) in
      by_cases (fields_at same_page page m)
      (λ e.
      by_cases (free_place (layout k) t page)
      (λ n. rw (unmapped_matches (layout_laws k) r page valid e, n, e, full_branch (layout_laws k) r page n d) (record { number = refl; told = refl; related = r }))
      (λ at n.
      rw (unmapped_matches (layout_laws k) r page valid e, n, e, free_branch (layout_laws k) r page at n d)
      (record {
        number = refl;
        told = refl;
        related =
            represents_put_in (layout_laws k) r page new valid range e at.0 at.1 (entry_word at.0 page) n (own_matches at.0 page valid k)
            (own_fits at.0 page valid) (word_fits new range);
      })))
      (λ f e. rw ((mapped_match (layout_laws k) r page f e).only, e) (record { number = refl; told = refl; related = r }))

  -- a mapped page: what its one match has
  module _ (page : Page) (f : PageFields) (e : fields_at same_page page m ≡ some f) where
    one : OneMatch (layout k) t page (fields_word f)
    one = mapped_match (layout_laws k) r page f e

    range_of : FieldsInRange f
    range_of = (r.valid page f e).1

  unmap_step : (c : AnsweredCall (List ℕ)) → InRange c.page → Alike k (unmap c) (bytes_do k (unmap c) t) (map_does k (unmap (fed_answered c)) m)
  unfolding bytes_do map_does seen_of fed
  unmap_step c valid =
      let page = c.page in
      by_cases (fields_at same_page page m)
      (λ e. rw (unmapped_matches (layout_laws k) r page valid e, e) (record { number = refl; told = refl; related = r }))
      (λ f e.
      let o = one page f e in
      rw (o.only, e)
      (record {
        number = refl;
        told = ap (λ (w : ℕ). compared (λ answer. answer) 0 (word_answer 0 w)) (merged_one o.match ∙ o.second_is);
        related =
            subst (λ xs. TableRepresents k (overwrite_each (layout k) page (λ y. (0, 0)) xs t) (take_out same_page page m)) o.only
            (represents_take_out (layout_laws k) r page f e 0 0 free_zero (lit< tt) (lit< tt));
      }))

  protect_step : (c : ProtectCall) → InRange c.page → c.pp < 2 ^ 2 → Alike k (protect c) (bytes_do k (protect c) t) (map_does k (protect c) m)
  unfolding bytes_do map_does seen_of fed
  protect_step c valid fits =
      let page = c.page in
      let pp = c.pp in
      by_cases (fields_at same_page page m)
      (λ e. rw (unmapped_matches (layout_laws k) r page valid e, e) (record { number = refl; told = refl; related = r }))
      (λ f e.
      let o = one page f e in
      let range = range_of page f e in
      let more = protect_range f range pp fits in
      rw (o.only, e)
      (record {
        number = refl;
        told = refl;
        related =
            subst (λ xs. TableRepresents k (overwrite_each (layout k) page (λ y. (y.first, with_pp pp y.second)) xs t) (revise same_page page (protect_fields pp) m)) o.only
            (represents_revise (layout_laws k) r page f e (with_pp pp) (protect_fields pp) (protected_word f range pp fits) more (word_fits (protect_fields pp f) more));
      }))

  look_step : (c : AnsweredCall (List ℕ)) → InRange c.page → Alike k (look c) (bytes_do k (look c) t) (map_does k (look (fed_answered c)) m)
  unfolding bytes_do map_does contradict seen_of fed
  look_step c valid =
      let page = c.page in
      by_cases (fields_at same_page page m)
      (λ e. rw (unmapped_matches (layout_laws k) r page valid e, e) (record { number = refl; told = refl; related = r }))
      (λ f e. let o = one page f e in rw (o.only, e) (record { number = refl; told = ap (λ (w : ℕ). compared (λ answer. answer) 0 (word_answer 0 w)) o.second_is; related = r }))

  -- ---- the access

  -- the search of the table and that of the map find the same
  search_same : (page : Page) → InRange page → searched (matches_of (layout k) t page) ≡ found_in m page
  unfolding searched found_in contradict
  search_same page valid =
      by_cases (fields_at same_page page m)
      (λ e. rw (unmapped_matches (layout_laws k) r page valid e, e))
      (λ f e. let o = one page f e in rw (o.only, e) (ap At o.second_is))

  -- and both are marked, or neither
  marks_same : (kind : ℕ) (wanted : Wanted) (result : ℕ) → InRange (wanted_page wanted)
      → TableRepresents k (marked_by k kind (Search wanted) result t) (map_marked kind (Search wanted) result m)
  unfolding marked_by map_marked
  marks_same kind wanted result valid =
      let page = wanted_page wanted in
      let store = storing kind in
      by_test (eqb result 0)
      (λ done.
      by_cases (fields_at same_page page m)
      (λ e. rw (done, unmapped_matches (layout_laws k) r page valid e, revise_unmapped same_page same_page_refl same_page_eq page (mark_fields store) m e) r)
      (λ f e.
      let o = one page f e in
      let range = range_of page f e in
      let more = mark_range f range store in
      rw (done, o.only)
      (represents_revise_first (layout_laws k) r page f e (with_marks true store) (mark_fields store) (marked_word f range store) more
      (word_fits (mark_fields store f) more) o.match [] o.only)))
      (λ not_done. rw not_done r)

  -- the search of the map, at the page that a part wants
  abbrev on_map_search : Wanted → Searched
  on_map_search wanted = found_in m (wanted_page wanted)

  -- a part of an operand comes to the same, so it answers alike, and what decided it is the same but for the place of the entry
  pub outcome_same : (c : AccessCall (List ℕ)) (second : Bool)
      → outcome_of c.kind (search_in k t) (early_of c second) ≡ outcome_of c.kind on_map_search (early_of c second)
  unfolding outcome_of
  outcome_same c second =
      by_early (early_of c second) (λ outcome e. rw e) (λ wanted e. rw (e, search_same (wanted_page wanted) (wanted_valid c second wanted e)))

  pub part_same : (c : AccessCall (List ℕ)) (second : Bool) → part_answer c (search_in k t) second ≡ part_answer c on_map_search second
  part_same c second = ap (answer_of c.kind (start_of c second)) (outcome_same c second)

  same_key : (place other : Wanted → ℕ × ℕ) (early : Early) → (used_by place early).key ≡ (used_by other early).key
  same_key place other (Decided outcome) = refl
  same_key place other (Search wanted) = refl

  decision_same : (c : AccessCall (List ℕ)) (second : Bool)
      → SameButPlace (part_decision c (search_in k t) (first_place_in k t) second) (part_decision c on_map_search (λ wanted. (0, 0)) second)
  decision_same c second =
      let early = early_of c second in
      let unplaced : Wanted → ℕ × ℕ = λ wanted. (0, 0) in
      rw (outcome_same c second)
      (decisions_agree (used_by (first_place_in k t) early) (used_by unplaced early) (same_key (first_place_in k t) unplaced early) (outcome_of c.kind on_map_search early))

  -- and it is marked on both, or on neither
  pub part_marks : (c : AccessCall (List ℕ)) (second : Bool) (result : ℕ)
      → TableRepresents k (marked_by k c.kind (early_of c second) result t) (map_marked c.kind (early_of c second) result m)
  unfolding marked_by map_marked
  part_marks c second result =
      by_early (early_of c second) (λ outcome e. rw e r) (λ wanted e. rw e (marks_same c.kind wanted result (wanted_valid c second wanted e)))

-- each part in turn
parts_mark : (k : ℕ) (t : List ℕ) (m : Map) → TableRepresents k t m → (c : AccessCall (List ℕ)) (result : ℕ)
    → TableRepresents k (each_part c (λ second. marked_by k c.kind (early_of c second) result) t) (each_part c (λ second. map_marked c.kind (early_of c second) result) m)
parts_mark k t m r c result =
    let first = part_marks k t m r c false result in
    by_test (over_edge c.address c.length)
    (λ over. rw over (part_marks k _ _ first c true result))
    (λ one. rw one first)

module _ (k : ℕ) (t : List ℕ) (m : Map) (r : TableRepresents k t m) where
  access_step : (c : AccessCall (List ℕ)) → Alike k (access c) (bytes_do k (access c) t) (map_does k (access (fed_access c)) m)
  unfolding bytes_do map_does seen_of fed
  access_step c =
      let search : Wanted → Searched = on_map_search k t m r in
      let plain : Bool → Answer = part_answer c search in
      let placed : Bool → Decision = part_decision c (search_in k t) (first_place_in k t) in
      let unplaced : Bool → Decision = part_decision c search (λ wanted. (0, 0)) in
      let same = operand_same c.address c.length (part_answer c (search_in k t)) plain placed (part_same k t m r c false) (part_same k t m r c true) in
      let number : (operand_answer c.address c.length plain placed).part.result ≡ (operand_answer c.address c.length plain unplaced).part.result
      = operand_related (λ x y. x.part.result ≡ y.part.result) c.address c.length plain placed unplaced (λ second part p a b rest. refl) in
      rw same
      (record {
        number = number;
        told =
            operand_related (λ x y. compared without_place x.part.result (access_answer x) ≡ compared without_place y.part.result (access_answer y)) c.address c.length plain placed unplaced
            (λ second part physical attributes bytes rest.
            compared_same part physical attributes bytes rest part.result (placed second) (unplaced second) (decision_same k t m r c second));
        related = rw number (parts_mark k t m r c (operand_answer c.address c.length plain unplaced).part.result);
      })

  -- each call that its arguments do not refuse
  pub step : (request : Request (List ℕ)) (lent : ℕ) → refusal (fed request) lent ≡ 0 → Alike k request (bytes_do k request t) (map_does k (fed request) m)
  unfolding fed
  step (clear c) lent e = clear_step k t m r c
  step (map_page c) lent e = let kept = map_kept lent c e in map_step k t m r c kept.0 kept.1.0 kept.1.1.0 kept.1.1.1
  step (unmap c) lent e = unmap_step k t m r c (unmap_kept lent (fed_answered c) e)
  step (protect c) lent e = let kept = protect_kept lent c e in protect_step k t m r c kept.0 kept.1
  step (look c) lent e = look_step k t m r c (look_kept lent (fed_answered c) e)
  step (access c) lent e = access_step c
