-- Demand 3: from a first clear that was done on, table and finite map are related, so every list of calls answers alike; what a page's own calls answer goes
-- by which pages are mapped alone; and the statements of the cache and of rights, from the same laws.
use Prim.Native.Nat.{ℕ, ◌<◌}
use mathlib.Core.Path.{◌≡◌, refl, sym, ap, ◌∙◌, subst}
use mathlib.Core.Bool.{true, false, true≢false}
use mathlib.Core.List.{List, [], ◌∷◌, ◌++◌, append-nil}
use mathlib.Core.Logic.{ite, if_pos, if_neg, inr}
use mathlib.Core.Option.{Option, none, some, some_inj, some-ne-none}
use native.Mathlib.Omega.{arith}
use lib.ListN.{length}
use Rattle.theory_placement.specs.FiniteMap.{fields_at, put_in, mapped_pages}
use Rattle.register_words.specs.Sdr1.{origin_of, mask_ones}
use Rattle.groups.specs.declared.Page.{Page}
use Rattle.groups.specs.Page.{InRange, same_page}
use Rattle.theory_calls.specs.Made.{fed_answered}
use Rattle.theory_calls.specs.Request.{MapCall, AnsweredCall, ProtectCall, Request, map_page, unmap, protect, look, fed, sdr1_in}
use Rattle.theory_calls.specs.Rules.{refusal}
use Rattle.theory_calls.specs.OnBytes.{Ended, ended, by_option}
use Rattle.theory_calls.specs.OnMap.{PageFields, Map, Arranged, arranged?, map_does}
use Rattle.theory_calls.specs.Represents.{TableRepresents}
use Rattle.theory_calls.proofs.Rules as rules
use Rattle.theory_calls.proofs.Rules.{Fitting}
use Rattle.theory_calls.proofs.FirstClear.{start_done, done_fits, cleared_represents, done_made, done_starts}
use Rattle.theory_calls.proofs.Histories.{done_plain}
use Rattle.theory_cache.proofs.Found.{by_cases}
use Rattle.theory_histories.specs.Calls.{Call, rights, on_lent, calling, brought_in}
use Rattle.theory_histories.specs.Discipline.{Disciplined, filled}
use Rattle.theory_histories.specs.Histories.{own_call, History, own, begun, state_after, map_after, CacheKept}
use Rattle.theory_histories.specs.Theorem.{next_number, mapped_to, ArrangedWith, MapInRange, MappedAnswers, TableRefinesMap, RightsFollowHistory}
use Rattle.theory_histories.specs.Invisible.{zero_cache, none_waits, CacheInvisible}
use Rattle.theory_histories.proofs.Acts.{has}
use Rattle.theory_histories.proofs.Invisible.{Sound, all_alike, filled_sound, zeros_sound}
use Rattle.theory_histories.proofs.Along.{Linked, GoesAlong, along, steps}
use Rattle.theory_histories.proofs.Standing.{has_page, Standing, runs_pages, runs_stand}

module _ (h : History) where
  -- the ones of the history's mask
  abbrev pub ones : ℕ
  ones = mask_ones h.sdr1

  pub fits : Fitting h.sdr1 (own h).table
  fits = done_fits h.sdr1 h.start.table h.clear_done

  first_represents : TableRepresents ones (begun h).table []
  first_represents = cleared_represents h.sdr1 h.start.table h.clear_done

  -- ---- where the cache is kept

  abbrev pub Joined : Type 0
  Joined = Linked h.sdr1 (own h) fits.shape fits.long (begun h) [] (filled h.start.cache)

  pub begins : Joined
  begins = record { sound = filled_sound ones (begun h).table h.start.cache first_represents.good; size = refl; related = first_represents }

  -- the calls of the history, and those of a longer list that are left
  pub all_along : (rest : List Call) → Disciplined (h.calls ++ rest) (begun h) (filled h.start.cache)
      → GoesAlong h.sdr1 (own h) fits.shape fits.long h.calls rest (begun h) []
  all_along rest kept = along h.sdr1 (own h) fits.shape fits.long h.calls rest h.under (begun h) [] (filled h.start.cache) begins kept

  nothing_left : CacheKept h → GoesAlong h.sdr1 (own h) fits.shape fits.long h.calls [] (begun h) []
  nothing_left kept = all_along [] (subst (λ (calls : List Call). Disciplined calls (begun h) (filled h.start.cache)) (sym (append-nil h.calls)) kept)

  -- ---- whatever the cache holds: a map with the pages of the finite map

  stands : Standing h.sdr1 (own h) fits.shape fits.long (state_after h).table (mapped_pages (map_after h))
  stands =
      rw (runs_pages h.sdr1 (own h) fits.shape fits.long h.calls h.under [])
      (runs_stand h.sdr1 (own h) fits.shape fits.long h.calls h.under (begun h) [] refl ([], first_represents, refl))

  abbrev some_map : Map
  some_map = stands.0

  related : TableRepresents ones (state_after h).table some_map
  related = stands.1

  same_pages : mapped_pages some_map ≡ mapped_pages (map_after h)
  same_pages = stands.2

  same_has : (page : Page) → by_option (fields_at same_page page some_map) false (λ f. true) ≡ by_option (mapped_to h page) false (λ f. true)
  same_has page = sym (has_page page some_map) ∙ ap (has same_page page) same_pages ∙ has_page page (map_after h)

  also_none : (page : Page) → mapped_to h page ≡ none → fields_at same_page page some_map ≡ none
  also_none page e =
      by_cases (fields_at same_page page some_map) (λ n. n)
      (λ f is. absurd (true≢false (ap (λ (o : Option PageFields). by_option o false (λ g. true)) (sym is) ∙ same_has page ∙ ap (λ (o : Option PageFields). by_option o false (λ g. true)) e)))

  also_some : (page : Page) (f : PageFields) → mapped_to h page ≡ some f → (g : PageFields) × (fields_at same_page page some_map ≡ some g)
  also_some page f e =
      by_cases (fields_at same_page page some_map)
      (λ n. absurd (true≢false (sym (ap (λ (o : Option PageFields). by_option o false (λ g. true)) (sym n) ∙ same_has page ∙ ap (λ (o : Option PageFields). by_option o false (λ g. true)) e))))
      (λ g is. (g, is))

  -- a request under the SDR1 that is not refused answers as that map
  map_number : (request : Request (List ℕ)) → sdr1_in request ≡ h.sdr1 → refusal (fed request) (own h).table ≡ 0
      → next_number h request ≡ (map_does ones (fed request) some_map).number
  unfolding calling on_lent
  map_number request same e = (done_plain h.sdr1 (own h).table fits.shape fits.long request (state_after h).table some_map related same e).number

  -- a map in range is not refused by its arguments
  in_range_taken : (c : MapCall) → MapInRange h c → refusal (map_page c) (own h).table ≡ 0
  in_range_taken c a =
      rules.map_taken c (own h).table (subst (λ (s : ℕ). Fitting s (own h).table) (sym a.same_sdr1) fits)
      (record { vsid_lt = a.vsid_lt; index_lt = a.index_lt }) a.rpn_lt a.wimg_lt a.not_both a.pp_lt

  unmapped_answers : (c : MapCall) → MapInRange h c → mapped_to h c.page ≡ none
      → (ArrangedWith h c.page → next_number h (map_page c) ≡ 0) × ((ArrangedWith h c.page → ⊥) → next_number h (map_page c) ≡ 9)
  unfolding sdr1_in fed map_does
  unmapped_answers c a e =
      let m = some_map in
      let new : PageFields = record { frame = c.rpn; attributes = c.wimg; protection = c.pp; referenced = false; changed = false } in
      let d = arranged? ones (c.page ∷ mapped_pages m) in
      let placed = ended 0 (put_in c.page new m) [] in
      let full = ended 9 m [] in
      let number : next_number h (map_page c) ≡ (ite d placed full).number =
      map_number (map_page c) a.same_sdr1 (in_range_taken c a)
      ∙ ap (λ (found : Option PageFields). (by_option found (ite d placed full) (λ f. ended 7 m [])).number) (also_none c.page e) in
      let there : ArrangedWith h c.page → Arranged ones (c.page ∷ mapped_pages m) = subst (λ (l : List Page). Arranged ones (c.page ∷ l)) (sym same_pages) in
      let back : Arranged ones (c.page ∷ mapped_pages m) → ArrangedWith h c.page = subst (λ (l : List Page). Arranged ones (c.page ∷ l)) same_pages in (
        (λ yes. number ∙ ap (λ (x : Ended Map). x.number) (if_pos d (there yes) placed full)),
        (λ n. number ∙ ap (λ (x : Ended Map). x.number) (if_neg d (λ y. n (back y)) placed full)),
      )

  -- a page that is mapped
  module _ (page : Page) (f : PageFields) (e : mapped_to h page ≡ some f) where
    valid : InRange page
    valid = let (g, is) = also_some page f e in (related.valid page g is).0

    map_7 : (c : MapCall) → MapInRange h c → c.page ≡ page → next_number h (map_page c) ≡ 7
    unfolding sdr1_in fed map_does
    map_7 c a is =
        let (g, there) = also_some page f e in
        let here : fields_at same_page c.page some_map ≡ some g = ap (λ (p : Page). fields_at same_page p some_map) is ∙ there in
        map_number (map_page c) a.same_sdr1 (in_range_taken c a) ∙ (rw here)

    unmap_0 : (answer : List ℕ) → length answer ≡ 16 → next_number h (unmap (record { sdr1 = h.sdr1; page = page; answer = answer })) ≡ 0
    unfolding sdr1_in fed map_does
    unmap_0 answer l =
        let c : AnsweredCall (List ℕ) = record { sdr1 = h.sdr1; page = page; answer = answer } in
        map_number (unmap c) refl (rules.unmap_taken (fed_answered c) (own h).table fits valid l) ∙ (rw (also_some page f e).1)

    protect_0 : (pp : ℕ) → pp < 4 → next_number h (protect (record { sdr1 = h.sdr1; page = page; pp = pp })) ≡ 0
    unfolding sdr1_in fed map_does
    protect_0 pp l =
        let c : ProtectCall = record { sdr1 = h.sdr1; page = page; pp = pp } in
        map_number (protect c) refl (rules.protect_taken c (own h).table fits valid l) ∙ (rw (also_some page f e).1)

    look_0 : (answer : List ℕ) → length answer ≡ 16 → next_number h (look (record { sdr1 = h.sdr1; page = page; answer = answer })) ≡ 0
    unfolding sdr1_in fed map_does
    look_0 answer l =
        let c : AnsweredCall (List ℕ) = record { sdr1 = h.sdr1; page = page; answer = answer } in
        map_number (look c) refl (rules.look_taken (fed_answered c) (own h).table fits valid l) ∙ (rw (also_some page f e).1)

    mapped_answers : MappedAnswers h page
    mapped_answers = record { map_refused = map_7; unmap_done = unmap_0; protect_done = protect_0; look_done = look_0 }

pub table_refines_map : TableRefinesMap
table_refines_map = record {
  clear_done = start_done;
  only_these = λ sdr1 t lt was_done. (origin_of sdr1, mask_ones sdr1, done_made sdr1 t was_done lt, done_starts sdr1 t was_done);
  answers = λ h kept. (nothing_left h kept).told;
  not_mapped = unmapped_answers;
  mapped = mapped_answers;
}

-- the cache's own statement: a cache of zeros is sound where no set waits
pub cache_invisible : CacheInvisible
cache_invisible = record {
  alike = λ k s good calls kept. all_alike calls k _ s.table s.cache s.cache (filled s.cache) (filled_sound k s.table s.cache good) refl refl kept;
  from_zeros = λ k table good calls kept. all_alike calls k _ table zero_cache zero_cache none_waits (zeros_sound k table good) refl refl kept;
  answers_from_zeros = λ h zeros kept.
      let sound = subst (λ (cache : List ℕ). Sound (ones h) (begun h).table cache none_waits) (sym zeros) (zeros_sound (ones h) (begun h).table (first_represents h).good) in
      (along h.sdr1 (own h) (fits h).shape (fits h).long h.calls [] h.under (begun h) [] none_waits
      (record { sound = sound; size = refl; related = first_represents h })
      (subst (λ (calls : List Call). Disciplined calls (begun h) none_waits) (sym (append-nil h.calls)) kept)).told;
}

pub rights_follow_history : RightsFollowHistory
unfolding brought_in
rights_follow_history h kept c answer same =
    let all = nothing_left h kept in
    (steps h.sdr1 (own h) (fits h).shape (fits h).long (own_call (rights c answer)) (state_after h) (map_after h)
    (inr (λ brought is. (sym (some_inj.0 is) ∙ same, λ other none-there. absurd (some-ne-none other (sym none-there)))))
    all.waits all.linked (λ a is. absurd (let z : ◌≡◌ {A = ℕ} 0 1 = cc in omega arith))).told
