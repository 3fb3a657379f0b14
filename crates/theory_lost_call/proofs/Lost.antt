-- Request 8's statement: a call does one of four acts to the list of mapped pages, on the finite map and on a table that represents some map with these
-- pages; so two lists of calls that differ in one act come to two lists of pages that differ by at most one page each way.
use Prim.Native.Nat.{ℕ, ◌+◌, ◌^◌}
use mathlib.Core.Path.{◌≡◌, refl, sym, ap, ◌∙◌, subst}
use mathlib.Core.Bool.{Bool, true, false, cond}
use mathlib.Core.List.{List, [], ◌∷◌, ◌++◌, map, map-append}
use mathlib.Core.Logic.{◌⊎◌, inl, inr}
use mathlib.Core.Option.{Option, none, some}
use native.Mathlib.Omega.{arith}
use lib.Dec.{eqb}
use lib.ListN.{length, replicate}
use borrow.Author.Tests.{eq-eqb}
use Rattle.words.proofs.Tests.{by_test}
use Rattle.numbers.specs.Numbers.{group_entries}
use Rattle.theory_placement.specs.FiniteMap.{fields_at}
use Rattle.register_words.specs.Sdr1.{sdr1_shape, table_length, mask_ones}
use Rattle.theory_tables.specs.Runs.{Each}
use Rattle.theory_tables.proofs.Runs.{each_append}
use Rattle.groups.specs.declared.Page.{Page}
use Rattle.groups.specs.Page.{same_page}
use Rattle.groups.specs.Hash.{group_number}
use Rattle.groups.proofs.Hash.{group_mirror, same_page_refl, same_page_eq}
use Rattle.theory_calls.specs.Request.{Request, look, fed, sdr1_in}
use Rattle.theory_calls.specs.Rules.{page_in_range, rules, refusal}
use Rattle.theory_calls.specs.Answers.{word_answer}
use Rattle.theory_calls.specs.OnBytes.{Ended, ended, by_option, on_bytes}
use Rattle.theory_calls.specs.OnMap.{PageFields, Map, fields_word, arranged?, map_does}
use Rattle.theory_calls.proofs.Rules.{Fitting}
use Rattle.theory_calls.proofs.FirstClear.{cleared_represents}
use Rattle.theory_calls.proofs.OnBytes.{refused}
use Rattle.theory_calls.proofs.OnBytes as on-bytes
use Rattle.theory_calls.proofs.Step.{step}
use Rattle.theory_histories.specs.Calls.{Asked, plain, Slices, Call, lent_lengths, Under}
use Rattle.theory_histories.specs.Histories.{History, own, begun}
use Rattle.theory_histories.proofs.Acts.{leave, has}
use Rattle.theory_histories.proofs.Standing.{does, has_page, act_in, act_of, pages_by, Standing, size_of, runs_pages, runs_stand}
use Rattle.theory_histories.proofs.Theorem.{fits}
use Rattle.theory_lost_call.specs.Lost.{MapOrUnmap, a_map, an_unmap, LostCall, lacking, map_after_run, table_after_run, looked_up, OneLostCall, Mapped, AtMostOneMore}
use Rattle.theory_lost_call.proofs.Domain.{AtMostOne, NotEmpty, one_lost}

-- ---- a look at a table that represents some map with these pages

module _ (sdr1 : ℕ) (own : Slices ℕ) (shape : sdr1_shape sdr1 ≡ true) (long : own.table ≡ table_length sdr1) where
  abbrev k : ℕ
  k = mask_ones sdr1

  module _ (page : Page) where
    abbrev asked : Request (List ℕ)
    asked = look (record { sdr1 = sdr1; page = page; answer = replicate 16 0 })

    -- in range it is not refused by its arguments, else it is refused 6
    look_refusal : (lent : ℕ) → lent ≡ own.table → (refusal (fed asked) lent ≡ 0) ⊎ (refusal (fed asked) lent ≡ 6)
    unfolding fed refusal rules
    look_refusal lent e = by_test (page_in_range page) (λ y. inl (rw (y, shape, eq-eqb lent (table_length sdr1) (e ∙ long)))) (λ n. inr (rw n))

    found_by_law : (o : Option PageFields) → (by_option {X = ℕ} o 8 (λ f. 0) ≡ 0 → by_option o false (λ f. true) ≡ true) × (by_option {X = ℕ} o 8 (λ f. 0) ≡ 8 → by_option o false (λ f. true) ≡ false)
    found_by_law none = ((λ z. absurd (omega arith)), (λ z. refl))
    found_by_law (some f) = ((λ z. refl), (λ z. absurd (omega arith)))

    look_number : (m : Map) → (map_does k (fed asked) m).number ≡ by_option (fields_at same_page page m) 8 (λ f. 0)
    unfolding fed map_does
    look_number m = go (fields_at same_page page m)
      where
        go : (o : Option PageFields) → (by_option o (ended 8 m (word_answer 8 0)) (λ f. ended 0 m (word_answer 0 (fields_word f)))).number ≡ by_option o 8 (λ f. 0)
        go none = refl
        go (some f) = refl

    looked : (t : List ℕ) (l : List Page) → Standing sdr1 own shape long t l → ((on_bytes asked t).number ≡ 0 → has same_page page l ≡ true) × ((on_bytes asked t).number ≡ 8 → has same_page page l ≡ false)
    unfolding sdr1_in
    looked t l (m, r, pages) = go (look_refusal (length t) (size_of sdr1 own shape long t l (m, r, pages)))
      where
        go : (refusal (fed asked) (length t) ≡ 0) ⊎ (refusal (fed asked) (length t) ≡ 6)
            → ((on_bytes asked t).number ≡ 0 → has same_page page l ≡ true) × ((on_bytes asked t).number ≡ 8 → has same_page page l ≡ false)
        go (inl zero) =
            let number : (on_bytes asked t).number ≡ by_option (fields_at same_page page m) 8 (λ f. 0)
            = ap (λ (e : Ended (List ℕ)). e.number) (on-bytes.taken asked t zero) ∙ (step k t m r asked (length t) zero).number ∙ look_number m in
            let here : has same_page page l ≡ by_option (fields_at same_page page m) false (λ f. true) = ap (has same_page page) (sym pages) ∙ has_page page m in
            let (yes-there, not_there) = found_by_law (fields_at same_page page m) in
            ((λ z. here ∙ yes-there (sym number ∙ z)), (λ z. here ∙ not_there (sym number ∙ z)))
        go (inr six) =
            let number : (on_bytes asked t).number ≡ 6 = ap (λ (e : Ended (List ℕ)). e.number) (refused asked t 6 six (λ z. omega arith)) in
            ((λ z. absurd (let q : ◌≡◌ {A = ℕ} 6 0 = sym number ∙ z in omega arith)), (λ z. absurd (let q : ◌≡◌ {A = ℕ} 6 8 = sym number ∙ z in omega arith)))

-- ---- the statement

-- a lost call does not clear
lost_act : (t : Bool) (request : Request (List ℕ)) → MapOrUnmap request → NotEmpty (cond t (does (fed request)) leave)
unfolding does fed
lost_act true request (a_map c) = tt
lost_act true request (an_unmap c) = tt
lost_act false request may = tt

lost_acts : (asked : Asked (List ℕ)) (request : Request (List ℕ)) → asked ≡ plain request → MapOrUnmap request → (lent : ℕ) → NotEmpty (act_in asked lent)
lost_acts asked request is may lent =
    subst (λ (a : Asked (List ℕ)). NotEmpty (act_in a lent)) (sym is) (lost_act (eqb (refusal (fed request) lent) 0) request may)

module _ (h : LostCall) where
  abbrev one : History
  one = h.history

  fit : Fitting one.sdr1 (own one).table
  fit = fits one

  abbrev ones : ℕ
  ones = mask_ones one.sdr1

  abbrev Fine : List Call → Type 0
  Fine calls = Each (Under one.sdr1 (own one)) calls

  abbrev pages_after : List Call → List Page
  pages_after calls = pages_by one.sdr1 (own one) fit.shape fit.long calls []

  -- the calls of the list that lacks one are under the SDR1 too
  each_lacking : Fine (lacking h)
  each_lacking =
      let parts = subst Fine h.whole one.under in
      let (before, rest) = (each_append (Under one.sdr1 (own one)) h.before (h.lost ∷ h.behind)).0 parts in
      (each_append (Under one.sdr1 (own one)) h.before h.behind).1 (before, rest.1)

  abbrev Differ : List Call → Type 0
  Differ calls = AtMostOne same_page (pages_after calls) (pages_after (lacking h)) × AtMostOne same_page (pages_after (lacking h)) (pages_after calls)

  parts_differ : Differ (h.before ++ h.lost ∷ h.behind)
  parts_differ =
      let act = act_of (own one) in
      rw (map-append act h.before (h.lost ∷ h.behind), map-append act h.before h.behind)
      (one_lost same_page same_page_refl same_page_eq (group_number (10 + ones)) group_entries (2 ^ (9 + ones)) (group_mirror ones) (arranged? ones)
      (map act h.before) (map act h.behind) (act h.lost)
      (lost_acts h.lost.asked h.request h.asks h.may_be_lost (lent_lengths (own one) h.lost).table))

  differ : Differ one.calls
  differ = subst Differ (sym h.whole) parts_differ

  -- the finite maps
  map_has : (calls : List Call) → Fine calls → (page : Page)
      → has same_page page (pages_after calls) ≡ by_option (fields_at same_page page (map_after_run h calls)) false (λ f. true)
  map_has calls each page =
      ap (has same_page page) (sym (runs_pages one.sdr1 (own one) fit.shape fit.long calls each [])) ∙ has_page page (map_after_run h calls)

  mapped_has : (calls : List Call) → Fine calls → (page : Page) → Mapped (map_after_run h calls) page → has same_page page (pages_after calls) ≡ true
  mapped_has calls each page (f, e) = map_has calls each page ∙ ap (λ (o : Option PageFields). by_option o false (λ g. true)) e

  lacks_not : (calls : List Call) → Fine calls → (page : Page) → (Mapped (map_after_run h calls) page → ⊥) → has same_page page (pages_after calls) ≡ false
  lacks_not calls each page missing = map_has calls each page ∙ go (fields_at same_page page (map_after_run h calls)) refl
    where
      go : (o : Option PageFields) → fields_at same_page page (map_after_run h calls) ≡ o → by_option o false (λ f. true) ≡ false
      go none e = refl
      go (some f) e = absurd (missing (f, e))

  maps_differ : (here there : List Call) → Fine here → Fine there → AtMostOne same_page (pages_after here) (pages_after there)
      → AtMostOneMore (Mapped (map_after_run h here)) (λ page. Mapped (map_after_run h there) page → ⊥)
  maps_differ here there a b most p q hp mp hq mq = most p q (mapped_has here a p hp) (lacks_not there b p mp) (mapped_has here a q hq) (lacks_not there b q mq)

  -- the tables
  stands : (calls : List Call) → Fine calls → Standing one.sdr1 (own one) fit.shape fit.long (table_after_run h calls) (pages_after calls)
  stands calls each =
      runs_stand one.sdr1 (own one) fit.shape fit.long calls each (begun one) [] refl ([], cleared_represents one.sdr1 one.start.table one.clear_done, refl)

  found : (calls : List Call) → Fine calls → (page : Page)
      → (looked_up h (table_after_run h calls) page ≡ 0 → has same_page page (pages_after calls) ≡ true)
      × (looked_up h (table_after_run h calls) page ≡ 8 → has same_page page (pages_after calls) ≡ false)
  found calls each page = looked one.sdr1 (own one) fit.shape fit.long page (table_after_run h calls) (pages_after calls) (stands calls each)

  tables_differ : (here there : List Call) → Fine here → Fine there → AtMostOne same_page (pages_after here) (pages_after there)
      → AtMostOneMore (λ page. looked_up h (table_after_run h here) page ≡ 0) (λ page. looked_up h (table_after_run h there) page ≡ 8)
  tables_differ here there a b most p q hp mp hq mq =
      most p q ((found here a p).0 hp) ((found there b p).1 mp) ((found here a q).0 hq) ((found there b q).1 mq)

pub one_lost_call : OneLostCall
one_lost_call = record {
  maps = λ h. let calls = h.history.calls in
      (maps_differ h calls (lacking h) h.history.under (each_lacking h) (differ h).0, maps_differ h (lacking h) calls (each_lacking h) h.history.under (differ h).1);
  tables = λ h. let calls = h.history.calls in
      (tables_differ h calls (lacking h) h.history.under (each_lacking h) (differ h).0, tables_differ h (lacking h) calls (each_lacking h) h.history.under (differ h).1);
}
