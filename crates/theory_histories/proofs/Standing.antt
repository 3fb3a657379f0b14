-- Which pages are mapped goes by the calls' arguments alone: a call does to the list of mapped pages one of four acts, on the finite map and on a table that
-- represents some map with these pages. Marks do not count, so nothing is asked of the cache.
--   does: what a request does to the mapped pages: empty, insert, delete or leave
--   act_in, act_of: what a call of a list does to them, refused or not, by the lengths of what it is lent
--   pages_by: the mapped pages after a list of calls
--   has_page: a page is among the mapped pages exactly where the map has fields for it
--   runs_pages: the finite map has the pages of pages_by after the calls
--   Standing: the table represents some map with these pages; size_of: such a table has the length of the history's own
--   runs_stand: after the calls the table represents some map with the pages of pages_by
use Prim.Native.Nat.{ℕ, ◌+◌}
use mathlib.Core.Path.{◌≡◌, refl, sym, ap, ◌∙◌}
use mathlib.Core.Bool.{Bool, true, false, not, cond, ◌||◌, true≢false}
use mathlib.Core.List.{List, [], ◌∷◌, map}
use mathlib.Core.Logic.{ite, inl, inr}
use mathlib.Core.Option.{Option, none, some}
use native.Mathlib.Omega.{arith}
use lib.Dec.{eqb}
use lib.ListN.{length}
use borrow.Author.Tests.{eqb-true, eqb-false}
use Rattle.words.proofs.Tests.{by_test}
use Rattle.numbers.specs.Numbers.{group_entries}
use Rattle.theory_placement.specs.FiniteMap.{fields_at, take_out, revise, put_in, mapped_pages}
use Rattle.theory_placement.proofs.FiniteMap.{mapped_pages_take_out, mapped_pages_revise}
use Rattle.register_words.specs.Sdr1.{sdr1_shape, table_length, mask_ones}
use Rattle.theory_tables.specs.Runs.{after, Each}
use Rattle.groups.specs.declared.Page.{Page}
use Rattle.groups.specs.Page.{same_page}
use Rattle.groups.specs.Hash.{group_number}
use Rattle.protection.specs.Access.{storing}
use Rattle.translation.specs.Operand.{over_edge}
use Rattle.translation.specs.declared.Early.{Early}
use Rattle.translation.specs.declared.Early.TheVariants.{Decided, Search}
use Rattle.theory_calls.specs.Request.{AccessCall, Request, clear, map_page, unmap, protect, look, access, fed, sdr1_in}
use Rattle.theory_calls.specs.Made.{fed_access}
use Rattle.theory_calls.specs.Rules.{refusal}
use Rattle.theory_calls.specs.Answers.{word_answer}
use Rattle.theory_calls.specs.OnBytes.{ended, by_option, whole_answer, early_of, wanted_page, on_bytes}
use Rattle.theory_calls.specs.OnMap.{PageFields, Map, mark_fields, protect_fields, fields_word, Arranged, arranged?, found_in, map_marked, map_does, on_map}
use Rattle.theory_calls.specs.Represents.{TableRepresents}
use Rattle.theory_calls.proofs.Histories.{map_taken, map_refused, sdr1_fed, size_is}
use Rattle.theory_calls.proofs.Step.{part_marks}
use Rattle.theory_cache.specs.Cached.{cached_search, cached_place, missed, taken, taken_part, cached_does, cached_refusal, on_cached}
use Rattle.theory_cache.proofs.AnyCache.{by_refusal}
use Rattle.theory_histories.specs.Calls.{Asked, plain, cached, invalidate, rights, Slices, slices, Call, State, on_lent, lent_for, left_for, calling, lent_lengths, refusal_of, brought_in, Under}
use Rattle.theory_histories.specs.Fed.{fed_asked, fed_of, map_calling, bytes_step, map_step}
use Rattle.theory_histories.proofs.Acts.{Act, leave, empty, insert, delete, has, act, acts}
use Rattle.theory_histories.proofs.Invisible.{length_left, length_lent, left_lent}
use Rattle.theory_histories.proofs.Follows.{table_follows}
use Rattle.theory_histories.proofs.Along.{under_brings}

-- ---- what a call does to the pages that are mapped

unfoldable pub does : Request ℕ → Act Page
does (clear c) = empty
does (map_page c) = insert c.page
does (unmap c) = delete c.page
does (protect c) = leave
does (look c) = leave
does (access c) = leave

-- the pages after an act, for a mask of k ones
abbrev pub acting : ℕ → Act Page → List Page → List Page
acting k = act same_page (group_number (10 + k)) group_entries (arranged? k)

pub has_page : (page : Page) (m : Map) → has same_page page (mapped_pages m) ≡ by_option (fields_at same_page page m) false (λ f. true)
has_page page [] = refl
has_page page (x ∷ m) = go (same_page page x.0) (has_page page m)
  where
    go : (t : Bool) → has same_page page (mapped_pages m) ≡ by_option (fields_at same_page page m) false (λ f. true)
        → (t || has same_page page (mapped_pages m)) ≡ by_option (cond t (some x.1) (fields_at same_page page m)) false (λ f. true)
    go true i = refl
    go false i = i

-- a page that is not mapped
absent : (page : Page) (l : List Page) → has same_page page l ≡ false → acting 0 (delete page) l ≡ l
absent page [] e = refl
absent page (x ∷ l) e = go (same_page page x) e (λ q. absent page l q)
  where
    go : (t : Bool) → (t || has same_page page l) ≡ false → (has same_page page l ≡ false → acting 0 (delete page) l ≡ l)
        → cond (not t) (x ∷ acting 0 (delete page) l) (acting 0 (delete page) l) ≡ x ∷ l
    go true a k = absurd (true≢false a)
    go false a k = ap (λ (y : List Page). x ∷ y) (k a)

-- marks leave the pages
marked_pages : (kind : ℕ) (early : Early) (result : ℕ) (m : Map) → mapped_pages (map_marked kind early result m) ≡ mapped_pages m
unfolding map_marked
marked_pages kind (Decided outcome) result m = refl
marked_pages kind (Search wanted) result m = go (eqb result 0)
  where
    go : (t : Bool) → mapped_pages (cond t (revise same_page (wanted_page wanted) (mark_fields (storing kind)) m) m) ≡ mapped_pages m
    go true = mapped_pages_revise same_page (wanted_page wanted) (mark_fields (storing kind)) m
    go false = refl

-- a call on the finite map that its arguments do not refuse
pages_do : (k : ℕ) (request : Request ℕ) (m : Map) → mapped_pages (map_does k request m).state ≡ acting k (does request) (mapped_pages m)
unfolding map_does does
pages_do k (clear c) m = refl
pages_do k (map_page c) m = rw (has_page c.page m) (go (fields_at same_page c.page m) (arranged? k (c.page ∷ mapped_pages m)))
  where
    new : PageFields
    new = record { frame = c.rpn; attributes = c.wimg; protection = c.pp; referenced = false; changed = false }

    go : (o : Option PageFields) (d : Dec (Arranged k (c.page ∷ mapped_pages m)))
        → mapped_pages (by_option o (ite d (ended 0 (put_in c.page new m) []) (ended 9 m [])) (λ f. ended 7 m [])).state
        ≡ cond (by_option o false (λ f. true)) (mapped_pages m) (ite d (c.page ∷ mapped_pages m) (mapped_pages m))
    go none (yes a) = refl
    go none (no a) = refl
    go (some f) d = refl
pages_do k (unmap c) m = go (fields_at same_page c.page m) refl
  where
    go : (o : Option PageFields) → fields_at same_page c.page m ≡ o
        → mapped_pages (by_option o (ended 8 m (word_answer 8 0)) (λ f. ended 0 (take_out same_page c.page m) (word_answer 0 (fields_word f)))).state
        ≡ acting k (delete c.page) (mapped_pages m)
    go none e = sym (absent c.page (mapped_pages m) (has_page c.page m ∙ ap (λ (o : Option PageFields). by_option o false (λ f. true)) e))
    go (some f) e = mapped_pages_take_out same_page c.page m
pages_do k (protect c) m = go (fields_at same_page c.page m)
  where
    go : (o : Option PageFields)
        → mapped_pages (by_option o (ended 8 m []) (λ f. ended 0 (revise same_page c.page (protect_fields c.pp) m) [])).state ≡ mapped_pages m
    go none = refl
    go (some f) = mapped_pages_revise same_page c.page (protect_fields c.pp) m
pages_do k (look c) m = go (fields_at same_page c.page m)
  where
    go : (o : Option PageFields) → mapped_pages (by_option o (ended 8 m (word_answer 8 0)) (λ f. ended 0 m (word_answer 0 (fields_word f)))).state ≡ mapped_pages m
    go none = refl
    go (some f) = refl
pages_do k (access c) m =
    let result = (whole_answer c (λ wanted. found_in m (wanted_page wanted)) (λ wanted. (0, 0))).part.result in
    let one = marked_pages c.kind (early_of c false) result m in
    by_test (over_edge c.address c.length)
    (λ over. rw over (marked_pages c.kind (early_of c true) result (map_marked c.kind (early_of c false) result m) ∙ one)) (λ alone. rw alone one)

-- a request on the map, refused or not
on_map_pages : (request : Request ℕ) (lent : ℕ) (m : Map)
    → mapped_pages (on_map request lent m).state ≡ acting (mask_ones (sdr1_in request)) (cond (eqb (refusal request lent) 0) (does request) leave) (mapped_pages m)
on_map_pages request lent m =
    by_test (eqb (refusal request lent) 0)
    (λ z. rw (z, map_taken request lent m (eqb-true (refusal request lent) 0 z)) (pages_do (mask_ones (sdr1_in request)) request m))
    (λ z. rw (z, map_refused request lent m (refusal request lent) refl (eqb-false (refusal request lent) 0 z)))

-- an access leaves the pages
access_pages : (c : AccessCall ℕ) (lent : ℕ) (m : Map) → mapped_pages (on_map (access c) lent m).state ≡ mapped_pages m
unfolding does
access_pages c lent m = on_map_pages (access c) lent m ∙ leaves (eqb (refusal (access c) lent) 0)
  where
    leaves : (t : Bool) → acting (mask_ones (sdr1_in (access c))) (cond t leave leave) (mapped_pages m) ≡ mapped_pages m
    leaves true = refl
    leaves false = refl

-- what a call of the list does, by the length of what it is lent as the table
abbrev pub act_in : Asked (List ℕ) → ℕ → Act Page
act_in (plain request) lent = cond (eqb (refusal (fed request) lent) 0) (does (fed request)) leave
act_in (cached c) lent = leave
act_in (invalidate index) lent = leave
act_in (rights c answer) lent = leave

abbrev pub act_of : Slices ℕ → Call → Act Page
act_of own c = act_in c.asked (lent_lengths own c).table

module _ (sdr1 : ℕ) (own : Slices ℕ) (shape : sdr1_shape sdr1 ≡ true) (long : own.table ≡ table_length sdr1) where
  abbrev k : ℕ
  k = mask_ones sdr1

  abbrev pub pages_by : List Call → List Page → List Page
  pages_by calls l = acts same_page (group_number (10 + k)) group_entries (arranged? k) (map (act_of own) calls) l

  -- ---- the finite map

  request_pages : (request : Request (List ℕ)) (lent : ℕ) (m : Map) → (refusal (fed request) lent ≡ 0 → sdr1_in request ≡ sdr1)
      → mapped_pages (on_map (fed request) lent m).state ≡ acting k (act_in (plain request) lent) (mapped_pages m)
  request_pages request lent m brings = on_map_pages (fed request) lent m ∙ go (eqb (refusal (fed request) lent) 0) refl
    where
      go : (t : Bool) → eqb (refusal (fed request) lent) 0 ≡ t
          → acting (mask_ones (sdr1_in (fed request))) (cond t (does (fed request)) leave) (mapped_pages m) ≡ acting k (cond t (does (fed request)) leave) (mapped_pages m)
      go true z = ap (λ (n : ℕ). acting (mask_ones n) (does (fed request)) (mapped_pages m)) (sdr1_fed request ∙ brings (eqb-true (refusal (fed request) lent) 0 z))
      go false z = refl

  -- a call under the SDR1 that is not refused brings it
  plain_brings : (c : Call) → Under sdr1 own c → (request : Request (List ℕ)) → c.asked ≡ plain request → refusal (fed request) (lent_lengths own c).table ≡ 0 → sdr1_in request ≡ sdr1
  unfolding refusal_of brought_in
  plain_brings c under request is zero =
      (under_brings sdr1 own shape long c under request (rw is)
      (λ z eleven. let q : ◌≡◌ {A = ℕ} 0 11 = sym z ∙ (rw is at eleven) in omega arith) zero).0

  map_pages : (c : Call) → Under sdr1 own c → (m : Map) → mapped_pages (map_step (fed_of own c) m).1 ≡ acting k (act_of own c) (mapped_pages m)
  unfolding map_step map_calling fed_asked
  map_pages c under m = go c.asked refl
    where
      go : (asked : Asked (List ℕ)) → c.asked ≡ asked
          → mapped_pages (map_calling (fed_asked asked) (lent_lengths own c) m).state ≡ acting k (act_in asked (lent_lengths own c).table) (mapped_pages m)
      go (plain request) is = request_pages request (lent_lengths own c).table m (plain_brings c under request is)
      go (cached a) is =
          by_test (eqb (lent_lengths own c).cache 2048) (λ z. rw z (access_pages (fed_access a) (lent_lengths own c).table m)) (λ z. rw z)
      go (invalidate index) is = refl
      go (rights a answer) is = refl

  pub runs_pages : (calls : List Call) → Each (Under sdr1 own) calls → (m : Map) → mapped_pages (after map_step (map (fed_of own) calls) m) ≡ pages_by calls (mapped_pages m)
  runs_pages [] each m = refl
  runs_pages (c ∷ calls) (under, each) m =
      runs_pages calls each (map_step (fed_of own c) m).1 ∙ ap (pages_by calls) (map_pages c under m)

  -- ---- tables

  -- a table that represents some map with these pages
  abbrev pub Standing : List ℕ → List Page → Type 0
  Standing t l = (m : Map) × TableRepresents k t m × (mapped_pages m ≡ l)

  pub size_of : (t : List ℕ) (l : List Page) → Standing t l → length t ≡ own.table
  size_of t l (m, r, pages) = size_is sdr1 own.table shape long t m r

  -- a part of an access with a cache marks its page's first match or nothing
  part_stands : (c : AccessCall (List ℕ)) (lent : List ℕ × List ℕ) (result : ℕ) (second : Bool) (left : List ℕ × List ℕ) (l : List Page) → Standing left.0 l
      → Standing (taken_part k c lent result second left).0 l
  unfolding taken_part taken
  part_stands c lent result second left l (m, r, pages) =
      by_test (missed k c.kind lent.0 lent.1 (early_of c second))
      (λ e. rw e (map_marked c.kind (early_of c second) result m, part_marks k left.0 m r c second result, marked_pages c.kind (early_of c second) result m ∙ pages))
      (λ e. rw e (m, r, pages))

  -- an access with a cache
  access_stands : (c : AccessCall (List ℕ)) (t cache : List ℕ) (l : List Page) → (cached_refusal c (length t) (length cache) ≡ 0 → mask_ones (sdr1_in (access c)) ≡ k) → Standing t l
      → Standing (on_cached c (t, cache)).state.0 l
  unfolding cached_does
  access_stands c t cache l is s =
      by_refusal c t cache (λ e. Standing e.state.0 l)
      (λ zero.
      rw (is zero)
      (let result = (whole_answer c (cached_search k c.kind t cache) (cached_place k c.kind t cache)).part.result in
      let one = part_stands c (t, cache) result false (t, cache) l s in
      by_test (over_edge c.address c.length)
      (λ over. rw over (part_stands c (t, cache) result true (taken_part k c (t, cache) result false (t, cache)) l one)) (λ alone. rw alone one)))
      (λ n. s)

  -- any call of the list
  module _ (t cache : List ℕ) (l : List Page) (size : length cache ≡ own.cache) (s : Standing t l) where
    plain_stands : (request : Request (List ℕ)) (o : Slices (Option (List ℕ))) → Under sdr1 own (record { asked = plain request; other = o })
        → Standing (left_for o.table t (on_bytes request (lent_for o.table t)).state) (acting k (act_in (plain request) (by_option o.table own.table length)) l)
    unfolding refusal_of brought_in
    plain_stands request o under =
        let (m, r, pages) = s in
        let lent = by_option o.table own.table length in
        let brings = under_brings sdr1 own shape long (record { asked = plain request; other = o }) under request refl
        (λ zero eleven. let z : ◌≡◌ {A = ℕ} 0 11 = sym zero ∙ eleven in omega arith) in (
          (on_map (fed request) lent m).state,
          (table_follows sdr1 own.table shape long request o.table t m r brings).related,
          request_pages request lent m (λ e. (brings e).0) ∙ ap (acting k (act_in (plain request) lent)) pages,
        )

    cached_stands : (c : AccessCall (List ℕ)) (o : Slices (Option (List ℕ))) → Under sdr1 own (record { asked = cached c; other = o })
        → Standing (left_for o.table t (on_cached c (lent_for o.table t, lent_for o.cache cache)).state.0) l
    unfolding refusal_of brought_in
    cached_stands c o under = go o.table under
      where
        go : (x : Option (List ℕ)) → Under sdr1 own (record { asked = cached c; other = slices x o.cache })
            → Standing (left_for x t (on_cached c (lent_for x t, lent_for o.cache cache)).state.0) l
        go (some slice) u = s
        go none u =
            access_stands c t (lent_for o.cache cache) l
            (λ zero.
            let lent : cached_refusal c own.table (by_option o.cache own.cache length) ≡ 0
            = ap (λ (n : ℕ). cached_refusal c n (by_option o.cache own.cache length)) (sym (size_of t l s))
            ∙ ap (cached_refusal c (length t)) (sym (length_lent o.cache cache ∙ ap (λ (n : ℕ). by_option o.cache n length) size)) ∙ zero in
            ap mask_ones (brought u lent)) s
          where
            brought : Under sdr1 own (record { asked = cached c; other = slices none o.cache })
                → cached_refusal c own.table (by_option o.cache own.cache length) ≡ 0 → sdr1_in (access c) ≡ sdr1
            brought (inl eleven) zero = absurd (let z : ◌≡◌ {A = ℕ} 0 11 = sym zero ∙ eleven in omega arith)
            brought (inr brings) zero = (brings (sdr1_in (access c)) refl).0

    call_stands : (asked : Asked (List ℕ)) (o : Slices (Option (List ℕ))) → Under sdr1 own (record { asked = asked; other = o })
        → Standing (calling (record { asked = asked; other = o }) (slices t cache)).state.table (acting k (act_in asked (by_option o.table own.table length)) l)
    unfolding calling on_lent
    call_stands (plain request) o under = plain_stands request o under
    call_stands (cached c) o under = cached_stands c o under
    call_stands (invalidate index) o under = rw (left_lent o.table t) s
    call_stands (rights c answer) o under = rw (left_lent o.table t) s

  pub runs_stand : (calls : List Call) → Each (Under sdr1 own) calls → (s : State) (l : List Page) → length s.cache ≡ own.cache → Standing s.table l
      → Standing (after bytes_step calls s).table (pages_by calls l)
  unfolding bytes_step
  runs_stand [] each s l size stands = stands
  runs_stand (c ∷ calls) (under, each) s l size stands =
      runs_stand calls each (calling c s).state (acting k (act_of own c) l) (length_left c s ∙ size)
      (call_stands s.table s.cache l size stands c.asked c.other under)
