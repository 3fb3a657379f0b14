-- What a done access loads into any cache: each part that goes to the table loads its page, with the words of its first match as the mark left them. The
-- pages of two parts lie in two sets, so the second part leaves what the first loaded.
use Prim.Native.Nat.{ℕ, ◌/◌, ◌%◌}
use mathlib.Core.Path.{◌≡◌, refl, sym, ap, ap₂, ◌∙◌, subst}
use mathlib.Core.Bool.{Bool, true, false, true≢false}
use mathlib.Core.List.{List, ◌∷◌}
use mathlib.Core.Option.{Option, none, some}
use lib.Dec.{eqb}
use lib.ListN.{length, get_or}
use Rattle.words.proofs.Tests.{by_test}
use Rattle.register_words.specs.Block.{bl_width}
use Rattle.registers.specs.Set.{block_pairs, register_words}
use Rattle.groups.specs.declared.Page.{Page}
use Rattle.groups.specs.Page.{same_page}
use Rattle.theory_tables.specs.Matches.{Match}
use Rattle.theory_tables.specs.Layout.{matches_of}
use Rattle.protection.specs.Access.{storing}
use Rattle.translation.specs.Steps.{outcome_of}
use Rattle.translation.specs.Operand.{over_edge}
use Rattle.translation.specs.declared.Early.TheVariants.{Search}
use Rattle.translation.specs.declared.Wanted.{Wanted}
use Rattle.translation.specs.declared.operand.OperandAnswer.{OperandAnswer}
use Rattle.translation.proofs.Parts.{next_low, parts_done}
use Rattle.cache.specs.Cache.{set_of, hit, load_place, loaded}
use Rattle.cache.specs.Placed.{Placed}
use Rattle.cache.proofs.Cache.{length_loaded}
use Rattle.cache.proofs.Hits.{same_placed, loaded_placed, loaded_found, loaded_bytes, loaded_apart}
use Rattle.theory_calls.specs.Request.{AccessCall}
use Rattle.theory_calls.specs.Rules.{on_long_page}
use Rattle.theory_calls.specs.OnBytes.{layout, by_option, start_of, early_of, part_answer, part_decision, whole_answer, each_part, wanted_page, search_in, marked_by}
use Rattle.theory_calls.specs.AnyTable.{first_here, second_here, FirstMatch, HasPart}
use Rattle.theory_calls.specs.Represents.{GoodTable}
use Rattle.theory_calls.proofs.Access.{by_early, wanted_valid}
use Rattle.theory_calls.proofs.AnyEntries.{by_matches_law, first_of_law}
use Rattle.theory_calls.proofs.TwoMarks.{wanted_index, pages_apart, apart_sym, own_match, mark_good, mark_leaves}
use Rattle.theory_cache.specs.Cached.{cached_search, cached_place, missed, loaded_by, taken, taken_part}
use Rattle.theory_cache.proofs.Found.{by_cases, Found, done_at, found_at, now, now_are, now_fits, now_fields}

-- a page is hit, with the words of its first match in the table, and is placed as by a load into a cache
pub record Stands (k : ℕ) (cache : List ℕ) (left : List ℕ × List ℕ) (page : Page) : Type 0 where
  pub x : Match
  pub xs : List Match
  pub are : matches_of (layout k) left.0 page ≡ x ∷ xs
  pub hits : hit false left.1 page ≡ some (x.first, x.second)
  pub placed : Placed page (load_place cache page) cache left.1

-- the first match, as an entry of the table
pub stands_first : (k : ℕ) (cache : List ℕ) (left : List ℕ × List ℕ) (wanted : Wanted) →
    let page = wanted_page wanted in
    Stands k cache left page
    → (b : Bool) × (i : ℕ) × FirstMatch k left.0 page b i × (hit false left.1 page ≡ some (first_here k left.0 page b i, second_here k left.0 page b i))
stands_first k cache left wanted s =
    let m = own_match k 0 wanted left.0 s.x s.xs s.are in (
      s.x.secondary,
      s.x.entry,
      first_of_law k left.0 (wanted_page wanted) s.x s.xs s.are,
      s.hits ∙ ap₂ (λ (v w : ℕ). some (v, w)) m.first_word_law m.second_word,
    )

module _ (k : ℕ) (c : AccessCall (List ℕ)) (t cache : List ℕ) where
  -- a part goes to the table: it wants a page that is no hit
  abbrev goes : Bool → Bool
  goes second = missed k c.kind t cache (early_of c second)

  module _ (second : Bool) (wanted : Wanted) (e : early_of c second ≡ Search wanted) where
    pub missing : goes second ≡ true → hit (storing c.kind) cache (wanted_page wanted) ≡ none
    unfolding missed
    missing g =
        by_cases (hit (storing c.kind) cache (wanted_page wanted)) (λ n. n)
        (λ words h. absurd (true≢false (sym (ap (λ (o : Option (ℕ × ℕ)). by_option o true (λ (w : ℕ × ℕ). false)) (sym h) ∙ (rw e at g)))))

    pub going : hit (storing c.kind) cache (wanted_page wanted) ≡ none → goes second ≡ true
    unfolding missed
    going n = rw (e, n)

  module _ (result : ℕ) where
    abbrev step : Bool → List ℕ × List ℕ → List ℕ × List ℕ
    step = taken_part k c (t, cache) result

    -- a part that does not go to the table leaves what is there
    pub kept_part : (second : Bool) (left : List ℕ × List ℕ) → goes second ≡ false → step second left ≡ left
    unfolding taken_part
    kept_part second left e = rw e

    went_part : (second : Bool) (left : List ℕ × List ℕ) → goes second ≡ true → step second left ≡ taken k c.kind (early_of c second) result left
    unfolding taken_part
    went_part second left e = rw e

    -- what holds of the cache as it is and with the part's page loaded holds of what the part leaves; the same of the table
    module _ (second : Bool) (left : List ℕ × List ℕ) (P : List ℕ → Type 0) where
      cache_by : P left.1 → ((wanted : Wanted) → goes second ≡ true → early_of c second ≡ Search wanted → (v w : ℕ) → P (loaded (wanted_page wanted) v w left.1))
          → P (step second left).1
      unfolding taken loaded_by
      cache_by stays loads =
          by_test (goes second)
          (λ g.
          rw (went_part second left g)
          (by_early (early_of c second) (λ outcome e. rw e stays)
          (λ wanted e.
          rw e
          (by_test (eqb result 0)
          (λ z.
          rw z
          (by_matches_law (matches_of (layout k) (marked_by k c.kind (Search wanted) result left.0) (wanted_page wanted)) (λ n. rw n stays)
          (λ x xs n. rw n (loads wanted g e x.first x.second))))
          (λ z. rw z stays)))))
          (λ g. rw (kept_part second left g) stays)

      table_by : P left.0 → ((wanted : Wanted) → early_of c second ≡ Search wanted → P (marked_by k c.kind (Search wanted) result left.0)) → P (step second left).0
      unfolding taken marked_by
      table_by stays marks =
          by_test (goes second)
          (λ g. rw (went_part second left g) (by_early (early_of c second) (λ outcome e. rw e stays) (λ wanted e. rw e (marks wanted e))))
          (λ g. rw (kept_part second left g) stays)

    -- ---- nothing else is loaded

    module _ (i : ℕ) (apart : (second : Bool) → HasPart c t second → (wanted : Wanted) → goes second ≡ true → early_of c second ≡ Search wanted → set_of wanted.index ≡ i / 32 → ⊥) where
      part_bytes : (second : Bool) → HasPart c t second → (left : List ℕ × List ℕ) → get_or (step second left).1 i 0 ≡ get_or left.1 i 0
      part_bytes second has left =
          cache_by second left (λ (d : List ℕ). get_or d i 0 ≡ get_or left.1 i 0) refl
          (λ wanted g e v w. loaded_bytes (wanted_page wanted) v w left.1 i (apart second has wanted g e))

      pub bytes_left : get_or (each_part c step (t, cache)).1 i 0 ≡ get_or cache i 0
      bytes_left =
          by_test (over_edge c.address c.length)
          (λ over. rw over (part_bytes true (λ z. over) (step false (t, cache)) ∙ part_bytes false (λ z. over) (t, cache)))
          (λ one. rw one (part_bytes false (λ z. absurd (true≢false (sym z))) (t, cache)))

  -- ---- each page is loaded

  module _ (good : GoodTable k t) (size : length cache ≡ 2048) where
    abbrev done : Bool → List ℕ × List ℕ → List ℕ × List ℕ
    done = step 0

    -- a part's load
    module _ (second : Bool) (wanted : Wanted) (g : goes second ≡ true) (e : early_of c second ≡ Search wanted) where
      abbrev page : Page
      page = wanted_page wanted

      -- of an operand that is done
      found_there : (part_answer c (cached_search k c.kind t cache) second).result ≡ 0 → Found (matches_of (layout k) t page)
      unfolding outcome_of cached_search
      found_there told =
          found_at (matches_of (layout k) t page) (done_at c.kind wanted.key (start_of c second) (search_in k t wanted) (rw (e, missing second wanted e g) at told))

      part_stands : (left : List ℕ × List ℕ) → GoodTable k left.0 → length left.1 ≡ 2048 → Found (matches_of (layout k) left.0 page) → Stands k left.1 (done second left) page
      unfolding taken loaded_by
      part_stands left fine long found =
          let are = now_are k c.kind left.0 fine wanted found in
          let x = now k c.kind left.0 fine wanted found in
          let (first_lt, second_lt) = now_fits k c.kind left.0 fine wanted found in
          let valid = wanted_valid c second wanted e in
          let fields = now_fields k c.kind left.0 fine wanted found valid in
          let loads : (taken k c.kind (Search wanted) 0 left).1 ≡ loaded page x.first x.second left.1 = rw are in
          rw (went_part 0 second left g, e)
          (record {
            x = x;
            xs = found.xs;
            are = are;
            hits =
                ap (λ (d : List ℕ). hit false d page) loads
                ∙ loaded_found page x.first x.second left.1 long valid first_lt second_lt fields.has_v fields.has_vsid false (λ z. absurd (true≢false (sym z)));
            placed =
                subst (Placed page (load_place left.1 page) left.1) (sym loads)
                (loaded_placed page x.first x.second left.1 long valid first_lt second_lt fields.has_v fields.has_vsid);
          })

    -- the first part leaves a table and a cache of right length
    first_fine : GoodTable k (done false (t, cache)).0
    first_fine = table_by 0 false (t, cache) (GoodTable k) good (λ wanted e. mark_good k c.kind wanted t good 0)

    first_size : length (done false (t, cache)).1 ≡ 2048
    first_size =
        cache_by 0 false (t, cache) (λ (d : List ℕ). length d ≡ 2048) size (λ wanted g e v w. length_loaded (wanted_page wanted) v w cache ∙ size)

    -- the two pages and their sets
    module _ (over : over_edge c.address c.length ≡ true) (v w : Wanted) (e : early_of c false ≡ Search v) (f : early_of c true ≡ Search w) where
      two_pages : same_page (wanted_page v) (wanted_page w) ≡ false
      two_pages = pages_apart (block_pairs (on_long_page c)) (bl_width (on_long_page c)) (register_words c.registers) c.mode c.kind c.address c.length over v w e f

      two_sets : set_of w.index ≡ set_of v.index → ⊥
      unfolding set_of
      two_sets same =
          let index = wanted_index (block_pairs (on_long_page c)) (bl_width (on_long_page c)) (register_words c.registers) c.mode c.kind c.address c.length in
          next_low c.address c.length over (ap (λ (n : ℕ). n % 64) (sym (index false v e)) ∙ sym same ∙ ap (λ (n : ℕ). n % 64) (index true w f))

      -- a load of either leaves the bytes of the other's set
      first_stays : (d : List ℕ) (m n i : ℕ) → set_of v.index ≡ i / 32 → get_or d i 0 ≡ get_or (loaded (wanted_page w) m n d) i 0
      first_stays d m n i in-set = sym (loaded_bytes (wanted_page w) m n d i (λ same. two_sets (same ∙ sym in-set)))

      second_stays : (d : List ℕ) (m n i : ℕ) → set_of w.index ≡ i / 32 → get_or (loaded (wanted_page v) m n d) i 0 ≡ get_or d i 0
      second_stays d m n i in-set = loaded_bytes (wanted_page v) m n d i (λ same. two_sets (in-set ∙ sym same))

    module _ (over : over_edge c.address c.length ≡ true) where
      -- the second part leaves what the first loaded
      still_stands : (v : Wanted) → early_of c false ≡ Search v → Stands k cache (done false (t, cache)) (wanted_page v) → Stands k cache (done true (done false (t, cache))) (wanted_page v)
      still_stands v e s =
          let u = done false (t, cache) in
          let valid = wanted_valid c false v e in
          record {
            x = s.x;
            xs = s.xs;
            are =
                table_by 0 true u (λ (n : List ℕ). matches_of (layout k) n (wanted_page v) ≡ s.x ∷ s.xs) s.are
                (λ w f.
                mark_leaves k c.kind w u.0 first_fine 0 (wanted_page v) (wanted_valid c true w f) valid (apart_sym (wanted_page v) (wanted_page w) (two_pages over v w e f))
                ∙ s.are);
            hits =
                cache_by 0 true u (λ (d : List ℕ). hit false d (wanted_page v) ≡ some (s.x.first, s.x.second)) s.hits
                (λ w g f m n. loaded_apart (wanted_page w) m n u.1 (wanted_page v) (two_sets over v w e f) false ∙ s.hits);
            placed =
                cache_by 0 true u (Placed (wanted_page v) (load_place cache (wanted_page v)) cache) s.placed
                (λ w g f m n.
                same_placed (wanted_page v) cache u.1 cache (loaded (wanted_page w) m n u.1) (λ i in-set. refl) (first_stays over v w e f u.1 m n) s.placed);
          }

      -- the first part leaves the second page's matches
      second_found : (w : Wanted) → early_of c true ≡ Search w → Found (matches_of (layout k) t (wanted_page w)) → Found (matches_of (layout k) (done false (t, cache)).0 (wanted_page w))
      second_found w f found =
          table_by 0 false (t, cache) (λ (n : List ℕ). Found (matches_of (layout k) n (wanted_page w))) found
          (λ v e.
          rw (mark_leaves k c.kind v t good 0 (wanted_page w) (wanted_valid c false v e) (wanted_valid c true w f) (two_pages over v w e f)) found)

      -- and the bytes of its set
      second_set : (w : Wanted) → early_of c true ≡ Search w → (i : ℕ) → set_of w.index ≡ i / 32 → get_or (done false (t, cache)).1 i 0 ≡ get_or cache i 0
      second_set w f i in-set =
          cache_by 0 false (t, cache) (λ (d : List ℕ). get_or d i 0 ≡ get_or cache i 0) refl (λ v g e m n. second_stays over v w e f cache m n i in-set)

      second_stands : (w : Wanted) → goes true ≡ true → early_of c true ≡ Search w → Found (matches_of (layout k) t (wanted_page w))
          → Stands k cache (done true (done false (t, cache))) (wanted_page w)
      second_stands w g f found =
          let u = done false (t, cache) in
          let s = part_stands true w g f u first_fine first_size (second_found w f found) in
          record {
            x = s.x;
            xs = s.xs;
            are = s.are;
            hits = s.hits;
            placed = same_placed (wanted_page w) u.1 (done true u).1 cache (done true u).1 (second_set w f) (λ i in-set. refl) s.placed;
          }

    abbrev whole : OperandAnswer
    whole = whole_answer c (cached_search k c.kind t cache) (cached_place k c.kind t cache)

    pub pages_stand : whole.part.result ≡ 0 → (second : Bool) → HasPart c t second → (wanted : Wanted) → goes second ≡ true → early_of c second ≡ Search wanted
        → Stands k cache (each_part c done (t, cache)) (wanted_page wanted)
    pages_stand zero = go
      where
        told : ((part_answer c (cached_search k c.kind t cache) false).result ≡ 0) × (over_edge c.address c.length ≡ true → (part_answer c (cached_search k c.kind t cache) true).result ≡ 0)
        told =
            parts_done c.address c.length (part_answer c (cached_search k c.kind t cache))
            (part_decision c (cached_search k c.kind t cache) (cached_place k c.kind t cache)) zero

        go : (second : Bool) → HasPart c t second → (wanted : Wanted) → goes second ≡ true → early_of c second ≡ Search wanted → Stands k cache (each_part c done (t, cache)) (wanted_page wanted)
        go false has v g e =
            let first = part_stands false v g e (t, cache) good size (found_there false v g e told.0) in
            by_test (over_edge c.address c.length) (λ over. rw over (still_stands over v e first)) (λ one. rw one first)
        go true has w g f =
            let over = has refl in
            rw over (second_stands over w g f (found_there true w g f (told.1 over)))
