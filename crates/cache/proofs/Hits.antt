-- What is a hit after a load, and after a set was zeroed: the page that was loaded, no page of the zeroed set, and in other sets what was one before. A
-- hit, and the place of a load, depend on the bytes of a page's set alone.
use mathlib.Core.Bool.{Bool, true, false, not, cond, ◌&&◌, true≢false}
use mathlib.Core.List.{List}
use mathlib.Core.Logic.{⊎_elim}
use mathlib.Core.Option.{Option, none, some}
use mathlib.Core.Path.{◌≡◌, refl, sym, ap, ◌∙◌, subst}
use Prim.Native.Nat.{ℕ, ◌+◌, ◌*◌, ◌/◌, ◌^◌, ◌<◌, ◌≤◌}
use native.Mathlib.Omega.{arith}
use borrow.Author.Tests.{eq-eqb}
use lib.Dec.{lit<}
use lib.ListN.{length, get_or}
use Rattle.words.specs.Bits.{bits}
use Rattle.words.specs.Words.{word_at, with_word}
use Rattle.words.proofs.Tests.{by_test, three}
use Rattle.words.proofs.Words.{byte_before, byte_behind, word_before, word_behind, word_same}
use Rattle.entry.specs.Entry.{changed}
use Rattle.groups.specs.declared.Page.{Page}
use Rattle.groups.specs.Page.{InRange}
use Rattle.cache.specs.Cache.{set_of, place_at, first_in, index_in, newer_in, holds, met, hit, load_place, put_place, loaded, set_zeroed}
use Rattle.cache.specs.Placed.{Placed}
use Rattle.cache.proofs.Cache.{place_0, place_1, place_in, place_le, hit_0, hit_1, hit_none, load_0, holds_same, same_first, same_second, same_index, same_newer, same_holds, same_hit, same_load, length_put, put_newer, number_of, kept, loaded_first, loaded_second, loaded_index, zeroed_out_of, zeroed_same}

-- caches with the same bytes in a page's set before a load of the page, and such behind it
pub same_placed : (page : Page) (cache left d e : List ℕ) → ((i : ℕ) → set_of page.index ≡ i / 32 → get_or cache i 0 ≡ get_or d i 0)
    → ((i : ℕ) → set_of page.index ≡ i / 32 → get_or left i 0 ≡ get_or e i 0) → Placed page (load_place cache page) cache left → Placed page (load_place d page) d e
same_placed page cache left d e before behind p =
    let place = load_place cache page in
    rw (sym (same_load cache d page before))
    (record {
      there = sym (same_holds left e page behind place) ∙ p.there;
      newer = sym (same_newer left e page behind place) ∙ p.newer;
      first = sym (same_first left e page behind (not place)) ∙ p.first ∙ same_first cache d page before (not place);
      second = sym (same_second left e page behind (not place)) ∙ p.second ∙ same_second cache d page before (not place);
      index = sym (same_index left e page behind (not place)) ∙ p.index ∙ same_index cache d page before (not place);
      older = sym (same_newer left e page behind (not place)) ∙ p.older;
    })

-- ---- a load

module _ (page : Page) (first second : ℕ) (cache : List ℕ) where
  abbrev after : List ℕ
  after = loaded page first second cache

  -- the place of the load
  abbrev place : Bool
  place = load_place cache page

  -- the other place keeps its entry
  beside : (b : ℕ) → place_at page.index (not place) ≤ b → b + 4 ≤ place_at page.index (not place) + 12 → word_at after b ≡ word_at cache b
  beside = kept page page first second cache (not place) (two place)
    where
      two : (p : Bool) → number_of page.index p ≡ number_of page.index (not p) → ⊥
      two true e = omega (arith, e)
      two false e = omega (arith, e)

  first_beside : first_in after page.index (not place) ≡ first_in cache page.index (not place)
  first_beside = beside (place_at page.index (not place)) (omega arith) (omega arith)

  index_beside : index_in after page.index (not place) ≡ index_in cache page.index (not place)
  index_beside = beside (place_at page.index (not place) + 8) (omega arith) (omega arith)

  module _ (whole : length cache ≡ 2048) where
    -- the ages
    newer_there : newer_in after page.index place ≡ 1
    unfolding loaded
    newer_there =
        other (put_place cache (place_at page.index place) first second page.index 1) place
        ∙ put_newer cache (place_at page.index place) first second page.index 1 (omega (arith, place_le page.index place)) (lit< tt)
      where
        other : (s : List ℕ) (p : Bool) → word_at (with_word s (place_at page.index (not p) + 12) 0) (place_at page.index p + 12) ≡ word_at s (place_at page.index p + 12)
        other s true = word_behind s _ 0 _ (omega (arith, place_0 page.index, place_1 page.index))
        other s false = word_before s _ 0 _ (omega (arith, place_0 page.index, place_1 page.index))

    newer_beside : newer_in after page.index (not place) ≡ 0
    unfolding loaded
    newer_beside =
        word_same _ _ 0
        (omega (arith, length_put cache (place_at page.index place) first second page.index 1, place_le page.index (not place))) (lit< tt)

    -- what is met there
    module _ (range : InRange page) (first_lt : first < 2 ^ 32) (second_lt : second < 2 ^ 32) (used : bits 0 0 first ≡ 1) (tag : bits 1 24 first ≡ page.vsid) where
      first_there : first_in after page.index place ≡ first
      first_there = loaded_first page page first second cache place whole refl first_lt

      holds_there : holds after page place ≡ true
      unfolding holds
      holds_there =
          let index = loaded_index page page first second cache place whole refl (omega (arith, range.index_lt)) in
          rw (first_there, index, eq-eqb (bits 0 0 first) 1 used, eq-eqb (bits 1 24 first) page.vsid tag, eq-eqb page.index page.index refl)

      pub loaded_placed : Placed page place cache after
      loaded_placed = record {
        there = holds_there;
        newer = newer_there;
        first = first_beside;
        second = beside (place_at page.index (not place) + 4) (omega arith) (omega arith);
        index = index_beside;
        older = newer_beside;
      }

      -- the page is a hit, to a store where C is set
      module _ (storing : Bool) (has_c : storing ≡ true → changed second ≡ true) where
        met_there : met storing after page.index place ≡ some (first, second)
        unfolding met
        met_there = rw (first_there, loaded_second page page first second cache place whole refl second_lt) (go storing has_c)
          where
            go : (s : Bool) → (s ≡ true → changed second ≡ true) → ◌≡◌ {A = Option (ℕ × ℕ)} (cond (s && not (changed second)) none (some (first, second))) (some (first, second))
            go true h = rw (h refl)
            go false h = refl

        pub loaded_found : hit storing after page ≡ some (first, second)
        loaded_found = go place refl
          where
            go : (p : Bool) → place ≡ p → hit storing after page ≡ some (first, second)
            go false e = hit_0 after page (ap (holds after page) (sym e) ∙ holds_there) storing ∙ ap (met storing after page.index) (sym e) ∙ met_there
            go true e =
                let was-out : holds cache page false ≡ false = by_test (holds cache page false) (λ in-0. absurd (true≢false (sym e ∙ load_0 cache page in-0))) (λ z. z) in
                let is-out : holds after page false ≡ false
                = subst (λ (p : Bool). holds after page (not p) ≡ holds cache page (not p)) e (holds_same after cache page (not place) first_beside index_beside) ∙ was-out in
                hit_1 after page is-out (ap (holds after page) (sym e) ∙ holds_there) storing ∙ ap (met storing after page.index) (sym e) ∙ met_there

  -- a byte of another set
  module _ (i : ℕ) (apart : set_of page.index ≡ i / 32 → ⊥) where
    byte_kept : (s : List ℕ) (at w : ℕ) → 32 * set_of page.index ≤ at → at + 4 ≤ 32 * set_of page.index + 32 → get_or (with_word s at w) i 0 ≡ get_or s i 0
    byte_kept s at w from to =
        ⊎_elim (λ h. byte_behind s at w i (omega arith)) (⊎_elim (λ e. absurd (apart e)) (λ h. byte_before s at w i (omega arith))) (three (set_of page.index) (i / 32))

    pub loaded_bytes : get_or after i 0 ≡ get_or cache i 0
    unfolding loaded put_place
    loaded_bytes =
        let place = load_place cache page in
        let own = place_in page.index place in
        let other = place_in page.index (not place) in
        byte_kept _ _ 0 (omega (arith, other)) (omega (arith, other)) ∙ byte_kept _ _ 1 (omega (arith, own)) (omega (arith, own))
        ∙ byte_kept _ _ page.index (omega (arith, own)) (omega (arith, own)) ∙ byte_kept _ _ second (omega (arith, own)) (omega (arith, own))
        ∙ byte_kept cache _ first (omega (arith, own)) (omega (arith, own))

  -- a page of another set
  pub loaded_apart : (q : Page) → (set_of page.index ≡ set_of q.index → ⊥) → (storing : Bool) → hit storing after q ≡ hit storing cache q
  loaded_apart q apart = same_hit after cache q (λ i in-set. loaded_bytes i (λ e. apart (e ∙ sym in-set)))

-- ---- a set zeroed

module _ (index : ℕ) (cache : List ℕ) (page : Page) where
  -- none of its pages is a hit
  pub zeroed_none : length cache ≡ 2048 → set_of index ≡ set_of page.index → (storing : Bool) → hit storing (set_zeroed index cache) page ≡ none
  zeroed_none whole same =
      let out = zeroed_out_of index cache page whole same in
      hit_none (set_zeroed index cache) page (out false) (out true)

  -- those of other sets are hits as before
  pub zeroed_apart : (set_of index ≡ set_of page.index → ⊥) → (storing : Bool) → hit storing (set_zeroed index cache) page ≡ hit storing cache page
  zeroed_apart apart = same_hit (set_zeroed index cache) cache page (zeroed_same index cache page apart)
