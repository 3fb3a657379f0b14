-- Laws of the cache: where its sets and places lie; what a place holds after a load and after a set was zeroed; which place a hit is of. All this
-- depends on the bytes of a page's set alone.
--   set_lt, place_0, place_1: there are 64 sets, and where the two places of a set begin
--   place_in, place_le: a place lies in its set's 32 bytes, and in the cache's 2,048; number_of: its number
--   hit_0, hit_1, hit_none: what the cache answers where place 0 holds the page, where only place 1 does, where neither does
--   load_0, load_1, load_older: the place of a load in these cases
--   hit_place: a hit has the words of a place that holds the page, and to a store C is set there
--   holds_same: whether a place holds a page depends on its first word and its index
--   same_first, same_second, same_index, same_newer, same_holds: caches with the same bytes in a page's set have the same there
--   same_hit, same_load: they hit the page alike, and load it into the same place
--   holds_zeros: zero bytes hold no page
--   length_put, put_newer: a place written leaves the length, and its fourth word is read back
--   length_loaded, kept: a load leaves the length, and the first three words of every other place
--   loaded_first, loaded_second, loaded_index, loaded_holds: the words of the place loaded; a page held then was loaded, or held before
--   length_zeroed, zeroed_in, zeroed_out: a set zeroed leaves the length, its bytes are zero and those of other sets as before
--   zeroed_out_of, zeroed_same, zeroed_holds: it holds no page then; another set has its bytes; a page held then was held before
use mathlib.Core.Bool.{Bool, true, false, not, cond, ◌&&◌, false≢true}
use mathlib.Core.List.{List}
use mathlib.Core.Logic.{◌⊎◌, inl, inr, ⊎_elim}
use mathlib.Core.Option.{Option, none, some, some-injective, some-ne-none}
use mathlib.Core.Path.{◌≡◌, refl, sym, ap, ◌∙◌}
use Prim.Native.Nat.{ℕ, zero, suc, ◌+◌, ◌-◌, ◌*◌, ◌/◌, ◌^◌, ◌<◌, ◌≤◌}
use native.Mathlib.Omega.{arith}
use borrow.Author.Tests.{eqb-true, eqb-false}
use lib.Dec.{eqb}
use lib.ListN.{length, get_or, replicate, length-replicate}
use lib.Seq.{length-sets}
use Rattle.words.specs.Bits.{bits}
use Rattle.words.specs.Words.{word_at, with_word}
use Rattle.words.proofs.Tests.{both, by_test, three}
use Rattle.words.proofs.Words.{length_with_word, word_before, word_behind, word_same, sets_before, sets_behind, sets_in}
use Rattle.entry.specs.Entry.{changed}
use Rattle.groups.specs.declared.Page.{Page}
use Rattle.groups.specs.Page.{InRange}
use Rattle.cache.specs.Cache.{set_of, place_at, first_in, second_in, index_in, newer_in, holds, met, hit, older_place, load_place, put_place, loaded, set_zeroed}

-- ---- where sets and places lie

pub set_lt : (index : ℕ) → set_of index < 64
unfolding set_of
set_lt index = omega arith

module _ (index : ℕ) where
  pub place_0 : place_at index false ≡ 32 * set_of index
  unfolding place_at
  place_0 = omega arith

  pub place_1 : place_at index true ≡ 32 * set_of index + 16
  unfolding place_at
  place_1 = refl

  -- places are 16 bytes each, one behind the other
  place_number : (place : Bool) → place_at index place ≡ 16 * (2 * set_of index + cond place 1 0)
  place_number false = omega (arith, place_0)
  place_number true = omega (arith, place_1)

  -- both places of a set lie in its 32 bytes
  pub place_in : (place : Bool) → (32 * set_of index ≤ place_at index place) × (place_at index place + 16 ≤ 32 * set_of index + 32)
  place_in false = (omega (arith, place_0), omega (arith, place_0))
  place_in true = (omega (arith, place_1), omega (arith, place_1))

  pub place_le : (place : Bool) → place_at index place + 16 ≤ 2048
  place_le place = omega (arith, place_in place, set_lt index)

-- ---- a hit, and the place of a load, by what the places hold

module _ (cache : List ℕ) (page : Page) where
  module _ (in-0 : holds cache page false ≡ true) where
    pub hit_0 : (storing : Bool) → hit storing cache page ≡ met storing cache page.index false
    unfolding hit
    hit_0 storing = rw in-0

    pub load_0 : load_place cache page ≡ false
    unfolding load_place
    load_0 = rw in-0

  module _ (out-0 : holds cache page false ≡ false) where
    module _ (in-1 : holds cache page true ≡ true) where
      pub hit_1 : (storing : Bool) → hit storing cache page ≡ met storing cache page.index true
      unfolding hit
      hit_1 storing = rw (out-0, in-1)

      pub load_1 : load_place cache page ≡ true
      unfolding load_place
      load_1 = rw (out-0, in-1)

    module _ (out-1 : holds cache page true ≡ false) where
      pub hit_none : (storing : Bool) → hit storing cache page ≡ none
      unfolding hit
      hit_none storing = rw (out-0, out-1)

      pub load_older : load_place cache page ≡ older_place cache page.index
      unfolding load_place
      load_older = rw (out-0, out-1)

-- ---- what a place holds

-- the words that the test reads are all that it depends on
pub holds_same : (s t : List ℕ) (page : Page) (place : Bool) → first_in s page.index place ≡ first_in t page.index place
    → index_in s page.index place ≡ index_in t page.index place → holds s page place ≡ holds t page place
unfolding holds
holds_same s t page place e f = rw (e, f)

-- two caches with the same bytes in a page's set
module _ (s t : List ℕ) (page : Page) (same : (i : ℕ) → set_of page.index ≡ i / 32 → get_or s i 0 ≡ get_or t i 0) where
  same_word : (place : Bool) (b : ℕ) → place_at page.index place ≤ b → b + 4 ≤ place_at page.index place + 16 → word_at s b ≡ word_at t b
  unfolding word_at
  same_word place b from to =
      let within = place_in page.index place in
      let byte : (i : ℕ) → b ≤ i → i < b + 4 → get_or s i 0 ≡ get_or t i 0 = λ i l h. same i (omega (arith, within)) in
      rw (byte b (omega arith) (omega arith), byte (b + 1) (omega arith) (omega arith), byte (b + 2) (omega arith) (omega arith), byte (b + 3) (omega arith) (omega arith))

  module _ (place : Bool) where
    pub same_first : first_in s page.index place ≡ first_in t page.index place
    same_first = same_word place (place_at page.index place) (omega arith) (omega arith)

    pub same_second : second_in s page.index place ≡ second_in t page.index place
    same_second = same_word place (place_at page.index place + 4) (omega arith) (omega arith)

    pub same_index : index_in s page.index place ≡ index_in t page.index place
    same_index = same_word place (place_at page.index place + 8) (omega arith) (omega arith)

    pub same_newer : newer_in s page.index place ≡ newer_in t page.index place
    same_newer = same_word place (place_at page.index place + 12) (omega arith) (omega arith)

    pub same_holds : holds s page place ≡ holds t page place
    same_holds = holds_same s t page place same_first same_index

  -- such caches hit the page alike, and load it into the same place
  pub same_hit : (storing : Bool) → hit storing s page ≡ hit storing t page
  unfolding hit met
  same_hit storing = rw (same_holds false, same_holds true, same_first false, same_second false, same_first true, same_second true)

  pub same_load : load_place s page ≡ load_place t page
  unfolding load_place older_place
  same_load = rw (same_holds false, same_holds true, same_newer false, same_newer true)

module _ (cache : List ℕ) (page : Page) (place : Bool) (held : holds cache page place ≡ true) where
  -- a place that holds a page has V, its VSID and its page index
  pub held_words : (bits 0 0 (first_in cache page.index place) ≡ 1) × (bits 1 24 (first_in cache page.index place) ≡ page.vsid)
      × (index_in cache page.index place ≡ page.index)
  unfolding holds
  held_words =
      let v = eqb (bits 0 0 (first_in cache page.index place)) 1 in
      let s = eqb (bits 1 24 (first_in cache page.index place)) page.vsid in
      let (first, third) = both (v && s) (eqb (index_in cache page.index place) page.index) held in
      let (one, same) = both v s first in
      (eqb-true _ _ one, eqb-true _ _ same, eqb-true _ _ third)

-- zero bytes hold no page
abbrev zeros : ℕ → List ℕ
zeros n = replicate n 0

byte_zeros : (n i : ℕ) → get_or (zeros n) i 0 ≡ 0
byte_zeros zero i = refl
byte_zeros (suc n) zero = refl
byte_zeros (suc n) (suc i) = byte_zeros n i

word_zeros : (n at : ℕ) → word_at (zeros n) at ≡ 0
unfolding word_at
word_zeros n at = rw (byte_zeros n at, byte_zeros n (at + 1), byte_zeros n (at + 2), byte_zeros n (at + 3))

zero_holds_none : (cache : List ℕ) (page : Page) (place : Bool) → first_in cache page.index place ≡ 0 → holds cache page place ≡ false
unfolding holds
zero_holds_none cache page place e = rw e

pub holds_zeros : (page : Page) (place : Bool) → holds (replicate 2048 0) page place ≡ false
holds_zeros page place = zero_holds_none (replicate 2048 0) page place (word_zeros 2048 (place_at page.index place))

-- ---- which place a hit is of

-- what is met in a place is its entry, and to a store C is set there
met_some : (storing : Bool) (cache : List ℕ) (index : ℕ) (place : Bool) (first second : ℕ) → met storing cache index place ≡ some (first, second)
    → (first_in cache index place ≡ first) × (second_in cache index place ≡ second) × (storing ≡ true → changed second ≡ true)
unfolding met
met_some storing cache index place first second e =
    by_cases storing (first_in cache index place) (second_in cache index place) (changed (second_in cache index place)) refl e
  where
    by_cases : (s : Bool) (x y : ℕ) (c : Bool) → changed y ≡ c → ◌≡◌ {A = Option (ℕ × ℕ)} (cond (s && not c) none (some (x, y))) (some (first, second))
        → (x ≡ first) × (y ≡ second) × (s ≡ true → changed second ≡ true)
    by_cases true x y false clear f = absurd (some-ne-none (first, second) (sym f))
    by_cases true x y true set f =
        let w = some-injective (x, y) (first, second) f in
        let second_is : y ≡ second = ap (λ (p : ℕ × ℕ). p.1) w in
        (ap (λ (p : ℕ × ℕ). p.0) w, second_is, λ stores. ap changed (sym second_is) ∙ set)
    by_cases false x y c set f =
        let w = some-injective (x, y) (first, second) f in
        (ap (λ (p : ℕ × ℕ). p.0) w, ap (λ (p : ℕ × ℕ). p.1) w, λ stores. absurd (false≢true stores))

pub hit_place : (storing : Bool) (cache : List ℕ) (page : Page) (first second : ℕ) → hit storing cache page ≡ some (first, second)
    → (place : Bool) × (holds cache page place ≡ true) × (first_in cache page.index place ≡ first) × (second_in cache page.index place ≡ second)
    × (storing ≡ true → changed second ≡ true)
hit_place storing cache page first second e =
    by_test (holds cache page false)
    (λ in-0.
    let m = met_some storing cache page.index false first second (sym (hit_0 cache page in-0 storing) ∙ e) in (false, in-0, m.0, m.1, m.2))
    (λ out-0.
    by_test (holds cache page true)
    (λ in-1.
    let m = met_some storing cache page.index true first second (sym (hit_1 cache page out-0 in-1 storing) ∙ e) in (true, in-1, m.0, m.1, m.2))
    (λ out-1. absurd (some-ne-none (first, second) (sym e ∙ hit_none cache page out-0 out-1 storing))))

-- ---- a load

-- four words written as a place
module _ (s : List ℕ) (at first second index newer : ℕ) where
  abbrev put : List ℕ
  put = put_place s at first second index newer

  pub length_put : length put ≡ length s
  unfolding put_place
  length_put = simp length_with_word

  -- the words before it and behind it stay
  put_before : (b : ℕ) → b + 4 ≤ at → word_at put b ≡ word_at s b
  unfolding put_place
  put_before b h = word_before _ _ newer b (omega arith) ∙ word_before _ _ index b (omega arith) ∙ word_before _ _ second b (omega arith) ∙ word_before s at first b h

  put_behind : (b : ℕ) → at + 16 ≤ b → word_at put b ≡ word_at s b
  unfolding put_place
  put_behind b h =
      word_behind _ _ newer b (omega arith) ∙ word_behind _ _ index b (omega arith) ∙ word_behind _ _ second b (omega arith) ∙ word_behind s at first b (omega arith)

  -- and its own are read back
  module _ (inside : at + 16 ≤ length s) where
    put_first : first < 2 ^ 32 → word_at put at ≡ first
    unfolding put_place
    put_first fits =
        word_before _ _ newer at (omega arith) ∙ word_before _ _ index at (omega arith) ∙ word_before _ _ second at (omega arith)
        ∙ word_same s at first (omega arith) fits

    put_second : second < 2 ^ 32 → word_at put (at + 4) ≡ second
    unfolding put_place
    put_second fits =
        word_before _ _ newer (at + 4) (omega arith) ∙ word_before _ _ index (at + 4) (omega arith)
        ∙ word_same _ (at + 4) second (omega (arith, length_with_word s at first)) fits

    put_index : index < 2 ^ 32 → word_at put (at + 8) ≡ index
    unfolding put_place
    put_index fits =
        word_before _ _ newer (at + 8) (omega arith)
        ∙ word_same _ (at + 8) index (omega (arith, length_with_word (with_word s at first) (at + 4) second, length_with_word s at first)) fits

    pub put_newer : newer < 2 ^ 32 → word_at put (at + 12) ≡ newer
    unfolding put_place
    put_newer fits =
        word_same _ (at + 12) newer
        (omega (arith, length_with_word (with_word (with_word s at first) (at + 4) second) (at + 8) index, length_with_word (with_word s at first) (at + 4) second, length_with_word s at first)) fits

pub length_loaded : (page : Page) (first second : ℕ) (cache : List ℕ) → length (loaded page first second cache) ≡ length cache
unfolding loaded
length_loaded page first second cache =
    length_with_word _ _ 0 ∙ length_put cache (place_at page.index (load_place cache page)) first second page.index 1

-- a word of the first three of place k, at byte b, stays where an age is written, and where another place j is
module _ (s : List ℕ) (k b : ℕ) (from : 16 * k ≤ b) (to : b + 4 ≤ 16 * k + 12) where
  age_other : (m newer : ℕ) → word_at (with_word s (16 * m + 12) newer) b ≡ word_at s b
  age_other m newer =
      ⊎_elim (λ h. word_behind s (16 * m + 12) newer b (omega arith))
      (λ h. word_before s (16 * m + 12) newer b (⊎_elim (λ e. omega arith) (λ e. omega arith) h)) (three m k)

  put_other : (j first second index newer : ℕ) → (j ≡ k → ⊥) → word_at (put_place s (16 * j) first second index newer) b ≡ word_at s b
  put_other j first second index newer apart =
      ⊎_elim (λ h. put_behind s (16 * j) first second index newer b (omega arith))
      (⊎_elim (λ e. absurd (apart e)) (λ h. put_before s (16 * j) first second index newer b (omega arith))) (three j k)

-- the number of a place of a page index's set
abbrev pub number_of : ℕ → Bool → ℕ
number_of index place = 2 * set_of index + cond place 1 0

module _ (page q : Page) (first second : ℕ) (cache : List ℕ) (place : Bool) where
  abbrev after : List ℕ
  after = loaded page first second cache

  -- where q's place begins, its number, and the number of the place that the page is loaded into
  abbrev spot : ℕ
  spot = place_at q.index place

  abbrev asked : ℕ
  asked = number_of q.index place

  abbrev own : ℕ
  own = number_of page.index (load_place cache page)

  -- the four words of the load written
  abbrev four : List ℕ
  four = put_place cache (16 * own) first second page.index 1

  -- each of the first three words is that of the four words written
  word_after : (b : ℕ) → spot ≤ b → b + 4 ≤ spot + 12 → word_at after b ≡ word_at four b
  unfolding loaded
  word_after b from to =
      let e = place_number q.index place in
      let n = place_number page.index in
      rw (n (load_place cache page), n (not (load_place cache page)))
      (age_other four asked b (omega (arith, e)) (omega (arith, e)) (number_of page.index (not (load_place cache page))) 0)

  -- another place's words stay
  pub kept : (own ≡ asked → ⊥) → (b : ℕ) → spot ≤ b → b + 4 ≤ spot + 12 → word_at after b ≡ word_at cache b
  kept apart b from to =
      let e = place_number q.index place in
      word_after b from to ∙ put_other cache asked b (omega (arith, e)) (omega (arith, e)) own first second page.index 1 apart

  -- the page's own place has the words of the load
  module _ (whole : length cache ≡ 2048) (same : own ≡ asked) where
    own_at : 16 * own ≡ spot
    own_at = ap (λ (n : ℕ). 16 * n) same ∙ sym (place_number q.index place)

    inside : 16 * own + 16 ≤ length cache
    inside = omega (arith, own_at, place_le q.index place)

    pub loaded_first : first < 2 ^ 32 → first_in after q.index place ≡ first
    loaded_first fits =
        word_after spot (omega arith) (omega arith) ∙ ap (word_at four) (sym own_at) ∙ put_first cache (16 * own) first second page.index 1 inside fits

    pub loaded_second : second < 2 ^ 32 → second_in after q.index place ≡ second
    loaded_second fits =
        word_after (spot + 4) (omega arith) (omega arith) ∙ ap (λ (n : ℕ). word_at four (n + 4)) (sym own_at)
        ∙ put_second cache (16 * own) first second page.index 1 inside fits

    pub loaded_index : page.index < 2 ^ 32 → index_in after q.index place ≡ page.index
    loaded_index fits =
        word_after (spot + 8) (omega arith) (omega arith) ∙ ap (λ (n : ℕ). word_at four (n + 8)) (sym own_at)
        ∙ put_index cache (16 * own) first second page.index 1 inside fits

  -- a page that a place holds after a load is the one that was loaded, or was held there before
  pub loaded_holds : length cache ≡ 2048 → InRange page → first < 2 ^ 32 → second < 2 ^ 32 → bits 1 24 first ≡ page.vsid → holds after q place ≡ true
      → ((q ≡ page) × (first_in after q.index place ≡ first) × (second_in after q.index place ≡ second))
      ⊎ ((holds cache q place ≡ true) × (first_in after q.index place ≡ first_in cache q.index place)
      × (second_in after q.index place ≡ second_in cache q.index place))
  loaded_holds whole range first_lt second_lt tag held =
      by_test (eqb own asked)
      (λ e.
      let same = eqb-true own asked e in
      let words = held_words after q place held in
      let f = loaded_first whole same first_lt in
      let vsid_is : q.vsid ≡ page.vsid = sym words.1 ∙ ap (bits 1 24) f ∙ tag in
      let index_is : q.index ≡ page.index = sym words.2 ∙ loaded_index whole same (omega (arith, range.index_lt)) in
      inl (λ i. record { vsid = vsid_is i; index = index_is i }, f, loaded_second whole same second_lt))
      (λ e.
      let stays = kept (eqb-false own asked e) in
      let f : first_in after q.index place ≡ first_in cache q.index place = stays spot (omega arith) (omega arith) in
      inr (sym (holds_same after cache q place f (stays (spot + 8) (omega arith) (omega arith))) ∙ held, f, stays (spot + 4) (omega arith) (omega arith)))

-- ---- a set zeroed

module _ (index : ℕ) (cache : List ℕ) where
  abbrev cleared : List ℕ
  cleared = set_zeroed index cache

  pub length_zeroed : length cleared ≡ length cache
  unfolding set_zeroed
  length_zeroed = length-sets cache (32 * set_of index) (zeros 32)

  -- its bytes are zero, and those of other sets as before
  pub zeroed_in : (i : ℕ) → length cache ≡ 2048 → set_of index ≡ i / 32 → get_or cleared i 0 ≡ 0
  unfolding set_zeroed
  zeroed_in i whole same =
      let at = 32 * set_of index in
      let offset : at + (i - at) ≡ i = omega arith in
      let size : length (zeros 32) ≡ 32 = length-replicate {A = ℕ} 32 0 in
      ap (λ (j : ℕ). get_or cleared j 0) (sym offset)
      ∙ sets_in (zeros 32) cache at (i - at) (omega (arith, size)) (omega (arith, size, set_lt index)) ∙ byte_zeros 32 (i - at)

  pub zeroed_out : (i : ℕ) → (set_of index ≡ i / 32 → ⊥) → get_or cleared i 0 ≡ get_or cache i 0
  unfolding set_zeroed
  zeroed_out i apart =
      let size : length (zeros 32) ≡ 32 = length-replicate {A = ℕ} 32 0 in
      ⊎_elim (λ h. sets_behind (zeros 32) cache (32 * set_of index) i (omega (arith, size)))
      (⊎_elim (λ e. absurd (apart e)) (λ h. sets_before (zeros 32) cache (32 * set_of index) i (omega arith))) (three (set_of index) (i / 32))

  -- so it holds no page, and another set what it held
  module _ (q : Page) where
    pub zeroed_out_of : length cache ≡ 2048 → set_of index ≡ set_of q.index → (place : Bool) → holds cleared q place ≡ false
    unfolding word_at
    zeroed_out_of whole same place = zero_holds_none cleared q place word
      where
        byte : (i : ℕ) → place_at q.index place ≤ i → i < place_at q.index place + 16 → get_or cleared i 0 ≡ 0
        byte i from to = zeroed_in i whole (omega (arith, place_in q.index place))

        word : first_in cleared q.index place ≡ 0
        word =
            let b = place_at q.index place in
            rw (byte b (omega arith) (omega arith), byte (b + 1) (omega arith) (omega arith), byte (b + 2) (omega arith) (omega arith), byte (b + 3) (omega arith) (omega arith))

    pub zeroed_same : (set_of index ≡ set_of q.index → ⊥) → (i : ℕ) → set_of q.index ≡ i / 32 → get_or cleared i 0 ≡ get_or cache i 0
    zeroed_same apart i in-set = zeroed_out i (λ e. apart (e ∙ sym in-set))

    pub zeroed_holds : (place : Bool) → length cache ≡ 2048 → holds cleared q place ≡ true
        → (set_of index ≡ set_of q.index → ⊥) × (holds cache q place ≡ true) × (first_in cleared q.index place ≡ first_in cache q.index place)
        × (second_in cleared q.index place ≡ second_in cache q.index place)
    zeroed_holds place whole held =
        let apart : set_of index ≡ set_of q.index → ⊥ = λ same. false≢true (sym (zeroed_out_of whole same place) ∙ held) in
        let same = zeroed_same apart in
        (apart, sym (same_holds cleared cache q same place) ∙ held, same_first cleared cache q same place, same_second cleared cache q same place)
