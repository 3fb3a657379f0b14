-- What the functions' proofs cite: the test of a place as the code makes it, what a hit, a load and a zeroed set are by what the code found.
use mathlib.Core.Bool.{Bool, true, false, not, ◌&&◌}
use mathlib.Core.List.{List, [], ◌∷◌, ◌++◌, append_assoc}
use mathlib.Core.Option.{none, some}
use mathlib.Core.Path.{◌≡◌, refl, sym, ap, ap₂, ◌∙◌}
use Prim.Native.Nat.{ℕ, suc, ◌+◌, ◌-◌, ◌*◌, ◌/◌, ◌^◌, ◌<◌, ◌≤◌}
use native.Mathlib.Nat.{add-zero}
use native.Mathlib.Omega.{arith}
use borrow.Author.Tests.{eqb-true, eq-eqb}
use borrow.Rule.Slice.PartMut.{put_mid, mid_of, Post-is, mid_len}
use lib.Bits.{bit_or}
use lib.Dec.{eqb}
use lib.ListN.{length, set, replicate, take, drop, length-replicate}
use lib.Seq.{sets, sets-eq}
use Rattle.words.specs.Bits.{bits}
use Rattle.words.specs.Words.{word_bytes, with_word, bytes_of}
use Rattle.words.proofs.Masks.{or_bit}
use Rattle.words.proofs.Words.{length_word_bytes}
use Rattle.words.proofs.Tests.{both, same_test}
use Rattle.entry.specs.Entry.{changed}
use Rattle.groups.specs.declared.Page.{Page}
use Rattle.cache.specs.Cache.{set_of, place_at, first_in, second_in, holds, met, load_place, put_place, loaded, set_zeroed}
use Rattle.cache.proofs.Cache.{set_lt, place_0, place_1}

-- ---- the test of a place

-- a first word without H and API is the VSID below a one exactly where V is 1 and the VSID is this one
pub tag_same : (w vsid : ℕ) → w < 2 ^ 32 → vsid < 2 ^ 24 → eqb (w / 2 ^ 7) (bit_or vsid (2 ^ 24)) ≡ (eqb (bits 0 0 w) 1 && eqb (bits 1 24 w) vsid)
tag_same w vsid fits h =
    let tag : bit_or vsid (2 ^ 24) ≡ 2 ^ 24 + vsid = or_bit 24 vsid ∙ omega arith in
    rw tag
    (same_test (eqb (w / 2 ^ 7) (2 ^ 24 + vsid)) (eqb (bits 0 0 w) 1 && eqb (bits 1 24 w) vsid)
    (λ e. let same = eqb-true (w / 2 ^ 7) (2 ^ 24 + vsid) e in rw (eq-eqb (bits 0 0 w) 1 (omega arith), eq-eqb (bits 1 24 w) vsid (omega arith)))
    (λ e.
    let (v, s) = both (eqb (bits 0 0 w) 1) (eqb (bits 1 24 w) vsid) e in
    let one = eqb-true (bits 0 0 w) 1 v in
    let same = eqb-true (bits 1 24 w) vsid s in
    eq-eqb (w / 2 ^ 7) (2 ^ 24 + vsid) (omega arith)))

-- what the tests of the two places, by where the set begins, said of a page
module _ (s : List ℕ) (page : Page) (start : ℕ) (told : Bool) (at : start ≡ 32 * set_of page.index) where
  pub held_0 : ((place : Bool) → start ≡ place_at page.index place → told ≡ holds s page place) → told ≡ holds s page false
  held_0 h = h false (at ∙ sym (place_0 _))

  pub held_1 : ((place : Bool) → start + 16 ≡ place_at page.index place → told ≡ holds s page place) → told ≡ holds s page true
  held_1 h = h true (omega (arith, at, place_1 page.index))

-- ---- a hit

-- what is met in a place that holds the page: its two words, but none to a store that meets C clear
module _ (storing : Bool) (cache : List ℕ) (index : ℕ) (place : Bool) where
  pub met_clear : (storing && not (changed (second_in cache index place))) ≡ true → met storing cache index place ≡ none
  unfolding met
  met_clear e = rw e

  pub met_set : (storing && not (changed (second_in cache index place))) ≡ false
      → met storing cache index place ≡ some (first_in cache index place, second_in cache index place)
  unfolding met
  met_set e = rw e

-- ---- what a load writes, by its place

module _ (page : Page) (first second : ℕ) (cache : List ℕ) where
  -- the four words at byte `at`, and a zero at byte `newer`
  abbrev written : ℕ → ℕ → List ℕ
  written at newer = with_word (put_place cache at first second page.index 1) newer 0

  pub loaded_by_law : (place : Bool) → load_place cache page ≡ place
      → loaded page first second cache ≡ written (place_at page.index place) (place_at page.index (not place) + 12)
  unfolding loaded
  loaded_by_law place e = ap (λ (p : Bool). written (place_at page.index p) (place_at page.index (not p) + 12)) e

  -- the same from where the set begins, of the bytes s that the four words left
  module _ (start : ℕ) (at : start ≡ 32 * set_of page.index) (s : List ℕ) where
    pub loaded_0 : s ≡ put_place cache start first second page.index 1 → load_place cache page ≡ false
        → with_word s (start + 16 + 12) 0 ≡ loaded page first second cache
    loaded_0 put e =
        rw put (ap₂ written (omega (arith, place_0 page.index)) (omega (arith, place_1 page.index)) ∙ sym (loaded_by_law false e))

    pub loaded_1 : s ≡ put_place cache (start + 16) first second page.index 1 → load_place cache page ≡ true
        → with_word s (start + 12) 0 ≡ loaded page first second cache
    loaded_1 put e =
        rw put (ap₂ written (omega (arith, place_1 page.index)) (omega (arith, place_0 page.index)) ∙ sym (loaded_by_law true e))

-- ---- a part of the cache that was lent

-- a part that comes back with n bytes is a run of stores of them
part_stored : (v : List ℕ) (n a : ℕ) (s b : List ℕ) → length v ≡ n → a + n ≤ length s → b ≡ v → put_mid a (a + n - a) s b ≡ sets s a v
part_stored v n a s b has inside is =
    let end : a + length v ≡ a + n = ap (λ (k : ℕ). a + k) has in
    ap₂ (λ (x y : List ℕ). take a s ++ (x ++ y)) is (Post-is a (a + n) s (omega arith))
    ∙ sym (append_assoc (take a s) v (drop (a + n) s))
    ∙ sym (sets-eq v s a (rw end inside) ∙ ap (λ (k : ℕ). take a s ++ v ++ drop k s) end)

-- one run of stores behind another
sets_append : (us vs l : List ℕ) (i : ℕ) → sets l i (us ++ vs) ≡ sets (sets l i us) (i + length us) vs
sets_append [] vs l i = ap (λ (k : ℕ). sets l k vs) (sym (add-zero i))
sets_append (a ∷ us) vs l i =
    sets_append us vs (set l i a) (suc i) ∙ ap (λ (k : ℕ). sets (sets (set l i a) (suc i) us) k vs) (omega arith)

-- a run of stores that begins with a word's bytes
word_first : (w : ℕ) (rest s : List ℕ) (at : ℕ) → sets s at (word_bytes w ++ rest) ≡ sets (with_word s at w) (at + 4) rest
unfolding with_word
word_first w rest s at =
    sets_append (word_bytes w) rest s at ∙ ap (λ (k : ℕ). sets (sets s at (word_bytes w)) (at + k) rest) (length_word_bytes w)

-- the bytes of four words, stored, are a place
four_words : (s : List ℕ) (at first second index newer : ℕ)
    → sets s at (bytes_of (first ∷ second ∷ index ∷ newer ∷ [])) ≡ put_place s at first second index newer
unfolding bytes_of put_place
four_words s at first second index newer =
    word_first first _ s at
    ∙ word_first second _ (with_word s at first) (at + 4)
    ∙ word_first index _ (with_word (with_word s at first) (at + 4) second) (at + 4 + 4)
    ∙ word_first newer [] (with_word (with_word (with_word s at first) (at + 4) second) (at + 4 + 4) index) (at + 4 + 4 + 4)
    ∙ ap₂ (λ (x y : ℕ). with_word (with_word (with_word (with_word s at first) (at + 4) second) x index) y newer) (omega arith) (omega arith)

sixteen : (first second index newer : ℕ) → length (bytes_of (first ∷ second ∷ index ∷ newer ∷ [])) ≡ 16
unfolding bytes_of word_bytes
sixteen first second index newer = refl

pub placed_part : (cache b : List ℕ) (at first second index : ℕ) → at + 16 ≤ length cache → b ≡ bytes_of (first ∷ second ∷ index ∷ 1 ∷ [])
    → put_mid at (at + 16 - at) cache b ≡ put_place cache at first second index 1
placed_part cache b at first second index inside is =
    part_stored _ 16 at cache b (sixteen first second index 1) inside is ∙ four_words cache at first second index 1

pub zeroed_part : (cache b : List ℕ) (index start : ℕ) → length cache ≡ 2048 → start ≡ 32 * set_of index
    → b ≡ replicate (length (mid_of start (start + 32 - start) cache)) 0 → put_mid start (start + 32 - start) cache b ≡ set_zeroed index cache
unfolding set_zeroed
zeroed_part cache b index start whole at zeros =
    let inside : start + 32 ≤ length cache = omega (arith, set_lt index) in
    let width : start + 32 - start ≡ 32 = omega arith in
    let full : b ≡ replicate 32 0 = zeros ∙ ap (λ (k : ℕ). replicate k 0) (mid_len start (start + 32) cache inside ∙ width) in
    part_stored (replicate 32 0) 32 start cache b (length-replicate {A = ℕ} 32 0) inside full ∙ ap (λ (a : ℕ). sets cache a (replicate 32 0)) at
