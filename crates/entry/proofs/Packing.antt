-- The fields of packed words: a packed word has the fields that it was made of, and it is the only word with these fields and no ignored bit.
--   FirstFields, SecondFields: a first word, and a second word, has these fields
--   first_own, second_own: every word has its own fields
--   first_lt, second_lt: a packed word fits 32 bits
--   first_packed, second_packed: a packed word has the fields that it was made of
--   second_ignored: the ignored bits of a packed second word are zero
--   first_is, second_is: a word is the packed one of its fields; a second word where its ignored bits are zero
use mathlib.Core.List.{[], ◌∷◌}
use mathlib.Core.Path.{◌≡◌, refl, sym, ◌∙◌}
use Prim.Native.Nat.{ℕ, ◌+◌, ◌^◌, ◌<◌}
use native.Mathlib.Nat.{add-zero}
use native.Mathlib.Omega.{arith}
use lib.Dec.{lit≤, lit<}
use Rattle.words.specs.Bits.{bits, placed}
use Rattle.entry.specs.Entry.{first_word, second_word, ignored_bits, rpn_of, wimg_of, pp_of}
use Rattle.words.proofs.Bits.{bits_split, bits_all}

-- a first word with these fields
pub record FirstFields (v vsid h api first : ℕ) : Type 0 where
  pub has_v : bits 0 0 first ≡ v
  pub has_vsid : bits 1 24 first ≡ vsid
  pub has_h : bits 25 25 first ≡ h
  pub has_api : bits 26 31 first ≡ api

-- a second word with these fields, whatever its ignored bits
pub record SecondFields (rpn r c wimg pp second : ℕ) : Type 0 where
  pub has_rpn : rpn_of second ≡ rpn
  pub has_r : bits 23 23 second ≡ r
  pub has_c : bits 24 24 second ≡ c
  pub has_wimg : wimg_of second ≡ wimg
  pub has_pp : pp_of second ≡ pp

-- every word has its own fields
pub first_own : (w : ℕ) → FirstFields (bits 0 0 w) (bits 1 24 w) (bits 25 25 w) (bits 26 31 w) w
first_own w = record { has_v = refl; has_vsid = refl; has_h = refl; has_api = refl }

pub second_own : (w : ℕ) → SecondFields (rpn_of w) (bits 23 23 w) (bits 24 24 w) (wimg_of w) (pp_of w) w
second_own w = record { has_rpn = refl; has_r = refl; has_c = refl; has_wimg = refl; has_pp = refl }

-- a packed word fits 32 bits, and has the fields that it was made of
module _ (v vsid h api : ℕ) (v-lt : v < 2 ^ 1) (vsid_lt : vsid < 2 ^ 24) (h_lt : h < 2 ^ 1) (api_lt : api < 2 ^ 6) where
  pub first_lt : first_word v vsid h api < 2 ^ 32
  unfolding first_word
  first_lt = omega arith

  pub first_packed : FirstFields v vsid h api (first_word v vsid h api)
  unfolding first_word
  first_packed = record { has_v = omega arith; has_vsid = omega arith; has_h = omega arith; has_api = omega arith }

module _ (rpn r c wimg pp : ℕ) (rpn_lt : rpn < 2 ^ 20) (r-lt : r < 2 ^ 1) (c_lt : c < 2 ^ 1) (wimg_lt : wimg < 2 ^ 4) (pp_lt : pp < 2 ^ 2) where
  pub second_lt : second_word rpn r c wimg pp < 2 ^ 32
  unfolding second_word
  second_lt = omega arith

  pub second_packed : SecondFields rpn r c wimg pp (second_word rpn r c wimg pp)
  unfolding second_word
  second_packed =
      record { has_rpn = omega arith; has_r = omega arith; has_c = omega arith; has_wimg = omega arith; has_pp = omega arith }

  pub second_ignored : ignored_bits (second_word rpn r c wimg pp) ≡ 0 ∷ 0 ∷ []
  unfolding second_word ignored_bits
  second_ignored =
      let above : bits 20 22 (second_word rpn r c wimg pp) ≡ 0 = omega arith in
      let below : bits 29 29 (second_word rpn r c wimg pp) ≡ 0 = omega arith in
      rw (above, below)

-- ---- a word is the sum of its fields

first_sum : (w a b c d s t : ℕ) → w ≡ placed 0 a + s → s ≡ placed 24 b + t → t ≡ placed 25 c + d → placed 0 a + placed 24 b + placed 25 c + d ≡ w
first_sum w a b c d s t p q r = omega arith

first_parts : (w : ℕ) → w < 2 ^ 32 → first_word (bits 0 0 w) (bits 1 24 w) (bits 25 25 w) (bits 26 31 w) ≡ w
unfolding first_word
first_parts w h =
    first_sum w (bits 0 0 w) (bits 1 24 w) (bits 25 25 w) (bits 26 31 w) (bits 1 31 w) (bits 25 31 w)
    (sym (bits_all w h) ∙ bits_split 0 0 w (lit≤ tt) (lit< tt)) (bits_split 1 24 w (lit≤ tt) (lit< tt)) (bits_split 25 25 w (lit≤ tt) (lit< tt))

second_sum : (w a b c d e f g s t u v x : ℕ) → w ≡ placed 19 a + s → s ≡ placed 22 b + t → t ≡ placed 23 c + u → u ≡ placed 24 d + v
    → v ≡ placed 28 e + x → x ≡ placed 29 f + g → placed 19 a + placed 23 c + placed 24 d + placed 28 e + g + placed 22 b + placed 29 f ≡ w
second_sum w a b c d e f g s t u v x p q r k l m = omega arith

-- of a second word, with its ignored bits
second_parts : (w : ℕ) → w < 2 ^ 32
    → second_word (rpn_of w) (bits 23 23 w) (bits 24 24 w) (wimg_of w) (pp_of w) + placed 22 (bits 20 22 w) + placed 29 (bits 29 29 w) ≡ w
unfolding second_word
second_parts w h =
    second_sum w (rpn_of w) (bits 20 22 w) (bits 23 23 w) (bits 24 24 w) (wimg_of w) (bits 29 29 w) (pp_of w)
    (bits 20 31 w) (bits 23 31 w) (bits 24 31 w) (bits 25 31 w) (bits 29 31 w)
    (sym (bits_all w h) ∙ bits_split 0 19 w (lit≤ tt) (lit< tt)) (bits_split 20 22 w (lit≤ tt) (lit< tt)) (bits_split 23 23 w (lit≤ tt) (lit< tt))
    (bits_split 24 24 w (lit≤ tt) (lit< tt)) (bits_split 25 28 w (lit≤ tt) (lit< tt)) (bits_split 29 29 w (lit≤ tt) (lit< tt))

-- a first word is the packed one of its fields
pub first_is : {v vsid h api w : ℕ} → FirstFields v vsid h api w → w < 2 ^ 32 → w ≡ first_word v vsid h api
first_is {w = w} f h = sym (rw (f.has_v, f.has_vsid, f.has_h, f.has_api) at (first_parts w h))

-- a second word is the packed one of its fields, where its ignored bits are zero
pub second_is : {rpn r c wimg pp w : ℕ} → SecondFields rpn r c wimg pp w → w < 2 ^ 32 → ignored_bits w ≡ 0 ∷ 0 ∷ [] → w ≡ second_word rpn r c wimg pp
unfolding ignored_bits
second_is {w = w} f h e =
    let above : bits 20 22 w ≡ 0 = cc in
    let below : bits 29 29 w ≡ 0 = cc in
    sym (simp (f.has_rpn, f.has_r, f.has_c, f.has_wimg, f.has_pp, above, below, add-zero) at (second_parts w h))

-- second words with the same fields and the same ignored bits are equal
pub second_same : {rpn r c wimg pp u w : ℕ} → SecondFields rpn r c wimg pp u → SecondFields rpn r c wimg pp w → u < 2 ^ 32 → w < 2 ^ 32
    → ignored_bits u ≡ ignored_bits w → u ≡ w
unfolding ignored_bits
second_same {u = u} {w = w} f g hu hw e =
    let above : bits 20 22 u ≡ bits 20 22 w = cc in
    let below : bits 29 29 u ≡ bits 29 29 w = cc in
    let parts = rw (f.has_rpn, f.has_r, f.has_c, f.has_wimg, f.has_pp, above, below) at (second_parts u hu) in
    sym parts ∙ (rw (g.has_rpn, g.has_r, g.has_c, g.has_wimg, g.has_pp) at (second_parts w hw))
