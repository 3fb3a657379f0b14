-- What setting the marks and PP does to a second word: the fields asked for are set, and every other bit, the ignored ones too, is kept.
use mathlib.Core.Bool.{Bool, true, false, cond, ◌||◌}
use mathlib.Core.List.{[], ◌∷◌}
use mathlib.Core.Path.{◌≡◌, refl, ap, ◌∙◌}
use Prim.Native.Nat.{ℕ, ◌+◌, ◌-◌, ◌*◌, ◌/◌, ◌%◌, ◌^◌, ◌≤◌, ◌<◌}
use native.Mathlib.Nat.{le_refl}
use native.Mathlib.Omega.{arith}
use lib.Dec.{eqb, lit≤, lit<}
use borrow.Author.Tests.{eqb-true}
use Rattle.words.specs.Bits.{bits, with_bits}
use Rattle.words.proofs.Tests.{cond_by}
use Rattle.entry.specs.Entry.{second_word, ignored_bits, pp_of, set_if, referenced, changed, with_marks, with_pp}
use Rattle.words.proofs.Bits.{bits_in, bits_above, bits_below, with_bits_lt, with_bits_own}
use Rattle.entry.proofs.Packing.{SecondFields, second_lt, second_packed, second_ignored, second_is, second_own}

-- ---- one bit

module _ (b w : ℕ) (width : b < 32) where
  one_fits : 1 < 2 ^ (b + 1 - b)
  one_fits = let one : b + 1 - b ≡ 1 = omega arith in rw one (lit< tt)

  set_in : (t : Bool) → bits b b (set_if t b w) ≡ cond t 1 (bits b b w)
  set_in true = bits_in b b 1 w (le_refl b) width one_fits
  set_in false = refl

  set_above : (t : Bool) (x y : ℕ) → y < b → bits x y (set_if t b w) ≡ bits x y w
  set_above true x y h = bits_above b b 1 w (le_refl b) width one_fits x y h
  set_above false x y h = refl

  set_below : (t : Bool) (x y : ℕ) → b < x → x ≤ y → y < 32 → bits x y (set_if t b w) ≡ bits x y w
  set_below true x y h l e = bits_below b b 1 w (le_refl b) width one_fits x y h l e
  set_below false x y h l e = refl

  set_lt : (t : Bool) → w < 2 ^ 32 → set_if t b w < 2 ^ 32
  set_lt true h = with_bits_lt b b 1 w (le_refl b) width one_fits h
  set_lt false h = h

  -- a bit that is one may be set
  set_own : set_if (eqb (bits b b w) 1) b w ≡ w
  set_own =
      cond_by (λ (u : ℕ). u ≡ w) (eqb (bits b b w) 1) (with_bits b b 1 w) w
      (λ e. rw (eqb-true (bits b b w) 1 e) at (with_bits_own b b w (le_refl b) width)) (λ e. refl)

-- ---- the marks

pub referenced_fields : {rpn r c wimg pp w : ℕ} → SecondFields rpn r c wimg pp w → referenced w ≡ eqb r 1
unfolding referenced
referenced_fields f = rw f.has_r

pub changed_fields : {rpn r c wimg pp w : ℕ} → SecondFields rpn r c wimg pp w → changed w ≡ eqb c 1
unfolding changed
changed_fields f = rw f.has_c

module _ (r c : Bool) (w : ℕ) where
  pub marks_lt : w < 2 ^ 32 → with_marks r c w < 2 ^ 32
  unfolding with_marks
  marks_lt h = set_lt 24 (set_if r 23 w) (lit< tt) c (set_lt 23 w (lit< tt) r h)

  pub marks_above : (x y : ℕ) → y < 23 → bits x y (with_marks r c w) ≡ bits x y w
  unfolding with_marks
  marks_above x y h = set_above 24 (set_if r 23 w) (lit< tt) c x y (omega arith) ∙ set_above 23 w (lit< tt) r x y h

  pub marks_below : (x y : ℕ) → 24 < x → x ≤ y → y < 32 → bits x y (with_marks r c w) ≡ bits x y w
  unfolding with_marks
  marks_below x y h l e = set_below 24 (set_if r 23 w) (lit< tt) c x y h l e ∙ set_below 23 w (lit< tt) r x y (omega arith) l e

  pub marks_ignored : ignored_bits (with_marks r c w) ≡ ignored_bits w
  unfolding ignored_bits
  marks_ignored = rw (marks_above 20 22 (lit< tt), marks_below 29 29 (lit< tt) (lit≤ tt) (lit< tt))

  -- R and C are set where asked, and the other fields are kept
  pub marks_fields : {rpn x y wimg pp : ℕ} → SecondFields rpn x y wimg pp w → SecondFields rpn (cond r 1 x) (cond c 1 y) wimg pp (with_marks r c w)
  unfolding with_marks
  marks_fields f =
      let r_set = set_above 24 (set_if r 23 w) (lit< tt) c 23 23 (lit< tt) ∙ set_in 23 w (lit< tt) r in
      let c-kept = set_below 23 w (lit< tt) r 24 24 (lit< tt) (lit≤ tt) (lit< tt) in
      let c_set = set_in 24 (set_if r 23 w) (lit< tt) c ∙ ap (λ (u : ℕ). cond c 1 u) c-kept in
      record {
        has_rpn = marks_above 0 19 (lit< tt) ∙ f.has_rpn;
        has_r = rw f.has_r at r_set;
        has_c = rw f.has_c at c_set;
        has_wimg = marks_below 25 28 (lit< tt) (lit≤ tt) (lit< tt) ∙ f.has_wimg;
        has_pp = marks_below 30 31 (lit< tt) (lit≤ tt) (lit< tt) ∙ f.has_pp;
      }

pub marks_referenced : (r c : Bool) (w : ℕ) → referenced (with_marks r c w) ≡ (r || referenced w)
unfolding referenced
marks_referenced true c w = rw (marks_fields true c w (second_own w)).has_r
marks_referenced false c w = rw (marks_fields false c w (second_own w)).has_r

pub marks_changed : (r c : Bool) (w : ℕ) → changed (with_marks r c w) ≡ (c || changed w)
unfolding changed
marks_changed r true w = rw (marks_fields r true w (second_own w)).has_c
marks_changed r false w = rw (marks_fields r false w (second_own w)).has_c

-- no marks change nothing, nor do those that stand already
pub marks_none : (w : ℕ) → with_marks false false w ≡ w
unfolding with_marks
marks_none w = refl

pub marks_own : (w : ℕ) → with_marks (referenced w) (changed w) w ≡ w
unfolding with_marks referenced changed
marks_own w = ap (set_if (eqb (bits 24 24 w) 1) 24) (set_own 23 w (lit< tt)) ∙ set_own 24 w (lit< tt)

-- marks set twice are the marks of both
set_twice : (p q : Bool) (w : ℕ) → (set_if p 23 (set_if q 23 w) ≡ set_if (p || q) 23 w) × (set_if p 24 (set_if q 24 w) ≡ set_if (p || q) 24 w)
set_twice true true w = (omega arith, omega arith)
set_twice true false w = (refl, refl)
set_twice false q w = (refl, refl)

set_swap : (p q : Bool) (w : ℕ) → set_if p 23 (set_if q 24 w) ≡ set_if q 24 (set_if p 23 w)
set_swap true true w =
    let u = with_bits 24 24 1 w in
    let v = with_bits 23 23 1 w in
    let above : u / 2 ^ 9 ≡ w / 2 ^ 9 = omega arith in
    let below : u % 2 ^ 8 ≡ 2 ^ 7 + w % 2 ^ 7 = omega arith in
    let above' : v / 2 ^ 8 ≡ w / 2 ^ 9 * 2 + 1 = omega arith in
    let below' : v % 2 ^ 7 ≡ w % 2 ^ 7 = omega arith in
    sum (u / 2 ^ 9) (u % 2 ^ 8) (v / 2 ^ 8) (v % 2 ^ 7) (w / 2 ^ 9) (w % 2 ^ 7) above below above' below'
  where
    sum : (a b c d x y : ℕ) → a ≡ x → b ≡ 2 ^ 7 + y → c ≡ x * 2 + 1 → d ≡ y → a * 2 ^ 9 + 2 ^ 8 + b ≡ c * 2 ^ 8 + 2 ^ 7 + d
    sum a b c d x y e f g h = omega arith
set_swap true false w = refl
set_swap false q w = refl

pub marks_again : (r c s d : Bool) (w : ℕ) → with_marks r c (with_marks s d w) ≡ with_marks (r || s) (c || d) w
unfolding with_marks
marks_again r c s d w =
    ap (set_if c 24) (set_swap r d (set_if s 23 w)) ∙ (set_twice c d (set_if r 23 (set_if s 23 w))).1 ∙ ap (set_if (c || d) 24) (set_twice r s w).0

-- ---- PP

module _ (pp w : ℕ) (pp_lt : pp < 2 ^ 2) where
  pub pp_kept : (x y : ℕ) → y < 30 → bits x y (with_pp pp w) ≡ bits x y w
  unfolding with_pp
  pp_kept x y h = bits_above 30 31 pp w (lit≤ tt) (lit< tt) pp_lt x y h

  pub pp_ignored : ignored_bits (with_pp pp w) ≡ ignored_bits w
  unfolding ignored_bits
  pp_ignored = rw (pp_kept 20 22 (lit< tt), pp_kept 29 29 (lit< tt))

  -- PP is the new one, and the other fields are kept
  pub pp_fields : {rpn r c wimg p : ℕ} → SecondFields rpn r c wimg p w → SecondFields rpn r c wimg pp (with_pp pp w)
  unfolding with_pp
  pp_fields f = record {
    has_rpn = pp_kept 0 19 (lit< tt) ∙ f.has_rpn;
    has_r = pp_kept 23 23 (lit< tt) ∙ f.has_r;
    has_c = pp_kept 24 24 (lit< tt) ∙ f.has_c;
    has_wimg = pp_kept 25 28 (lit< tt) ∙ f.has_wimg;
    has_pp = bits_in 30 31 pp w (lit≤ tt) (lit< tt) pp_lt;
  }

  pub pp_referenced : referenced (with_pp pp w) ≡ referenced w
  unfolding referenced
  pp_referenced = rw (pp_kept 23 23 (lit< tt))

  pub pp_changed : changed (with_pp pp w) ≡ changed w
  unfolding changed
  pp_changed = rw (pp_kept 24 24 (lit< tt))

  pub with_pp_lt : w < 2 ^ 32 → with_pp pp w < 2 ^ 32
  unfolding with_pp
  with_pp_lt h = with_bits_lt 30 31 pp w (lit≤ tt) (lit< tt) pp_lt h

-- the PP that stands changes nothing
pub pp_own : (w : ℕ) → with_pp (pp_of w) w ≡ w
unfolding with_pp
pp_own w = with_bits_own 30 31 w (lit≤ tt) (lit< tt)

-- ---- words of fields

module _ (rpn r c wimg pp : ℕ) (rpn_lt : rpn < 2 ^ 20) (r-lt : r < 2 ^ 1) (c_lt : c < 2 ^ 1) (wimg_lt : wimg < 2 ^ 4) (pp_lt : pp < 2 ^ 2) where
  made : SecondFields rpn r c wimg pp (second_word rpn r c wimg pp)
  made = second_packed rpn r c wimg pp rpn_lt r-lt c_lt wimg_lt pp_lt

  fits : second_word rpn r c wimg pp < 2 ^ 32
  fits = second_lt rpn r c wimg pp rpn_lt r-lt c_lt wimg_lt pp_lt

  clear : ignored_bits (second_word rpn r c wimg pp) ≡ 0 ∷ 0 ∷ []
  clear = second_ignored rpn r c wimg pp rpn_lt r-lt c_lt wimg_lt pp_lt

  pub marks_packed : (s t : Bool) → with_marks s t (second_word rpn r c wimg pp) ≡ second_word rpn (cond s 1 r) (cond t 1 c) wimg pp
  marks_packed s t =
      let w = second_word rpn r c wimg pp in
      second_is (marks_fields s t w made) (marks_lt s t w fits) (marks_ignored s t w ∙ clear)

  pub pp_packed : (p : ℕ) → p < 2 ^ 2 → with_pp p (second_word rpn r c wimg pp) ≡ second_word rpn r c wimg p
  pp_packed p p-lt =
      let w = second_word rpn r c wimg pp in
      second_is (pp_fields p w p-lt made) (with_pp_lt p w p-lt fits) (pp_ignored p w p-lt ∙ clear)
