-- Words that stand where a short page's stand in a set are the page's words widened.
use borrow.Author.Tests.{ltb-true, ltb-false}
use mathlib.Core.Path.{◌≡◌, refl, sym, ap, ◌∙◌}
use mathlib.Core.Bool.{Bool, true, false}
use mathlib.Core.List.{List}
use Prim.Native.Nat.{ℕ, ◌≤◌, ◌<◌, ◌+◌, ◌-◌, ◌*◌}
use native.Mathlib.Omega.{arith}
use lib.Dec.{ltb}
use lib.ListN.{length, get_or}
use lib.Seq.{ext_get_or}
use Rattle.words.specs.Words.{word_at, words_at}
use Rattle.words.proofs.Words.{length_words_at, get_or_words_at}
use Rattle.registers.specs.Set.{widened}
use Rattle.registers.proofs.Widened.{widened_length, at_front, at_gap, at_data, at_end}

-- what stands where, after the words below i
pub record Read (registers words : List ℕ) (i : ℕ) : Type 0 where
  pub from : 25 ≤ i
  pub to : i ≤ 33
  pub whole : length words ≡ 49
  pub front : (k : ℕ) → k < 25 → get_or words k 0 ≡ word_at registers (4 * k)
  pub gap : (k : ℕ) → 25 ≤ k → k < 33 → get_or words k 0 ≡ 0
  pub data_words : (k : ℕ) → 25 ≤ k → k < i → get_or words (k + 8) 0 ≡ word_at registers (4 * k)
  pub end : (k : ℕ) → i + 8 ≤ k → k < 49 → get_or words k 0 ≡ 0

-- the words stand as in the page widened
pub widened_is : (registers words : List ℕ) → Read registers words 33 → words ≡ widened (words_at registers 0 33)
widened_is registers words r =
    let short = words_at registers 0 33 in
    let full = length_words_at registers 0 33 in
    ext_get_or 0 words (widened short) (r.whole ∙ sym (widened_length short full)) (λ k l. by k (omega (arith, l, r.whole)) (ltb k 25) refl (ltb k 33) refl (ltb k 41) refl)
  where
    by : (k : ℕ) → k < 49 → (a : Bool) → ltb k 25 ≡ a → (b : Bool) → ltb k 33 ≡ b → (d : Bool) → ltb k 41 ≡ d → get_or words k 0 ≡ get_or (widened (words_at registers 0 33)) k 0
    by k l true e b f d g =
        let h = ltb-true k 25 e in
        r.front k h ∙ ap (word_at registers) (omega arith) ∙ sym (at_front (words_at registers 0 33) (length_words_at registers 0 33) k h ∙ get_or_words_at registers 0 33 k (omega (arith, h)))
    by k l false e true f d g =
        let h = ltb-false k 25 e in
        let i = ltb-true k 33 f in
        r.gap k h i ∙ sym (ap (λ (n : ℕ). get_or (widened (words_at registers 0 33)) n 0) (omega (arith, h)) ∙ at_gap (words_at registers 0 33) (length_words_at registers 0 33) (k - 25) (omega (arith, h, i)))
    by k l false e false f true g =
        let h = ltb-false k 33 f in
        let i = ltb-true k 41 g in
        ap (λ (n : ℕ). get_or words n 0) (omega (arith, h))
        ∙ r.data_words (k - 8) (omega (arith, h)) (omega (arith, h, i))
        ∙ ap (word_at registers) (omega (arith, h))
        ∙ sym (ap (λ (n : ℕ). get_or (widened (words_at registers 0 33)) n 0) (omega (arith, h))
        ∙ at_data (words_at registers 0 33) (length_words_at registers 0 33) (k - 33) (omega (arith, h, i))
        ∙ get_or_words_at registers 0 33 (25 + (k - 33)) (omega (arith, h, i)))
    by k l false e false f false g =
        let h = ltb-false k 41 g in
        r.end k h l ∙ sym (ap (λ (n : ℕ). get_or (widened (words_at registers 0 33)) n 0) (omega (arith, h)) ∙ at_end (words_at registers 0 33) (length_words_at registers 0 33) (k - 41) (omega (arith, h, l)))
