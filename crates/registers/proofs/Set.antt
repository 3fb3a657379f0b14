-- Laws of the register set: the words of a page, and what a set that passed the check has.
use mathlib.Core.Path.{◌≡◌, refl}
use mathlib.Core.Bool.{Bool, true, false, cond, not, ◌&&◌, ◌||◌}
use mathlib.Core.List.{List}
use Prim.Native.Nat.{ℕ, ◌<◌}
use native.Mathlib.Omega.{arith}
use lib.Dec.{eqb, ltb}
use lib.ListN.{length}
use Rattle.words.specs.Words.{words_at}
use borrow.Author.Tests.{not-false, ltb-true, eqb-true}
use Rattle.words.proofs.Tests.{both}
use Rattle.register_words.specs.Sdr1.{sdr1_shape}
use Rattle.registers.specs.Set.{is_page, sdr1_of, segments_shape, side_shape, side_apart, check_words, register_count, register_words, replacing}

-- a page that is not long is short
pub short_page : (size : ℕ) → is_page size ≡ true → (size ≡ 196 → ⊥) → size ≡ 132
short_page size page long = go (eqb size 132) refl page
  where
    go : (t : Bool) → eqb size 132 ≡ t → (t || eqb size 196) ≡ true → size ≡ 132
    go true e p = eqb-true size 132 e
    go false e p = absurd (long (eqb-true size 196 p))

-- the words of a long and of a short page
pub words_long : (registers : List ℕ) → length registers ≡ 196 → register_words registers ≡ words_at registers 0 49
unfolding register_words
words_long registers e = rw e

pub words_short : (registers : List ℕ) → length registers ≡ 132 → register_words registers ≡ words_at registers 0 33
unfolding register_words
words_short registers e = rw e

-- where the first broken rule is none, a rule is kept, and so are those behind it
pub rule_kept : (broken : Bool) (number rest : ℕ) → (number ≡ 0 → ⊥) → cond broken number rest ≡ 0 → (broken ≡ false) × (rest ≡ 0)
rule_kept true number rest n e = absurd (n e)
rule_kept false number rest n e = (refl, e)

-- what a set that passed the check has
pub record Checked (pairs width : ℕ) (words : List ℕ) : Type 0 where
  pub sdr1 : sdr1_shape (sdr1_of words) ≡ true
  pub shape : (side : Bool) → side_shape pairs width words side ≡ true
  pub apart : (side : Bool) → side_apart pairs width words side ≡ true
  pub segments : segments_shape words ≡ true

-- a test that holds for both sides
by_side : (test : Bool → Bool) → (test false && test true) ≡ true → (side : Bool) → test side ≡ true
by_side test e true = (both (test false) (test true) e).1
by_side test e false = (both (test false) (test true) e).0

pub checked : (pairs width : ℕ) (words : List ℕ) → check_words pairs width words ≡ 0 → Checked pairs width words
unfolding check_words
checked pairs width words passed =
    let sdr1 = sdr1_shape (sdr1_of words) in
    let shape = side_shape pairs width words false && side_shape pairs width words true in
    let apart = side_apart pairs width words false && side_apart pairs width words true in
    let segments = segments_shape words in
    let (kept₂, rest₂) = rule_kept (not sdr1) 2 (cond (not shape) 3 (cond (not apart) 4 (cond (not segments) 5 0))) (λ e. omega arith) passed in
    let (kept₃, rest₃) = rule_kept (not shape) 3 (cond (not apart) 4 (cond (not segments) 5 0)) (λ e. omega arith) rest₂ in
    let (kept₄, rest₄) = rule_kept (not apart) 4 (cond (not segments) 5 0) (λ e. omega arith) rest₃ in
    let (kept₅, rest₅) = rule_kept (not segments) 5 0 (λ e. omega arith) rest₄ in
    record {
      sdr1 = not-false sdr1 kept₂;
      shape = by_side (side_shape pairs width words) (not-false shape kept₃);
      apart = by_side (side_apart pairs width words) (not-false apart kept₄);
      segments = not-false segments kept₅;
    }

-- a word is replaced only under a number of its page
pub replaced_number : (long : Bool) (words : List ℕ) (number word : ℕ) → replacing long words number word ≡ 0 → number < register_count long
unfolding replacing
replaced_number long words number word done = go (ltb number (register_count long)) refl
  where
    go : (t : Bool) → ltb number (register_count long) ≡ t → number < register_count long
    go true e = ltb-true number (register_count long) e
    go false e = absurd (let z : ◌≡◌ {A = ℕ} 6 0 = (rw e at done) in omega arith)
