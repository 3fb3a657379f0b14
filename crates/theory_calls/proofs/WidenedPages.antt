-- A short register page and the same page widened answer alike: each word of the widened page is the widened words' own, and for pairs without bits
-- 15 to 18 the limits of either page are the same.
use mathlib.Core.Path.{◌≡◌, refl, sym, ap, ap₂, ◌∙◌}
use mathlib.Core.Bool.{Bool, true, false, cond, not, ◌&&◌, true≢false}
use mathlib.Core.List.{List, [], ◌∷◌, ◌++◌}
use Prim.Native.Nat.{ℕ, suc, ◌+◌, ◌-◌, ◌*◌, ◌<◌, ◌≤◌}
use native.Mathlib.Nat.{add-zero, suc-add}
use native.Mathlib.Omega.{arith}
use lib.Dec.{eqb, ltb}
use lib.ListN.{length, get_or, set, length-set}
use lib.Seq.{sets}
use borrow.Author.Tests.{ltb-true, ltb-false, lt-ltb, le-ltb}
use Rattle.words.specs.Words.{word_at, words_at, with_word, word_bytes}
use Rattle.words.proofs.Words.{length_words_at, get_or_words_at}
use Rattle.words.proofs.Below.{every_not}
use Rattle.register_words.specs.Sdr1.{sdr1_shape, table_length, mask_ones}
use Rattle.register_words.specs.Block.{narrow, block_shape}
use Rattle.register_words.proofs.Blocks.{shape_narrow}
use Rattle.registers.specs.Set.{sdr1_of, upper_of, lower_of, side_shape, check_words, register_rules, register_words, replacing, spread, widened, place_in_set}
use Rattle.registers.proofs.Set.{words_long, words_short}
use Rattle.registers.proofs.Placed.{Read, widened_is}
use Rattle.registers.proofs.Wide.{Narrow, check_same, side_shape_same, side_apart_same}
use Rattle.registers.proofs.Widened.{upper_first, upper_last, sdr1_widened, check_widened, set_widened}
use Rattle.registers.proofs.Spread.{spread_length, spread_front, spread_gap, spread_back, spread_end, spread_set}
use Rattle.translation.specs.Steps.{before_search}
use Rattle.translation.proofs.Widened.{before_same, before_widened}
use Rattle.theory_calls.specs.Widened.{widened_page, NoHighBit, with_page, PagesWiden}
use Rattle.theory_calls.specs.WithoutTable.{check_call, set_register_call}
use Rattle.theory_calls.proofs.Pages.{rules_widened, told_by, left_by, each_part}
use Rattle.registers.specs.Rules.{first_broken}
use Rattle.translation.specs.Operand.{part_start}
use Rattle.translation.specs.declared.Early.{Early}
use Rattle.theory_calls.specs.Request.{AccessCall, access, fed, sdr1_in}
use Rattle.theory_calls.specs.Rules.{operand_in_range, rules, refusal}
use Rattle.theory_calls.specs.Answers.{access_answer, answer_refused}
use Rattle.theory_calls.specs.OnBytes.{Ended, ended, early_of, bytes_do, on_bytes}

-- ---- the words of the widened page

module _ (registers : List ℕ) (short : length registers ≡ 132) where
  abbrev page : List ℕ
  page = widened_page registers

  pub page_length : length page ≡ 196
  unfolding widened_page
  page_length = spread_length 100 32 registers short

  byte_front : (k : ℕ) → k < 100 → get_or page k 0 ≡ get_or registers k 0
  unfolding widened_page
  byte_front = spread_front 100 32 registers short

  byte_gap : (n : ℕ) → n < 32 → get_or page (100 + n) 0 ≡ 0
  unfolding widened_page
  byte_gap = spread_gap 100 32 registers short

  byte_data : (n : ℕ) → n < 32 → get_or page (132 + n) 0 ≡ get_or registers (100 + n) 0
  unfolding widened_page
  byte_data = spread_back 100 32 registers short

  byte_end : (n : ℕ) → n < 32 → get_or page (164 + n) 0 ≡ 0
  unfolding widened_page
  byte_end = spread_end 100 32 registers short

  -- a word by its four bytes
  word_by : (at : ℕ) (s : List ℕ) (from : ℕ) → ((j : ℕ) → j < 4 → get_or page (at + j) 0 ≡ get_or s (from + j) 0) → word_at page at ≡ word_at s from
  unfolding word_at
  word_by at s from same =
      rw (
        ap (λ (k : ℕ). get_or page k 0) (sym (add-zero at)) ∙ same 0 (omega arith) ∙ ap (λ (k : ℕ). get_or s k 0) (add-zero from),
        same 1 (omega arith),
        same 2 (omega arith),
        same 3 (omega arith),
      )

  word_zero : (at : ℕ) → ((j : ℕ) → j < 4 → get_or page (at + j) 0 ≡ 0) → word_at page at ≡ 0
  unfolding word_at
  word_zero at zero =
      rw (ap (λ (k : ℕ). get_or page k 0) (sym (add-zero at)) ∙ zero 0 (omega arith), zero 1 (omega arith), zero 2 (omega arith), zero 3 (omega arith))

  at_word : (k : ℕ) → k < 49 → get_or (words_at page 0 49) k 0 ≡ word_at page (4 * k)
  at_word k l = get_or_words_at page 0 49 k l ∙ ap (word_at page) (omega arith)

  index : (m n : ℕ) → m ≡ n → get_or page m 0 ≡ get_or page n 0
  index m n e = ap (λ (k : ℕ). get_or page k 0) e

  placed : Read registers (words_at page 0 49) 33
  placed = record {
    from = omega arith;
    to = omega arith;
    whole = length_words_at page 0 49;
    front = λ k l. at_word k (omega (arith, l)) ∙ word_by (4 * k) registers (4 * k) (λ j h. byte_front (4 * k + j) (omega (arith, l, h)));
    gap = λ k g l. at_word k (omega (arith, l)) ∙ word_zero (4 * k) (λ j h. index (4 * k + j) (100 + (4 * k + j - 100)) (omega (arith, g)) ∙ byte_gap (4 * k + j - 100) (omega (arith, g, l, h)));
    data_words = λ k g l.
        at_word (k + 8) (omega (arith, l))
        ∙ word_by (4 * (k + 8)) registers (4 * k)
        (λ j h. index (4 * (k + 8) + j) (132 + (4 * k + j - 100)) (omega (arith, g)) ∙ byte_data (4 * k + j - 100) (omega (arith, g, l, h)) ∙ ap (λ (n : ℕ). get_or registers n 0) (omega (arith, g)));
    end = λ k g l. at_word k l ∙ word_zero (4 * k) (λ j h. index (4 * k + j) (164 + (4 * k + j - 164)) (omega (arith, g)) ∙ byte_end (4 * k + j - 164) (omega (arith, g, l, h)));
  }

  pub words_widened : register_words page ≡ widened (register_words registers)
  words_widened = words_long page page_length ∙ widened_is registers (words_at page 0 49) placed ∙ ap widened (sym (words_short registers short))

  words_full : length (register_words registers) ≡ 33
  words_full = ap length (words_short registers short) ∙ length_words_at registers 0 33

-- ---- the limits of either page

zero_narrow : narrow 0 ≡ true
unfolding narrow
zero_narrow = refl

-- without bits 15 to 18 the rules of the set, its check and the steps before the search are those of the widened words
module _ (words : List ℕ) (full : length words ≡ 33) (none : NoHighBit words) where
  own : (side : Bool) → Narrow 8 (widened words) side
  own side i l = go (ltb i 4) refl
    where
      go : (t : Bool) → ltb i 4 ≡ t → narrow (upper_of 8 (widened words) side i) ≡ true
      go true e = ap narrow (upper_first words full side i (ltb-true i 4 e)) ∙ none side i (ltb-true i 4 e)
      go false e = ap narrow (upper_last words full side i (ltb-false i 4 e) l) ∙ zero_narrow

  check_both : check_words 4 11 words ≡ check_words 8 15 (widened words)
  check_both = sym (check_widened words full 11) ∙ check_same 8 (widened words) own

  rules_both : register_rules 4 11 words ≡ register_rules 8 15 (widened words)
  rules_both =
      sym (rules_widened words full 11)
      ∙ rw (
        side_shape_same 8 (widened words) false (own false),
        side_shape_same 8 (widened words) true (own true),
        side_apart_same 8 (widened words) false (own false),
        side_apart_same 8 (widened words) true (own true),
      )

  early_both : (mode kind address : ℕ) → before_search 4 11 words mode kind address ≡ before_search 8 15 (widened words) mode kind address
  early_both mode kind address = before_widened words full 11 mode kind address ∙ before_same 8 (widened words) own mode kind address

-- ---- the access

-- what an access that is not refused ends in, by what steps 1 to 3 of its parts come to
abbrev ended_by : AccessCall (List ℕ) → ℕ → List ℕ → (Bool → Early) → Ended (List ℕ)
ended_by c k t early =
    let told = told_by c.kind c.address c.length k t early in
    ended told.part.result (left_by c.kind c.address c.length k t early) (access_answer told)

bytes_by : (c : AccessCall (List ℕ)) (k : ℕ) (t : List ℕ) → bytes_do k (access c) t ≡ ended_by c k t (early_of c)
unfolding bytes_do
bytes_by c k t = refl

-- the rules of an access by those of its registers and by SDR1
abbrev rules_by : AccessCall (List ℕ) → ℕ → List (Bool × ℕ) → ℕ → ℕ
rules_by c lent own sdr1 =
    first_broken
    ((not (eqb (length c.answer) 48), 11) ∷ (not (ltb c.mode 8 && ltb c.kind 3), 6) ∷ (not (operand_in_range c.length), 12)
    ∷ own ++ ((not (eqb lent (table_length sdr1)), 1) ∷ []))

module _ (registers : List ℕ) (short : length registers ≡ 132) (c : AccessCall (List ℕ)) where
  abbrev before : AccessCall (List ℕ)
  before = with_page registers c

  abbrev after : AccessCall (List ℕ)
  after = with_page (widened_page registers) c

  abbrev words : List ℕ
  words = register_words registers

  refused_short : (lent : ℕ) → refusal (fed (access before)) lent ≡ rules_by c lent (register_rules 4 11 words) (sdr1_of words)
  unfolding refusal rules fed
  refused_short lent = rw short

  refused_long : (lent : ℕ) → refusal (fed (access after)) lent ≡ rules_by c lent (register_rules 8 15 (widened words)) (sdr1_of (widened words))
  unfolding refusal rules fed
  refused_long lent = rw (page_length registers short, words_widened registers short)

  early_short : (second : Bool) → early_of before second ≡ before_search 4 11 words c.mode c.kind (part_start c.address c.length second)
  early_short second = rw short

  early_long : (second : Bool) → early_of after second ≡ before_search 8 15 (widened words) c.mode c.kind (part_start c.address c.length second)
  early_long second = rw (page_length registers short, words_widened registers short)

  module _ (none : NoHighBit words) (t : List ℕ) where
    full : length words ≡ 33
    full = words_full registers short

    number_same : refusal (fed (access before)) (length t) ≡ refusal (fed (access after)) (length t)
    number_same =
        refused_short (length t)
        ∙ ap₂ (rules_by c (length t)) (rules_both words full none) (sym (sdr1_widened words full))
        ∙ sym (refused_long (length t))

    early_same : early_of before ≡ early_of after
    early_same = each_part (λ second. early_short second ∙ early_both words full none c.mode c.kind (part_start c.address c.length second) ∙ sym (early_long second))

    sdr1_same : sdr1_in (access before) ≡ sdr1_in (access after)
    unfolding sdr1_in
    sdr1_same = sym (sdr1_widened words full) ∙ ap sdr1_of (sym (words_widened registers short))

    done_same : bytes_do (mask_ones (sdr1_in (access before))) (access before) t ≡ bytes_do (mask_ones (sdr1_in (access after))) (access after) t
    done_same =
        bytes_by before (mask_ones (sdr1_in (access before))) t
        ∙ ap₂ (λ (sdr1 : ℕ) (early : Bool → Early). ended_by c (mask_ones sdr1) t early) sdr1_same early_same
        ∙ sym (bytes_by after (mask_ones (sdr1_in (access after))) t)

    pub access_same : on_bytes (access before) t ≡ on_bytes (access after) t
    unfolding on_bytes answer_refused
    access_same = ap₂ (λ (n : ℕ) (e : Ended (List ℕ)). cond (eqb n 0) e (ended n t (answer_refused (λ lent. lent) (access before) n))) number_same done_same

-- ---- the check

and_false : (a : Bool) → (a && false) ≡ false
and_false true = refl
and_false false = refl

module _ (registers : List ℕ) (short : length registers ≡ 132) where
  abbrev own_words : List ℕ
  own_words = register_words registers

  check_short : check_call registers ≡ check_words 4 11 own_words
  unfolding check_call
  check_short = rw short

  check_long : check_call (widened_page registers) ≡ check_words 8 15 (widened own_words)
  unfolding check_call
  check_long = rw (page_length registers short, words_widened registers short)

  -- a pair with one of bits 15 to 18 has not its shape
  module _ (side : Bool) (i : ℕ) (l : i < 4) (high : narrow (upper_of 4 own_words side i) ≡ false) where
    misshapen : block_shape 11 side (upper_of 4 own_words side i) (lower_of 4 own_words side i) ≡ false
    misshapen = go (block_shape 11 side (upper_of 4 own_words side i) (lower_of 4 own_words side i)) refl
      where
        go : (t : Bool) → block_shape 11 side (upper_of 4 own_words side i) (lower_of 4 own_words side i) ≡ t → t ≡ false
        go true e = absurd (true≢false (sym (shape_narrow side (upper_of 4 own_words side i) (lower_of 4 own_words side i) e) ∙ high))
        go false e = refl

    side_misshapen : side_shape 4 11 own_words side ≡ false
    unfolding side_shape
    side_misshapen = sym (every_not (λ k. block_shape 11 side (upper_of 4 own_words side k) (lower_of 4 own_words side k)) 4 i l misshapen)

    sides_misshapen : (side_shape 4 11 own_words false && side_shape 4 11 own_words true) ≡ false
    sides_misshapen = go side side_misshapen
      where
        go : (b : Bool) → side_shape 4 11 own_words b ≡ false → (side_shape 4 11 own_words false && side_shape 4 11 own_words true) ≡ false
        go false e = rw e
        go true e = rw e (and_false (side_shape 4 11 own_words false))

    pub check_high : check_call registers ≡ cond (sdr1_shape (sdr1_of own_words)) 3 2
    unfolding check_words
    check_high = check_short ∙ (rw sides_misshapen (go (sdr1_shape (sdr1_of own_words))))
      where
        go : (t : Bool) → ◌≡◌ {A = ℕ} (cond (not t) 2 3) (cond t 3 2)
        go true = refl
        go false = refl

-- ---- set_register

-- a run of stores within the first part, or within the last
module _ (front gap : ℕ) where
  stores_front : (vs xs : List ℕ) → length xs ≡ front + gap → (i : ℕ) → i + length vs ≤ front → spread front gap (sets xs i vs) ≡ sets (spread front gap xs) i vs
  stores_front [] xs full i l = refl
  stores_front (a ∷ vs) xs full i l =
      stores_front vs (set xs i a) (length-set xs i a ∙ full) (suc i) (omega (arith, l))
      ∙ ap (λ (ys : List ℕ). sets ys (suc i) vs) (spread_set front gap xs full i a (omega (arith, l)) ∙ (rw (lt-ltb i front (omega (arith, l)))))

  stores_back : (vs xs : List ℕ) → length xs ≡ front + gap → (i : ℕ) → front ≤ i → i + length vs ≤ front + gap
      → spread front gap (sets xs i vs) ≡ sets (spread front gap xs) (i + gap) vs
  stores_back [] xs full i g l = refl
  stores_back (a ∷ vs) xs full i g l =
      stores_back vs (set xs i a) (length-set xs i a ∙ full) (suc i) (omega (arith, g)) (omega (arith, l))
      ∙ ap₂ (λ (k : ℕ) (ys : List ℕ). sets ys k vs) (suc-add i gap) (spread_set front gap xs full i a (omega (arith, l)) ∙ (rw (le-ltb i front g)))

module _ (registers : List ℕ) (short : length registers ≡ 132) (number word : ℕ) (l : number < 33) where
  abbrev place : ℕ
  place = place_in_set false number

  abbrev old : List ℕ
  old = register_words registers

  abbrev new : List ℕ
  new = set (register_words registers) number word

  four : length (word_bytes word) ≡ 4
  unfolding word_bytes
  four = refl

  -- the page with the word written
  written : with_word (widened_page registers) (4 * place) word ≡ widened_page (with_word registers (4 * number) word)
  unfolding widened_page with_word
  written = go (ltb number 25) refl
    where
      go : (t : Bool) → ltb number 25 ≡ t
          → sets (spread 100 32 registers) (4 * cond t number (number + 8)) (word_bytes word) ≡ spread 100 32 (sets registers (4 * number) (word_bytes word))
      go true e = sym (stores_front 100 32 (word_bytes word) registers short (4 * number) (omega (arith, four, ltb-true number 25 e)))
      go false e =
          ap (λ (k : ℕ). sets (spread 100 32 registers) k (word_bytes word)) (omega arith)
          ∙ sym (stores_back 100 32 (word_bytes word) registers short (4 * number) (omega (arith, ltb-false number 25 e)) (omega (arith, four, l)))

  set_short : set_register_call registers number word
      ≡ (replacing false old number word, cond (eqb (replacing false old number word) 0) (with_word registers (4 * number) word) registers)
  unfolding set_register_call
  set_short = rw short

  set_long : set_register_call (widened_page registers) place word
      ≡ (
        replacing true (widened old) place word,
        cond (eqb (replacing true (widened old) place word) 0) (with_word (widened_page registers) (4 * place) word) (widened_page registers),
      )
  unfolding set_register_call
  set_long = rw (page_length registers short, words_widened registers short)

  place_lt : place < 49
  place_lt = go (ltb number 25) refl
    where
      go : (t : Bool) → ltb number 25 ≡ t → cond t number (number + 8) < 49
      go true e = omega (arith, ltb-true number 25 e)
      go false e = omega (arith, l)

  module _ (none : NoHighBit new) where
    result_same : replacing true (widened old) place word ≡ replacing false old number word
    unfolding replacing
    result_same =
        let full = words_full registers short in
        rw (lt-ltb place 49 place_lt, lt-ltb number 33 l)
        (ap (check_words 8 15) (sym (set_widened old full number word l)) ∙ sym (check_both new (length-set old number word ∙ full) none))

    pub set_same : ((set_register_call (widened_page registers) place word).0 ≡ (set_register_call registers number word).0)
        × ((set_register_call (widened_page registers) place word).1 ≡ widened_page (set_register_call registers number word).1)
    set_same = (
      ap (λ (x : ℕ × List ℕ). x.0) set_long ∙ result_same ∙ sym (ap (λ (x : ℕ × List ℕ). x.0) set_short),
      ap (λ (x : ℕ × List ℕ). x.1) set_long ∙ (rw result_same (go (eqb (replacing false old number word) 0))) ∙ sym (ap (λ (x : ℕ × List ℕ). widened_page x.1) set_short),
    )
      where
        go : (t : Bool) → cond t (with_word (widened_page registers) (4 * place) word) (widened_page registers) ≡ widened_page (cond t (with_word registers (4 * number) word) registers)
        go true = written
        go false = refl

pub pages_widen : PagesWiden
pages_widen registers short = record {
  same_check = λ none. check_short registers short ∙ check_both (register_words registers) (words_full registers short) none ∙ sym (check_long registers short);
  same_access = λ none c t. access_same registers short c none t;
  high_bit = check_high registers short;
  same_set = λ number word l none again. set_same registers short number word l again;
}
