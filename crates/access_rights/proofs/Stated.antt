-- What is told of any table, each answer and each word at its place.
use Prim.Native.Nat.{ℕ, zero, suc, ◌+◌, ◌*◌, ◌^◌, ◌<◌}
use mathlib.Core.Path.{◌≡◌, refl, sym, ap, ◌∙◌}
use mathlib.Core.Bool.{Bool, true, false, cond, ◌&&◌}
use mathlib.Core.List.{List, [], ◌∷◌, ◌++◌, append_assoc}
use native.Mathlib.Omega.{arith}
use lib.Dec.{eqb, lit<, lit≤}
use lib.ListN.{length, get_or, take, drop, replicate, length-append}
use lib.Seq.{take_at, drop_at, get_or-append-add}
use borrow.Author.Tests.{eqb-true, eq-eqb, lt-ltb}
use Rattle.words.specs.Words.{word_bytes, word_at, bytes_of}
use Rattle.words.proofs.Words.{own_bytes}
use Rattle.words.proofs.Tests.{both, by_test}
use Rattle.registers.specs.Rules.{first_broken}
use Rattle.register_words.specs.Sdr1.{mask_ones}
use Rattle.register_words.specs.Block.{bl_width}
use Rattle.registers.specs.Set.{is_page, is_long, block_pairs, register_words}
use Rattle.theory_calls.specs.Request.{access, sdr1_in, fed}
use Rattle.theory_calls.specs.Rules.{refusal}
use Rattle.theory_calls.specs.Answers.{access_answer, refused_bytes, answer_refused}
use Rattle.theory_calls.specs.OnBytes.{ended, bytes_do, on_bytes}
use Rattle.theory_calls.proofs.Access.{then_not_11}
use Rattle.theory_calls.proofs.Arguments.{access_decides}
use Rattle.access_rights.specs.Rights.{RightsCall, asking, would_end, new_marks, rights_told, rights_refusal, rights_call}
use Rattle.access_rights.specs.Stated.{answer_told, marks_told, ToldOnAny, RightsStated}
use Rattle.access_rights.proofs.Shared.{own_rules, own_rules_law}
use Rattle.access_rights.proofs.Call.{wrong_length, right_lengths}
use Rattle.access_rights.proofs.Rows.{rights_rows}
use Rattle.access_rights.proofs.AnyMarks.{few_marks, marks_on_any}

-- ---- the places

-- a word behind other bytes
word_behind : (xs ys : List ℕ) (n j : ℕ) → length xs ≡ n → word_at (xs ++ ys) (n + j) ≡ word_at ys j
unfolding word_at
word_behind xs ys n j e = rw (at (n + j) j (omega arith), at (n + j + 1) (j + 1) (omega arith), at (n + j + 2) (j + 2) (omega arith), at (n + j + 3) (j + 3) (omega arith))
  where
    at : (m i : ℕ) → m ≡ length xs + i → get_or (xs ++ ys) m 0 ≡ get_or ys i 0
    at m i q = ap (λ (l : ℕ). get_or (xs ++ ys) l 0) q ∙ get_or-append-add xs ys i 0

module _ (a b c d : List ℕ) (la : length a ≡ 48) (lb : length b ≡ 48) (lc : length c ≡ 48) where
  abbrev all : List ℕ
  all = a ++ (b ++ (c ++ d))

  pub first_part : answer_told all 0 ≡ a
  first_part = take_at a (b ++ (c ++ d)) 48 la

  pub second_part : answer_told all 1 ≡ b
  second_part = ap (take 48) (drop_at a (b ++ (c ++ d)) 48 la) ∙ take_at b (c ++ d) 48 lb

  pub third_part : answer_told all 2 ≡ c
  third_part =
      ap (take 48) (ap (drop 96) (sym (append_assoc a b (c ++ d))) ∙ drop_at (a ++ b) (c ++ d) 96 (omega (arith, length-append a b)))
      ∙ take_at c d 48 lc

  pub rest_part : drop 144 all ≡ d
  rest_part =
      ap (drop 144) (sym (append_assoc a b (c ++ d)) ∙ sym (append_assoc (a ++ b) c d))
      ∙ drop_at ((a ++ b) ++ c) d 144 (omega (arith, length-append a b, length-append (a ++ b) c))

  last_words : (j : ℕ) → word_at all (144 + j) ≡ word_at d j
  last_words j =
      ap (λ (s : List ℕ). word_at s (144 + j)) (sym (append_assoc a b (c ++ d)) ∙ sym (append_assoc (a ++ b) c d))
      ∙ word_behind ((a ++ b) ++ c) d 144 j (omega (arith, length-append a b, length-append (a ++ b) c))

-- ---- any table

-- an answer has 48 bytes, whatever the access comes to
pub answer_length : (c : RightsCall) (t : List ℕ) (kind : ℕ) → length (would_end c t kind).answer ≡ 48
unfolding on_bytes bytes_do answer_refused refused_bytes access_answer bytes_of word_bytes
answer_length c t kind = go (eqb number 0) (eqb number 11)
  where
    number : ℕ
    number = refusal (fed (access (asking c kind))) (length t)

    go : (z e : Bool) → length (cond z (bytes_do (mask_ones (sdr1_in (access (asking c kind)))) (access (asking c kind)) t)
        (ended number t (cond e (replicate 48 0) (bytes_of (number ∷ replicate 11 0))))).answer ≡ 48
    go true e = refl
    go false true = refl
    go false false = refl

module _ (c : RightsCall) (answer t : List ℕ) where
  -- the lengths of a call that is not refused for them
  pub lengths_right : ((rights_call c answer t).0 ≡ 11 → ⊥) → (is_page (length c.registers) ≡ true) × (length answer ≡ 156)
  lengths_right n =
      by_test (is_page (length c.registers) && eqb (length answer) 156)
      (λ e. let (page, long) = both _ _ e in (page, eqb-true (length answer) 156 long))
      (λ e. absurd (n (ap (λ (x : ℕ × List ℕ). x.0) (wrong_length c answer t e))))

  -- the refusal is the same for each kind
  same_refusal : is_page (length c.registers) ≡ true → (kind : ℕ) → kind < 3 → refusal (fed (access (asking c 0))) (length t) ≡ refusal (fed (access (asking c kind))) (length t)
  same_refusal page kind few =
      let of-kind : first_broken (own_rules c page kind (length t)) ≡ first_broken (own_rules c page 0 (length t)) = rw (lt-ltb kind 3 few) in
      own_rules_law c page 0 (length t) ∙ sym (own_rules_law c page kind (length t) ∙ of-kind)

  -- what is told, where no length is refused
  told_is : ((rights_call c answer t).0 ≡ 11 → ⊥) → (rights_call c answer t).1 ≡ rights_told c t
  told_is n = let (page, long) = lengths_right n in ap (λ (x : ℕ × List ℕ). x.1) (right_lengths c answer t page long)

  -- an access answers so whatever it is lent for its answer
  any_lent : is_page (length c.registers) ≡ true → (kind : ℕ) (lent : List ℕ) → length lent ≡ 48
      → (would_end c t kind).answer ≡ (on_bytes (access (record { registers = c.registers; mode = c.mode; kind = kind; address = c.address; length = 1; answer = lent })) t).answer
  unfolding on_bytes fed bytes_do answer_refused refused_bytes sdr1_in
  any_lent page kind lent long =
      let other : eqb (refusal (fed (access (asking c kind))) (length t)) 11 ≡ false =
      ap (λ (n : ℕ). eqb n 11) (own_rules_law c page kind (length t))
      ∙ then_not_11 (block_pairs (is_long (length c.registers))) (bl_width (is_long (length c.registers))) (register_words c.registers) c.mode kind 1 (length t) in
      rw (long, other)

  -- the answers and the words of marks as bytes
  abbrev answers : ℕ → List ℕ
  answers kind = (would_end c t kind).answer

  abbrev marks : ℕ → ℕ
  marks kind = new_marks t (would_end c t kind)

  abbrev words : List ℕ
  words = bytes_of (marks 0 ∷ marks 1 ∷ marks 2 ∷ [])

  told_at : (kind : ℕ) → kind < 3 → answer_told (rights_told c t) kind ≡ answers kind
  unfolding rights_told
  told_at zero few = first_part (answers 0) (answers 1) (answers 2) words (answer_length c t 0) (answer_length c t 1) (answer_length c t 2)
  told_at (suc zero) few = second_part (answers 0) (answers 1) (answers 2) words (answer_length c t 0) (answer_length c t 1) (answer_length c t 2)
  told_at (suc (suc zero)) few = third_part (answers 0) (answers 1) (answers 2) words (answer_length c t 0) (answer_length c t 1) (answer_length c t 2)
  told_at (suc (suc (suc n))) few = absurd (omega arith)

  -- a word of marks, in the three
  word_read : ((i : ℕ) → get_or t i 0 < 2 ^ 8) → (kind : ℕ) → kind < 3 → word_at words (4 * kind) ≡ marks kind
  unfolding bytes_of word_bytes word_at
  word_read bytes zero few = own_bytes (marks 0) (omega (arith, (few_marks c t bytes 0).2))
  word_read bytes (suc zero) few = own_bytes (marks 1) (omega (arith, (few_marks c t bytes 1).2))
  word_read bytes (suc (suc zero)) few = own_bytes (marks 2) (omega (arith, (few_marks c t bytes 2).2))
  word_read bytes (suc (suc (suc n))) few = absurd (omega arith)

  marked_at : ((i : ℕ) → get_or t i 0 < 2 ^ 8) → (kind : ℕ) → kind < 3 → marks_told (rights_told c t) kind ≡ marks kind
  unfolding rights_told
  marked_at bytes kind few =
      last_words (answers 0) (answers 1) (answers 2) words (answer_length c t 0) (answer_length c t 1) (answer_length c t 2) (4 * kind)
      ∙ word_read bytes kind few

  number_is : is_page (length c.registers) ≡ true → length answer ≡ 156 → (kind : ℕ) → kind < 3
      → (rights_call c answer t).0 ≡ refusal (fed (access (asking c kind))) (length t)
  number_is page long kind few = ap (λ (x : ℕ × List ℕ). x.0) (right_lengths c answer t page long) ∙ same_refusal page kind few

  not_refused_to : (rights_call c answer t).0 ≡ 0 → (length answer ≡ 156) × ((kind : ℕ) → kind < 3 → refusal (fed (access (asking c kind))) (length t) ≡ 0)
  not_refused_to z =
      let (page, long) = lengths_right (λ e. let q : ◌≡◌ {A = ℕ} 0 11 = sym z ∙ e in omega arith) in
      (long, λ kind few. sym (number_is page long kind few) ∙ z)

  pub told_on_any : ToldOnAny c answer t
  unfolding rights_call rights_refusal refusal
  told_on_any = record {
    left = λ e. rw (eq-eqb (rights_refusal c (length answer) (length t)) 11 e);
    answers = λ n kind few lent long.
        ap (λ (s : List ℕ). answer_told s kind) (told_is n) ∙ told_at kind few ∙ any_lent (lengths_right n).0 kind lent long;
    marks = λ n bytes kind few. ap (λ (s : List ℕ). marks_told s kind) (told_is n) ∙ marked_at bytes kind few;
    number = number_is;
    not_refused = (not_refused_to, λ (long, kept). rw long (kept 0 (lit< tt)));
    done_where = (
      λ z. let (long, kept) = not_refused_to z in (long, ((access_decides (asking c 0) (length t)).0 (kept 0 (lit< tt))).translates),
      λ (long, good).
          rw long ((access_decides (asking c 0) (length t)).1 (record { answer = refl; kind_lt = lit< tt; some = lit≤ tt; few = lit≤ tt; translates = good })),
    );
  }

pub rights_stated : RightsStated
rights_stated = record {
  told = told_on_any;
  marks = λ c t bytes kind. marks_on_any c t bytes kind;
  rows = rights_rows;
}
