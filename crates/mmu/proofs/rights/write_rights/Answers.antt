-- `mmu::rights::write_rights` meets its contract: three answers of 48 bytes and three words fill 156 bytes, each part behind the one before.
use borrow.Rule.Slice.PartMut.{post_of, put_mid}
use mathlib.Core.Path.{◌≡◌, refl, sym, ap, ap₂, ◌∙◌}
use mathlib.Core.List.{List, [], ◌++◌, append_assoc, append-nil}
use Prim.Native.Nat.{ℕ}
use native.Mathlib.Omega.{arith}
use lib.ListN.{length, drop, length-append, length-drop, drop_of_length-le}
use lib.Seq.{take_at, drop_at}
use Rattle.words.specs.Words.{word_bytes, bytes_of}
use Rattle.translation.specs.declared.operand.OperandAnswer.{OperandAnswer}
use Rattle.theory_calls.specs.Answers.{access_answer}
use Rattle.mmu.proofs.rights.write_rights.Goals as goal

-- a part that is put behind what stands before it
put_behind : (xs ys rest : List ℕ) (i n : ℕ) → length xs ≡ i → put_mid i n (xs ++ rest) ys ≡ xs ++ (ys ++ drop n rest)
put_behind xs ys rest i n e = ap₂ (λ (p q : List ℕ). p ++ (ys ++ drop n q)) (take_at xs rest i e) (drop_at xs rest i e)

-- parts of 48, 48, 48 and 12 bytes are all of 156
filled : (s a b c d : List ℕ) → length s ≡ 156 → length a ≡ 48 → length b ≡ 48 → length c ≡ 48
    → put_mid 144 12 (put_mid 96 48 (put_mid 48 48 (a ++ post_of 0 48 s) b) c) d ≡ a ++ (b ++ (c ++ d))
filled s a b c d whole la lb lc =
    let rest = drop 48 (drop 48 s) in
    let last = drop 48 rest in
    let ab : length (a ++ b) ≡ 96 = omega (arith, length-append a b) in
    let abc : length ((a ++ b) ++ c) ≡ 144 = omega (arith, length-append (a ++ b) c) in
    let second : put_mid 48 48 (a ++ drop 48 s) b ≡ (a ++ b) ++ rest = put_behind a b (drop 48 s) 48 48 la ∙ sym (append_assoc a b rest) in
    let third : put_mid 96 48 ((a ++ b) ++ rest) c ≡ ((a ++ b) ++ c) ++ last = put_behind (a ++ b) c rest 96 48 ab ∙ sym (append_assoc (a ++ b) c last) in
    let none : drop 12 last ≡ [] = drop_of_length-le last {i = 12} (simp length-drop (omega arith)) in
    ap (λ (z : List ℕ). put_mid 144 12 (put_mid 96 48 z c) d) second
    ∙ ap (λ (z : List ℕ). put_mid 144 12 z d) third
    ∙ put_behind ((a ++ b) ++ c) d last 144 12 abc
    ∙ ap (λ (z : List ℕ). ((a ++ b) ++ c) ++ (d ++ z)) none
    ∙ simp (append_assoc, append-nil)

-- an answer has 48 bytes
answer_length : (a : OperandAnswer) → length (access_answer a) ≡ 48
unfolding access_answer bytes_of word_bytes
answer_length a = refl

pub returns : goal.returns
returns c =
    let told = c.args.told in
    rw (c.tell.ensures.1, c.tell-2.ensures.1, c.tell-3.ensures.1, c.write_words.ensures)
    (filled c.args.answer.now (access_answer told.fetch.told) (access_answer told.load.told) (access_answer told.store.told) _ c.requires
    (answer_length told.fetch.told) (answer_length told.load.told) (answer_length told.store.told))
