-- `register_pages::Set::with_word` meets its contract: the check of the bytes with the word put in is what replacing it comes to.
use borrow.Author.Tests.{eq-eqb, ne_eqb}
use native.Mathlib.Omega.{arith}
use mathlib.Core.Bool.{Bool, true, cond}
use mathlib.Core.List.{List}
use mathlib.Core.Path.{◌≡◌, sym, ap, ap₂, ◌∙◌}
use Prim.Native.Nat.{ℕ, ◌*◌, ◌^◌, ◌<◌}
use lib.ListN.{length}
use Rattle.std.specs.Prelude.{Err}
use Rattle.numbers.specs.Refused.{refusal_number}
use Rattle.numbers.specs.declared.Refusal.{Refusal}
use Rattle.numbers.proofs.Refused.{refused_number}
use Rattle.words.specs.Words.{with_word}
use Rattle.register_words.specs.Block.{bl_width}
use Rattle.registers.specs.Set.{is_page, is_long, block_pairs, register_count, register_words, check_words}
use Rattle.register_pages.specs.Replace.{page_replaced}
use Rattle.register_pages.proofs.Replace.{put_replaced, put_past}
use Rattle.register_pages.proofs.Set.with_word.Goals as goal

-- the answer of a check of the page with the word put in is that of replacing it
module _ (page : List ℕ) (right : is_page (length page) ≡ true) (number word : ℕ) (own : number < register_count (is_long (length page)))
    (small : word < 2 ^ 32) where
  abbrev put : List ℕ
  put = with_word page (4 * number) word

  abbrev answer : List ℕ → ℕ
  answer p = check_words (block_pairs (is_long (length p))) (bl_width (is_long (length p))) (register_words p)

  done : (new : List ℕ) → new ≡ put → 0 ≡ answer new → (0, new) ≡ page_replaced page number word
  done new is told =
      let kept : answer put ≡ 0 = sym (told ∙ ap answer is) in
      ap₂ (λ (r : ℕ) (p : List ℕ). (r, p)) (sym kept) is
      ∙ sym (put_replaced page right number own word small ∙ ap (λ (t : Bool). (answer put, cond t put page)) (eq-eqb (answer put) 0 kept))

  refused : (new : List ℕ) (refusal : Refusal) → new ≡ put → refusal_number refusal ≡ answer new → (refusal_number refusal, page) ≡ page_replaced page number word
  refused new refusal is told =
      let broken : refusal_number refusal ≡ answer put = told ∙ ap answer is in
      ap (λ (r : ℕ). (r, page)) broken
      ∙ sym (put_replaced page right number own word small
      ∙ ap (λ (t : Bool). (answer put, cond t put page)) (ne_eqb (answer put) 0 (λ z. refused_number refusal (broken ∙ z))))

-- the page has the length of its type
right_of : (page : List ℕ) (size : ℕ) → length page ≡ size → is_page size ≡ true → is_page (length page) ≡ true
right_of page size e h = ap is_page e ∙ h

pub returns-then-number-count_of : goal.returns-then-number-count_of
returns-then-number-count_of g c =
    let page = c.args.self.bytes in
    let whole : length page ≡ g.row.N = omega arith in
    let past = rw c.count_of.ensures at c.if-number-count_of.true in
    sym (put_past page c.args.number c.args.word (rw whole past))

pub returns-in_err-check : goal.returns-in_err-check
returns-in_err-check g c =
    let page = c.args.self.bytes in
    let refusal = c.in_err-check.field-0.0 in
    let whole : length page ≡ g.row.N = omega arith in
    let handed : c.from_residual.result ≡ Err refusal = grind arith in
    let own = rw c.count_of.ensures at c.if-number-count_of.false in
    rw handed (refused page (right_of page g.row.N whole c.requires) c.args.number c.args.word (rw whole own) c.ranges.word.fits c.write_word.new.s refusal (c.write_word.ensures ∙ ap (λ (p : List ℕ). with_word p (4 * c.args.number) c.args.word) c.copy.ensures) c.in_err-check.ensures)

pub returns : goal.returns
returns g c =
    let page = c.args.self.bytes in
    let whole : length page ≡ g.row.N = omega arith in
    let own = rw c.count_of.ensures at c.if-number-count_of.false in
    ap (λ (p : List ℕ). (0, p)) c.copy-2.ensures
    ∙ done page (right_of page g.row.N whole c.requires) c.args.number c.args.word (rw whole own) c.ranges.word.fits c.write_word.new.s
    (c.write_word.ensures ∙ ap (λ (p : List ℕ). with_word p (4 * c.args.number) c.args.word) c.copy.ensures) c.in_ok-check.ensures
