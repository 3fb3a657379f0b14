-- `register_pages::set_word_of` meets its contract: where the set is a new one, its bytes are the page with the word put in, and its word is the one that
-- was given.
use borrow.Author.Tests.{eq-eqb}
use native.Mathlib.Omega.{arith}
use mathlib.Core.Bool.{Bool, true, cond}
use mathlib.Core.List.{List}
use mathlib.Core.Path.{◌≡◌, sym, ap, ◌∙◌}
use Prim.Native.Nat.{ℕ, ◌+◌, ◌*◌, ◌^◌, ◌≤◌, ◌<◌}
use lib.ListN.{length}
use Rattle.words.specs.Words.{word_at, with_word}
use Rattle.words.proofs.Words.{length_with_word, word_same}
use Rattle.registers.specs.Set.{is_page, is_long, register_words, replacing}
use Rattle.registers.proofs.Set.{replaced_number}
use Rattle.register_pages.specs.Replace.{page_replaced}
use Rattle.register_pages.proofs.Replace.{number_fits}
use Rattle.register_pages.proofs.set_word_of.Goals as goal

-- a word that was replaced, the bytes that were read from the page, and those of the new set
module _ (page : List ℕ) (right : is_page (length page) ≡ true) (number word : ℕ) (read new : List ℕ) (copied : read ≡ page)
    (answered : ◌≡◌ {A = ℕ × List ℕ} (0, new) (page_replaced read number word)) where
  told : ◌≡◌ {A = ℕ × List ℕ} (0, new) (page_replaced page number word)
  told = answered ∙ ap (λ (p : List ℕ). page_replaced p number word) copied

  done : 0 ≡ replacing (is_long (length page)) (register_words page) number word
  unfolding page_replaced
  done = ap (λ (p : ℕ × List ℕ). p.0) told

  new_is : new ≡ with_word page (4 * number) word
  unfolding page_replaced
  new_is = ap (λ (p : ℕ × List ℕ). p.1) told ∙ ap (λ (t : Bool). cond t (with_word page (4 * number) word) page) (eq-eqb _ 0 (sym done))

  fits : 4 * number + 4 ≤ length page
  fits = number_fits page right number (replaced_number (is_long (length page)) (register_words page) number word (sym done))

  new_fits : 4 * number + 4 ≤ length new
  new_fits = omega (arith, fits, ap length new_is, length_with_word page (4 * number) word)

  put : (result : List ℕ) (put_word : ℕ) → word < 2 ^ 32 → result ≡ with_word page (4 * number) put_word → put_word ≡ word_at new (4 * number)
      → ◌≡◌ {A = ℕ × List ℕ} (0, result) (page_replaced page number word)
  put result put_word small e w =
      let own : word_at new (4 * number) ≡ word = ap (λ (s : List ℕ). word_at s (4 * number)) new_is ∙ word_same page (4 * number) word fits small in
      ap (λ (s : List ℕ). (0, s)) (e ∙ ap (with_word page (4 * number)) (w ∙ own) ∙ sym new_is) ∙ told

pub read_word-requires : goal.read_word-requires
read_word-requires g c =
    let a = c.args in
    new_fits a.page.now (ap is_page c.requires.0 ∙ c.requires.1) a.number a.word c.copy.new.to c.copy-2.new.to c.copy.ensures (ap (λ (p : List ℕ). (0, p)) c.copy-2.ensures ∙ c.in_ok-new.ensures)

pub write_word-requires : goal.write_word-requires
write_word-requires g c =
    let a = c.args in
    fits a.page.now (ap is_page c.requires.0 ∙ c.requires.1) a.number a.word c.copy.new.to c.copy-2.new.to c.copy.ensures (ap (λ (p : List ℕ). (0, p)) c.copy-2.ensures ∙ c.in_ok-new.ensures)

pub returns : goal.returns
returns g c =
    let a = c.args in
    put a.page.now (ap is_page c.requires.0 ∙ c.requires.1) a.number a.word c.copy.new.to c.copy-2.new.to c.copy.ensures (ap (λ (p : List ℕ). (0, p)) c.copy-2.ensures ∙ c.in_ok-new.ensures)
    c.write_word.new.s c.read_word.result c.ranges.word.fits c.write_word.ensures c.read_word.ensures
