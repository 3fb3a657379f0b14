-- Replacing one word of a register page, and the page that a register set by value holds.
use Rattle.std.specs.Prelude.{ℕ, ◌*◌, cond, Result, Ok, Err, List, eqb, length}
use Rattle.numbers.specs.Numbers.{done}
use Rattle.numbers.specs.declared.Refusal.{Refusal}
use Rattle.words.specs.Words.{with_word}
use Rattle.registers.specs.Set.{is_long, register_words, replacing}
use Rattle.register_pages.specs.declared.Set.{Set}

-- the number by the page's own range, then the rules of the new set; the page has the new word, or stays
unfoldable pub page_replaced : List ℕ → ℕ → ℕ → ℕ × List ℕ
page_replaced page number word =
    let result = replacing (is_long (length page)) (register_words page) number word in
    (result, cond (eqb result done) (with_word page (4 * number) word) page)

-- the page once a word was asked for: that of the new set, or where it is refused the old one
abbrev pub page_after : {N : ℕ} → List ℕ → Result (Set N) Refusal → List ℕ
page_after page (Ok set) = set.bytes
page_after page (Err refusal) = page
