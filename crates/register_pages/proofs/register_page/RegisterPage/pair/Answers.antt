-- `register_pages::RegisterPage::pair` meets its contract: the words at the pair's bytes are the set's.
use mathlib.Core.Path.{sym, ap, ap₂, ◌∙◌}
use Prim.Native.Nat.{ℕ, ◌+◌}
use Rattle.words.specs.Words.{word_at}
use Rattle.register_pages.proofs.Page.{upper_at_law, lower_at_law}
use Rattle.register_pages.proofs.register_page.RegisterPage.pair.Goals as goal

pub returns : goal.returns
returns c =
    let a = c.args in
    let page = a.self.bytes.now in
    let place = c.pair_at-at.ensures.0 in
    ap₂ (λ (u l : ℕ). (u, l))
    (c.read_word.ensures ∙ ap (word_at page) place ∙ sym (upper_at_law page a.side a.i c.requires))
    (c.read_word-2.ensures ∙ ap (λ (b : ℕ). word_at page (b + 4)) place ∙ sym (lower_at_law page a.side a.i c.requires))
