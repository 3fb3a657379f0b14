-- A register page of either length as the set of 49 words: a long page's own, a short page's widened.
use mathlib.Core.Path.{◌≡◌, ap, ◌∙◌}
use mathlib.Core.Bool.{Bool, true, false}
use mathlib.Core.List.{List}
use Prim.Native.Nat.{ℕ}
use lib.ListN.{length}
use borrow.Author.Tests.{eqb-false}
use Rattle.words.proofs.Words.{length_words_at}
use Rattle.registers.specs.Set.{is_page, is_long, register_words, widened, set_words}
use Rattle.registers.proofs.Set.{short_page, words_short}

module _ (registers : List ℕ) where
  abbrev pub long : Bool
  long = is_long (length registers)

  abbrev pub words : List ℕ
  words = register_words registers

  -- the set of a long page is its words, that of a short one the same widened
  pub set_long : long ≡ true → set_words registers ≡ words
  unfolding set_words
  set_long e = rw e

  pub set_short : long ≡ false → set_words registers ≡ widened words
  unfolding set_words
  set_short e = rw e

  module _ (page : is_page (length registers) ≡ true) where
    -- a page that is not long has 33 words
    pub short_full : long ≡ false → length words ≡ 33
    short_full e = ap length (words_short registers (short_page (length registers) page (eqb-false (length registers) 196 e))) ∙ length_words_at registers 0 33
