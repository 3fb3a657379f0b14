-- Big-endian words of 32 bits in a list of bytes.
use Rattle.std.specs.Prelude.{ℕ, zero, suc, ◌+◌, List, [], ◌∷◌, ◌++◌, get_or}
use Rattle.std.proofs.lemmas.List.Edits.{sets}
use Rattle.words.specs.Bits.{bits, placed}

-- the four bytes of a word, the most significant first
unfoldable pub word_bytes : ℕ → List ℕ
word_bytes w = bits 0 7 w ∷ bits 8 15 w ∷ bits 16 23 w ∷ bits 24 31 w ∷ []

-- the word of four bytes, the most significant first
abbrev pub word_of : ℕ → ℕ → ℕ → ℕ → ℕ
word_of a b c d = placed 7 a + placed 15 b + placed 23 c + d

-- the word whose four bytes start at byte `at`
unfoldable pub word_at : List ℕ → ℕ → ℕ
word_at s at = word_of (get_or s at 0) (get_or s (at + 1) 0) (get_or s (at + 2) 0) (get_or s (at + 3) 0)

-- the word with the bytes of w in reverse order
unfoldable pub swapped : ℕ → ℕ
swapped w = word_of (bits 24 31 w) (bits 16 23 w) (bits 8 15 w) (bits 0 7 w)

-- the bytes s with the word w written from byte `at` on
unfoldable pub with_word : List ℕ → ℕ → ℕ → List ℕ
with_word s at w = sets s at (word_bytes w)

-- the bytes of a list of words
unfoldable pub bytes_of : List ℕ → List ℕ
bytes_of [] = []
bytes_of (w ∷ ws) = word_bytes w ++ bytes_of ws

-- the n words of s from byte `at` on
unfoldable pub words_at : List ℕ → ℕ → ℕ → List ℕ
words_at s at zero = []
words_at s at (suc n) = word_at s at ∷ words_at s (at + 4) n
