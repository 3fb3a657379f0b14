-- Laws of a group's entries: an entry that is written is read back, every other entry stays, and an entry written back where it stands changes nothing.
use mathlib.Core.Path.{◌≡◌, ap, ◌∙◌}
use mathlib.Core.Logic.{◌≢◌, ⊎_elim, ◌⊎◌, inl, inr}
use mathlib.Core.List.{List, [], ◌∷◌}
use Prim.Native.Nat.{ℕ, ◌+◌, ◌*◌, ◌^◌, ◌<◌, ◌≤◌}
use native.Mathlib.Numerals.{towards_numerals}
use native.Mathlib.Omega.{arith}
use lib.ListN.{length, get_or}
use lib.Seq.{sets, set-get_or}
use Rattle.words.specs.Words.{word_bytes, word_of, word_at, with_word}
use Rattle.words.proofs.Tests.{three}
use Rattle.words.proofs.Words.{Bytes, word_lt, byte_0, byte_1, byte_2, byte_3, length_with_word, word_before, word_behind, word_same, with_word_bytes}
use Rattle.groups.specs.Group.{first_at, second_at, put_entry}

module _ (group : List ℕ) (i u v : ℕ) where
  pub length_entry : length (put_entry group i u v) ≡ length group
  unfolding put_entry
  length_entry = length_with_word (with_word group (8 * i) u) (8 * i + 4) v ∙ length_with_word group (8 * i) u

  pub bytes_entry : Bytes group → Bytes (put_entry group i u v)
  unfolding put_entry
  bytes_entry h = with_word_bytes (with_word group (8 * i) u) (8 * i + 4) v (with_word_bytes group (8 * i) u h)

  -- a word before or behind the entry stays
  other_word : (a : ℕ) → (a + 4 ≤ 8 * i) ⊎ (8 * i + 8 ≤ a) → word_at (put_entry group i u v) a ≡ word_at group a
  unfolding put_entry
  other_word a (inl h) = word_before (with_word group (8 * i) u) (8 * i + 4) v a (omega arith) ∙ word_before group (8 * i) u a h
  other_word a (inr h) = word_behind (with_word group (8 * i) u) (8 * i + 4) v a (omega arith) ∙ word_behind group (8 * i) u a (omega arith)

  -- another entry stays
  pub first_other : (j : ℕ) → j ≢ i → first_at (put_entry group i u v) j ≡ first_at group j
  unfolding first_at
  first_other j n =
      ⊎_elim (λ l. other_word (8 * j) (inl (omega arith)))
      (λ r. ⊎_elim (λ e. absurd (n e)) (λ l. other_word (8 * j) (inr (omega arith))) r)
      (three j i)

  pub second_other : (j : ℕ) → j ≢ i → second_at (put_entry group i u v) j ≡ second_at group j
  unfolding second_at
  second_other j n =
      ⊎_elim (λ l. other_word (8 * j + 4) (inl (omega arith)))
      (λ r. ⊎_elim (λ e. absurd (n e)) (λ l. other_word (8 * j + 4) (inr (omega arith))) r)
      (three j i)

  -- the entry itself
  pub first_same : 8 * i + 8 ≤ length group → u < 2 ^ 32 → first_at (put_entry group i u v) i ≡ u
  unfolding first_at put_entry
  first_same h fits = word_before (with_word group (8 * i) u) (8 * i + 4) v (8 * i) (omega arith) ∙ word_same group (8 * i) u (omega arith) fits

  pub second_same : 8 * i + 8 ≤ length group → v < 2 ^ 32 → second_at (put_entry group i u v) i ≡ v
  unfolding second_at put_entry
  second_same h fits = word_same (with_word group (8 * i) u) (8 * i + 4) v (rw length_with_word (omega arith)) fits

-- a word written back where it stands changes nothing
bytes_of_word : (a b c d : ℕ) → a < 2 ^ 8 → b < 2 ^ 8 → c < 2 ^ 8 → d < 2 ^ 8 → word_bytes (word_of a b c d) ≡ a ∷ b ∷ c ∷ d ∷ []
unfolding word_bytes
bytes_of_word a b c d la lb lc ld =
    rw (byte_0 a b c d la lb lc ld, byte_1 a b c d la lb lc ld, byte_2 a b c d la lb lc ld, byte_3 a b c d la lb lc ld)

word_own : (s : List ℕ) (at : ℕ) → Bytes s → with_word s at (word_at s at) ≡ s
unfolding with_word word_at
word_own s at h =
    ap (sets s at) (bytes_of_word (get_or s at 0) (get_or s (at + 1) 0) (get_or s (at + 2) 0) (get_or s (at + 3) 0) (h at) (h (at + 1)) (h (at + 2)) (h (at + 3)))
    ∙ simp (towards_numerals, set-get_or)

pub own_entry : (group : List ℕ) (i : ℕ) → Bytes group → put_entry group i (first_at group i) (second_at group i) ≡ group
unfolding put_entry first_at second_at
own_entry group i h =
    ap (λ (s : List ℕ). with_word s (8 * i + 4) (second_at group i)) (word_own group (8 * i) h) ∙ word_own group (8 * i + 4) h

-- the words of bytes are words
pub first_fits : (group : List ℕ) (i : ℕ) → Bytes group → first_at group i < 2 ^ 32
unfolding first_at
first_fits group i h = word_lt group (8 * i) h

pub second_fits : (group : List ℕ) (i : ℕ) → Bytes group → second_at group i < 2 ^ 32
unfolding second_at
second_fits group i h = word_lt group (8 * i + 4) h
