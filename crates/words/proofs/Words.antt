-- The laws of words in a list of bytes: what was written is read back, and a write leaves every other byte and word as it was.
--   Bytes: every element of a list is below 2 ^ 8
--   word_lt: a word of such a list fits 32 bits
--   byte_0, byte_1, byte_2, byte_3: the bytes of a word made of four bytes; own-bytes: a word is made of its own four
--   swapped_of, swapped_twice: a word with its bytes in reverse order, and that reversed twice it is itself
--   turned_0, turned_1, turned_2, turned_3: each byte of the reversed word
--   reverse_same: two words are equal exactly where they are with their bytes in reverse order
--   from_low_end, pair_from_high_end: what the library makes of four and of eight bytes
--   swap_bytes_swapped, low_bytes_swapped: what the library's other conversions of words and bytes are
--   sets_before, sets_behind, sets_in: a run of stores leaves what is before it and behind it, and puts in what it stores
--   sets_comm: two runs of stores that do not meet may be made in either order
--   length_word_bytes, length_with_word: a word has four bytes, and a write of a word leaves the length
--   byte_before, byte_behind, word_before, word_behind: a write of a word leaves the bytes and words before it and behind it
--   word_same: the word written is read back; withWord-bytes: after the write every element is still a byte
--   written, written_more, written_all: words written one after the other; one word more; words that fill a list leave their own bytes
--   length_words_at, get_or_words_at: how many words a list of bytes is read as, and which word each is
use mathlib.Core.Path.{◌≡◌, refl, sym, ap, ap₂, ◌∙◌}
use mathlib.Core.Logic.{⊎_elim, ◌⊎◌, inl, inr}
use mathlib.Core.List.{List, [], ◌∷◌, ◌++◌, append_assoc, append-nil}
use Prim.Native.Nat.{ℕ, zero, suc, ◌+◌, ◌*◌, ◌/◌, ◌%◌, ◌^◌, ◌≤◌, ◌<◌}
use native.Mathlib.Nat.{div-one, add-zero, add-suc, suc-add, not-suc-le-zero, le_of_suc-le-suc}
use native.Mathlib.Omega.{arith}
use lib.ListN.{length, get_or, set, take, drop, length-set, length-append}
use lib.Dec.{eqb, lit≤, lit<}
use lib.Pow.{shr-shr, split}
use lib.Seq.{sets, length-sets, sets-eq, get_or-set_same, get_or-set_other, set_out, set_comm, take_at, take-length, length-take-le}
use Rattle.std.specs.Int.{w32, w64, from_le_bytes, from_be_bytes, to_le_bytes, swap_bytes}
use Rattle.words.proofs.Tests.{three, eqb_same}
use Rattle.words.specs.Bits.{bits, placed}
use Rattle.words.proofs.Bits.{bits_split, bits_all}
use Rattle.words.specs.Words.{word_bytes, word_of, word_at, swapped, with_word, bytes_of, words_at}

-- every element is a byte
abbrev pub Bytes : List ℕ → Type 0
Bytes s = (i : ℕ) → get_or s i 0 < 2 ^ 8

-- a word of bytes fits 32 bits
pub word_lt : (s : List ℕ) (at : ℕ) → Bytes s → word_at s at < 2 ^ 32
unfolding word_at
word_lt s at h = omega (arith, h at, h (at + 1), h (at + 2), h (at + 3))

-- a run of stores leaves what is before it and behind it, and puts in what it stores
-- the bytes of a word of four bytes, and a word as its own bytes
module _ (a b c d : ℕ) (la : a < 2 ^ 8) (lb : b < 2 ^ 8) (lc : c < 2 ^ 8) (ld : d < 2 ^ 8) where
  pub byte_0 : bits 0 7 (word_of a b c d) ≡ a
  byte_0 = omega arith

  pub byte_1 : bits 8 15 (word_of a b c d) ≡ b
  byte_1 = omega arith

  pub byte_2 : bits 16 23 (word_of a b c d) ≡ c
  byte_2 = omega arith

  pub byte_3 : bits 24 31 (word_of a b c d) ≡ d
  byte_3 = omega arith

  -- in reverse order they are the word of the bytes from the other end
  pub swapped_of : swapped (word_of a b c d) ≡ word_of d c b a
  unfolding swapped
  swapped_of = rw (byte_0, byte_1, byte_2, byte_3)

pub own_bytes : (w : ℕ) → w < 2 ^ 32 → word_of (bits 0 7 w) (bits 8 15 w) (bits 16 23 w) (bits 24 31 w) ≡ w
own_bytes w fits =
    sum (bits 0 7 w) (bits 8 15 w) (bits 16 23 w) (bits 24 31 w) (bits 8 31 w) (bits 16 31 w) w
    (sym (bits_all w fits) ∙ bits_split 0 7 w (lit≤ tt) (lit< tt)) (bits_split 8 15 w (lit≤ tt) (lit< tt)) (bits_split 16 23 w (lit≤ tt) (lit< tt))
  where
    sum : (a b c d s t w : ℕ) → w ≡ placed 7 a + s → s ≡ placed 15 b + t → t ≡ placed 23 c + d → word_of a b c d ≡ w
    sum a b c d s t w e f g = omega arith

-- a word reversed twice is itself
pub swapped_twice : (w : ℕ) → w < 2 ^ 32 → swapped (swapped w) ≡ w
unfolding swapped
swapped_twice w fits =
    swapped_of (bits 24 31 w) (bits 16 23 w) (bits 8 15 w) (bits 0 7 w) (omega arith) (omega arith) (omega arith) (omega arith) ∙ own_bytes w fits

-- the bytes of a word in reverse order are its bytes from the other end
module _ (w : ℕ) where
  pub turned_0 : bits 24 31 (swapped w) ≡ bits 0 7 w
  unfolding swapped
  turned_0 = byte_3 (bits 24 31 w) (bits 16 23 w) (bits 8 15 w) (bits 0 7 w) (omega arith) (omega arith) (omega arith) (omega arith)

  pub turned_1 : bits 16 23 (swapped w) ≡ bits 8 15 w
  unfolding swapped
  turned_1 = byte_2 (bits 24 31 w) (bits 16 23 w) (bits 8 15 w) (bits 0 7 w) (omega arith) (omega arith) (omega arith) (omega arith)

  pub turned_2 : bits 8 15 (swapped w) ≡ bits 16 23 w
  unfolding swapped
  turned_2 = byte_1 (bits 24 31 w) (bits 16 23 w) (bits 8 15 w) (bits 0 7 w) (omega arith) (omega arith) (omega arith) (omega arith)

  pub turned_3 : bits 0 7 (swapped w) ≡ bits 24 31 w
  unfolding swapped
  turned_3 = byte_0 (bits 24 31 w) (bits 16 23 w) (bits 8 15 w) (bits 0 7 w) (omega arith) (omega arith) (omega arith) (omega arith)

-- two words are equal exactly where they are with their bytes in reverse order
pub reverse_same : (v w : ℕ) → v < 2 ^ 32 → w < 2 ^ 32 → eqb (swapped v) (swapped w) ≡ eqb v w
reverse_same v w lv lw = eqb_same (swapped v) (swapped w) v w (λ same. sym (swapped_twice v lv) ∙ ap swapped same ∙ swapped_twice w lw) (ap swapped)

-- the library's words of four bytes: low end first and reversed
pub from_low_end : (s : List ℕ) (at : ℕ) → Bytes s
    → from_le_bytes w32 (get_or s at 0 ∷ get_or s (at + 1) 0 ∷ get_or s (at + 2) 0 ∷ get_or s (at + 3) 0 ∷ []) ≡ swapped (word_at s at)
unfolding word_at
from_low_end s at h =
    sum (get_or s at 0) (get_or s (at + 1) 0) (get_or s (at + 2) 0) (get_or s (at + 3) 0)
    ∙ sym (swapped_of _ _ _ _ (h at) (h (at + 1)) (h (at + 2)) (h (at + 3)))
  where
    sum : (a b c d : ℕ) → from_le_bytes w32 (a ∷ b ∷ c ∷ d ∷ []) ≡ word_of d c b a
    sum a b c d = omega arith

-- the library's pairs of words of eight bytes, high end first
module _ (s : List ℕ) (at : ℕ) where
  five : at + 5 ≡ at + 4 + 1
  five = omega arith

  six : at + 6 ≡ at + 4 + 2
  six = omega arith

  seven : at + 7 ≡ at + 4 + 3
  seven = omega arith

  -- the eight bytes from `at` on
  abbrev eight : List ℕ
  eight =
      get_or s at 0 ∷ get_or s (at + 1) 0 ∷ get_or s (at + 2) 0 ∷ get_or s (at + 3) 0
      ∷ get_or s (at + 4) 0 ∷ get_or s (at + 5) 0 ∷ get_or s (at + 6) 0 ∷ get_or s (at + 7) 0 ∷ []

  pub pair_from_high_end : from_be_bytes w64 eight ≡ word_at s at * 2 ^ 32 + word_at s (at + 4)
  unfolding word_at
  pair_from_high_end =
      rw (five, six, seven) (
      sum (get_or s at 0) (get_or s (at + 1) 0) (get_or s (at + 2) 0) (get_or s (at + 3) 0)
      (get_or s (at + 4) 0) (get_or s (at + 4 + 1) 0) (get_or s (at + 4 + 2) 0) (get_or s (at + 4 + 3) 0))
    where
      sum : (a b c d e f g i : ℕ) → from_be_bytes w64 (a ∷ b ∷ c ∷ d ∷ e ∷ f ∷ g ∷ i ∷ []) ≡ word_of a b c d * 2 ^ 32 + word_of e f g i
      sum a b c d e f g i = omega arith

pub swap_bytes_swapped : (w : ℕ) → swap_bytes w32 w ≡ swapped w
unfolding swapped
swap_bytes_swapped w = omega arith

pub low_bytes_swapped : (w : ℕ) → to_le_bytes w32 (swapped w) ≡ word_bytes w
unfolding word_bytes
low_bytes_swapped w = rw (← turned_0 w, ← turned_1 w, ← turned_2 w, ← turned_3 w, div-one (swapped w)) refl

pub sets_before : (vs l : List ℕ) (i k : ℕ) → k < i → get_or (sets l i vs) k 0 ≡ get_or l k 0
sets_before [] l i k h = refl
sets_before (a ∷ vs) l i k h = sets_before vs (set l i a) (suc i) k (omega arith) ∙ get_or-set_other l i k a 0 (omega arith)

pub sets_behind : (vs l : List ℕ) (i k : ℕ) → i + length vs ≤ k → get_or (sets l i vs) k 0 ≡ get_or l k 0
sets_behind [] l i k h = refl
sets_behind (a ∷ vs) l i k h = sets_behind vs (set l i a) (suc i) k (omega arith) ∙ get_or-set_other l i k a 0 (omega arith)

pub sets_in : (vs l : List ℕ) (i k : ℕ) → k < length vs → i + length vs ≤ length l → get_or (sets l i vs) (i + k) 0 ≡ get_or vs k 0
sets_in [] l i k h b = absurd (not-suc-le-zero h)
sets_in (a ∷ vs) l i zero h b =
    rw add-zero (sets_before vs (set l i a) (suc i) i (omega arith) ∙ get_or-set_same l i a 0 (omega arith))
sets_in (a ∷ vs) l i (suc k) h b =
    rw (add-suc, ← suc-add) (sets_in vs (set l i a) (suc i) k (le_of_suc-le-suc h) (rw length-set (omega arith)))

-- two runs of stores that do not meet, in either order
set_sets : (vs l : List ℕ) (i j a : ℕ) → i < j → sets (set l i a) j vs ≡ set (sets l j vs) i a
set_sets [] l i j a h = refl
set_sets (b ∷ vs) l i j a h = ap (λ (x : List ℕ). sets x (suc j) vs) (set_comm l i j a b (omega arith)) ∙ set_sets vs (set l j b) i (suc j) a (omega arith)

pub sets_comm : (us vs l : List ℕ) (i j : ℕ) → i + length us ≤ j → sets (sets l i us) j vs ≡ sets (sets l j vs) i us
sets_comm [] vs l i j h = refl
sets_comm (a ∷ us) vs l i j h = sets_comm us vs (set l i a) (suc i) j (omega arith) ∙ ap (λ (x : List ℕ). sets x (suc i) us) (set_sets vs l i j a (omega arith))

pub length_word_bytes : (w : ℕ) → length (word_bytes w) ≡ 4
unfolding word_bytes
length_word_bytes w = refl

-- the four bytes of a word make it again
combine : (u a b c r₀ r₁ r₂ : ℕ) → a * 2 ^ 8 + r₀ ≡ u → b * 2 ^ 8 + r₁ ≡ a → c * 2 ^ 8 + r₂ ≡ b
    → c * 2 ^ 24 + r₂ * 2 ^ 16 + r₁ * 2 ^ 8 + r₀ ≡ u
combine u a b c r₀ r₁ r₂ e₀ e₁ e₂ = omega arith

bytes_word : (w : ℕ) → w < 2 ^ 32 → w / 2 ^ 24 % 2 ^ 8 * 2 ^ 24 + w / 2 ^ 16 % 2 ^ 8 * 2 ^ 16 + w / 2 ^ 8 % 2 ^ 8 * 2 ^ 8 + w % 2 ^ 8 ≡ w
bytes_word w h =
    let top : w / 2 ^ 24 % 2 ^ 8 ≡ w / 2 ^ 24 = omega arith in
    rw top
    (combine w (w / 2 ^ 8) (w / 2 ^ 16) (w / 2 ^ 24) (w % 2 ^ 8) (w / 2 ^ 8 % 2 ^ 8) (w / 2 ^ 16 % 2 ^ 8) (split w 8)
    (rw (← shr-shr w 8 8) (split (w / 2 ^ 8) 8)) (rw (← shr-shr w 16 8) (split (w / 2 ^ 16) 8)))

module _ (s : List ℕ) (at w : ℕ) where
  pub length_with_word : length (with_word s at w) ≡ length s
  unfolding with_word
  length_with_word = length-sets s at (word_bytes w)

  pub byte_before : (j : ℕ) → j < at → get_or (with_word s at w) j 0 ≡ get_or s j 0
  unfolding with_word
  byte_before j h = sets_before (word_bytes w) s at j h

  pub byte_behind : (j : ℕ) → at + 4 ≤ j → get_or (with_word s at w) j 0 ≡ get_or s j 0
  unfolding with_word
  byte_behind j h = sets_behind (word_bytes w) s at j (omega (arith, length_word_bytes w))

  pub word_before : (b : ℕ) → b + 4 ≤ at → word_at (with_word s at w) b ≡ word_at s b
  unfolding word_at
  word_before b h = rw (byte_before b (omega arith), byte_before (b + 1) (omega arith), byte_before (b + 2) (omega arith), byte_before (b + 3) (omega arith))

  pub word_behind : (b : ℕ) → at + 4 ≤ b → word_at (with_word s at w) b ≡ word_at s b
  unfolding word_at
  word_behind b h = rw (byte_behind b (omega arith), byte_behind (b + 1) (omega arith), byte_behind (b + 2) (omega arith), byte_behind (b + 3) (omega arith))

  -- what was written is read back
  pub word_same : at + 4 ≤ length s → w < 2 ^ 32 → word_at (with_word s at w) at ≡ w
  unfolding word_at with_word word_bytes
  word_same fits h =
      let b₀ = rw add-zero at (sets_in (word_bytes w) s at 0 (omega arith) fits) in
      let b₁ = sets_in (word_bytes w) s at 1 (omega arith) fits in
      let b₂ = sets_in (word_bytes w) s at 2 (omega arith) fits in
      let b₃ = sets_in (word_bytes w) s at 3 (omega arith) fits in
      let lowest : w / 2 ^ 0 ≡ w = omega arith in
      rw (b₀, b₁, b₂, b₃, lowest) (bytes_word w h)

-- stores of bytes into bytes leave bytes
sets_bytes : (vs l : List ℕ) (i : ℕ) → Bytes vs → Bytes l → Bytes (sets l i vs)
sets_bytes [] l i hv hl = hl
sets_bytes (a ∷ vs) l i hv hl = sets_bytes vs (set l i a) (suc i) (λ k. hv (suc k)) (λ k. at k (three k i))
  where
    at : (k : ℕ) → (k < i) ⊎ ((k ≡ i) ⊎ (i < k)) → get_or (set l i a) k 0 < 2 ^ 8
    at k (inl h) = rw (get_or-set_other l i k a 0 (omega arith)) (hl k)
    at k (inr (inl e)) = inside (three i (length l))
      where
        inside : (i < length l) ⊎ ((i ≡ length l) ⊎ (length l < i)) → get_or (set l i a) k 0 < 2 ^ 8
        inside (inl h) = rw (e, get_or-set_same l i a 0 h) (hv 0)
        inside (inr h) = rw (set_out l i a (⊎_elim (λ q. omega arith) (λ q. omega arith) h)) (hl k)
    at k (inr (inr h)) = rw (get_or-set_other l i k a 0 (omega arith)) (hl k)

pub with_word_bytes : (s : List ℕ) (at w : ℕ) → Bytes s → Bytes (with_word s at w)
unfolding with_word word_bytes
with_word_bytes s at w h = sets_bytes (word_bytes w) s at byte h
  where
    byte : Bytes (bits 0 7 w ∷ bits 8 15 w ∷ bits 16 23 w ∷ bits 24 31 w ∷ [])
    byte zero = omega arith
    byte (suc zero) = omega arith
    byte (suc (suc zero)) = omega arith
    byte (suc (suc (suc zero))) = omega arith
    byte (suc (suc (suc (suc k)))) = omega arith

-- ---- a list of words

-- words written one after the other, from byte `at` on
unfoldable pub written : List ℕ → ℕ → List ℕ → List ℕ
written s at [] = s
written s at (w ∷ ws) = written (with_word s at w) (at + 4) ws

stored : (w : ℕ) (s : List ℕ) (at : ℕ) → at + length (word_bytes w) ≤ length s
    → with_word s at w ≡ take at s ++ word_bytes w ++ drop (at + length (word_bytes w)) s
unfolding with_word
stored w s at fits = sets-eq (word_bytes w) s at fits

-- where they end with the list, what is left of it is what was before them
written_at : (ws s : List ℕ) (at : ℕ) → length s ≡ at + 4 * length ws → written s at ws ≡ take at s ++ bytes_of ws
unfolding written bytes_of
written_at [] s at h = let all : at ≡ length s = omega arith in sym (append-nil (take at s) ∙ rw all (take-length s))
written_at (w ∷ ws) s at h =
    let fits : at + length (word_bytes w) ≤ length s = omega (arith, length_word_bytes w) in
    let head : length (take at s ++ word_bytes w) ≡ at + 4 =
    length-append (take at s) (word_bytes w) ∙ ap₂ ◌+◌ (length-take-le at s (omega arith)) (length_word_bytes w) in
    written_at ws (with_word s at w) (at + 4) (length_with_word s at w ∙ omega arith)
    ∙ ap (λ (l : List ℕ). take (at + 4) l ++ bytes_of ws) (stored w s at fits)
    ∙ ap (λ (l : List ℕ). l ++ bytes_of ws) (take_at (take at s ++ word_bytes w) (drop (at + length (word_bytes w)) s) (at + 4) head)
    ∙ append_assoc (take at s) (word_bytes w) (bytes_of ws)

-- words that fill a list of bytes leave their own bytes, whatever stood there
pub written_all : (ws s : List ℕ) → length s ≡ 4 * length ws → written s 0 ws ≡ bytes_of ws
written_all ws s h = written_at ws s 0 (omega arith)

-- one word more
pub written_more : (ws s : List ℕ) (at w : ℕ) → written s at (ws ++ (w ∷ [])) ≡ with_word (written s at ws) (at + 4 * length ws) w
unfolding written
written_more [] s at w = ap (λ (n : ℕ). with_word s n w) (omega arith)
written_more (v ∷ ws) s at w =
    written_more ws (with_word s at v) (at + 4) w ∙ ap (λ (n : ℕ). with_word (written (with_word s at v) (at + 4) ws) n w) (omega arith)

pub length_words_at : (s : List ℕ) (at n : ℕ) → length (words_at s at n) ≡ n
unfolding words_at
length_words_at s at zero = refl
length_words_at s at (suc n) = ap suc (length_words_at s (at + 4) n)

pub get_or_words_at : (s : List ℕ) (at n k : ℕ) → k < n → get_or (words_at s at n) k 0 ≡ word_at s (at + 4 * k)
unfolding words_at
get_or_words_at s at zero k h = absurd (not-suc-le-zero h)
get_or_words_at s at (suc n) zero h = ap (word_at s) (sym (add-zero at))
get_or_words_at s at (suc n) (suc k) h =
    get_or_words_at s (at + 4) n k (le_of_suc-le-suc h) ∙ ap (word_at s) (omega arith)
