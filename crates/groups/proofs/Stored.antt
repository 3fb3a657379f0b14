-- Laws of a table by its entries: what is put as an entry is read there, every other entry reads as before, the table keeps its length and its bytes, and
-- a zeroed table has zero words.
use mathlib.Core.Path.{◌≡◌, refl, sym, ap, ◌∙◌}
use mathlib.Core.Logic.{◌≢◌, ⊎_elim}
use mathlib.Core.List.{List, ◌++◌}
use Prim.Native.Nat.{ℕ, zero, suc, ◌+◌, ◌*◌, ◌^◌, ◌<◌, ◌≤◌}
use native.Mathlib.Numerals.{towards_numerals}
use native.Mathlib.Omega.{arith}
use lib.ListN.{length, get_or, replicate}
use lib.Seq.{sets}
use Rattle.words.specs.Words.{word_bytes, word_at, with_word}
use Rattle.words.proofs.Words.{Bytes, sets_comm}
use Rattle.words.proofs.Tests.{three}
use Rattle.groups.specs.Group.{group_of, put_group, on_group, first_at, second_at, put_entry, first_of, second_of, put_at}
use Rattle.groups.proofs.Group.{length_group, put_same, length_put, group_same, group_other, put_sets, group_each, bytes_group, bytes_on}
use Rattle.groups.proofs.Entries.{length_entry, bytes_entry, first_same, second_same, first_other, second_other, first_fits, second_fits, own_entry}

-- the words of a table of bytes are words
pub words_fit : (t : List ℕ) (g i : ℕ) → Bytes t → (first_of t g i < 2 ^ 32) × (second_of t g i < 2 ^ 32)
unfolding first_of second_of
words_fit t g i h = (first_fits (group_of t g) i (bytes_group t g h), second_fits (group_of t g) i (bytes_group t g h))

-- an entry put in the table changes its eight bytes and no other
pub put_entry_law : (t : List ℕ) (g i u v : ℕ) → i < 8 → put_at t g i u v ≡ sets t (64 * g + 8 * i) (word_bytes u ++ word_bytes v)
unfolding put_at on_group put_entry with_word word_bytes
put_entry_law t g i u v h = ap (put_group t g) (simp towards_numerals) ∙ put_sets (word_bytes u ++ word_bytes v) t g (8 * i) (omega arith)

pub stored_keeps_bytes : (t : List ℕ) (g i u v : ℕ) → Bytes t → Bytes (put_at t g i u v)
unfolding put_at
stored_keeps_bytes t g i u v h = bytes_on t g (λ b. put_entry b i u v) h (λ b. bytes_entry b i u v)

-- an entry written back where it stands changes nothing
pub stored_own : (t : List ℕ) (g i : ℕ) → Bytes t → put_at t g i (first_of t g i) (second_of t g i) ≡ t
unfolding put_at on_group first_of second_of
stored_own t g i h = ap (put_group t g) (own_entry (group_of t g) i (bytes_group t g h)) ∙ put_same t g

module _ (t : List ℕ) (g i u v : ℕ) (inside : 64 * g + 64 ≤ length t) where
  whole : length (put_entry (group_of t g) i u v) ≡ 64
  whole = length_entry (group_of t g) i u v ∙ length_group t g inside

  pub stored_length : length (put_at t g i u v) ≡ length t
  unfolding put_at on_group
  stored_length = length_put t g (put_entry (group_of t g) i u v) inside whole

  pub stored_group : group_of (put_at t g i u v) g ≡ put_entry (group_of t g) i u v
  unfolding put_at on_group
  stored_group = group_same t g (put_entry (group_of t g) i u v) inside whole

  pub stored_other_group : (h : ℕ) → h ≢ g → group_of (put_at t g i u v) h ≡ group_of t h
  unfolding put_at on_group
  stored_other_group = group_other t g (put_entry (group_of t g) i u v) inside whole

  -- in its place
  pub stored_same : i < 8 → u < 2 ^ 32 → v < 2 ^ 32 → (first_of (put_at t g i u v) g i ≡ u) × (second_of (put_at t g i u v) g i ≡ v)
  unfolding first_of second_of
  stored_same e fits-u fits-v =
      let room : 8 * i + 8 ≤ length (group_of t g) = omega (arith, length_group t g inside) in (
        ap (λ (b : List ℕ). first_at b i) stored_group ∙ first_same (group_of t g) i u v room fits-u,
        ap (λ (b : List ℕ). second_at b i) stored_group ∙ second_same (group_of t g) i u v room fits-v,
      )

  -- in another entry of the group
  pub stored_other_entry : (j : ℕ) → j ≢ i → (first_of (put_at t g i u v) g j ≡ first_of t g j) × (second_of (put_at t g i u v) g j ≡ second_of t g j)
  unfolding first_of second_of
  stored_other_entry j n = (
    ap (λ (b : List ℕ). first_at b j) stored_group ∙ first_other (group_of t g) i u v j n,
    ap (λ (b : List ℕ). second_at b j) stored_group ∙ second_other (group_of t g) i u v j n,
  )

  -- in another group
  pub stored_elsewhere : (h j : ℕ) → h ≢ g → (first_of (put_at t g i u v) h j ≡ first_of t h j) × (second_of (put_at t g i u v) h j ≡ second_of t h j)
  unfolding first_of second_of
  stored_elsewhere h j n = (
    ap (λ (b : List ℕ). first_at b j) (stored_other_group h n),
    ap (λ (b : List ℕ). second_at b j) (stored_other_group h n),
  )

-- two entries put in either order
pub stored_comm : (t : List ℕ) (g h i j u v x y : ℕ) → i < 8 → j < 8 → (g ≡ h → i ≡ j → ⊥)
    → put_at (put_at t g i u v) h j x y ≡ put_at (put_at t h j x y) g i u v
unfolding word_bytes
stored_comm t g h i j u v x y li lj apart =
    let here = word_bytes u ++ word_bytes v in
    let there = word_bytes x ++ word_bytes y in
    rw (put_entry_law (put_at t g i u v) h j x y lj, put_entry_law (put_at t h j x y) g i u v li, put_entry_law t g i u v li, put_entry_law t h j x y lj)
    (⊎_elim (λ l. sets_comm here there t (64 * g + 8 * i) (64 * h + 8 * j) (omega arith))
    (⊎_elim (λ e. absurd (apart (omega arith) (omega arith))) (λ l. sym (sets_comm there here t (64 * h + 8 * j) (64 * g + 8 * i) (omega arith))))
    (three (8 * g + i) (8 * h + j)))

-- ---- a zeroed table

-- every byte is zero, also behind the end
abbrev Zero : List ℕ → Type 0
Zero s = (i : ℕ) → get_or s i 0 ≡ 0

zero_replicate : (n : ℕ) → Zero (replicate n 0)
zero_replicate zero i = refl
zero_replicate (suc n) zero = refl
zero_replicate (suc n) (suc i) = zero_replicate n i

zero_word : (s : List ℕ) (at : ℕ) → Zero s → word_at s at ≡ 0
unfolding word_at
zero_word s at h = rw (h at, h (at + 1), h (at + 2), h (at + 3))

pub zeroed_words : (n g i : ℕ) → (first_of (replicate n 0) g i ≡ 0) × (second_of (replicate n 0) g i ≡ 0)
unfolding first_of second_of first_at second_at
zeroed_words n g i =
    let zero-bytes = group_each (λ (x : ℕ). x ≡ 0) refl (replicate n 0) g (zero_replicate n) in
    (zero_word (group_of (replicate n 0) g) (8 * i) zero-bytes, zero_word (group_of (replicate n 0) g) (8 * i + 4) zero-bytes)

pub zeroed_bytes : (n : ℕ) → Bytes (replicate n 0)
zeroed_bytes n i = rw (zero_replicate n i) (omega arith)
