-- Exactly when the check of a register set answers 0, and when a word of it is replaced.
use Rattle.std.specs.Prelude.{ℕ, ◌+◌, ◌-◌, ◌*◌, ◌%◌, ◌^◌, ◌≤◌, ◌<◌, Bool, true, false, List, ◌↔◌, ◌≡◌, set}
use Rattle.numbers.specs.Numbers.{done}
use Rattle.register_words.specs.Segment.{segment_shape}
use Rattle.register_words.specs.Block.{bl_width, off, upper_shape, lower_shape}
use Rattle.registers.specs.Set.{block_pairs, register_count, sdr1_of, segment_of, upper_of, lower_of, check_words, pair_covers, replacing}

-- SDR1: an origin and a mask of so many ones, at most nine, the origin's bits under them zero
pub record Sdr1Good (sdr1 : ℕ) : Type 0 where
  pub origin : ℕ
  pub ones : ℕ
  pub made : sdr1 ≡ origin * 65536 + (2 ^ ones - 1)
  pub few : ones ≤ 9
  pub whole : origin % 2 ^ ones ≡ 0

-- what the check asks of a set
pub record SetGood (pairs width : ℕ) (words : List ℕ) : Type 0 where
  pub sdr1 : Sdr1Good (sdr1_of words)
  -- each pair that is on has the shape of its side's blocks
  pub shape : (side : Bool) (i : ℕ) → i < pairs → off (upper_of pairs words side i) ≡ false
      → (upper_shape width (upper_of pairs words side i) ≡ true) × (lower_shape width side (upper_of pairs words side i) (lower_of pairs words side i) ≡ true)
  -- no effective address lies in two pairs of a side that have a V bit in common: both cover it for the user, or both for the supervisor
  pub apart : (side user : Bool) (address i j : ℕ) → address < 2 ^ 32 → i < j → j < pairs
      → pair_covers pairs width words side user address i ≡ true → pair_covers pairs width words side user address j ≡ true → ⊥
  pub segments : (i : ℕ) → i < 16 → segment_shape (segment_of words i) ≡ true

-- the check answers 0 exactly where the set is good, for any number of pairs and any width of BL up to 15
abbrev pub CheckDecides : Type 0
CheckDecides = (pairs width : ℕ) → width ≤ 15 → (words : List ℕ) → (check_words pairs width words ≡ done) ↔ SetGood pairs width words

-- a word is replaced exactly where its number is one of the page's and the new set is good, whatever the old one was
abbrev pub ReplacingDecides : Type 0
ReplacingDecides =
    (long : Bool) (words : List ℕ) (number word : ℕ)
    → (replacing long words number word ≡ done) ↔ ((number < register_count long) × SetGood (block_pairs long) (bl_width long) (set words number word))
