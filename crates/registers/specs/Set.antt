-- The register set as its words: SDR1, sixteen segment registers, the instruction pairs, the data pairs (upper word, then lower).
-- Over the number of pairs a side and the width of BL (rules 3).
use Rattle.std.specs.Prelude.{ℕ, ◌+◌, ◌*◌, Bool, true, false, cond, not, ◌&&◌, ◌||◌, List, [], ◌∷◌, ◌++◌, eqb, ltb, length, get_or, set, take, drop, replicate}
use Rattle.numbers.specs.Numbers.{refused_sdr1, refused_block, refused_blocks_share, refused_segment, refused_argument}
use Rattle.numbers.specs.Numbers.{registers_size_short, registers_size_long, register_count_short, register_count_long}
use Rattle.words.specs.Below.{every_below, first_below}
use Rattle.words.specs.Words.{words_at}
use Rattle.registers.specs.Rules.{first_broken}
use Rattle.register_words.specs.Sdr1.{sdr1_shape}
use Rattle.register_words.specs.Segment.{segment_shape}
use Rattle.register_words.specs.Block.{bl_width, block_shape, clash, covers}

-- a register page is short, 132 bytes, or long, 196 bytes; its length alone tells which
abbrev pub is_page : ℕ → Bool
is_page size = eqb size registers_size_short || eqb size registers_size_long

abbrev pub is_long : ℕ → Bool
is_long size = eqb size registers_size_long

-- how many block pairs a side and how many words a short (false) or a long page (true) has
abbrev pub block_pairs : Bool → ℕ
block_pairs long = cond long 8 4

abbrev pub register_count : Bool → ℕ
register_count long = cond long register_count_long register_count_short

abbrev pub sdr1_of : List ℕ → ℕ
sdr1_of words = get_or words 0 0

abbrev pub segment_of : List ℕ → ℕ → ℕ
segment_of words i = get_or words (1 + i) 0

-- all sixteen segment registers have their shape
unfoldable pub segments_shape : List ℕ → Bool
segments_shape words = every_below 16 (λ i. segment_shape (segment_of words i))

module _ (pairs : ℕ) where
  -- the number of the first word of a side's pairs
  abbrev pub side_start : Bool → ℕ
  side_start side = cond side (17 + 2 * pairs) 17

  abbrev pub upper_of : List ℕ → Bool → ℕ → ℕ
  upper_of words side i = get_or words (side_start side + 2 * i) 0

  abbrev pub lower_of : List ℕ → Bool → ℕ → ℕ
  lower_of words side i = get_or words (side_start side + 2 * i + 1) 0

  module _ (width : ℕ) where
    -- each pair of a side has the shape of that side's blocks
    unfoldable pub side_shape : List ℕ → Bool → Bool
    side_shape words side = every_below pairs (λ i. block_shape width side (upper_of words side i) (lower_of words side i))

    -- pair j of a side shares an address and a V bit with no pair before it
    unfoldable pub pair_apart : List ℕ → Bool → ℕ → Bool
    pair_apart words side j = every_below j (λ i. not (clash width (upper_of words side i) (upper_of words side j)))

    -- no two pairs of a side share an address and a V bit
    unfoldable pub side_apart : List ℕ → Bool → Bool
    side_apart words side = every_below pairs (pair_apart words side)

    -- the rules of a register set in their order
    abbrev pub register_rules : List ℕ → List (Bool × ℕ)
    register_rules words =
        (not (sdr1_shape (sdr1_of words)), refused_sdr1)
        ∷ (not (side_shape words false && side_shape words true), refused_block)
        ∷ (not (side_apart words false && side_apart words true), refused_blocks_share)
        ∷ (not (segments_shape words), refused_segment)
        ∷ []

    -- 0, or the number of the first rule that the set breaks
    unfoldable pub check_words : List ℕ → ℕ
    check_words words = first_broken (register_rules words)

    -- pair i of a side covers the address for the user or the supervisor
    unfoldable pub pair_covers : List ℕ → Bool → Bool → ℕ → ℕ → Bool
    pair_covers words side user address i = covers width user (upper_of words side i) address

    -- the first pair of a side that covers the address, or the number of pairs where none does
    unfoldable pub covering_pair : List ℕ → Bool → Bool → ℕ → ℕ
    covering_pair words side user address = first_below pairs (pair_covers words side user address)

-- the words of a register page
unfoldable pub register_words : List ℕ → List ℕ
register_words registers = words_at registers 0 (register_count (is_long (length registers)))

-- replacing the word of a number on a short or a long page: 0, or the refusal, of the number's range, then those of the new set
unfoldable pub replacing : Bool → List ℕ → ℕ → ℕ → ℕ
replacing long words number word = cond (ltb number (register_count long)) (check_words (block_pairs long) (bl_width long) (set words number word)) refused_argument

-- a list with zeros between its first part and its last, and behind it
unfoldable pub spread : ℕ → ℕ → List ℕ → List ℕ
spread front gap xs = take front xs ++ (replicate gap 0 ++ (drop front xs ++ replicate gap 0))

-- the words of a short page as those of a long one: the data pairs moved to their place, pairs 4 to 7 of each side zero
unfoldable pub widened : List ℕ → List ℕ
widened words = spread 25 8 words

-- the words of a page of either length as the 49 words of a set
unfoldable pub set_words : List ℕ → List ℕ
set_words registers = cond (is_long (length registers)) (register_words registers) (widened (register_words registers))

-- where the word of a page's number stands in a set
abbrev pub place_in_set : Bool → ℕ → ℕ
place_in_set long number = cond (long || ltb number 25) number (number + 8)
