-- A register page as the set of 49 words, by the words at its bytes: each word of the set is the page's own, at the byte where the page has it, and
-- pairs 4 to 7 of a short page's set are zero.
--   PageSize, short_size, long_size: a page is short, of 132 bytes, or long, of 196; page-size: which it is, by its length
--   page_least: every page has at least 132 bytes
--   pairs_most: a side has at most 8 pairs
--   pair_fits: the bytes of a pair lie on the page; pair-byte: the numbers of its words, and its byte
--   own_at, own_sdr1, own_segment: the page's own words are those at its bytes
--   sdr1_at, segment_at_law, upper_at_law, lower_at_law: the words of the set of 49 are those at the page's bytes
--   covering_own: a pair of the set that covers an address is one of the page's own
--   none_covers: where none of the page's own pairs covers an address, none of the set does
use mathlib.Core.Path.{◌≡◌, refl, sym, ap, ◌∙◌}
use mathlib.Core.Bool.{Bool, true, false, cond, true≢false}
use mathlib.Core.List.{List}
use Prim.Native.Nat.{ℕ, ◌+◌, ◌*◌, ◌≤◌, ◌<◌}
use native.Mathlib.Omega.{arith}
use lib.Dec.{ltb, lit≤}
use lib.ListN.{length, get_or}
use borrow.Author.Tests.{eqb-true, eqb-false, ltb-true, ltb-false}
use Rattle.words.specs.Words.{word_at}
use Rattle.words.proofs.Words.{get_or_words_at, length_words_at}
use Rattle.words.proofs.Below.{first_passes, first_none}
use Rattle.words.proofs.Tests.{by_test}
use Rattle.register_words.specs.Block.{off}
use Rattle.register_words.proofs.Blocks.{off_covers}
use Rattle.registers.specs.Set.{is_page, is_long, block_pairs, register_count, sdr1_of, segment_of, side_start, upper_of, lower_of, pair_covers, covering_pair, register_words, widened, set_words}
use Rattle.registers.proofs.Set.{short_page}
use Rattle.registers.proofs.Widened.{zero_off, at_front, upper_first, lower_first, upper_last}
use Rattle.register_pages.specs.Side.{side_byte}

-- how long a page is, by whether it is long
pub data PageSize : ℕ → Bool → Type 0 where
  short_size : PageSize 132 false
  long_size : PageSize 196 true

pub page_size_law : (size : ℕ) → is_page size ≡ true → PageSize size (is_long size)
page_size_law size page = go (is_long size) refl
  where
    go : (t : Bool) → is_long size ≡ t → PageSize size t
    go true e = rw (eqb-true size 196 e) long_size
    go false e = rw (short_page size page (eqb-false size 196 e)) short_size

pub page_least : (size : ℕ) → is_page size ≡ true → 132 ≤ size
page_least size page = go (page_size_law size page)
  where
    go : {n : ℕ} {long : Bool} → PageSize n long → 132 ≤ n
    go short_size = lit≤ tt
    go long_size = lit≤ tt

pub pairs_most : (long : Bool) → block_pairs long ≤ 8
pairs_most true = lit≤ tt
pairs_most false = lit≤ tt

-- the bytes of a side's pairs lie on the page
pub pair_fits : (size : ℕ) → is_page size ≡ true → (side : Bool) (i : ℕ) → i < block_pairs (is_long size) → side_byte (is_long size) side + 8 * i + 8 ≤ size
pair_fits size page = go (page_size_law size page)
  where
    go : {n : ℕ} {long : Bool} → PageSize n long → (side : Bool) (i : ℕ) → i < block_pairs long → side_byte long side + 8 * i + 8 ≤ n
    go short_size true i l = omega arith
    go short_size false i l = omega arith
    go long_size true i l = omega arith
    go long_size false i l = omega arith

-- a pair's words by their number on the page, and its byte
pub pair_byte : (long side : Bool) (i : ℕ) → i < block_pairs long
    → (side_start (block_pairs long) side + 2 * i + 1 < register_count long) × (4 * (side_start (block_pairs long) side + 2 * i) ≡ side_byte long side + 8 * i)
pair_byte true true i l = (omega arith, omega arith)
pair_byte true false i l = (omega arith, omega arith)
pair_byte false true i l = (omega arith, omega arith)
pair_byte false false i l = (omega arith, omega arith)

front_least : (long : Bool) → 25 ≤ register_count long
front_least true = lit≤ tt
front_least false = lit≤ tt

module _ (registers : List ℕ) where
  abbrev long : Bool
  long = is_long (length registers)

  abbrev words : List ℕ
  words = register_words registers

  -- the page's own words
  full : length words ≡ register_count long
  unfolding register_words
  full = length_words_at registers 0 (register_count long)

  pub own_at : (k : ℕ) → k < register_count long → get_or words k 0 ≡ word_at registers (4 * k)
  unfolding register_words
  own_at k l = get_or_words_at registers 0 (register_count long) k l ∙ ap (word_at registers) (omega arith)

  pub own_sdr1 : sdr1_of words ≡ word_at registers 0
  own_sdr1 = own_at 0 (omega (arith, front_least long))

  pub own_segment : (i : ℕ) → i < 16 → segment_of words i ≡ word_at registers (4 + 4 * i)
  own_segment i l = own_at (1 + i) (omega (arith, front_least long)) ∙ ap (word_at registers) (omega arith)

  -- the set's words before instruction pair 4
  front_at : (k : ℕ) → k < 25 → get_or (set_words registers) k 0 ≡ word_at registers (4 * k)
  unfolding set_words
  front_at k l = go long full ∙ own_at k (omega (arith, front_least long))
    where
      go : (t : Bool) → length words ≡ register_count t → get_or (cond t words (widened words)) k 0 ≡ get_or words k 0
      go true f = refl
      go false f = at_front words f k l

  pub sdr1_at : sdr1_of (set_words registers) ≡ word_at registers 0
  sdr1_at = front_at 0 (omega arith)

  pub segment_at_law : (i : ℕ) → i < 16 → segment_of (set_words registers) i ≡ word_at registers (4 + 4 * i)
  segment_at_law i l = front_at (1 + i) (omega arith) ∙ ap (word_at registers) (omega arith)

  -- the pairs of a side
  module _ (side : Bool) (i : ℕ) where
    module _ (l : i < block_pairs long) where
      pub upper_at_law : upper_of 8 (set_words registers) side i ≡ word_at registers (side_byte long side + 8 * i)
      unfolding set_words
      upper_at_law =
          let (inside, byte) = pair_byte long side i l in
          go long full l ∙ own_at (side_start (block_pairs long) side + 2 * i) (omega arith) ∙ ap (word_at registers) byte
        where
          go : (t : Bool) → length words ≡ register_count t → i < block_pairs t → upper_of 8 (cond t words (widened words)) side i ≡ upper_of (block_pairs t) words side i
          go true f h = refl
          go false f h = upper_first words f side i h

      pub lower_at_law : lower_of 8 (set_words registers) side i ≡ word_at registers (side_byte long side + 8 * i + 4)
      unfolding set_words
      lower_at_law =
          let (inside, byte) = pair_byte long side i l in
          go long full l ∙ own_at (side_start (block_pairs long) side + 2 * i + 1) inside ∙ ap (word_at registers) (omega arith)
        where
          go : (t : Bool) → length words ≡ register_count t → i < block_pairs t → lower_of 8 (cond t words (widened words)) side i ≡ lower_of (block_pairs t) words side i
          go true f h = refl
          go false f h = lower_first words f side i h

    pub upper_none : block_pairs long ≤ i → i < 8 → upper_of 8 (set_words registers) side i ≡ 0
    unfolding set_words
    upper_none = go long full
      where
        go : (t : Bool) → length words ≡ register_count t → block_pairs t ≤ i → i < 8 → upper_of 8 (cond t words (widened words)) side i ≡ 0
        go true f g l = absurd (omega arith)
        go false f g l = upper_last words f side i g l

  -- the pairs behind the page's own cover nothing, so a pair that covers an address is the page's own
  module _ (side user : Bool) (address : ℕ) where
    pub none_behind : (k : ℕ) → block_pairs long ≤ k → k < 8 → pair_covers 8 15 (set_words registers) side user address k ≡ false
    unfolding pair_covers
    none_behind k g l = off_covers 15 (upper_of 8 (set_words registers) side k) (ap off (upper_none side k g l) ∙ zero_off) user address

    pub covering_own : covering_pair 8 15 (set_words registers) side user address < 8 → covering_pair 8 15 (set_words registers) side user address < block_pairs long
    unfolding covering_pair
    covering_own l =
        let k = covering_pair 8 15 (set_words registers) side user address in
        by_test (ltb k (block_pairs long)) (λ e. ltb-true k (block_pairs long) e)
        (λ e. absurd (true≢false (sym (first_passes (pair_covers 8 15 (set_words registers) side user address) 8 l) ∙ none_behind k (ltb-false k (block_pairs long) e) l)))

module _ (page : List ℕ) (side user : Bool) (address : ℕ) where
  -- where none of the page's own pairs covers the address, none of the set's does
  pub none_covers : (i : ℕ) → block_pairs (is_long (length page)) ≤ i → ((k : ℕ) → k < i → pair_covers 8 15 (set_words page) side user address k ≡ false)
      → covering_pair 8 15 (set_words page) side user address ≡ 8
  unfolding covering_pair
  none_covers i g own = first_none _ 8 (λ k l. go k l (ltb k i) refl)
    where
      go : (k : ℕ) → k < 8 → (t : Bool) → ltb k i ≡ t → pair_covers 8 15 (set_words page) side user address k ≡ false
      go k l true e = own k (ltb-true k i e)
      go k l false e = none_behind page side user address k (omega (arith, g, ltb-false k i e)) l
