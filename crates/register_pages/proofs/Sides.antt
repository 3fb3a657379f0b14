-- The two sides of a register page as parts of its bytes: what the pass tells of a part is the test of the side, by the page's own words.
use mathlib.Core.Path.{◌≡◌, refl, sym, ap, ap₂, ◌∙◌}
use mathlib.Core.Bool.{Bool, true, false, cond, not, ◌&&◌}
use mathlib.Core.List.{List}
use Prim.Native.Nat.{ℕ, zero, suc, ◌+◌, ◌-◌, ◌*◌, ◌/◌, ◌≤◌, ◌<◌}
use native.Mathlib.Omega.{arith}
use lib.Bits.{bit_and}
use lib.Dec.{eqb, lit≤}
use lib.ListN.{length, get_or, take, drop, length-drop}
use lib.Seq.{length-take-le, get_or-take, get_or-drop}
use Rattle.words.specs.Below.{every_below}
use Rattle.words.specs.Words.{word_at}
use Rattle.words.proofs.Below.{every_next, every_same, every_at, every_all}
use Rattle.words.proofs.Tests.{both}
use Rattle.register_words.specs.Asked.{bl_place, side_sum, zero_bits}
use Rattle.register_words.specs.Sdr1.{sdr1_shape}
use Rattle.register_words.specs.Block.{bl_width, off, block_shape, clash}
use Rattle.register_words.proofs.Blocks.{off_shape, off_clash}
use Rattle.registers.specs.Set.{is_page, is_long, block_pairs, side_start, upper_of, lower_of, side_shape, pair_apart, side_apart, sdr1_of, segments_shape, check_words, register_words}
use Rattle.registers.proofs.Wide.{apart_wide}
use Rattle.register_pages.specs.declared.Side.{Side}
use Rattle.register_pages.specs.Side.{side_byte, upper_at, lower_at, pairs_off, pairs_shape, apart_from, pairs_apart, Gathered, blocks_refusal}
use Rattle.register_pages.proofs.Page.{PageSize, short_size, long_size, page_size_law, pair_byte, own_at, own_sdr1}

-- a word of a part
pub part_word : (s : List ℕ) (at n b : ℕ) → b + 4 ≤ n → word_at (take n (drop at s)) b ≡ word_at s (at + b)
unfolding word_at
part_word s at n b l =
    rw (
      byte b (at + b) (omega arith) refl,
      byte (b + 1) (at + b + 1) (omega arith) (omega arith),
      byte (b + 2) (at + b + 2) (omega arith) (omega arith),
      byte (b + 3) (at + b + 3) (omega arith) (omega arith),
    )
  where
    byte : (k j : ℕ) → k < n → at + k ≡ j → get_or (take n (drop at s)) k 0 ≡ get_or s j 0
    byte k j h e = get_or-take n (drop at s) k 0 h ∙ get_or-drop at s k 0 ∙ ap (λ (i : ℕ). get_or s i 0) e

side_fits : (size : ℕ) → is_page size ≡ true → (side : Bool) → side_byte (is_long size) side + 8 * block_pairs (is_long size) ≤ size
side_fits size page = go (page_size_law size page)
  where
    go : {n : ℕ} {long : Bool} → PageSize n long → (side : Bool) → side_byte long side + 8 * block_pairs long ≤ n
    go short_size true = lit≤ tt
    go short_size false = lit≤ tt
    go long_size true = lit≤ tt
    go long_size false = lit≤ tt

module _ (page : List ℕ) where
  abbrev long : Bool
  long = is_long (length page)

  abbrev pub shape_of : Bool → Bool
  shape_of side = side_shape (block_pairs long) (bl_width long) (register_words page) side

  abbrev pub apart_of : Bool → Bool
  apart_of side = side_apart (block_pairs long) (bl_width long) (register_words page) side

  -- the bytes of a side's pairs
  abbrev part : Bool → List ℕ
  part side = take (8 * block_pairs long) (drop (side_byte long side) page)

  module _ (side : Bool) (i : ℕ) (l : i < block_pairs long) where
    upper_is : upper_at (part side) i ≡ upper_of (block_pairs long) (register_words page) side i
    upper_is =
        let (inside, byte) = pair_byte long side i l in
        part_word page (side_byte long side) (8 * block_pairs long) (8 * i) (omega arith)
        ∙ sym (own_at page (side_start (block_pairs long) side + 2 * i) (omega arith) ∙ ap (word_at page) byte)

    lower_is : lower_at (part side) i ≡ lower_of (block_pairs long) (register_words page) side i
    lower_is =
        let (inside, byte) = pair_byte long side i l in
        part_word page (side_byte long side) (8 * block_pairs long) (8 * i + 4) (omega arith)
        ∙ sym (own_at page (side_start (block_pairs long) side + 2 * i + 1) inside ∙ ap (word_at page) (omega arith))

  part_shape : (side : Bool) → pairs_shape (part side) long side (block_pairs long) ≡ shape_of side
  unfolding pairs_shape side_shape
  part_shape side = every_same _ _ (block_pairs long) (λ i l. ap₂ (block_shape (bl_width long) side) (upper_is side i l) (lower_is side i l))

  part_apart : (side : Bool) → shape_of side ≡ true → pairs_apart (part side) (block_pairs long) ≡ apart_of side
  unfolding pairs_apart apart_from side_apart pair_apart
  part_apart side shape =
      every_same _ _ (block_pairs long)
      (λ j h. every_same _ _ j (λ i l. ap not (ap₂ (clash 15) (upper_is side i (omega arith)) (upper_is side j h))))
      ∙ sym (apart_wide long (block_pairs long) (register_words page) side shape)

  module _ (right : is_page (length page) ≡ true) where
    part_length : (side : Bool) → length (part side) ≡ 8 * block_pairs long
    part_length side =
        let fits = side_fits (length page) right side in
        length-take-le (8 * block_pairs long) (drop (side_byte long side) page) (rw (length-drop (side_byte long side) page) (omega arith))

    -- what is lent of the page for the side of a number: 0 for instructions, 1 for data
    module _ (s half at to : ℕ) (l : s < 2) (half_is : half ≡ 8 * block_pairs long) (at-is : at ≡ 68 + s * half) (to_is : to ≡ at + half) where
      abbrev lent : List ℕ
      lent = take (to - at) (drop at page)

      side_byte_law : at ≡ side_byte long (eqb s 1)
      side_byte_law = at-is ∙ ap (λ (h : ℕ). 68 + s * h) half_is ∙ by_number s l long
        where
          by_number : (n : ℕ) → n < 2 → (t : Bool) → 68 + n * (8 * block_pairs t) ≡ side_byte t (eqb n 1)
          by_number zero h t = omega arith
          by_number (suc zero) h true = refl
          by_number (suc zero) h false = refl
          by_number (suc (suc n)) h t = absurd (omega arith)

      lent_is : lent ≡ part (eqb s 1)
      lent_is = let whole : to - at ≡ 8 * block_pairs long = omega arith in ap₂ (λ (n a : ℕ). take n (drop a page)) whole side_byte_law

      pub lent_length : length lent ≡ 8 * block_pairs long
      lent_length = ap length lent_is ∙ part_length (eqb s 1)

      lent_pairs : length lent / 8 ≡ block_pairs long
      lent_pairs = omega (arith, lent_length)

      lent_shape : pairs_shape lent long (eqb s 1) (length lent / 8) ≡ shape_of (eqb s 1)
      lent_shape = ap₂ (λ (p : List ℕ) (n : ℕ). pairs_shape p long (eqb s 1) n) lent_is lent_pairs ∙ part_shape (eqb s 1)

      pub lent_apart : shape_of (eqb s 1) ≡ true → pairs_apart lent (length lent / 8) ≡ apart_of (eqb s 1)
      lent_apart shape = ap₂ pairs_apart lent_is lent_pairs ∙ part_apart (eqb s 1) shape

      module _ (lengths sum : ℕ) (seen : Side) (lengths-are : lengths ≡ bl_place long) (sum_is_lem : sum ≡ 32 * s) (told : Gathered lengths sum lent seen) where
        pub lent_good : eqb (bit_and seen.any (0xFFFFFFFFFFFFFFCC - 0x48 * s)) 0 ≡ shape_of (eqb s 1)
        lent_good = ap (λ (m : ℕ). eqb (bit_and seen.any m) 0) (mask s l) ∙ told.shape long (eqb s 1) lengths-are (sum_is_lem ∙ added s l) ∙ lent_shape
          where
            mask : (n : ℕ) → n < 2 → 0xFFFFFFFFFFFFFFCC - 0x48 * n ≡ zero_bits (eqb n 1)
            mask zero h = refl
            mask (suc zero) h = refl
            mask (suc (suc n)) h = absurd (omega arith)

            added : (n : ℕ) → n < 2 → 32 * n ≡ side_sum (eqb n 1)
            added zero h = refl
            added (suc zero) h = refl
            added (suc (suc n)) h = absurd (omega arith)

        pub lent_rises : seen.falls ≡ 0 → shape_of (eqb s 1) ≡ true → apart_of (eqb s 1) ≡ true
        lent_rises none shape = sym (lent_apart shape) ∙ told.rises none long (eqb s 1) (lent_shape ∙ shape)

    -- the blocks of the first n sides have their shape
    abbrev shapes : ℕ → Bool
    shapes n = every_below n (λ s. shape_of (eqb s 1))

    -- what the tests of the first n sides told; those of sharing count only where each block has its shape
    pub record SidesSeen (n : ℕ) (good apart : Bool) : Type 0 where
      pub shape : good ≡ every_below n (λ s. shape_of (eqb s 1))
      pub free : every_below n (λ s. shape_of (eqb s 1)) ≡ true → apart ≡ every_below n (λ s. apart_of (eqb s 1))

    pub sides_none : SidesSeen 0 true true
    unfolding every_below
    sides_none = record { shape = refl; free = λ e. refl }

    pub sides_more : (s : ℕ) (good apart own more : Bool) → SidesSeen s good apart → own ≡ shape_of (eqb s 1)
        → (shape_of (eqb s 1) ≡ true → more ≡ (apart && apart_of (eqb s 1))) → SidesSeen (s + 1) (good && own) more
    sides_more s good apart own more before own_is more_is =
        let step = every_next (λ i. shape_of (eqb i 1)) s in
        record {
          shape = ap₂ ◌&&◌ before.shape own_is ∙ sym step;
          free = λ all.
              let (front, here) = both (shapes s) (shape_of (eqb s 1)) (sym step ∙ all) in
              more_is here ∙ ap (λ (t : Bool). t && apart_of (eqb s 1)) (before.free front) ∙ sym (every_next (λ i. apart_of (eqb i 1)) s);
        }

    -- what they come to
    module _ (good apart : Bool) (seen : SidesSeen 2 good apart) where
      pub sides_wrong : good ≡ false → 3 ≡ blocks_refusal long (register_words page)
      unfolding blocks_refusal every_below
      sides_wrong e = rw (sym seen.shape ∙ e)

      pub sides_right : good ≡ true → cond apart 0 4 ≡ blocks_refusal long (register_words page)
      unfolding blocks_refusal every_below
      sides_right e = let all = sym seen.shape ∙ e in rw (all, ← seen.free all) (by apart)
        where
          by : (t : Bool) → ◌≡◌ {A = ℕ} (cond t 0 4) (cond (not t) 4 0)
          by true = refl
          by false = refl

  -- a page whose blocks are all off breaks no rule of blocks
  module _ (none : (i : ℕ) → i < 2 * block_pairs long → off (word_at page (68 + 8 * i)) ≡ true) where
    number_in : (side : Bool) (i : ℕ) → i < block_pairs long → cond side (block_pairs long + i) i < 2 * block_pairs long
    number_in true i l = omega arith
    number_in false i l = omega arith

    byte_of : (t side : Bool) (i : ℕ) → side_byte t side + 8 * i ≡ 68 + 8 * cond side (block_pairs t + i) i
    byte_of true true i = omega arith
    byte_of true false i = omega arith
    byte_of false true i = omega arith
    byte_of false false i = omega arith

    own_off : (side : Bool) (i : ℕ) → i < block_pairs long → off (upper_of (block_pairs long) (register_words page) side i) ≡ true
    own_off side i l =
        let (inside, byte) = pair_byte long side i l in
        ap off (own_at page (side_start (block_pairs long) side + 2 * i) (omega arith) ∙ ap (word_at page) (byte ∙ byte_of long side i))
        ∙ none (cond side (block_pairs long + i) i) (number_in side i l)

    off_shaped : (side : Bool) → shape_of side ≡ true
    unfolding side_shape
    off_shaped side = every_all _ (block_pairs long) (λ i l. off_shape (bl_width long) (upper_of (block_pairs long) (register_words page) side i) (own_off side i l) side _)

    off_apart : (side : Bool) → apart_of side ≡ true
    unfolding side_apart pair_apart
    off_apart side =
        every_all _ (block_pairs long)
        (λ j h. every_all _ j (λ i l. ap not (off_clash (bl_width long) (upper_of (block_pairs long) (register_words page) side j) (own_off side j h)
        (upper_of (block_pairs long) (register_words page) side i)).1))

    pub off_kept : blocks_refusal long (register_words page) ≡ 0
    unfolding blocks_refusal
    off_kept = rw (off_shaped false, off_shaped true, off_apart false, off_apart true)

-- what `any_on` tells of a part
pub part_off : (page : List ℕ) (at n i : ℕ) → at + 8 * n ≤ length page
    → pairs_off (take (8 * n) (drop at page)) (length (take (8 * n) (drop at page)) / 8) ≡ true → i < n → off (word_at page (at + 8 * i)) ≡ true
unfolding pairs_off
part_off page at n i fits all l =
    let part = take (8 * n) (drop at page) in
    let whole : length part ≡ 8 * n = length-take-le (8 * n) (drop at page) (rw (length-drop at page) (omega arith)) in
    let count : length part / 8 ≡ n = omega arith in
    ap off (sym (part_word page at (8 * n) (8 * i) (omega arith)))
    ∙ every_at (λ k. off (upper_at part k)) n i (ap (λ (k : ℕ). every_below k (λ j. off (upper_at part j))) (sym count) ∙ all) l

-- the rules of blocks between those of SDR1 and of the segments
module _ (page : List ℕ) where
  sdr1_is : sdr1_shape (sdr1_of (register_words page)) ≡ sdr1_shape (word_at page 0)
  sdr1_is = ap sdr1_shape (own_sdr1 page)

  pub sdr1_broken : sdr1_shape (word_at page 0) ≡ false → 2 ≡ check_words (block_pairs (is_long (length page))) (bl_width (is_long (length page))) (register_words page)
  unfolding check_words
  sdr1_broken e = rw (sdr1_is ∙ e)

  module _ (kept : sdr1_shape (word_at page 0) ≡ true) where
    pub blocks_broken : (blocks_refusal (is_long (length page)) (register_words page) ≡ 0 → ⊥)
        → blocks_refusal (is_long (length page)) (register_words page) ≡ check_words (block_pairs (is_long (length page))) (bl_width (is_long (length page))) (register_words page)
    unfolding check_words blocks_refusal
    blocks_broken some = rw (sdr1_is ∙ kept) (by (shape_of page false && shape_of page true) (apart_of page false && apart_of page true) (segments_shape (register_words page)) some)
      where
        by : (q a g : Bool) → (◌≡◌ {A = ℕ} (cond (not q) 3 (cond (not a) 4 0)) 0 → ⊥) → ◌≡◌ {A = ℕ} (cond (not q) 3 (cond (not a) 4 0)) (cond (not q) 3 (cond (not a) 4 (cond (not g) 5 0)))
        by false a g h = refl
        by true false g h = refl
        by true true g h = absurd (h refl)

    pub blocks_kept : blocks_refusal (is_long (length page)) (register_words page) ≡ 0 → cond (segments_shape (register_words page)) 0 5
        ≡ check_words (block_pairs (is_long (length page))) (bl_width (is_long (length page))) (register_words page)
    unfolding check_words blocks_refusal
    blocks_kept none = rw (sdr1_is ∙ kept) (by (shape_of page false && shape_of page true) (apart_of page false && apart_of page true) (segments_shape (register_words page)) none)
      where
        by : (q a g : Bool) → ◌≡◌ {A = ℕ} (cond (not q) 3 (cond (not a) 4 0)) 0 → ◌≡◌ {A = ℕ} (cond g 0 5) (cond (not q) 3 (cond (not a) 4 (cond (not g) 5 0)))
        by false a g h = absurd (omega arith)
        by true false g h = absurd (omega arith)
        by true true true h = refl
        by true true false h = refl
