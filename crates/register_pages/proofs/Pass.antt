-- What the check's pass has seen of a side after some of its pairs: the bits put together tell whether each has its shape, and where none fell each
-- block begins behind the end of those before it, so that blocks of right shape are apart.
use mathlib.Core.Path.{◌≡◌, refl, sym, ap, ap₂, ◌∙◌}
use mathlib.Core.Bool.{Bool, true, false, not, ◌&&◌, and-true, true≢false}
use mathlib.Core.List.{List}
use Prim.Native.Nat.{ℕ, ◌+◌, ◌-◌, ◌*◌, ◌/◌, ◌%◌, ◌^◌, ◌≤◌, ◌<◌}
use native.Mathlib.Omega.{arith}
use borrow.Author.Count.{below_none, below_more}
use borrow.Author.Tests.{eq-eqb, ne_eqb}
use lib.Bits.{bit_and, bit_or, and_mask}
use lib.Dec.{eqb}
use lib.ListN.{get_or}
use Rattle.words.specs.Below.{every_below}
use Rattle.words.specs.Bits.{bits}
use Rattle.words.specs.Words.{word_at}
use Rattle.words.proofs.Below.{every_next, every_more, every_at, every_all}
use Rattle.words.proofs.Tests.{by_test}
use Rattle.words.proofs.Zero.{or_leaves}
use Rattle.register_words.specs.Asked.{bl_place, side_sum, zero_bits, last_of}
use Rattle.register_words.specs.Block.{bl_width, bepi_of, off, block_shape, clash}
use Rattle.register_words.proofs.Blocks.{off_shape, off_clash}
use Rattle.register_words.proofs.Order.{behind_apart, first_last}
use Rattle.register_pages.specs.Side.{upper_at, lower_at, pairs_shape, apart_from, pairs_apart}

-- whether a pair is off, by its upper word
pub off_word : (upper : ℕ) → bit_and upper 3 ≡ 0 → off upper ≡ true
unfolding off
off_word upper z = eq-eqb (bits 30 31 upper) 0 (omega (arith, and_mask upper 2))

-- whether it is off, by the last byte of its upper word
pub off_byte : (page : List ℕ) (at : ℕ) → bit_and (get_or page (at + 3) 0) 3 ≡ 0 → off (word_at page at) ≡ true
unfolding off word_at
off_byte page at z = eq-eqb (bits 30 31 (word_at page at)) 0 (omega (arith, and_mask (get_or page (at + 3) 0) 2))

pub on_byte : (page : List ℕ) (at : ℕ) → (bit_and (get_or page (at + 3) 0) 3 ≡ 0 → ⊥) → off (word_at page at) ≡ false
unfolding off word_at
on_byte page at some = ne_eqb (bits 30 31 (word_at page at)) 0 (λ z. some (omega (arith, and_mask (get_or page (at + 3) 0) 2)))

-- the pair at a byte, and the bytes of one pair more
pub at_pair : (at : ℕ) → at % 8 ≡ 0 → 8 * (at / 8) ≡ at
at_pair at whole = omega arith

pub passed_more : (test : ℕ → Bool) (at : ℕ) → at % 8 ≡ 0 → every_below (at / 8) test ≡ true → test (at / 8) ≡ true → every_below ((at + 8) / 8) test ≡ true
passed_more test at whole before here = let next : (at + 8) / 8 ≡ at / 8 + 1 = omega arith in ap (λ (n : ℕ). every_below n test) next ∙ every_more test (at / 8) before here

-- the end of a block, as pairs are compared with it
abbrev pub end_of : ℕ → ℕ
end_of upper = last_of upper * 2 ^ 49 + (2 ^ 49 - 1)

module _ (lengths sum : ℕ) (pairs : List ℕ) where
  abbrev On : ℕ → Type 0
  On i = off (upper_at pairs i) ≡ false

  -- what was seen after n pairs
  pub record Seen (n any falls end : ℕ) : Type 0 where
    pub few : falls ≤ n
    pub shape : (long side : Bool) → lengths ≡ bl_place long → sum ≡ side_sum side → eqb (bit_and any (zero_bits side)) 0 ≡ pairs_shape pairs long side n
    pub ends : falls ≡ 0 → (i : ℕ) → i < n → off (upper_at pairs i) ≡ false → end_of (upper_at pairs i) ≤ end
    pub rise : falls ≡ 0 → (j : ℕ) → j < n → off (upper_at pairs j) ≡ false → (i : ℕ) → i < j → off (upper_at pairs i) ≡ false
        → last_of (upper_at pairs i) < bepi_of (upper_at pairs j)

  pub seen_none : Seen 0 0 0 0
  unfolding pairs_shape every_below
  seen_none = record {
    few = omega arith;
    shape = λ long side l s. refl;
    ends = λ z. below_none _;
    rise = λ z. below_none _;
  }

  pub seen_same : (n any₁ any₂ falls₁ falls₂ end₁ end₂ : ℕ) → any₁ ≡ any₂ → falls₁ ≡ falls₂ → end₁ ≡ end₂ → Seen n any₂ falls₂ end₂ → Seen n any₁ falls₁ end₁
  seen_same n any₁ any₂ falls₁ falls₂ end₁ end₂ p q r seen = rw (p, q, r) seen

  -- one pair more
  shape_next : (long side : Bool) (n : ℕ) → pairs_shape pairs long side (n + 1)
      ≡ (pairs_shape pairs long side n && block_shape (bl_width long) side (upper_at pairs n) (lower_at pairs n))
  unfolding pairs_shape
  shape_next long side n = every_next (λ i. block_shape (bl_width long) side (upper_at pairs i) (lower_at pairs i)) n

  module _ (n any falls end : ℕ) (before : Seen n any falls end) where
    pub seen_off : off (upper_at pairs n) ≡ true → Seen (n + 1) any falls end
    seen_off o = record {
      few = omega (arith, before.few);
      shape = λ long side l s.
          before.shape long side l s
          ∙ sym (shape_next long side n ∙ ap (λ (t : Bool). pairs_shape pairs long side n && t) (off_shape (bl_width long) (upper_at pairs n) o side (lower_at pairs n))
          ∙ and-true (pairs_shape pairs long side n));
      ends = λ z. below_more (λ i. On i → end_of (upper_at pairs i) ≤ end) n (before.ends z) (λ e. absurd (true≢false (sym o ∙ e)));
      rise = λ z. below_more (λ j. On j → (i : ℕ) → i < j → On i → last_of (upper_at pairs i) < bepi_of (upper_at pairs j)) n (before.rise z)
          (λ e. absurd (true≢false (sym o ∙ e)));
    }

    -- a pair that is on, what is asked of it, and whether it falls
    module _ (pair asked fall : ℕ) (is : pair ≡ upper_at pairs n * 2 ^ 32 + lower_at pairs n) (upper_lt : upper_at pairs n < 2 ^ 32)
        (lower-lt : lower_at pairs n < 2 ^ 32) (one : fall ≤ 1) (behind : fall ≡ 0 → end < pair)
        (own : (long side : Bool) → lengths ≡ bl_place long → sum ≡ side_sum side
        → eqb (bit_and asked (zero_bits side)) 0 ≡ block_shape (bl_width long) side (upper_at pairs n) (lower_at pairs n)) where
      begins : pair / 2 ^ 49 ≡ bepi_of (upper_at pairs n)
      begins = omega arith

      past : falls + fall ≡ 0 → (i : ℕ) → i < n → On i → last_of (upper_at pairs i) < bepi_of (upper_at pairs n)
      past z i l o = omega (arith, begins, behind (omega arith), before.ends (omega arith) i l o)

      pub seen_on : Seen (n + 1) (bit_or any asked) (falls + fall) (end_of (upper_at pairs n))
      seen_on = record {
        few = omega (arith, before.few);
        shape = λ long side l s.
            or_leaves any asked (zero_bits side) ∙ ap₂ ◌&&◌ (before.shape long side l s) (own long side l s) ∙ sym (shape_next long side n);
        ends = λ z. below_more (λ i. On i → end_of (upper_at pairs i) ≤ end_of (upper_at pairs n)) n
            (λ i l o. omega (arith, past z i l o, first_last (upper_at pairs n))) (λ o. omega arith);
        rise = λ z. below_more (λ j. On j → (i : ℕ) → i < j → On i → last_of (upper_at pairs i) < bepi_of (upper_at pairs j)) n
            (before.rise (omega arith)) (λ o i l e. past z i l e);
      }

    -- blocks of right shape that rise are apart
    pub seen_apart : falls ≡ 0 → (long side : Bool) → pairs_shape pairs long side n ≡ true → pairs_apart pairs n ≡ true
    unfolding pairs_shape pairs_apart apart_from
    seen_apart z long side shapes = every_all _ n (λ j h. every_all _ j (λ i l. ap not (apart j h i l)))
      where
        shape : (i : ℕ) → i < n → block_shape (bl_width long) side (upper_at pairs i) (lower_at pairs i) ≡ true
        shape i l = every_at (λ k. block_shape (bl_width long) side (upper_at pairs k) (lower_at pairs k)) n i shapes l

        apart : (j : ℕ) → j < n → (i : ℕ) → i < j → clash 15 (upper_at pairs i) (upper_at pairs j) ≡ false
        apart j h i l =
            by_test (off (upper_at pairs i)) (λ o. (off_clash 15 (upper_at pairs i) o (upper_at pairs j)).0)
            (λ on₁. by_test (off (upper_at pairs j)) (λ o. (off_clash 15 (upper_at pairs j) o (upper_at pairs i)).1)
            (λ on₂. behind_apart long side (upper_at pairs i) (lower_at pairs i) (upper_at pairs j) (lower_at pairs j) on₁ on₂ (shape i (omega arith)) (shape j h)
            (before.rise z j h on₂ i l on₁)))
