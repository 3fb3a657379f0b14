-- Steps 1 to 3 by a short page's words are those by the same words as a long page's: BL of 11 bits beside BL of 15, and pairs that are off.
use Rattle.std.proofs.Common.{◌≡◌, ℕ, ◌<◌, Bool, true, false, cond, not, ◌&&◌, ltb, List, length, sym, refl, ap, arith, ltb-true, lt-ltb}
use Rattle.words.specs.Bits.{bits}
use Rattle.words.proofs.Below.{FirstOf, same_first, none_first, first_passes}
use Rattle.register_words.specs.Segment.{no_execute}
use Rattle.register_words.specs.Block.{block_attributes, block_pp}
use Rattle.register_words.proofs.Blocks.{physical_same}
use Rattle.registers.specs.Set.{upper_of, lower_of, pair_covers, covering_pair, widened}
use Rattle.registers.proofs.Wide.{Narrow, covering_same}
use Rattle.registers.proofs.Widened.{upper_first, lower_first, segment_widened, covering_widened}
use Rattle.protection.specs.Access.{user_mode, fetching, relocated, side_of}
use Rattle.protection.specs.Protection.{block_allows}
use Rattle.translation.specs.Steps.{segment_at, wanted_of, block_outcome, before_search}
use Rattle.translation.specs.declared.Outcome.{Outcome}
use Rattle.translation.specs.declared.Outcome.TheVariants.{Real, Block, BlockProtection, NoExecute}
use Rattle.translation.specs.declared.Early.{Early}
use Rattle.translation.specs.declared.Early.TheVariants.{Decided, Search}

-- the steps, given what the blocks come to
abbrev by_steps : ℕ → ℕ → Bool → Outcome → ℕ → ℕ → Early
by_steps mode kind covered outcome segment address =
    cond (not (relocated mode kind)) (Decided Real)
    (cond covered (Decided outcome) (cond (fetching kind && no_execute segment) (Decided NoExecute) (Search (wanted_of (user_mode mode) segment address))))

-- BL of 11 and of 15 bits
module _ (pairs : ℕ) (words : List ℕ) (own : (side : Bool) → Narrow pairs words side) (mode kind address : ℕ) where
  outcome_same : (i : ℕ) → i < pairs → pair_covers pairs 15 words (side_of kind) (user_mode mode) address i ≡ true
      → block_outcome pairs 11 words kind address i ≡ block_outcome pairs 15 words kind address i
  unfolding block_outcome pair_covers
  outcome_same i l c =
      ap (λ (physical : ℕ). cond (block_allows (block_pp (lower_of pairs words (side_of kind) i)) kind) (Block i physical (block_attributes (lower_of pairs words (side_of kind) i))) (BlockProtection i))
      (physical_same (user_mode mode) (upper_of pairs words (side_of kind) i) (lower_of pairs words (side_of kind) i) address (own (side_of kind) i l) c)

  abbrev pair : ℕ
  pair = covering_pair pairs 15 words (side_of kind) (user_mode mode) address

  covered : pair < pairs → pair_covers pairs 15 words (side_of kind) (user_mode mode) address pair ≡ true
  unfolding covering_pair
  covered l = first_passes (pair_covers pairs 15 words (side_of kind) (user_mode mode) address) pairs l

  pub before_same : before_search pairs 11 words mode kind address ≡ before_search pairs 15 words mode kind address
  unfolding before_search
  before_same =
      rw (covering_same pairs words (side_of kind) (own (side_of kind)) (user_mode mode) address) (go (ltb pair pairs) refl)
    where
      go : (t : Bool) → ltb pair pairs ≡ t
          → by_steps mode kind t (block_outcome pairs 11 words kind address pair) (segment_at words address) address
          ≡ by_steps mode kind t (block_outcome pairs 15 words kind address pair) (segment_at words address) address
      go true e =
          let l = ltb-true pair pairs e in
          ap (λ (o : Outcome). by_steps mode kind true o (segment_at words address) address) (outcome_same pair l (covered l))
      go false e = refl

-- four pairs a side, and the same four with four that are off
module _ (words : List ℕ) (full : length words ≡ 33) (width mode kind address : ℕ) where
  outcome_widened : (i : ℕ) → i < 4 → block_outcome 4 width words kind address i ≡ block_outcome 8 width (widened words) kind address i
  unfolding block_outcome
  outcome_widened i l = rw (upper_first words full (side_of kind) i l, lower_first words full (side_of kind) i l)

  segment_same : segment_at words address ≡ segment_at (widened words) address
  segment_same = sym (segment_widened words full (bits 0 3 address) (omega arith))

  pub before_widened : before_search 4 width words mode kind address ≡ before_search 8 width (widened words) mode kind address
  unfolding before_search
  before_widened =
      rw segment_same (go (covering_pair 4 width words (side_of kind) (user_mode mode) address) (covering_pair 8 width (widened words) (side_of kind) (user_mode mode) address)
      (covering_widened words full width (side_of kind) (user_mode mode) address))
    where
      go : (p q : ℕ) → FirstOf 4 8 p q
          → by_steps mode kind (ltb p 4) (block_outcome 4 width words kind address p) (segment_at (widened words) address) address
          ≡ by_steps mode kind (ltb q 8) (block_outcome 8 width (widened words) kind address q) (segment_at (widened words) address) address
      go p q (same_first j l) = rw (lt-ltb j 4 l, lt-ltb j 8 (omega (arith, l)), outcome_widened j l)
      go p q none_first = refl
