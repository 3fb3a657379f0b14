-- `entry::secondary_word` meets its contract. H stands alone in its bit: the three other bytes stay, and the last one, which stands first, has 64 more.
use mathlib.Core.Path.{◌≡◌, ◌∙◌}
use Prim.Native.Nat.{ℕ, ◌+◌, ◌*◌, ◌/◌, ◌%◌, ◌^◌, ◌<◌}
use native.Mathlib.Omega.{arith}
use Rattle.words.specs.Bits.{bits}
use Rattle.words.specs.Words.{word_of, swapped}
use Rattle.words.proofs.Masks.{or_bit}
use Rattle.entry.specs.Entry.{first_word}
use Rattle.entry.proofs.secondary_word.Goals as goal

-- bit 30 set in a word of bytes whose first has bit 30 zero
set : (a b c d p : ℕ) → a % 2 ^ 7 < 2 ^ 6 → b < 2 ^ 8 → c < 2 ^ 8 → d < 2 ^ 8 → p ≡ word_of a b c d → p / 2 ^ 31 * 2 ^ 31 + 2 ^ 30 + p % 2 ^ 30 ≡ word_of (a + 64) b c d
set a b c d p la lb lc ld e = omega arith

module _ (vsid api : ℕ) (vsid_lt : vsid < 2 ^ 24) (api_lt : api < 2 ^ 6) where
  clear : bits 24 31 (first_word 1 vsid 0 api) % 2 ^ 7 < 2 ^ 6
  unfolding first_word
  clear = omega arith

  last : bits 24 31 (first_word 1 vsid 1 api) ≡ bits 24 31 (first_word 1 vsid 0 api) + 64
  unfolding first_word
  last = omega arith

  third : bits 16 23 (first_word 1 vsid 1 api) ≡ bits 16 23 (first_word 1 vsid 0 api)
  unfolding first_word
  third = omega arith

  second : bits 8 15 (first_word 1 vsid 1 api) ≡ bits 8 15 (first_word 1 vsid 0 api)
  unfolding first_word
  second = omega arith

  first : bits 0 7 (first_word 1 vsid 1 api) ≡ bits 0 7 (first_word 1 vsid 0 api)
  unfolding first_word
  first = omega arith

  secondary : (p : ℕ) → p ≡ swapped (first_word 1 vsid 0 api) → p / 2 ^ 31 * 2 ^ 31 + 2 ^ 30 + p % 2 ^ 30 ≡ swapped (first_word 1 vsid 1 api)
  unfolding swapped
  secondary p e =
      let w = first_word 1 vsid 0 api in
      rw (last, third, second, first) (set (bits 24 31 w) (bits 16 23 w) (bits 8 15 w) (bits 0 7 w) p clear (omega arith) (omega arith) (omega arith) e)

pub returns : goal.returns
returns c vsid api vsid_lt api_lt e = or_bit 30 c.args.primary ∙ secondary vsid api vsid_lt api_lt c.args.primary e
