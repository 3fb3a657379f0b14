-- A short register page beside the same page widened: pairs 4 to 7 of each side zero, the data pairs moved to their place.
use Rattle.std.specs.Prelude.{ℕ, ◌<◌, Bool, true, false, cond, List, ◌≡◌, length, set}
use Rattle.numbers.specs.Numbers.{refused_sdr1, refused_block, registers_size_short}
use Rattle.register_words.specs.Sdr1.{sdr1_shape}
use Rattle.register_words.specs.Block.{narrow}
use Rattle.registers.specs.Set.{block_pairs, register_count, sdr1_of, upper_of, register_words, spread, place_in_set}
use Rattle.theory_calls.specs.Request.{AccessCall, access}
use Rattle.theory_calls.specs.OnBytes.{on_bytes}
use Rattle.theory_calls.specs.WithoutTable.{check_call, set_register_call}

-- the bytes of a short page as those of a long one
unfoldable pub widened_page : List ℕ → List ℕ
widened_page registers = spread 100 32 registers

-- in the words of a short page no pair that is on has one of bits 15 to 18 of its upper word set
abbrev pub NoHighBit : List ℕ → Type 0
NoHighBit words = (side : Bool) (i : ℕ) → i < block_pairs false → narrow (upper_of (block_pairs false) words side i) ≡ true

-- an access with another register page
abbrev pub with_page : {A : Type 0} → List ℕ → AccessCall A → AccessCall A
with_page registers c =
    record { registers = registers; mode = c.mode; kind = c.kind; address = c.address; length = c.length; answer = c.answer }

pub record PageWidened (registers : List ℕ) : Type 0 where
  -- without such a bit the check is the same, refused or not, and so is an access: result, answer and table
  pub same_check : NoHighBit (register_words registers) → check_call registers ≡ check_call (widened_page registers)
  pub same_access : NoHighBit (register_words registers) → (c : AccessCall (List ℕ)) (t : List ℕ)
      → on_bytes (access (with_page registers c)) t ≡ on_bytes (access (with_page (widened_page registers) c)) t
  -- with one the check answers 2 where SDR1 breaks its rule, and else 3
  pub high_bit : (side : Bool) (i : ℕ) → i < block_pairs false → narrow (upper_of (block_pairs false) (register_words registers) side i) ≡ false
      → check_call registers ≡ cond (sdr1_shape (sdr1_of (register_words registers))) refused_block refused_sdr1
  -- set_register of a number does what it does under the number of the same word on the widened page, where the new set has no such bit either
  pub same_set : (number word : ℕ) → number < register_count false → NoHighBit (register_words registers) → NoHighBit (set (register_words registers) number word)
      → ((set_register_call (widened_page registers) (place_in_set false number) word).0 ≡ (set_register_call registers number word).0)
      × ((set_register_call (widened_page registers) (place_in_set false number) word).1 ≡ widened_page (set_register_call registers number word).1)

-- of every short page
abbrev pub PagesWiden : Type 0
PagesWiden = (registers : List ℕ) → length registers ≡ registers_size_short → PageWidened registers
