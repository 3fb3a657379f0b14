-- Exactly when none of the refusals that come before the search is given (rules 7: 11, 6, 12, 2, 3, 4, 5, 1), by what a call brings and is lent.
use Rattle.std.specs.Prelude.{ℕ, ◌*◌, ◌/◌, ◌^◌, ◌≤◌, ◌<◌, Bool, cond, List, ◌↔◌, ◌≡◌, length, set}
use Rattle.numbers.specs.Numbers.{done, refused_lent_length, refused_operand_length}
use Rattle.words.specs.Words.{word_at, words_at}
use Rattle.entry.specs.declared.Fields.{Fields}
use Rattle.entry.specs.RoundTrip.{Within}
use Rattle.register_words.specs.Block.{bl_width}
use Rattle.registers.specs.Set.{block_pairs, register_count}
use Rattle.registers.specs.Check.{Sdr1Good, SetGood}
use Rattle.groups.specs.Page.{InRange}
use Rattle.theory_calls.specs.Request.{ClearCall, MapCall, ProtectCall, AnsweredCall, AccessCall, clear, map_page, unmap, protect, look, access}
use Rattle.theory_calls.specs.WithoutTable.{check_call, set_register_call, pack_call, unpack_call}
use Rattle.theory_calls.specs.OnBytes.{on_bytes}

-- a number that is none of them: done, 7 to 10, which come of the search, and the faults
pub record PastRules (number : ℕ) : Type 0 where
  pub not_1_to_6 : 1 ≤ number → 6 < number
  pub not_11 : number ≡ refused_lent_length → ⊥
  pub not_12 : number ≡ refused_operand_length → ⊥

-- a lent table of 65,536 × 2 ^ k bytes, where k is the number of ones of SDR1's mask
pub record TableGood (sdr1 lent : ℕ) : Type 0 where
  pub shape : Sdr1Good sdr1
  pub long : lent ≡ 65536 * 2 ^ shape.ones

-- a register page of 132 or of 196 bytes, after a change of its words; its set is good by its own limits
pub record RegistersGood (registers : List ℕ) (change : List ℕ → List ℕ) : Type 0 where
  pub long : Bool
  pub size : length registers ≡ cond long 196 132
  pub good : SetGood (block_pairs long) (bl_width long) (change (words_at registers 0 (register_count long)))

-- ---- the calls

pub record MapGood (c : MapCall) (lent : ℕ) : Type 0 where
  pub page : InRange c.page
  pub rpn_lt : c.rpn < 2 ^ 20
  pub wimg_lt : c.wimg < 16
  -- not W with I
  pub not_both : c.wimg / 4 ≡ 3 → ⊥
  pub pp_lt : c.pp < 4
  pub table : TableGood c.sdr1 lent

pub record ProtectGood (c : ProtectCall) (lent : ℕ) : Type 0 where
  pub page : InRange c.page
  pub pp_lt : c.pp < 4
  pub table : TableGood c.sdr1 lent

-- unmap and look
pub record AnsweredGood (c : AnsweredCall (List ℕ)) (lent : ℕ) : Type 0 where
  pub answer : length c.answer ≡ 16
  pub page : InRange c.page
  pub table : TableGood c.sdr1 lent

-- what an access and rights ask of registers, mode and table
pub record Translates (registers : List ℕ) (mode lent : ℕ) : Type 0 where
  pub page : RegistersGood registers (λ words. words)
  pub mode_lt : mode < 8
  pub table : TableGood (word_at registers 0) lent

-- an access; nothing is asked of the address
pub record AccessGood (c : AccessCall (List ℕ)) (lent : ℕ) : Type 0 where
  pub answer : length c.answer ≡ 48
  pub kind_lt : c.kind < 3
  pub some : 1 ≤ c.length
  pub few : c.length ≤ 128
  pub translates : Translates c.registers c.mode lent

-- every call but those with a cache and rights
pub record ArgumentsDecide : Type 0 where
  pub clears : (c : ClearCall) (t : List ℕ) → ((on_bytes (clear c) t).number ≡ done) ↔ TableGood c.sdr1 (length t)
  pub maps : (c : MapCall) (t : List ℕ) → PastRules (on_bytes (map_page c) t).number ↔ MapGood c (length t)
  pub unmaps : (c : AnsweredCall (List ℕ)) (t : List ℕ) → PastRules (on_bytes (unmap c) t).number ↔ AnsweredGood c (length t)
  pub protects : (c : ProtectCall) (t : List ℕ) → PastRules (on_bytes (protect c) t).number ↔ ProtectGood c (length t)
  pub looks : (c : AnsweredCall (List ℕ)) (t : List ℕ) → PastRules (on_bytes (look c) t).number ↔ AnsweredGood c (length t)
  pub accesses : (c : AccessCall (List ℕ)) (t : List ℕ) → PastRules (on_bytes (access c) t).number ↔ AccessGood c (length t)
  -- check, and set_register: the new set is good, whatever the old one was
  pub checks : (registers : List ℕ) → (check_call registers ≡ done) ↔ RegistersGood registers (λ words. words)
  pub sets : (registers : List ℕ) (number word : ℕ) → ((set_register_call registers number word).0 ≡ done)
      ↔ ((4 * number < length registers) × RegistersGood registers (λ words. set words number word))
  pub packs : (f : Fields) (entry : List ℕ) → ((pack_call f entry).0 ≡ done) ↔ ((length entry ≡ 8) × Within f)
  pub unpacks : (first second : ℕ) (fields : List ℕ) → ((unpack_call first second fields).0 ≡ done) ↔ (length fields ≡ 36)
