-- Demand 1: a call that is refused tells so by its number and leaves what it was lent (rules 2). That every call returns is shown by the checker.
use Rattle.std.specs.Prelude.{ℕ, List, ◌∷◌, ◌≡◌, replicate}
use Rattle.numbers.specs.Numbers.{done, data_storage_fault, instruction_storage_fault, refused_lent_length}
use Rattle.words.specs.Words.{bytes_of}
use Rattle.entry.specs.declared.Fields.{Fields}
use Rattle.theory_calls.specs.Request.{AnsweredCall, AccessCall, Request, unmap, look, access}
use Rattle.theory_calls.specs.WithoutTable.{set_register_call, pack_call, unpack_call}
use Rattle.theory_calls.specs.OnBytes.{on_bytes}

pub record RefusalsLeave : Type 0 where
  -- a call that is not done, a fault among them, leaves the table
  pub table : (request : Request (List ℕ)) (t : List ℕ) → ((on_bytes request t).number ≡ done → ⊥) → (on_bytes request t).state ≡ t
  -- a register word that is refused leaves the register page
  pub registers : (registers : List ℕ) (number word : ℕ) → ((set_register_call registers number word).0 ≡ done → ⊥)
      → (set_register_call registers number word).1 ≡ registers
  -- where a length is refused, the lent answer, entry and fields are left too
  pub unmap_answer : (c : AnsweredCall (List ℕ)) (t : List ℕ) → (on_bytes (unmap c) t).number ≡ refused_lent_length → (on_bytes (unmap c) t).answer ≡ c.answer
  pub look_answer : (c : AnsweredCall (List ℕ)) (t : List ℕ) → (on_bytes (look c) t).number ≡ refused_lent_length → (on_bytes (look c) t).answer ≡ c.answer
  pub access_answer_law : (c : AccessCall (List ℕ)) (t : List ℕ) → (on_bytes (access c) t).number ≡ refused_lent_length → (on_bytes (access c) t).answer ≡ c.answer
  -- a look and an unmap that are refused otherwise answer their number and zero words
  pub unmap_zeros : (c : AnsweredCall (List ℕ)) (t : List ℕ) → let number = (on_bytes (unmap c) t).number in
      (number ≡ done → ⊥) → (number ≡ refused_lent_length → ⊥) → (on_bytes (unmap c) t).answer ≡ bytes_of (number ∷ replicate 3 0)
  pub look_zeros : (c : AnsweredCall (List ℕ)) (t : List ℕ) → let number = (on_bytes (look c) t).number in
      (number ≡ done → ⊥) → (number ≡ refused_lent_length → ⊥) → (on_bytes (look c) t).answer ≡ bytes_of (number ∷ replicate 3 0)
  -- an access that is refused otherwise answers its number and zero words, those of the rule that decided among them
  pub access_zeros : (c : AccessCall (List ℕ)) (t : List ℕ) → let number = (on_bytes (access c) t).number in
      (number ≡ done → ⊥) → (number ≡ data_storage_fault → ⊥) → (number ≡ instruction_storage_fault → ⊥) → (number ≡ refused_lent_length → ⊥)
      → (on_bytes (access c) t).answer ≡ bytes_of (number ∷ replicate 11 0)
  pub entry : (f : Fields) (entry : List ℕ) → (pack_call f entry).0 ≡ refused_lent_length → (pack_call f entry).1 ≡ entry
  pub fields : (first second : ℕ) (fields : List ℕ) → (unpack_call first second fields).0 ≡ refused_lent_length → (unpack_call first second fields).1 ≡ fields
