-- What the code holds of an address and of the three accesses there, against what they would end in.
use Rattle.std.specs.Prelude.{ℕ, ◌-◌, ◌^◌, ◌<◌, true, false, List, ◌≡◌, length, get_or, Result, Ok, Err}
use Rattle.numbers.specs.Numbers.{fetch, load, store}
use Rattle.numbers.specs.Refused.{refusal_number, result_number}
use Rattle.numbers.specs.declared.Refusal.{Refusal}
use Rattle.entry.specs.Entry.{with_marks}
use Rattle.register_words.specs.Sdr1.{mask_ones}
use Rattle.registers.specs.Set.{sdr1_of, set_words}
use Rattle.protection.specs.Access.{user_mode, storing}
use Rattle.translation.specs.Steps.{segment_at, wanted_of, refused_answer}
use Rattle.translation.specs.Decision.{decided}
use Rattle.translation.specs.Operand.{stopped}
use Rattle.table_access.specs.Part.{covered_by, table_found}
use Rattle.table_access.specs.declared.Found.{Found}
use Rattle.table_access.specs.declared.Found.TheVariants.{Unmatched, Contradicted, InCache, InTable}
use Rattle.theory_calls.specs.Request.{access, fed}
use Rattle.theory_calls.specs.Rules.{refusal}
use Rattle.theory_calls.specs.Answers.{access_answer}
use Rattle.theory_calls.specs.OnBytes.{Ended}
use Rattle.access_rights.specs.Rights.{RightsCall, asking, would_end, new_marks}
use Rattle.access_rights.specs.declared.Standing.{Standing}
use Rattle.access_rights.specs.declared.Right.{Right}
use Rattle.access_rights.specs.declared.Rights.{Rights}

-- what stands at an address, in a table for a mask of k ones: the pairs that cover it, and what is found of its page
abbrev pub stands_at : List ℕ → ℕ → ℕ → ℕ → List ℕ → Standing
stands_at words mode address k t = record {
  ibat = covered_by words false (user_mode mode) address;
  dbat = covered_by words true (user_mode mode) address;
  found = table_found k t (wanted_of (user_mode mode) (segment_at words address) address);
}

-- in a table of bytes, by the register page of a call
abbrev pub StandsIn : RightsCall → List ℕ → Standing → Type 0
StandsIn c t at =
    ((i : ℕ) → get_or t i 0 < 2 ^ 8) × (at ≡ stands_at (set_words c.registers) c.mode c.address (mask_ones (sdr1_of (set_words c.registers))) t)

-- the marks that an access of a kind would newly set, by what is found of its page: those of an entry of the table
abbrev pub newly_marked : ℕ → Found → ℕ
newly_marked kind Unmatched = 0
newly_marked kind (Contradicted second group entry) = 0
newly_marked kind (InCache second group) = 0
newly_marked kind (InTable second group entry) = with_marks true (storing kind) second - second

-- what an access comes to that a rule refuses, and each of the three
abbrev pub right_refused : Refusal → Right
right_refused why = record { told = stopped (refused_answer (refusal_number why)) (decided 0 0); marks = 0 }

abbrev pub rights_refused : Refusal → Rights
rights_refused why = record { fetch = right_refused why; load = right_refused why; store = right_refused why }

-- what is told of the three, or what a refusal tells of each
abbrev pub rights_of : Result Rights Refusal → Rights
rights_of (Ok rights) = rights
rights_of (Err why) = rights_refused why

-- of one access: its answer and its new marks
pub record Tells (t : List ℕ) (e : Ended (List ℕ)) (right : Right) : Type 0 where
  pub answer : access_answer right.told ≡ e.answer
  pub marks : right.marks ≡ new_marks t e

-- of all three, with the rule that refuses each
pub record TellsAll (c : RightsCall) (t : List ℕ) (r : Result Rights Refusal) : Type 0 where
  pub number : result_number r ≡ refusal (fed (access (asking c fetch))) (length t)
  pub fetched : Tells t (would_end c t fetch) (rights_of r).fetch
  pub loaded : Tells t (would_end c t load) (rights_of r).load
  pub stored : Tells t (would_end c t store) (rights_of r).store
