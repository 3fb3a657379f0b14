-- What is stated of the call on any table of bytes: what it tells of each access.
use Rattle.std.specs.Prelude.{ℕ, ◌+◌, ◌-◌, ◌*◌, ◌^◌, ◌<◌, Bool, true, false, cond, List, ◌↔◌, ◌≡◌, length, get_or, take, drop}
use Rattle.numbers.specs.Numbers.{done, refused_lent_length, access_answer_size}
use Rattle.words.specs.Bits.{bits}
use Rattle.words.specs.Words.{word_at}
use Rattle.register_words.specs.Sdr1.{mask_ones}
use Rattle.registers.specs.Set.{is_page}
use Rattle.protection.specs.Access.{storing}
use Rattle.translation.specs.declared.Early.TheVariants.{Decided, Search}
use Rattle.translation.specs.declared.Outcome.{Outcome}
use Rattle.translation.specs.declared.Wanted.{Wanted}
use Rattle.theory_calls.specs.Request.{access, sdr1_in, fed}
use Rattle.theory_calls.specs.Rules.{refusal}
use Rattle.theory_calls.specs.OnBytes.{on_bytes, early_of, wanted_page}
use Rattle.theory_calls.specs.AnyTable.{second_here, FirstMatch}
use Rattle.theory_calls.specs.Arguments.{Translates}
use Rattle.access_rights.specs.Rights.{RightsCall, asking, would_end, new_marks, rights_size, rights_call}
use Rattle.access_rights.specs.Rows.{RightsRows}

-- the bytes of an answer and the word of the marks that are told of a kind
abbrev pub answer_told : List ℕ → ℕ → List ℕ
answer_told told kind = take access_answer_size (drop (access_answer_size * kind) told)

abbrev pub marks_told : List ℕ → ℕ → ℕ
marks_told told kind = word_at told (3 * access_answer_size + 4 * kind)

-- ---- any table

-- what is told, and the result
pub record ToldOnAny (c : RightsCall) (answer t : List ℕ) : Type 0 where
  -- a refused length leaves the answer
  pub left : (rights_call c answer t).0 ≡ refused_lent_length → (rights_call c answer t).1 ≡ answer
  -- else each of the three answers is that of the access of its kind, whatever that access is lent for its answer
  pub answers : ((rights_call c answer t).0 ≡ refused_lent_length → ⊥) → (kind : ℕ) → kind < 3 → (lent : List ℕ) → length lent ≡ access_answer_size
      → answer_told (rights_call c answer t).1 kind
      ≡ (on_bytes (access (record { registers = c.registers; mode = c.mode; kind = kind; address = c.address; length = 1; answer = lent })) t).answer
  -- and each word of marks is that of its access
  pub marks : ((rights_call c answer t).0 ≡ refused_lent_length → ⊥) → ((i : ℕ) → get_or t i 0 < 2 ^ 8) → (kind : ℕ) → kind < 3
      → marks_told (rights_call c answer t).1 kind ≡ new_marks t (would_end c t kind)
  -- the result is the refusal that each of the accesses meets, where both lent lengths are right
  pub number : is_page (length c.registers) ≡ true → length answer ≡ rights_size → (kind : ℕ) → kind < 3
      → (rights_call c answer t).0 ≡ refusal (fed (access (asking c kind))) (length t)
  -- so it is 0 exactly where they are right and none of the accesses is refused for its mode, its set or the table's length
  pub not_refused : ((rights_call c answer t).0 ≡ done)
      ↔ ((length answer ≡ rights_size) × ((kind : ℕ) → kind < 3 → refusal (fed (access (asking c kind))) (length t) ≡ 0))
  -- in numbers: an answer of 156 bytes, and what an access asks of registers, mode and table
  pub done_where : ((rights_call c answer t).0 ≡ done) ↔ ((length answer ≡ 156) × Translates c.registers c.mode (length t))

-- the marks of one access on a table of bytes
module _ (c : RightsCall) (t : List ℕ) (kind : ℕ) where
  abbrev pub newly_set : ℕ
  newly_set = new_marks t (would_end c t kind)

  pub record MarksOnAny : Type 0 where
    -- none exactly where the access leaves the table as it was
    pub none : (newly_set ≡ 0) ↔ ((would_end c t kind).state ≡ t)
    -- so none of an access that is not done, nor of one that real mode or a block decides
    pub not_done : ((would_end c t kind).number ≡ done → ⊥) → newly_set ≡ 0
    pub decided : (outcome : Outcome) → early_of (asking c kind) false ≡ Decided outcome → newly_set ≡ 0
    -- done by a page: R where it is clear in the first match, and C where it is clear and the access is a store
    pub by_page_law : (would_end c t kind).number ≡ done → (wanted : Wanted) → early_of (asking c kind) false ≡ Search wanted
        → (b : Bool) (i : ℕ) → FirstMatch (mask_ones (sdr1_in (access (asking c kind)))) t (wanted_page wanted) b i
        → let word = second_here (mask_ones (sdr1_in (access (asking c kind)))) t (wanted_page wanted) b i in
        newly_set ≡ 0x100 * (1 - bits 23 23 word) + cond (storing kind) (0x080 * (1 - bits 24 24 word)) 0
    -- no bits but R and C
    pub only : (bits 0 22 newly_set ≡ 0) × (bits 25 31 newly_set ≡ 0)

pub record RightsStated : Type 0 where
  pub told : (c : RightsCall) (answer t : List ℕ) → ToldOnAny c answer t
  pub marks : (c : RightsCall) (t : List ℕ) → ((i : ℕ) → get_or t i 0 < 2 ^ 8) → (kind : ℕ) → MarksOnAny c t kind
  -- rows of the whole call
  pub rows : RightsRows
