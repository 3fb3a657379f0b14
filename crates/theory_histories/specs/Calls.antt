-- The one list of calls: what a call asks, what it is lent, and what it does to the list's own table and cache.
use Rattle.std.specs.Prelude.{ℕ, List, [], ◌⊎◌, ◌≡◌, length}
use Rattle.std.proofs.Math.Option.{Option, none, some}
use Rattle.numbers.specs.Numbers.{refused_lent_length}
use Rattle.theory_calls.specs.Request.{AccessCall, Request, access, sdr1_in, fed}
use Rattle.theory_calls.specs.Rules.{refusal}
use Rattle.theory_calls.specs.OnBytes.{Ended, ended, by_option, on_bytes}
use Rattle.theory_cache.specs.Cached.{on_cached, cached_refusal, invalidate_refusal, invalidate_call}
use Rattle.access_rights.specs.Rights.{RightsCall, asking, rights_refusal, rights_call}

-- what is asked: one of the calls on a table, an access with the cache, an invalidate of a page index's set, or what three accesses would come to; A is
-- what is said of the lent answer: its bytes, or its length alone
pub data Asked (A : Type 0) : Type 0 where
  plain : Request A → Asked A
  cached : AccessCall A → Asked A
  invalidate : (index : ℕ) → Asked A
  rights : RightsCall → (answer : A) → Asked A

-- the slices that a list of calls is about, or what is said of each
pub record Slices (A : Type 0) : Type 0 where
  pub table : A
  pub cache : A

abbrev pub slices : {A : Type 0} → A → A → Slices A
slices table cache = record { table = table; cache = cache }

-- a call: what it asks, and other slices that are lent in the place of the list's own
pub record Call : Type 0 where
  pub asked : Asked (List ℕ)
  pub other : Slices (Option (List ℕ))

-- ---- on bytes

-- the list's own slices
abbrev pub State : Type 0
State = Slices (List ℕ)

-- a call on what it is lent
unfoldable pub on_lent : Asked (List ℕ) → State → Ended State
on_lent (plain request) s = let e = on_bytes request s.table in ended e.number (slices e.state s.cache) e.answer
on_lent (cached c) s = let e = on_cached c (s.table, s.cache) in ended e.number (slices e.state.0 e.state.1) e.answer
on_lent (invalidate index) s = let e = invalidate_call index s.cache in ended e.0 (slices s.table e.1) []
on_lent (rights c answer) s = let e = rights_call c answer s.table in ended e.0 s e.1

-- what is lent in the place of a slice, and what is left of the slice: as it was, where another was lent
abbrev pub lent_for : Option (List ℕ) → List ℕ → List ℕ
lent_for other own = by_option other own (λ slice. slice)

abbrev pub left_for : Option (List ℕ) → List ℕ → List ℕ → List ℕ
left_for other own left = by_option other left (λ slice. own)

abbrev pub lent_to : Call → State → State
lent_to c s = slices (lent_for c.other.table s.table) (lent_for c.other.cache s.cache)

-- a call of the list: what it answers, and what it leaves of the list's own slices
unfoldable pub calling : Call → State → Ended State
calling c s =
    let e = on_lent c.asked (lent_to c s) in
    ended e.number (slices (left_for c.other.table s.table e.state.table) (left_for c.other.cache s.cache e.state.cache)) e.answer

-- ---- arguments and lengths

abbrev pub lengths_of : State → Slices ℕ
lengths_of s = slices (length s.table) (length s.cache)

-- the lengths of what a call is lent, by those of the list's own slices
abbrev pub lent_lengths : Slices ℕ → Call → Slices ℕ
lent_lengths own c = slices (by_option c.other.table own.table length) (by_option c.other.cache own.cache length)

-- the refusal that follows from the arguments and the lent lengths alone, or 0
unfoldable pub refusal_of : Asked (List ℕ) → Slices ℕ → ℕ
refusal_of (plain request) lent = refusal (fed request) lent.table
refusal_of (cached c) lent = cached_refusal c lent.table lent.cache
refusal_of (invalidate index) lent = invalidate_refusal index lent.cache
refusal_of (rights c answer) lent = rights_refusal c (length answer) lent.table

-- the SDR1 that is brought by a call which is lent a table
unfoldable pub brought_in : {A : Type 0} → Asked A → Option ℕ
brought_in (plain request) = some (sdr1_in request)
brought_in (cached c) = some (sdr1_in (access c))
brought_in (invalidate index) = none
brought_in (rights c answer) = some (sdr1_in (access (asking c 0)))

-- a call under one SDR1, by the lengths of the list's own slices: a length of it is refused, and it may then bring anything; or it brings that SDR1, if it
-- is lent a table, and another slice in the table's place only of another length
abbrev pub Under : ℕ → Slices ℕ → Call → Type 0
Under sdr1 own c =
    (refusal_of c.asked (lent_lengths own c) ≡ refused_lent_length)
    ⊎ ((brought : ℕ) → brought_in c.asked ≡ some brought
    → (brought ≡ sdr1) × ((other : List ℕ) → c.other.table ≡ some other → length other ≡ own.table → ⊥))
