-- The mode and the kind of an access (rules 5): mode 0 to 7, kind 0 fetch, 1 load, 2 store.
use Rattle.std.specs.Prelude.{ℕ, ◌/◌, ◌%◌, Bool, cond, not, eqb}
use Rattle.numbers.specs.Numbers.{fetch, store}

-- PR, 4 of the mode, is on: the access is the user's, else the supervisor's
unfoldable pub user_mode : ℕ → Bool
user_mode mode = eqb (mode / 4 % 2) 1

-- a fetch
unfoldable pub fetching : ℕ → Bool
fetching kind = eqb kind fetch

-- a store
unfoldable pub storing : ℕ → Bool
storing kind = eqb kind store

-- the access is translated: IR, 2 of the mode, is on for a fetch, or DR, 1 of the mode, for data
unfoldable pub relocated : ℕ → ℕ → Bool
relocated mode kind = eqb (cond (fetching kind) (mode / 2 % 2) (mode % 2)) 1

-- the side whose blocks count: true for data, false for instructions
unfoldable pub side_of : ℕ → Bool
side_of kind = not (fetching kind)
