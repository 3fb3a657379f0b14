-- Tables of cases: what a definition computes beside what the papers state; and words that have one bit alone, or lack one alone.
use Rattle.std.specs.Prelude.{ℕ, zero, suc, ◌-◌, ◌^◌, Bool, true, false, List, [], ◌∷◌, ◌++◌, map, ◌≡◌, replicate}

-- each row's computed value is the one stated beside it
pub record Hold {A : Type 0} (rows : List (A × A)) : Type 0 where
  pub equal : map (λ (row : A × A). row.0) rows ≡ map (λ (row : A × A). row.1) rows

-- the numbers below 2 ^ n that have one bit alone, the highest first
abbrev pub powers : ℕ → List ℕ
powers zero = []
powers (suc n) = 2 ^ n ∷ powers n

-- the words that have one bit alone, bit 0 first, and those that lack one bit alone
abbrev pub each_bit : List ℕ
each_bit = powers 32

abbrev pub all_but_each : List ℕ
all_but_each = map (λ bit. 0xFFFFFFFF - bit) each_bit

-- true at bits a to b and false at the others of 32, and the other way round
abbrev pub only_at : ℕ → ℕ → List Bool
only_at a b = replicate a false ++ replicate (suc b - a) true ++ replicate (31 - b) false

abbrev pub not_at : ℕ → ℕ → List Bool
not_at a b = replicate a true ++ replicate (suc b - a) false ++ replicate (31 - b) true

-- what bits a to b are of the words that have one bit alone, and of those that lack one alone
abbrev pub field_of_each : ℕ → ℕ → List ℕ
field_of_each a b = replicate a 0 ++ powers (suc b - a) ++ replicate (31 - b) 0

abbrev pub field_of_all_but : ℕ → ℕ → List ℕ
field_of_all_but a b = map (λ bit. 2 ^ (suc b - a) - 1 - bit) (field_of_each a b)
