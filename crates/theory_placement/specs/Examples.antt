-- Worked examples of the finite map and of arrangements, over pages that are numbers.
use Rattle.std.specs.Prelude.{ℕ, zero, suc, ◌+◌, ◌-◌, ◌*◌, ◌%◌, Bool, true, false, List, [], ◌∷◌, ◌++◌, map, eqb}
use Rattle.std.proofs.Math.Option.{none, some}
use Rattle.words.specs.Rows.{Hold}
use Rattle.theory_placement.specs.Placement.{Arrangement}
use Rattle.theory_placement.specs.FiniteMap.{mapped_pages, put_in, fields_at, take_out, revise, NoPageTwice}

-- three pages; then page 4 put in, page 2 taken out, page 2 revised
abbrev pub three_pages : List (ℕ × ℕ)
three_pages = (1, 10) ∷ (2, 20) ∷ (3, 30) ∷ []

abbrev pub changes : List (List (ℕ × ℕ))
changes = three_pages ∷ put_in 4 40 three_pages ∷ take_out eqb 2 three_pages ∷ revise eqb 2 (λ f. f + 1) three_pages ∷ []

-- four groups, of which 0 and 3 are a pair, and 1 and 2 are the other
abbrev pub four_groups : Bool → ℕ → ℕ
four_groups false p = p % 4
four_groups true p = 3 - p % 4

-- n pages whose primary group is g
abbrev pub pages_in : ℕ → ℕ → List ℕ
pages_in zero g = []
pages_in (suc n) g = (n * 4 + g) ∷ pages_in n g

-- an arrangement in these groups, each of so many entries
abbrev pub Fit : ℕ → List ℕ → Type 0
Fit capacity ps = Arrangement four_groups capacity ps

pub record PlacementTables : Type 0 where
  -- the fields of pages 1 to 4
  pub fields : Hold (
      (map (λ p. fields_at eqb p three_pages) (1 ∷ 2 ∷ 3 ∷ 4 ∷ []), some 10 ∷ some 20 ∷ some 30 ∷ none ∷ [])
      ∷ (map (λ p. fields_at eqb p (put_in 4 40 three_pages)) (1 ∷ 2 ∷ 3 ∷ 4 ∷ []), some 10 ∷ some 20 ∷ some 30 ∷ some 40 ∷ [])
      ∷ (map (λ p. fields_at eqb p (take_out eqb 2 three_pages)) (1 ∷ 2 ∷ 3 ∷ 4 ∷ []), some 10 ∷ none ∷ some 30 ∷ none ∷ [])
      ∷ (map (λ p. fields_at eqb p (revise eqb 2 (λ f. f + 1) three_pages)) (1 ∷ 2 ∷ 3 ∷ 4 ∷ []), some 10 ∷ some 21 ∷ some 30 ∷ none ∷ [])
      ∷ []
      )
  -- the mapped pages
  pub pages : Hold ((map mapped_pages changes, (1 ∷ 2 ∷ 3 ∷ []) ∷ (4 ∷ 1 ∷ 2 ∷ 3 ∷ []) ∷ (1 ∷ 3 ∷ []) ∷ (1 ∷ 2 ∷ 3 ∷ []) ∷ []) ∷ [])
  -- each page is there once; page 2 put in again is there twice
  pub once : NoPageTwice eqb three_pages
  pub twice : NoPageTwice eqb (put_in 2 40 three_pages) → ⊥
  -- sixteen pages of a pair of groups of eight fit and seventeen do not, whichever of the two groups is primary
  pub sixteen : Fit 8 (pages_in 16 0) × Fit 8 (pages_in 8 0 ++ pages_in 8 3)
  pub seventeen : (Fit 8 (pages_in 17 0) → ⊥) × (Fit 8 (pages_in 9 0 ++ pages_in 8 3) → ⊥) × (Fit 8 (pages_in 1 3 ++ pages_in 16 0) → ⊥)
  -- the other pair has its own entries
  pub other_pair : Fit 8 (pages_in 16 1 ++ pages_in 16 0)
  -- and so it is with groups of three
  pub groups_of_three : Fit 3 (pages_in 3 0 ++ pages_in 3 3) × (Fit 3 (pages_in 4 0 ++ pages_in 3 3) → ⊥)
