-- The relation "this table represents this finite map": the matches of every page are its lookup, and the used entries of a pair of groups are
-- its mapped pages. There is no history in it.
use Rattle.std.specs.Prelude.{◌≡◌, Bool, List, [], ◌∷◌, map, ℕ, ◌<◌}
use Rattle.std.proofs.Math.Option.{Option, none, some}
use Rattle.theory_placement.specs.Pairs.{pages_of_pair}
use Rattle.theory_placement.specs.FiniteMap.{mapped_pages, fields_at, NoPageTwice}
use Rattle.theory_tables.specs.Matches.{Match}
use Rattle.theory_tables.specs.Layout.{Layout, groups, matches_of, used_of_pair}

-- the second words that a page's matches have: none where it is not mapped, the one word of its fields where it is
abbrev pub words_of : {F : Type 0} → (F → ℕ) → Option F → List ℕ
words_of word none = []
words_of word (some f) = word f ∷ []

-- `word f` is the second word of a page's fields, and `ValidFields f` says that these are in range
module _ {P T F : Type 0} (L : Layout P T) (same : P → P → Bool) (Valid : P → Type 0) (Good : T → Type 0) (word : F → ℕ) (ValidFields : F → Type 0) where
  pub record Represents (t : T) (m : List (P × F)) : Type 0 where
    -- the table has its length and holds bytes
    pub good : Good t
    -- no page is in the map twice
    pub once : NoPageTwice same m
    -- a page that is not mapped has no match, and a mapped page has one, with the second word of its fields
    pub found : (p : P) → Valid p → map (λ (x : Match). x.second) (matches_of L t p) ≡ words_of word (fields_at same p m)
    -- every pair of groups has as many used entries as mapped pages
    pub counted : (g : ℕ) → g < groups L → used_of_pair L t g ≡ pages_of_pair L.group g (mapped_pages m)
    -- mapped pages and their fields are in range
    pub valid : (p : P) (f : F) → fields_at same p m ≡ some f → Valid p × ValidFields f
