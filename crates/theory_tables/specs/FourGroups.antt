-- A small kind of table, by computation: four groups of three entries. Pages are numbers, a table is a function, and a first word holds V in its
-- lowest bit, then H, then what of the page the group does not tell.
use Rattle.std.specs.Prelude.{Bool, true, false, cond, ◌&&◌, List, [], ◌∷◌, map, ℕ, ◌+◌, ◌-◌, ◌*◌, ◌/◌, ◌%◌, eqb}
use Rattle.std.proofs.Math.Option.{none, some}
use Rattle.words.specs.Rows.{Hold}
use Rattle.theory_placement.specs.Lists.{one_if}
use Rattle.theory_tables.specs.Matches.{Match}
use Rattle.theory_tables.specs.Runs.{run, after}
use Rattle.theory_tables.specs.Layout.{Layout, matches_of, used, free_place, overwrite_each}

-- the first word of page p in its primary or secondary group
abbrev pub page_word : Bool → ℕ → ℕ
page_word b p = p / 4 * 4 + one_if b * 2 + 1

-- Groups 0 and 3 are a pair, and 1 and 2 are the other.
abbrev pub page_group : Bool → ℕ → ℕ
page_group false p = p % 4
page_group true p = 3 - p % 4

abbrev pub four : Layout ℕ (ℕ → ℕ → ℕ × ℕ)
four = record {
  group = page_group;
  half = 2;
  capacity = 3;
  matching = λ b p u. eqb u (page_word b p);
  free = λ u. eqb (u % 2) 0;
  first = λ t g i. (t g i).0;
  second = λ t g i. (t g i).1;
  put = λ t g i u v h j. cond (eqb h g && eqb j i) (u, v) (t h j);
}

-- Group 0 is full: page 0 and page 8 stand there in their primary group, page 3 in its secondary. Page 0 stands in group 3 too, its secondary.
abbrev pub standing : ℕ → ℕ → ℕ × ℕ
standing =
    four.put (four.put (four.put (four.put (λ g i. (0, 0)) 3 0 (page_word true 0) 20) 0 1 (page_word true 3) 30) 0 0 (page_word false 0) 10) 0 2 (page_word false 8) 50

-- with two entries more group 3 is full too
abbrev pub filled : ℕ → ℕ → ℕ × ℕ
filled = four.put (four.put standing 3 1 (page_word true 4) 40) 3 2 (page_word true 12) 60

-- which of a page's groups holds a match, and where
abbrev pub place_in : Match → Bool × ℕ
place_in x = (x.secondary, x.entry)

-- the words of the entries of groups 0 and 3
abbrev pub pair_words : (ℕ → ℕ → ℕ × ℕ) → List (ℕ × ℕ)
pair_words t = t 0 0 ∷ t 0 1 ∷ t 0 2 ∷ t 3 0 ∷ t 3 1 ∷ t 3 2 ∷ []

pub record FourGroupsTables : Type 0 where
  -- page 0 has a match in each of its groups, page 3 one in its secondary, page 8 one behind the others; page 4, of the same groups, has none
  pub matches : Hold (
      (map place_in (matches_of four standing 0), (false, 0) ∷ (true, 0) ∷ [])
      ∷ (map place_in (matches_of four standing 3), (true, 1) ∷ [])
      ∷ (map place_in (matches_of four standing 8), (false, 2) ∷ [])
      ∷ (map place_in (matches_of four standing 4), [])
      ∷ []
      )
  pub uses : Hold (
      (map (used four standing) (0 ∷ 1 ∷ 2 ∷ 3 ∷ []), 3 ∷ 0 ∷ 0 ∷ 1 ∷ [])
      ∷ (map (used four filled) (0 ∷ 1 ∷ 2 ∷ 3 ∷ []), 3 ∷ 0 ∷ 0 ∷ 3 ∷ [])
      ∷ []
      )
  -- page 0's primary group is full, page 3's is not, page 1's is empty; at last both groups of page 0 and page 3 are full
  pub free_places : Hold (
      (map (free_place four standing) (0 ∷ 3 ∷ 1 ∷ []), some (true, 1) ∷ some (false, 1) ∷ some (false, 0) ∷ [])
      ∷ (map (free_place four filled) (0 ∷ 3 ∷ 1 ∷ []), none ∷ none ∷ some (false, 0) ∷ [])
      ∷ []
      )
  -- page 0's two matches made free, and their second words raised by one
  pub overwritten : Hold (
      (pair_words standing, (1, 10) ∷ (3, 30) ∷ (9, 50) ∷ (3, 20) ∷ (0, 0) ∷ (0, 0) ∷ [])
      ∷ (
        pair_words (overwrite_each four 0 (λ x. (0, 0)) (matches_of four standing 0) standing),
        (0, 0) ∷ (3, 30) ∷ (9, 50) ∷ (0, 0) ∷ (0, 0) ∷ (0, 0) ∷ [],
      )
      ∷ (
        pair_words (overwrite_each four 0 (λ x. (x.first, x.second + 1)) (matches_of four standing 0) standing),
        (1, 11) ∷ (3, 30) ∷ (9, 50) ∷ (3, 21) ∷ (0, 0) ∷ (0, 0) ∷ [],
      )
      ∷ []
      )
  -- a machine that adds what it is called with and answers the sum: each call is made in the state that the one before left
  pub runs : Hold ((run (λ c sum. (sum + c, sum + c)) (1 ∷ 2 ∷ 4 ∷ []) 0, 1 ∷ 3 ∷ 7 ∷ []) ∷ [])
  pub afterwards : Hold ((after (λ c sum. (sum, sum * 2 + c)) (1 ∷ 2 ∷ 4 ∷ []) 0, 12) ∷ [])
