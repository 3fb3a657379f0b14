-- The search for a page's matches (rules 4), and what one pass over them tells.
use Rattle.std.specs.Prelude.{ℕ, ◌^◌, ◌<◌, ◌≡◌, Bool, true, false, cond, not, ◌&&◌, ◌||◌, eqb, Option, Some, None}
use mathlib.Core.List.{List, [], ◌∷◌, ◌++◌, foldr}
use Rattle.numbers.specs.Numbers.{group_entries}
use Rattle.words.specs.Words.{swapped}
use Rattle.entry.specs.Entry.{first_word, matches, rpn_of, wimg_of, pp_of, referenced, changed, with_marks}
use Rattle.theory_tables.specs.Matches.{Match, matches_below}
use Rattle.groups.specs.Group.{first_at, second_at, place, free_after}
use Rattle.groups.specs.declared.Place.{Place}
use Rattle.matches.specs.declared.Told.{Told}
use Rattle.matches.specs.declared.FirstMatch.{FirstMatch}
use Rattle.matches.specs.declared.Others.{Others}
use Rattle.matches.specs.declared.Others.TheVariants.{Absent, Agreeing, Differing}

-- H of an entry: 0 in the primary group (false), 1 in the secondary (true)
abbrev pub h_of : Bool → ℕ
h_of secondary = cond secondary 1 0

-- the word that the first words of a group's entries are compared with: V = 1, VSID, H and API packed, its bytes reversed as the machine reads them
abbrev pub WantedWord : Bool → ℕ → ℕ → ℕ → Type 0
WantedWord secondary vsid api wanted = (vsid < 2 ^ 24) × (api < 2 ^ 6) × (wanted ≡ swapped (first_word 1 vsid (h_of secondary) api))

-- the matches among the first n entries of a group of H = 0 (false) or H = 1 (true), in order
abbrev pub matches_to : Bool → ℕ → ℕ → List ℕ → ℕ → List Match
matches_to secondary vsid api group n = matches_below (matches vsid (h_of secondary) api) (first_at group) (second_at group) secondary n

-- the matches in the 64 bytes of a page's primary (false) or secondary (true) group, in order
unfoldable pub group_matches : Bool → ℕ → ℕ → List ℕ → List Match
group_matches secondary vsid api group = matches_below (matches vsid (h_of secondary) api) (first_at group) (second_at group) secondary group_entries

-- the matches in search order: primary entries 0 to 7, then secondary, given the bytes of both groups
unfoldable pub pair_matches : ℕ → ℕ → List ℕ → List ℕ → List Match
pair_matches vsid api primary secondary = group_matches false vsid api primary ++ group_matches true vsid api secondary

-- the second words of two matches agree: RPN, WIMG and PP are equal; R, C and the ignored bits may differ
unfoldable pub agree : ℕ → ℕ → Bool
agree second other = eqb (rpn_of second) (rpn_of other) && eqb (wimg_of second) (wimg_of other) && eqb (pp_of second) (pp_of other)

-- some match of a list passes a test
abbrev pub any_match : (Match → Bool) → List Match → Bool
any_match test ms = foldr (λ m others. test m || others) false ms

-- a match's second word does not agree with another
abbrev pub disagrees : ℕ → Match → Bool
disagrees second m = not (agree second m.second)

-- the matches contradict: some other one's second word does not agree with the first's
unfoldable pub contradict : Match → List Match → Bool
contradict m ms = any_match (λ x. not (agree m.second x.second)) ms

-- a second word with R and C each set if any match of a list has it
abbrev pub marks_of : List Match → ℕ → ℕ
marks_of ms second = with_marks (any_match (λ x. referenced x.second) ms) (any_match (λ x. changed x.second) ms) second

-- the first match's second word, with R and C each set if any match had it
unfoldable pub merged : Match → List Match → ℕ
merged m ms = marks_of (m ∷ ms) m.second

-- where a match stands in its page's two groups
abbrev pub place_of : Match → Place
place_of m = place m.secondary m.entry

-- a first match where there are others: whether one of them does not agree with it
abbrev pub with_others : Match → List Match → FirstMatch
with_others m ms = record { place = place_of m; second = m.second; others = cond (contradict m ms) Differing Agreeing }

-- what is told of the others than a first match
unfoldable pub others_of : Match → List Match → Others
others_of m [] = Absent
others_of m (n ∷ ms) = (with_others m (n ∷ ms)).others

-- a first match, by the others
abbrev pub first_match : Match → List Match → FirstMatch
first_match m ms = record { place = place_of m; second = m.second; others = others_of m ms }

-- the first match of a list, and what is told of the others
abbrev pub found_of : List Match → Option FirstMatch
found_of [] = None
found_of (m ∷ ms) = Some (first_match m ms)

-- what a search tells of a list of matches and of the free entries that it met: the first match, and which are free
unfoldable pub told : List Match → ℕ → Told
told ms free = record { first = found_of ms; free = free }

-- what the search of a page's primary group tells, and of both groups, one behind the other
unfoldable pub in_primary : ℕ → ℕ → List ℕ → Told
in_primary vsid api primary = told (group_matches false vsid api primary) (free_after 0 primary)

unfoldable pub in_both : ℕ → ℕ → List ℕ → List ℕ → Told
in_both vsid api primary secondary = told (pair_matches vsid api primary secondary) (free_after (free_after 0 primary) secondary)
