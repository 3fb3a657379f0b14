-- `match_edits::edit_group` meets its contract. The loop's invariant: the matches among the entries passed, as the group was at the start, are edited, and
-- the word has their marks.
use mathlib.Core.Path.{◌≡◌}
use mathlib.Core.Bool.{Bool}
use Prim.Native.Nat.{ℕ}
use Rattle.matches.specs.Search.{WantedWord, matches_to, marks_of}
use Rattle.match_edits.specs.Edit.{edit_each}
use Rattle.match_edits.proofs.edit_group.Given as goal

abbrev pub invariant-loop-entry : goal.invariant-loop-entry
invariant-loop-entry l =
    (secondary : Bool) (vsid api : ℕ) → WantedWord secondary vsid api l.wanted
    → (l.group ≡ edit_each l.edit (matches_to secondary vsid api l.initial.group l.entry) l.initial.group)
    × (l.merged ≡ marks_of (matches_to secondary vsid api l.initial.group l.entry) l.word)
