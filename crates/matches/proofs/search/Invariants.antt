-- `matches::search` meets its contract. The loop's invariant: the first match is that of the matches before and of the entries passed. At a further match
-- the search ends, since the whole group is then compared with the first one.
use mathlib.Core.Path.{◌≡◌}
use mathlib.Core.List.{List, ◌++◌}
use Prim.Native.Nat.{ℕ}
use Rattle.theory_tables.specs.Matches.{Match}
use Rattle.matches.specs.Search.{WantedWord, matches_to, found_of}
use Rattle.matches.proofs.search.Given as goal

abbrev pub invariant-loop-entry : goal.invariant-loop-entry
invariant-loop-entry l =
    (vsid api : ℕ) (ms : List Match) → WantedWord l.secondary vsid api l.wanted → l.initial.first ≡ found_of ms
    → l.first ≡ found_of (ms ++ matches_to l.secondary vsid api l.group l.entry)
