-- `matches::disagree` meets its contract. The loop's invariant: what was found is of the matches among the entries passed.
use mathlib.Core.Path.{◌≡◌}
use mathlib.Core.Bool.{Bool}
use Prim.Native.Nat.{ℕ}
use Rattle.matches.specs.Search.{WantedWord, any_match, disagrees, matches_to}
use Rattle.matches.proofs.disagree.Given as goal

abbrev pub invariant-loop-entry : goal.invariant-loop-entry
invariant-loop-entry l =
    (secondary : Bool) (vsid api : ℕ) → WantedWord secondary vsid api l.wanted
    → l.found ≡ any_match (disagrees l.second) (matches_to secondary vsid api l.group l.entry)
