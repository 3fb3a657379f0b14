-- Runs of a machine over a list of calls, for any calls, states and answers.
use mathlib.Core.List.{List, [], ◌∷◌, foldl}

module _ {C S A : Type 0} (step : C → S → A × S) where
  -- the answers to a list of calls, each made in the state that the one before left
  abbrev pub run : List C → S → List A
  run [] s = []
  run (c ∷ cs) s = (step c s).0 ∷ run cs (step c s).1

  -- the state after a list of calls
  abbrev pub after : List C → S → S
  after cs s = foldl (λ t c. (step c t).1) s cs

-- a condition holds of each call of a list
abbrev pub Each : {C : Type 0} → (C → Type 0) → List C → Type 0
Each Q [] = Unit {0}
Each Q (c ∷ cs) = Q c × Each Q cs
