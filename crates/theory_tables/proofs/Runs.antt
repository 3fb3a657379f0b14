-- Runs over lists of calls: appended lists, and the one induction from a start and a step to equal answers and related states.
use mathlib.Core.Path.{◌≡◌, refl, ap, ap₂}
use mathlib.Core.Logic.{◌↔◌}
use mathlib.Core.List.{List, [], ◌∷◌, ◌++◌, map}
use lib.ListN.{length}
use Rattle.theory_tables.specs.Runs.{run, after, Each}

module _ {C : Type 0} (Q : C → Type 0) where
  pub each_append : (cs ds : List C) → Each Q (cs ++ ds) ↔ (Each Q cs × Each Q ds)
  each_append [] ds = (λ e. (tt, e), λ e. e.1)
  each_append (c ∷ cs) ds =
      let i = each_append cs ds in
      (λ e. ((e.0, (i.0 e.1).0), (i.0 e.1).1), λ e. (e.0.0, i.1 (e.0.1, e.1)))

  pub each_weaker : (R : C → Type 0) → ((c : C) → Q c → R c) → (cs : List C) → Each Q cs → Each R cs
  each_weaker R h [] e = tt
  each_weaker R h (c ∷ cs) e = (h c e.0, each_weaker R h cs e.1)

module _ {C S A : Type 0} (step : C → S → A × S) where
  pub run_append : (cs ds : List C) (s : S) → run step (cs ++ ds) s ≡ run step cs s ++ run step ds (after step cs s)
  run_append [] ds s = refl
  run_append (c ∷ cs) ds s = ap (λ l. (step c s).0 ∷ l) (run_append cs ds (step c s).1)

  pub after_append : (cs ds : List C) (s : S) → after step (cs ++ ds) s ≡ after step ds (after step cs s)
  after_append [] ds s = refl
  after_append (c ∷ cs) ds s = after_append cs ds (step c s).1

  pub length_run : (cs : List C) (s : S) → length (run step cs s) ≡ length cs
  length_run [] s = refl
  length_run (c ∷ cs) s = rw (length_run cs (step c s).1)

  -- a machine fed what `feed` makes of each call
  pub run_fed : {D : Type 0} (feed : D → C) (ds : List D) (s : S) → run step (map feed ds) s ≡ run (λ d. step (feed d)) ds s
  run_fed feed [] s = refl
  run_fed feed (d ∷ ds) s = ap (λ l. (step (feed d) s).0 ∷ l) (run_fed feed ds (step (feed d) s).1)

  pub after_fed : {D : Type 0} (feed : D → C) (ds : List D) (s : S) → after step (map feed ds) s ≡ after (λ d. step (feed d)) ds s
  after_fed feed [] s = refl
  after_fed feed (d ∷ ds) s = after_fed feed ds (step (feed d) s).1

  -- a machine of whose answers `shown` is kept
  pub run_shown : {B : Type 0} (shown : A → B) (cs : List C) (s : S) → map shown (run step cs s) ≡ run (λ c s. (shown (step c s).0, (step c s).1)) cs s
  run_shown shown [] s = refl
  run_shown shown (c ∷ cs) s = ap (λ l. shown (step c s).0 ∷ l) (run_shown shown cs (step c s).1)

  pub after_shown : {B : Type 0} (shown : A → B) (cs : List C) (s : S) → after (λ c s. (shown (step c s).0, (step c s).1)) cs s ≡ after step cs s
  after_shown shown [] s = refl
  after_shown shown (c ∷ cs) s = after_shown shown cs (step c s).1

  -- what each step keeps holds after every list
  module _ (Q : C → Type 0) (Holds : S → Type 0) (keeps : (c : C) → Q c → (s : S) → Holds s → Holds (step c s).1) where
    pub holds_after : (cs : List C) → Each Q cs → (s : S) → Holds s → Holds (after step cs s)
    holds_after [] e s h = h
    holds_after (c ∷ cs) e s h = holds_after cs e.1 (step c s).1 (keeps c e.0 s h)

-- Two machines over the same calls: where each step from related states gives equal answers and related states, so does every list.
module _ {C S M A : Type 0} (step : C → S → A × S) (step' : C → M → A × M) (Q : C → Type 0) (Related : S → M → Type 0)
    (keeps : (c : C) → Q c → (s : S) (m : M) → Related s m → ((step c s).0 ≡ (step' c m).0) × Related (step c s).1 (step' c m).1) where
  pub runs_related : (cs : List C) → Each Q cs → (s : S) (m : M) → Related s m
      → (run step cs s ≡ run step' cs m) × Related (after step cs s) (after step' cs m)
  runs_related [] e s m r = (refl, r)
  runs_related (c ∷ cs) e s m r =
      let k = keeps c e.0 s m r in
      let i = runs_related cs e.1 (step c s).1 (step' c m).1 k.1 in
      (ap₂ ◌∷◌ k.0 i.0, i.1)
