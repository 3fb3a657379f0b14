-- That a list of calls is under an SDR1, and that it keeps the cache's discipline, follow from tests: the numbers that the discipline goes by are those of
-- the finite map, so no table is computed. Where more sets are taken to wait than do, the test is the stricter.
use Prim.Native.Nat.{ℕ}
use mathlib.Core.Path.{◌≡◌, refl, sym, ap, ap₂, ◌∙◌, subst}
use mathlib.Core.Bool.{Bool, true, false, not, ◌&&◌, ◌||◌, true≢false}
use mathlib.Core.List.{List, [], ◌∷◌}
use mathlib.Core.Logic.{inl, inr}
use mathlib.Core.Option.{Option, none, some}
use lib.Dec.{eqb}
use lib.ListN.{length}
use borrow.Author.Tests.{eqb-true, eq-eqb}
use Rattle.words.specs.Below.{every_below}
use Rattle.words.proofs.Below.{every_at}
use Rattle.words.proofs.Tests.{both, by_test}
use Rattle.register_words.specs.Sdr1.{sdr1_shape, table_length}
use Rattle.theory_tables.specs.Runs.{Each}
use Rattle.theory_calls.specs.OnBytes.{by_option}
use Rattle.theory_calls.specs.OnMap.{Map}
use Rattle.theory_calls.proofs.Histories.{size_is}
use Rattle.theory_histories.specs.Calls.{Asked, plain, cached, invalidate, rights, Slices, slices, Call, State, calling, lengths_of, lent_lengths, refusal_of, brought_in, Under}
use Rattle.theory_histories.specs.Fed.{fed_asked, map_calling}
use Rattle.theory_histories.specs.Discipline.{waiting_after, Invalidated, Disciplined}
use Rattle.theory_histories.proofs.Along.{Linked, tells, steps}

-- a test that holds where another fails or it holds itself
second_holds : (a b : Bool) → (a || b) ≡ true → a ≡ false → b ≡ true
second_holds a b e f = ap (λ (x : Bool). x || b) (sym f) ∙ e

-- no set waits in the one that does not in the other
abbrev Fewer : (ℕ → Bool) → (ℕ → Bool) → Type 0
Fewer waiting tested = (set : ℕ) → tested set ≡ false → waiting set ≡ false

fewer_or : (a b c : Bool) → (b ≡ false → a ≡ false) → (b || c) ≡ false → (a || c) ≡ false
fewer_or a true c f e = absurd (true≢false e)
fewer_or a false c f e = rw (f refl) e

fewer_and : (a b c : Bool) → (b ≡ false → a ≡ false) → (b && c) ≡ false → (a && c) ≡ false
fewer_and false b c f e = refl
fewer_and true true c f e = e
fewer_and true false c f e = absurd (true≢false (f refl))

fewer_after : (asked : Asked (List ℕ)) (other : Option (List ℕ)) (isDone : Bool) (waiting tested : ℕ → Bool) → Fewer waiting tested
    → Fewer (waiting_after asked other isDone waiting) (waiting_after asked other isDone tested)
fewer_after (plain request) other isDone waiting tested f set = fewer_or (waiting set) (tested set) _ (f set)
fewer_after (cached c) other isDone waiting tested f set = f set
fewer_after (invalidate index) other isDone waiting tested f set = fewer_and (waiting set) (tested set) _ (f set)
fewer_after (rights c answer) other isDone waiting tested f set = f set

-- no other slice is lent
abbrev is_own : Option (List ℕ) → Bool
is_own o = by_option o true (λ slice. false)

own_none : (o : Option (List ℕ)) → is_own o ≡ true → o ≡ none
own_none none e = refl
own_none (some slice) e = absurd (true≢false (sym e))

-- the discipline allows a call, where these sets wait
abbrev pub allowed_test : Asked (List ℕ) → Slices ℕ → Slices (Option (List ℕ)) → (ℕ → Bool) → Bool
allowed_test (plain request) lent other tested = true
allowed_test (cached a) lent other tested =
    not (eqb (refusal_of (cached a) lent) 0) || (is_own other.table && (is_own other.cache && every_below 64 (λ set. not (tested set))))
allowed_test (invalidate index) lent other tested = true
allowed_test (rights c answer) lent other tested = true

allowed : (c : Call) (lent : Slices ℕ) (waiting tested : ℕ → Bool) → Fewer waiting tested → allowed_test c.asked lent c.other tested ≡ true → Invalidated c lent waiting
allowed c lent waiting tested fewer e a is taken =
    let here : allowed_test (cached a) lent c.other tested ≡ true = ap (λ (asked : Asked (List ℕ)). allowed_test asked lent c.other tested) (sym is) ∙ e in
    let (table, rest) = both _ _ (second_holds _ _ here (ap not (eq-eqb (refusal_of (cached a) lent) 0 taken))) in
    let (cache, quiet) = both _ _ rest in
    (own_none c.other.table table, own_none c.other.cache cache, λ set small. fewer set (unwaited (tested set) (every_at (λ n. not (tested n)) 64 set quiet small)))
  where
    unwaited : (t : Bool) → not t ≡ true → t ≡ false
    unwaited true f = absurd (true≢false (sym f))
    unwaited false f = refl

module _ (sdr1 : ℕ) (own : Slices ℕ) where
  -- a call is under the SDR1
  abbrev pub under_test : Call → Bool
  under_test c =
      eqb (refusal_of c.asked (lent_lengths own c)) 11
      || (by_option (brought_in c.asked) true (λ brought. eqb brought sdr1) && by_option c.other.table true (λ slice. not (eqb (length slice) own.table)))

  abbrev pub every_under : List Call → Bool
  every_under [] = true
  every_under (c ∷ calls) = under_test c && every_under calls

  under_tested : (c : Call) → under_test c ≡ true → Under sdr1 own c
  under_tested c e =
      let number = refusal_of c.asked (lent_lengths own c) in
      by_test (eqb number 11) (λ z. inl (eqb-true number 11 z))
      (λ z.
      let (brings, other) = both _ _ (second_holds (eqb number 11) _ e z) in
      inr (λ brought is. (
        eqb-true brought sdr1 (ap (λ (o : Option ℕ). by_option o true (λ n. eqb n sdr1)) (sym is) ∙ brings),
        λ slice lent long.
            let apart : not (eqb (length slice) own.table) ≡ true = ap (λ (o : Option (List ℕ)). by_option o true (λ l. not (eqb (length l) own.table))) (sym lent) ∙ other in
            true≢false (sym apart ∙ ap not (eq-eqb (length slice) own.table long)),
      )))

  pub all_under : (calls : List Call) → every_under calls ≡ true → Each (Under sdr1 own) calls
  all_under [] e = tt
  all_under (c ∷ calls) e = let (first, rest) = both (under_test c) (every_under calls) e in (under_tested c first, all_under calls rest)

  -- a list of calls keeps the discipline, by what the finite map tells
  abbrev pub kept_test : List Call → Map → (ℕ → Bool) → Bool
  kept_test [] m tested = true
  kept_test (c ∷ calls) m tested =
      let e = map_calling (fed_asked c.asked) (lent_lengths own c) m in
      allowed_test c.asked (lent_lengths own c) c.other tested
      && kept_test calls e.state (waiting_after c.asked c.other.cache (eqb e.number 0) tested)

  module _ (shape : sdr1_shape sdr1 ≡ true) (long : own.table ≡ table_length sdr1) where
    pub kept_tested : (calls : List Call) → Each (Under sdr1 own) calls → (s : State) (m : Map) (waiting tested : ℕ → Bool)
        → Linked sdr1 own shape long s m waiting → Fewer waiting tested → kept_test calls m tested ≡ true → Disciplined calls s waiting
    kept_tested [] each s m waiting tested l fewer e = tt
    kept_tested (c ∷ calls) (under, each) s m waiting tested l fewer e =
        let told = tells sdr1 own shape long c s m in
        let behind : Bool → (ℕ → Bool) → ℕ → Bool = λ isDone. waiting_after c.asked c.other.cache isDone in
        let (here, rest) = both (allowed_test c.asked (lent_lengths own c) c.other tested) (kept_test calls told.state (behind (eqb told.number 0) tested)) e in
        let sizes : lengths_of s ≡ own = ap₂ (λ (a b : ℕ). slices a b) (size_is sdr1 own.table shape long s.table m l.related) l.size in
        let quiet : Invalidated c (lent_lengths (lengths_of s) c) waiting
        = subst (λ (n : Slices ℕ). Invalidated c (lent_lengths n c) waiting) (sym sizes) (allowed c (lent_lengths own c) waiting tested fewer here) in
        let step = steps sdr1 own shape long c s m under waiting l quiet in (
          quiet,
          kept_tested calls each (calling c s).state told.state (behind (eqb (calling c s).number 0) waiting) (behind (eqb told.number 0) tested) step.linked
              (subst (λ (n : ℕ). Fewer (behind (eqb n 0) waiting) (behind (eqb told.number 0) tested)) (sym step.number)
              (fewer_after c.asked c.other.cache (eqb told.number 0) waiting tested fewer))
              rest,
        )
