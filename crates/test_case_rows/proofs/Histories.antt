-- What calls after a clear answer on a table's bytes, from what the finite map answers: no table is computed.
use Prim.Native.Nat.{ℕ, ◌*◌, ◌%◌, ◌^◌, ◌≤◌}
use mathlib.Core.Path.{◌≡◌, refl, sym, ap, ap₂, ◌∙◌}
use mathlib.Core.Bool.{Bool, true, ◌&&◌}
use mathlib.Core.List.{List, [], ◌∷◌, map}
use mathlib.Core.Logic.{inr}
use mathlib.Core.Option.{some_inj, some-ne-none}
use native.Mathlib.Omega.{arith}
use lib.Dec.{eqb}
use lib.ListN.{length, replicate}
use borrow.Author.Tests.{eqb-true}
use Rattle.words.proofs.Tests.{both}
use Rattle.register_words.specs.Sdr1.{table_length}
use Rattle.register_words.proofs.Sdr1.{made_length, made_shape}
use Rattle.theory_tables.specs.Runs.{run, Each}
use Rattle.theory_calls.specs.Request.{Request, sdr1_in, fed}
use Rattle.theory_calls.specs.Answers.{seen_of}
use Rattle.theory_calls.specs.OnBytes.{Ended, ended}
use Rattle.theory_calls.specs.OnMap.{Map, on_map}
use Rattle.theory_calls.specs.FirstClear.{clearing, sdr1_with}
use Rattle.theory_calls.proofs.FirstClear.{clear_is}
use Rattle.theory_histories.specs.Calls.{Slices, slices, State, on_lent, calling, brought_in, Under}
use Rattle.theory_histories.specs.Fed.{fed_asked, fed_of, map_calling, seen_in, bytes_step, map_step}
use Rattle.theory_histories.specs.Discipline.{Disciplined}
use Rattle.theory_histories.specs.Histories.{History}
use Rattle.theory_histories.proofs.Theorem.{table_refines_map}
use Rattle.test_case_rows.specs.Cases.{OnTable, answered, Holds}

-- each request of a list brings the SDR1
abbrev pub all_bring : ℕ → List (Request (List ℕ)) → Bool
all_bring sdr1 [] = true
all_bring sdr1 (request ∷ requests) = eqb (sdr1_in request) sdr1 && all_bring sdr1 requests

all_under : (sdr1 : ℕ) (own : Slices ℕ) (requests : List (Request (List ℕ))) → all_bring sdr1 requests ≡ true → Each (Under sdr1 own) (map OnTable requests)
unfolding brought_in
all_under sdr1 own [] e = tt
all_under sdr1 own (request ∷ requests) e =
    let (first, rest) = both (eqb (sdr1_in request) sdr1) (all_bring sdr1 requests) e in (
      inr (λ brought is. (sym (some_inj.0 is) ∙ eqb-true (sdr1_in request) sdr1 first, λ other lent. absurd (some-ne-none other (sym lent)))),
      all_under sdr1 own requests rest,
    )

-- no access goes by the cache, so its discipline is kept
all_kept : (requests : List (Request (List ℕ))) (s : State) (waiting : ℕ → Bool) → Disciplined (map OnTable requests) s waiting
all_kept [] s waiting = tt
all_kept (request ∷ requests) s waiting = (λ a is. absurd (let z : ◌≡◌ {A = ℕ} 0 1 = cc in omega arith), all_kept requests (calling (OnTable request) s).state _)

-- what the finite map answers to calls that follow a clear; they are lent no cache, so its length does not count
abbrev pub map_answers : ℕ → List (Request (List ℕ)) → List (ℕ × List ℕ)
map_answers size requests = run map_step (map (fed_of (slices size 0)) (map OnTable requests)) []

any_cache : (size cache : ℕ) (requests : List (Request (List ℕ))) (m : Map)
    → run map_step (map (fed_of (slices size cache)) (map OnTable requests)) m ≡ run map_step (map (fed_of (slices size 0)) (map OnTable requests)) m
unfolding map_step map_calling fed_asked
any_cache size cache [] m = refl
any_cache size cache (request ∷ requests) m =
    ap (λ (rest : List (ℕ × List ℕ)). (map_step (fed_of (slices size 0) (OnTable request)) m).0 ∷ rest) (any_cache size cache requests (on_map (fed request) size m).state)

module _ (o k : ℕ) (few : k ≤ 9) (whole : o % 2 ^ k ≡ 0) where
  -- the clear is done and leaves zeros
  first_clear : (t : List ℕ) → length t ≡ table_length (sdr1_with o k) → clearing (sdr1_with o k) t ≡ ended 0 (replicate (length t) 0) []
  first_clear t long = clear_is (sdr1_with o k) t (record { shape = made_shape o k few whole; long = long })

  -- the calls after it answer what the finite map answers
  pub answered_holds : (requests : List (Request (List ℕ))) (stated : List (ℕ × List ℕ))
      → all_bring (sdr1_with o k) requests ≡ true → map_answers (65536 * 2 ^ k) requests ≡ stated → Holds (answered (sdr1_with o k) requests stated)
  unfolding bytes_step calling on_lent seen_in seen_of
  answered_holds requests stated bring e s long =
      let t = s.table in
      let is = first_clear t long in
      let h : History = record {
        sdr1 = sdr1_with o k;
        start = s;
        clear_done = ap (λ (x : Ended (List ℕ)). x.number) is;
        calls = map OnTable requests;
        under = all_under (sdr1_with o k) (slices (length t) (length s.cache)) requests bring;
      } in
      let size : length t ≡ 65536 * 2 ^ k = long ∙ made_length o k few whole in
      ap₂ (λ (a : ℕ × List ℕ) (rest : List (ℕ × List ℕ)). a ∷ rest) (rw is)
      (table_refines_map.answers h (all_kept requests _ _) ∙ any_cache (length t) (length s.cache) requests [] ∙ ap (λ (n : ℕ). map_answers n requests) size ∙ e)
