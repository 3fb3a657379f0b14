-- A row holds by what there is to compute for it: a number, a refusal for any lent length, the finite map's answers, or the bytes of two groups.
use Prim.Native.Nat.{ℕ, suc, ◌+◌, ◌*◌, ◌%◌, ◌^◌, ◌≤◌}
use mathlib.Core.Path.{◌≡◌, refl, sym, ap, subst}
use mathlib.Core.Bool.{Bool, true, false, cond, ◌||◌}
use mathlib.Core.List.{List, ◌∷◌}
use lib.Dec.{eqb}
use lib.ListN.{length}
use borrow.Author.Tests.{eqb-true, eqb-false}
use Rattle.words.specs.Words.{bytes_of}
use Rattle.theory_tables.specs.Runs.{Each}
use Rattle.theory_tables.proofs.Runs.{each_weaker}
use Rattle.theory_calls.specs.Made.{to_clear}
use Rattle.theory_calls.specs.Request.{Request, fed}
use Rattle.theory_calls.specs.Rules.{refusal}
use Rattle.theory_calls.specs.FirstClear.{sdr1_with}
use Rattle.theory_calls.proofs.OnBytes as call
use Rattle.test_case_rows.specs.Cases.{Claim, computes, refused, answered, stored, Holds, Row, AllHold}
use Rattle.test_case_rows.proofs.Histories.{all_bring, map_answers, answered_holds}
use Rattle.test_case_rows.proofs.Pair.{Pair, zeros, pair_after, all_own, primary_holds, secondary_holds}

-- the SDR1 of origin o and a mask of k ones, and the numbers p and s of two groups that mirror one another
pub record Setting (o k p s : ℕ) : Type 0 where
  pub few : k ≤ 9
  pub whole : o % 2 ^ k ≡ 0
  pub mirror : s + suc p ≡ 2 ^ (9 + k) + 2 ^ (9 + k)

module _ (o k p s : ℕ) where
  -- the one of two groups that has the number g
  abbrev group_at : ℕ → Pair → List ℕ
  group_at g x = cond (eqb g p) x.0 x.1

  -- what there is to compute: under this SDR1, and for what is stored on these two groups
  abbrev pub Computes : Claim → Type 0
  Computes (computes computed stated) = computed ≡ stated
  Computes (refused request stated) = (lent : ℕ) → ◌≡◌ {A = ℕ × Bool} (refusal (fed request) lent, eqb stated 0) (stated, false)
  Computes (answered sdr1 requests stated) =
      ◌≡◌ {A = ℕ × Bool × List (ℕ × List ℕ)} (sdr1, all_bring sdr1 requests, map_answers (65536 * 2 ^ k) requests) (sdr1_with o k, true, stated)
  Computes (stored sdr1 requests g stated) =
      ◌≡◌ {A = ℕ × Bool × Bool × List ℕ} (sdr1, all_own k p s sdr1 (to_clear sdr1 ∷ requests), eqb g p || eqb g s, group_at g (pair_after requests zeros))
      (sdr1_with o k, true, true, bytes_of stated)

  module _ (setting : Setting o k p s) where
    one_of_two : (requests : List (Request (List ℕ))) (g : ℕ) (stated : List ℕ) → all_own k p s (sdr1_with o k) (to_clear (sdr1_with o k) ∷ requests) ≡ true
        → (t : Bool) → eqb g p ≡ t → t || eqb g s ≡ true → cond t (pair_after requests zeros).0 (pair_after requests zeros).1 ≡ bytes_of stated
        → Holds (stored (sdr1_with o k) requests g stated)
    one_of_two requests g stated own true is one e = rw (eqb-true g p is) (primary_holds k p s setting.mirror o setting.few setting.whole requests stated own e)
    one_of_two requests g stated own false is one e = rw (eqb-true g s one) (secondary_holds k p s setting.mirror o setting.few setting.whole requests stated own e)

    claim_holds : (claim : Claim) → Computes claim → Holds claim
    claim_holds (computes computed stated) e = e
    claim_holds (refused request stated) e =
        let n : stated ≡ 0 → ⊥ = eqb-false stated 0 (ap (λ x. x.1) (e 0)) in
        λ t. rw (call.refused request t stated (ap (λ x. x.0) (e (length t))) n) (refl, refl)
    claim_holds (answered sdr1 requests stated) e =
        let same : sdr1 ≡ sdr1_with o k = ap (λ x. x.0) e in
        let bring : all_bring (sdr1_with o k) requests ≡ true = subst (λ n. all_bring n requests ≡ true) same (ap (λ x. x.1) e) in
        subst (λ n. Holds (answered n requests stated)) (sym same) (answered_holds o k setting.few setting.whole requests stated bring (ap (λ x. x.2) e))
    claim_holds (stored sdr1 requests g stated) e =
        let same : sdr1 ≡ sdr1_with o k = ap (λ x. x.0) e in
        let own : all_own k p s (sdr1_with o k) (to_clear (sdr1_with o k) ∷ requests) ≡ true =
        subst (λ n. all_own k p s n (to_clear n ∷ requests) ≡ true) same (ap (λ x. x.1) e) in
        subst (λ n. Holds (stored n requests g stated)) (sym same) (one_of_two requests g stated own (eqb g p) refl (ap (λ x. x.2) e) (ap (λ x. x.3) e))

    pub rows_hold : (rows : List Row) → Each (λ row. Computes row.1) rows → AllHold rows
    rows_hold rows = each_weaker (λ (row : Row). Computes row.1) (λ (row : Row). Holds row.1) (λ row. claim_holds row.1) rows
