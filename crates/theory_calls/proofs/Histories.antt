-- One request keeps "this table represents this map" and answers what the map answers, refused or not.
use Prim.Native.Nat.{ℕ}
use mathlib.Core.Path.{◌≡◌, refl, sym, ap, ◌∙◌}
use mathlib.Core.Bool.{true}
use mathlib.Core.List.{List, []}
use lib.Dec.{eqb}
use lib.ListN.{length}
use borrow.Author.Tests.{eqb-true, eqb-false, eq-eqb, ne_eqb}
use Rattle.words.proofs.Tests.{by_test}
use Rattle.register_words.specs.Sdr1.{sdr1_shape, table_length, mask_ones}
use Rattle.register_words.proofs.Sdr1.{length_is}
use Rattle.theory_calls.specs.Request.{Request, clear, map_page, unmap, protect, look, access, fed, sdr1_in}
use Rattle.theory_calls.specs.Rules.{refusal}
use Rattle.theory_calls.specs.Answers.{refused_bytes, answer_refused, without_place, seen_of, compared}
use Rattle.theory_calls.specs.OnBytes.{ended, bytes_do, on_bytes}
use Rattle.theory_calls.specs.OnMap.{Map, map_does, on_map}
use Rattle.theory_calls.specs.Represents.{TableRepresents}
use Rattle.theory_calls.proofs.OnBytes.{taken, refused}
use Rattle.theory_calls.proofs.Rules.{fitting}
use Rattle.theory_calls.proofs.Step.{Alike, step}

-- what is compared of a refusal does not depend on what was lent for the answer
lent_answer_law : (seen : List ℕ → List ℕ) (zeros number : ℕ) (lent : List ℕ)
    → compared seen number (refused_bytes zeros number lent) ≡ compared seen number (refused_bytes zeros number [])
unfolding refused_bytes
lent_answer_law seen zeros number lent = by_test (eqb number 11) (λ e. rw e) (λ e. rw e)

same_refusal : (request : Request (List ℕ)) (number : ℕ)
    → compared (seen_of request) number (answer_refused (λ lent. lent) request number) ≡ compared (seen_of (fed request)) number (answer_refused (λ (n : ℕ). []) (fed request) number)
unfolding answer_refused fed seen_of
same_refusal (clear c) number = refl
same_refusal (map_page c) number = refl
same_refusal (unmap c) number = lent_answer_law (λ answer. answer) 3 number c.answer
same_refusal (protect c) number = refl
same_refusal (look c) number = lent_answer_law (λ answer. answer) 3 number c.answer
same_refusal (access c) number = lent_answer_law without_place 11 number c.answer

pub sdr1_fed : (request : Request (List ℕ)) → sdr1_in (fed request) ≡ sdr1_in request
unfolding fed sdr1_in
sdr1_fed (clear c) = refl
sdr1_fed (map_page c) = refl
sdr1_fed (unmap c) = refl
sdr1_fed (protect c) = refl
sdr1_fed (look c) = refl
sdr1_fed (access c) = refl

-- the two cases of a call on the map
module _ (request : Request ℕ) (lent : ℕ) (m : Map) where
  pub map_taken : refusal request lent ≡ 0 → on_map request lent m ≡ map_does (mask_ones (sdr1_in request)) request m
  unfolding on_map
  map_taken e = rw (eq-eqb (refusal request lent) 0 e)

  pub map_refused : (number : ℕ) → refusal request lent ≡ number → (number ≡ 0 → ⊥)
      → on_map request lent m ≡ ended number m (answer_refused (λ (n : ℕ). []) request number)
  unfolding on_map
  map_refused number e n = rw (e, ne_eqb number 0 n)

-- an SDR1 of right shape, and the length of its table
module _ (sdr1 size : ℕ) (shape : sdr1_shape sdr1 ≡ true) (long : size ≡ table_length sdr1) where
  -- k, the ones of its mask
  abbrev ones : ℕ
  ones = mask_ones sdr1

  pub size_is : (t : List ℕ) (m : Map) → TableRepresents ones t m → length t ≡ size
  size_is t m r = r.good.long ∙ sym (length_is sdr1 shape) ∙ sym long

  -- a call that brings the SDR1 and is not refused by its arguments
  pub done_bytes : (request : Request (List ℕ)) (t : List ℕ) (m : Map) → TableRepresents ones t m → sdr1_in request ≡ sdr1
      → refusal (fed request) size ≡ 0 → on_bytes request t ≡ bytes_do ones request t
  done_bytes request t m r same e =
      taken request t (ap (refusal (fed request)) (size_is t m r) ∙ e) ∙ ap (λ (n : ℕ). bytes_do n request t) (ap mask_ones same)

  pub done_plain : (request : Request (List ℕ)) (t : List ℕ) (m : Map) → TableRepresents ones t m → sdr1_in request ≡ sdr1
      → refusal (fed request) size ≡ 0 → Alike ones request (on_bytes request t) (map_does ones (fed request) m)
  done_plain request t m r same e = rw (done_bytes request t m r same e) (step ones t m r request size e)

  -- a request on the table itself, which brings the SDR1 unless it is refused
  pub own_follows : (request : Request (List ℕ)) (t : List ℕ) (m : Map) → TableRepresents ones t m → (refusal (fed request) size ≡ 0 → sdr1_in request ≡ sdr1)
      → Alike ones request (on_bytes request t) (on_map (fed request) size m)
  own_follows request t m r brings =
      let number = refusal (fed request) size in
      let here : refusal (fed request) (length t) ≡ number = ap (refusal (fed request)) (size_is t m r) in
      by_test (eqb number 0)
      (λ z.
      let e = eqb-true number 0 z in
      rw (map_taken (fed request) size m e, ap mask_ones (sdr1_fed request ∙ brings e)) (done_plain request t m r (brings e) e))
      (λ z.
      let n = eqb-false number 0 z in
      rw (refused request t number here n, map_refused (fed request) size m number refl n) (record { number = refl; told = same_refusal request number; related = r }))

  -- a slice of another length is refused to a request that brings the SDR1
  pub wrong_length : (request : Request (List ℕ)) (lent : ℕ) → sdr1_in request ≡ sdr1 → (lent ≡ size → ⊥) → refusal (fed request) lent ≡ 0 → ⊥
  wrong_length request lent same n e = n ((fitting (fed request) lent e).long ∙ ap table_length (sdr1_fed request ∙ same) ∙ sym long)

-- a request that is refused by its arguments or lengths answers alike on bytes and on the map, and leaves both
pub record RefusedAlike (request : Request (List ℕ)) (other : List ℕ) (m : Map) : Type 0 where
  pub number : (on_bytes request other).number ≡ (on_map (fed request) (length other) m).number
  pub told : let e = on_bytes request other in let d = on_map (fed request) (length other) m in
      compared (seen_of request) e.number e.answer ≡ compared (seen_of (fed request)) d.number d.answer
  pub left : (on_map (fed request) (length other) m).state ≡ m

pub refused_alike_law : (request : Request (List ℕ)) (other : List ℕ) (m : Map) → (refusal (fed request) (length other) ≡ 0 → ⊥) → RefusedAlike request other m
refused_alike_law request other m n =
    let number = refusal (fed request) (length other) in
    let on-bytes = refused request other number refl n in
    let on_map_rows = map_refused (fed request) (length other) m number refl n in
    record { number = rw (on-bytes, on_map_rows); told = rw (on-bytes, on_map_rows) (same_refusal request number); left = rw on_map_rows }
