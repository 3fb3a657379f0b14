-- A clear that was done: its SDR1 has its shape and the lent slice the SDR1's length; an SDR1 of 32 bits is then an origin and some ones.
use Prim.Native.Nat.{ℕ, ◌/◌, ◌%◌, ◌^◌, ◌<◌}
use mathlib.Core.Path.{◌≡◌, refl, sym, ap, ◌∙◌, subst}
use mathlib.Core.Bool.{Bool, true, false, ◌&&◌}
use mathlib.Core.List.{List, []}
use native.Mathlib.Omega.{arith}
use lib.Bits.{bit_and, and_mask}
use lib.Dec.{eqb}
use lib.ListN.{length, replicate}
use borrow.Author.Tests.{eqb-true, eqb-false}
use Rattle.words.specs.Ones.{low_ones}
use Rattle.words.proofs.Tests.{both}
use Rattle.register_words.specs.Sdr1.{origin_of, mask_of, sdr1_shape, mask_ones}
use Rattle.register_words.proofs.Sdr1.{mask_is, ones_at_most_9, length_is, made_shape, made_length}
use Rattle.theory_calls.specs.Request.{clear, fed, sdr1_in}
use Rattle.theory_calls.specs.Rules.{refusal}
use Rattle.theory_calls.specs.OnBytes.{Ended, ended, bytes_do}
use Rattle.theory_calls.specs.Represents.{TableRepresents}
use Rattle.theory_calls.specs.FirstClear.{clearing, sdr1_with, Start}
use Rattle.theory_calls.proofs.OnBytes.{taken, refused}
use Rattle.theory_calls.proofs.Rules.{Fitting, fitting, clear_taken}
use Rattle.theory_calls.proofs.TableLaws.{represents_zeros}

-- a clear of a table of its SDR1 zeroes it
pub clear_is : (sdr1 : ℕ) (t : List ℕ) → Fitting sdr1 (length t) → clearing sdr1 t ≡ ended 0 (replicate (length t) 0) []
unfolding bytes_do fed sdr1_in
clear_is sdr1 t fit = taken (clear (record { sdr1 = sdr1 })) t (clear_taken (record { sdr1 = sdr1 }) (length t) fit)

-- a clear of k ones and a whole origin is done
pub start_done : (origin k : ℕ) (t : List ℕ) → Start origin k t → (clearing (sdr1_with origin k) t).number ≡ 0
start_done origin k t start =
    ap (λ (e : Ended (List ℕ)). e.number)
    (clear_is (sdr1_with origin k) t
    (record { shape = made_shape origin k start.few start.whole; long = start.long ∙ sym (made_length origin k start.few start.whole) }))

module _ (sdr1 : ℕ) (t : List ℕ) (was_done : (clearing sdr1 t).number ≡ 0) where
  not_refused : refusal (clear (record { sdr1 = sdr1 })) (length t) ≡ 0
  unfolding fed
  not_refused = go (eqb (refusal (clear (record { sdr1 = sdr1 })) (length t)) 0) refl
    where
      number : ℕ
      number = refusal (clear (record { sdr1 = sdr1 })) (length t)

      go : (b : Bool) → eqb number 0 ≡ b → number ≡ 0
      go true e = eqb-true number 0 e
      go false e =
          sym (ap (λ (x : Ended (List ℕ)). x.number) (refused (clear (record { sdr1 = sdr1 })) t number refl (eqb-false number 0 e))) ∙ was_done

  -- its SDR1 has its shape, and the slice the SDR1's length
  pub done_fits : Fitting sdr1 (length t)
  unfolding sdr1_in
  done_fits = fitting (clear (record { sdr1 = sdr1 })) (length t) not_refused

  -- it leaves a table that represents the empty map
  pub cleared_represents : TableRepresents (mask_ones sdr1) (clearing sdr1 t).state []
  cleared_represents =
      subst (λ (e : Ended (List ℕ)). TableRepresents (mask_ones sdr1) e.state []) (sym (clear_is sdr1 t done_fits))
      (represents_zeros (mask_ones sdr1) (length t) (done_fits.long ∙ length_is sdr1 done_fits.shape))

  -- the parts of the shape
  reserved : sdr1 / 2 ^ 9 % 2 ^ 7 ≡ 0
  unfolding sdr1_shape
  reserved =
      let parts = both (low_ones (mask_of sdr1) && eqb (sdr1 / 2 ^ 9 % 2 ^ 7) 0) (eqb (bit_and (origin_of sdr1) (mask_of sdr1)) 0) done_fits.shape in
      eqb-true (sdr1 / 2 ^ 9 % 2 ^ 7) 0 (both (low_ones (mask_of sdr1)) (eqb (sdr1 / 2 ^ 9 % 2 ^ 7) 0) parts.0).1

  under_mask : bit_and (origin_of sdr1) (mask_of sdr1) ≡ 0
  unfolding sdr1_shape
  under_mask =
      eqb-true (bit_and (origin_of sdr1) (mask_of sdr1)) 0
      (both (low_ones (mask_of sdr1) && eqb (sdr1 / 2 ^ 9 % 2 ^ 7) 0) (eqb (bit_and (origin_of sdr1) (mask_of sdr1)) 0) done_fits.shape).1

  pub done_made : sdr1 < 2 ^ 32 → sdr1 ≡ sdr1_with (origin_of sdr1) (mask_ones sdr1)
  done_made lt = let m = mask_is sdr1 done_fits.shape in let r = reserved in omega arith

  pub done_starts : Start (origin_of sdr1) (mask_ones sdr1) t
  done_starts = record {
    few = ones_at_most_9 sdr1 done_fits.shape;
    whole = sym (and_mask (origin_of sdr1) (mask_ones sdr1)) ∙ subst (λ (m : ℕ). bit_and (origin_of sdr1) m ≡ 0) (mask_is sdr1 done_fits.shape) under_mask;
    long = done_fits.long ∙ length_is sdr1 done_fits.shape;
  }
