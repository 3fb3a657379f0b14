-- A call that its arguments do not refuse: what it does, and that its table has its length.
use Prim.Native.Nat.{ℕ, ◌*◌, ◌^◌}
use mathlib.Core.Path.{◌≡◌, refl, sym, ap, ◌∙◌}
use mathlib.Core.Bool.{Bool, true}
use mathlib.Core.Logic.{◌↔◌}
use mathlib.Core.List.{List}
use lib.Dec.{eqb}
use lib.ListN.{length}
use borrow.Author.Tests.{eqb-true, eq-eqb}
use Rattle.words.specs.Bits.{bits}
use Rattle.entry.specs.Entry.{referenced, changed}
use Rattle.register_words.specs.Sdr1.{mask_ones}
use Rattle.register_words.proofs.Sdr1.{length_is}
use Rattle.theory_calls.specs.Request.{Request, sdr1_in, fed}
use Rattle.theory_calls.specs.OnBytes.{Ended, bytes_do, on_bytes}
use Rattle.theory_calls.specs.Represents.{GoodTable}
use Rattle.theory_calls.specs.AnyTable.{Taken}
use Rattle.theory_calls.proofs.OnBytes.{taken}
use Rattle.theory_calls.proofs.Rules.{fitting}
use Rattle.theory_calls.proofs.Histories.{sdr1_fed}

-- a taken call's table has its length
pub good_table : (request : Request (List ℕ)) (t : List ℕ) → Taken request t → GoodTable (mask_ones (sdr1_in request)) t
good_table request t a =
    let fit = fitting (fed request) (length t) a.not_refused in
    record { long = fit.long ∙ length_is (sdr1_in (fed request)) fit.shape ∙ ap (λ (s : ℕ). 65536 * 2 ^ mask_ones s) (sdr1_fed request); bytes = a.bytes }

pub does : (request : Request (List ℕ)) (t : List ℕ) → Taken request t → on_bytes request t ≡ bytes_do (mask_ones (sdr1_in request)) request t
does request t a = taken request t a.not_refused

-- number, state and answer of what a call leaves
pub number_of : {e d : Ended (List ℕ)} → e ≡ d → e.number ≡ d.number
number_of q = ap (λ (x : Ended (List ℕ)). x.number) q

pub state_of : {e d : Ended (List ℕ)} → e ≡ d → e.state ≡ d.state
state_of q = ap (λ (x : Ended (List ℕ)). x.state) q

pub answer_of_law : {e d : Ended (List ℕ)} → e ≡ d → e.answer ≡ d.answer
answer_of_law q = ap (λ (x : Ended (List ℕ)). x.answer) q

-- a mark, as a bit of a second word and as a test
pub bit_set : (n : ℕ) (test : ℕ → Bool) → ((w : ℕ) → test w ≡ eqb (bits n n w) 1) → (w : ℕ) → (bits n n w ≡ 1) ↔ (test w ≡ true)
bit_set n test is w = (λ e. is w ∙ eq-eqb (bits n n w) 1 e, λ e. eqb-true (bits n n w) 1 (sym (is w) ∙ e))

pub r_is : (w : ℕ) → referenced w ≡ eqb (bits 23 23 w) 1
unfolding referenced
r_is w = refl

pub c_is : (w : ℕ) → changed w ≡ eqb (bits 24 24 w) 1
unfolding changed
c_is w = refl
