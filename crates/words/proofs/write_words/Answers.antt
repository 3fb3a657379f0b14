-- `words::write_words` meets its contract. The invariant: the first `i` words are written; once all are, their bytes fill the slice.
use mathlib.Core.Path.{◌≡◌, refl, sym, ap, ◌∙◌}
use mathlib.Core.List.{List}
use Prim.Native.Nat.{ℕ, ◌+◌, ◌*◌, ◌<◌}
use native.Mathlib.Numerals.{add-one}
use native.Mathlib.Omega.{arith}
use lib.ListN.{length, take, get_or}
use lib.Seq.{take-suc, take-length, length-take-le}
use Rattle.words.specs.Words.{with_word}
use Rattle.words.proofs.Words.{written, written_more, written_all, length_with_word}
use Rattle.words.proofs.write_words.Goals as goal

pub loop-i-init : goal.loop-i-init
unfolding written
loop-i-init c = (refl, refl)

pub loop-i-preserved : goal.loop-i-preserved
loop-i-preserved c =
    let i = c.loop-i.i in
    let s₀ = c.args.s.now in
    let words = c.args.words.now in
    let w = get_or words i 0 in
    let done = c.write_word.ensures in
    let below : i < length words = omega arith in
    let next : written s₀ 0 (take (i + 1) words) ≡ with_word (written s₀ 0 (take i words)) (4 * i) w =
    ap (λ (k : ℕ). written s₀ 0 (take k words)) (add-one i)
    ∙ ap (written s₀ 0) (take-suc words i 0 below)
    ∙ written_more (take i words) s₀ 0 w
    ∙ ap (λ (k : ℕ). with_word (written s₀ 0 (take i words)) k w) (omega (arith, length-take-le i words (omega arith))) in (
      ap length done ∙ length_with_word c.loop-i.s (4 * i) w ∙ c.loop-i.invariant.0,
      done ∙ ap (λ (l : List ℕ). with_word l (4 * i) w) c.loop-i.invariant.1 ∙ sym next,
    )

pub returns : goal.returns
returns c =
    let words = c.args.words.now in
    let end : c.loop-i.i ≡ length words = omega arith in
    c.loop-i.invariant.1
    ∙ ap (written c.args.s.now 0) (ap (λ (k : ℕ). take k words) end ∙ take-length words)
    ∙ written_all words c.args.s.now c.requires
