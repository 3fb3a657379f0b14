-- `mmu::pack` meets its contract: two words fill eight bytes, and those of a refused packing are zeros.
use mathlib.Core.Path.{◌≡◌, refl, sym, ap, ◌∙◌}
use mathlib.Core.List.{List, [], ◌∷◌}
use Prim.Native.Nat.{ℕ}
use native.Mathlib.Omega.{arith}
use lib.ListN.{length, replicate}
use Rattle.std.proofs.Common.{rules}
use Rattle.std.specs.Prelude.{Err}
use Rattle.words.specs.Words.{word_bytes, bytes_of}
use Rattle.theory_calls.specs.WithoutTable.{pack_call}
use Rattle.theory_calls.proofs.Lent.{right_length, wrong_length}
use Rattle.mmu.proofs.pack.Goals as goal

-- what packing answers is written
abbrev written : (p : ℕ × (ℕ × ℕ)) → ℕ × List ℕ
written p = (p.0, bytes_of (p.1.0 ∷ p.1.1 ∷ []))

zero_words : bytes_of (0 ∷ 0 ∷ []) ≡ replicate 8 0
unfolding bytes_of word_bytes
zero_words = refl

pub returns-then-entry-ne-ENTRY_SIZE : goal.returns-then-entry-ne-ENTRY_SIZE
unfolding pack_call
returns-then-entry-ne-ENTRY_SIZE c = sym (wrong_length 8 _ _ c.if-entry-ne-ENTRY_SIZE.true)

pub returns-in_err-packed : goal.returns-in_err-packed
unfolding pack_call
returns-in_err-packed c =
    let refusal = c.in_err-packed.field-0.0 in
    let handed : c.from_residual.result ≡ Err refusal = grind arith in
    let zeros : c.fill.new.self ≡ replicate (length c.args.entry.now) 0 = search rules in
    rw (handed, zeros, c.if-entry-ne-ENTRY_SIZE.false, ← zero_words) (ap written c.in_err-packed.ensures)

pub returns : goal.returns
unfolding pack_call
returns c =
    rw c.write_words.ensures (ap written c.in_ok-packed.ensures ∙ sym (right_length 8 c.args.entry.now _ c.if-entry-ne-ENTRY_SIZE.false))
