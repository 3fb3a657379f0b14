-- The marks that a word lacks, as a number: 0x100 for R and 0x080 for C.
use Prim.Native.Nat.{ℕ, ◌+◌, ◌-◌, ◌*◌, ◌≤◌}
use mathlib.Core.Path.{◌≡◌, refl, ap, ◌∙◌}
use mathlib.Core.Bool.{Bool, true, false, cond, not, ◌&&◌}
use native.Mathlib.Omega.{arith}
use Rattle.words.specs.Bits.{bits, with_bits}
use Rattle.entry.specs.Entry.{with_marks}
use Rattle.entry.proofs.Packing.{second_packed}
use Rattle.theory_placement.specs.Lists.{one_if}
use Rattle.theory_calls.specs.OnMap.{PageFields, fields_word}
use Rattle.theory_calls.specs.Represents.{FieldsInRange}
use Rattle.theory_calls.proofs.Fields.{one_if_lt}

-- what the marks of an access add to a second word, a store's or another's
abbrev pub lacking : Bool → ℕ → ℕ
lacking store w = 0x100 * (1 - bits 23 23 w) + cond store (0x080 * (1 - bits 24 24 w)) 0

-- of one bit
r_adds : (w : ℕ) → (w ≤ with_bits 23 23 1 w) × (with_bits 23 23 1 w - w ≡ 0x100 * (1 - bits 23 23 w)) × (bits 24 24 (with_bits 23 23 1 w) ≡ bits 24 24 w)
r_adds w = (omega arith, omega arith, omega arith)

c_adds : (w : ℕ) → (w ≤ with_bits 24 24 1 w) × (with_bits 24 24 1 w - w ≡ 0x080 * (1 - bits 24 24 w))
c_adds w = (omega arith, omega arith)

pub marks_add : (store : Bool) (w : ℕ) → with_marks true store w - w ≡ lacking store w
unfolding with_marks
marks_add false w = (r_adds w).1 ∙ (omega arith)
marks_add true w =
    let u = with_bits 23 23 1 w in
    let (first, r, kept) = r_adds w in
    let (second, c) = c_adds u in
    sum w u (with_bits 24 24 1 u) (0x100 * (1 - bits 23 23 w)) (0x080 * (1 - bits 24 24 w)) first second r (c ∙ ap (λ (x : ℕ). 0x080 * (1 - x)) kept)
  where
    sum : (w u v a b : ℕ) → w ≤ u → u ≤ v → u - w ≡ a → v - u ≡ b → v - w ≡ a + b
    sum w u v a b l m p q = omega arith

-- they have no other bits, and are few
two_bits : (a b : ℕ) → a ≤ 1 → b ≤ 1 → (bits 0 22 (0x100 * a + 0x080 * b) ≡ 0) × (bits 25 31 (0x100 * a + 0x080 * b) ≡ 0) × (0x100 * a + 0x080 * b ≤ 384)
two_bits a b la lb = (omega arith, omega arith, omega arith)

pub lacking_only : (store : Bool) (w : ℕ) → (bits 0 22 (lacking store w) ≡ 0) × (bits 25 31 (lacking store w) ≡ 0) × (lacking store w ≤ 384)
lacking_only true w = two_bits (1 - bits 23 23 w) (1 - bits 24 24 w) (omega arith) (omega arith)
lacking_only false w = two_bits (1 - bits 23 23 w) 0 (omega arith) (omega arith)

-- of the word of a page's fields
pub lacking_fields : (f : PageFields) → FieldsInRange f → (store : Bool)
    → lacking store (fields_word f) ≡ cond f.referenced 0 0x100 + cond (store && not f.changed) 0x080 0
unfolding fields_word
lacking_fields f range store =
    let has = second_packed f.frame (one_if f.referenced) (one_if f.changed) f.attributes f.protection
    range.frame_lt (one_if_lt f.referenced) (one_if_lt f.changed) range.attributes_lt range.protection_lt in
    rw (has.has_r, has.has_c) (go f.referenced f.changed store)
  where
    go : (r c s : Bool) → 0x100 * (1 - one_if r) + cond s (0x080 * (1 - one_if c)) 0 ≡ cond r 0 0x100 + cond (s && not c) 0x080 0
    go true true true = refl
    go true true false = refl
    go true false true = refl
    go true false false = refl
    go false true true = refl
    go false true false = refl
    go false false true = refl
    go false false false = refl
