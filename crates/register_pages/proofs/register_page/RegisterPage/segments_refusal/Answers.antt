-- `register_pages::RegisterPage::segments_refusal` meets its contract. The invariant: the mask leaves nothing of the number exactly where each segment register that was
-- passed has its shape; read from the low end, the first byte of each word is the lowest of its half.
use borrow.Author.Tests.{eq-eqb, ne_eqb}
use mathlib.Core.Path.{◌≡◌, refl, sym, ap, ap₂, ◌∙◌}
use mathlib.Core.Bool.{Bool, ◌&&◌, and_comm, and_assoc}
use mathlib.Core.List.{List}
use Prim.Native.Nat.{ℕ, ◌+◌, ◌*◌, ◌/◌, ◌%◌, ◌^◌, ◌≤◌, ◌<◌}
use native.Mathlib.Nat.{div-one}
use native.Mathlib.Omega.{arith}
use lib.Bits.{bit_and, bit_or, and_mask, and_shr, and_mod}
use lib.Dec.{eqb}
use lib.ListN.{length}
use lib.Pow.{split, field, shr-shr, mod-mod-pow}
use Rattle.words.specs.Below.{every_below}
use Rattle.words.specs.Bits.{bits}
use Rattle.words.specs.Words.{word_at, swapped}
use Rattle.words.proofs.Below.{every_next, every_same}
use Rattle.words.proofs.Tests.{both_zero}
use Rattle.words.proofs.Words.{turned_0}
use Rattle.words.proofs.Zero.{or_leaves, parts_leave}
use Rattle.register_words.specs.Segment.{segment_shape}
use Rattle.registers.specs.Set.{segments_shape, register_words}
use Rattle.register_pages.proofs.Page.{page_least, own_segment}
use Rattle.register_pages.proofs.register_page.RegisterPage.segments_refusal.Goals as goal
use Rattle.register_pages.proofs.register_page.RegisterPage.segments_refusal.Invariants.{good}

pub loop-i-init : goal.loop-i-init
unfolding every_below
loop-i-init c = (omega arith, refl)

pub raw_pair-any-requires : goal.raw_pair-any-requires
raw_pair-any-requires c = omega (arith, page_least (length c.args.self.bytes.now) c.args.self.whole)

swapped_lt : (w : ℕ) → swapped w < 2 ^ 32
unfolding swapped
swapped_lt w = omega arith

-- T and bits 4 to 7 by one mask
first_byte : (w : ℕ) → eqb (bit_and (swapped w) 0x8F) 0 ≡ segment_shape w
unfolding segment_shape
first_byte w =
    let v = swapped w in
    let masked : bit_and v 0x8F ≡ v / 2 ^ 7 % 2 ^ 1 * 2 ^ 7 + v % 2 ^ 4 =
    sym (split (bit_and v 0x8F) 7)
    ∙ ap₂ (λ (p q : ℕ). p * 2 ^ 7 + q) (and_shr v 0x8F 7 ∙ and_mask (v / 2 ^ 7) 1) (and_mod v 0x8F 7 ∙ and_mask (v % 2 ^ 7) 4 ∙ mod-mod-pow v 3 4) in
    let byte : v % 2 ^ 8 ≡ bits 0 7 w = ap (λ (n : ℕ). n % 2 ^ 8) (sym (div-one v)) ∙ turned_0 w in
    let top : v / 2 ^ 7 % 2 ^ 1 ≡ bits 0 0 w = sym (field v 1 7) ∙ ap (λ (n : ℕ). n / 2 ^ 7) byte ∙ field (w / 2 ^ 24) 1 7 ∙ ap (λ (n : ℕ). n % 2 ^ 1) (shr-shr w 24 7) in
    let zeros : v % 2 ^ 4 ≡ bits 4 7 w = sym (mod-mod-pow v 4 4) ∙ ap (λ (n : ℕ). n % 2 ^ 4) byte ∙ mod-mod-pow (w / 2 ^ 24) 4 4 in
    both_zero (bit_and v 0x8F) (bits 0 0 w) (bits 4 7 w) (λ e. (omega arith, omega arith)) (λ p q. omega arith)

-- two words at a time
two_words : (first second : ℕ) → eqb (bit_and (swapped second * 2 ^ 32 + swapped first) 0x8F0000008F) 0 ≡ (segment_shape first && segment_shape second)
two_words first second =
    let raw = swapped second * 2 ^ 32 + swapped first in
    let l = swapped_lt first in
    let high : raw / 2 ^ 32 ≡ swapped second = omega arith in
    let low : raw % 2 ^ 32 ≡ swapped first = omega arith in
    parts_leave 32 raw 0x8F0000008F
    ∙ ap₂ (λ (p q : ℕ). eqb (bit_and p 0x8F) 0 && eqb (bit_and q 0x8F) 0) high low
    ∙ ap₂ ◌&&◌ (first_byte second) (first_byte first)
    ∙ and_comm (segment_shape second) (segment_shape first)

more : (page : List ℕ) (any raw n : ℕ) → eqb (bit_and any 0x8F0000008F) 0 ≡ every_below (2 * n) (good page)
    → raw ≡ swapped (word_at page (4 + 8 * n + 4)) * 2 ^ 32 + swapped (word_at page (4 + 8 * n))
    → eqb (bit_and (bit_or any raw) 0x8F0000008F) 0 ≡ every_below (2 * (n + 1)) (good page)
more page any raw n before is =
    let k = 2 * n in
    let here : 4 + 4 * k ≡ 4 + 8 * n = omega arith in
    let there : 4 + 4 * (k + 1) ≡ 4 + 8 * n + 4 = omega arith in
    let next : 2 * (n + 1) ≡ k + 1 + 1 = omega arith in
    or_leaves any raw 0x8F0000008F
    ∙ ap₂ ◌&&◌ before (ap (λ (r : ℕ). eqb (bit_and r 0x8F0000008F) 0) is ∙ two_words (word_at page (4 + 8 * n)) (word_at page (4 + 8 * n + 4)))
    ∙ ap₂ (λ (p q : ℕ). every_below k (good page) && (segment_shape (word_at page p) && segment_shape (word_at page q))) (sym here) (sym there)
    ∙ sym (and_assoc (every_below k (good page)) (good page k) (good page (k + 1)))
    ∙ sym (ap (λ (m : ℕ). every_below m (good page)) next ∙ every_next (good page) (k + 1) ∙ ap (λ (t : Bool). t && good page (k + 1)) (every_next (good page) k))

pub loop-i-preserved : goal.loop-i-preserved
loop-i-preserved c =
    let l = c.loop-i in
    (omega (arith, c.loop-i-test.true), more _ l.any c.raw_pair-any.result l.i l.invariant.1 c.raw_pair-any.ensures)

-- the mask leaves nothing exactly where the page's segment registers have their shape
shapes : (page : List ℕ) (any i : ℕ) → i ≤ 8 → 8 ≤ i → eqb (bit_and any 0x8F0000008F) 0 ≡ every_below (2 * i) (good page)
    → segments_shape (register_words page) ≡ eqb (bit_and any 0x8F0000008F) 0
unfolding segments_shape
shapes page any i most least told =
    let end : 2 * i ≡ 16 = omega arith in
    sym (told ∙ ap (λ (n : ℕ). every_below n (good page)) end ∙ every_same _ _ 16 (λ k h. ap segment_shape (sym (own_segment page k h))))

pub returns-then-any-eq0 : goal.returns-then-any-eq0
returns-then-any-eq0 c =
    let l = c.loop-i in
    rw (shapes c.args.self.bytes.now l.any l.i l.invariant.0 (omega (arith, c.loop-i-test.false)) l.invariant.1 ∙ eq-eqb _ 0 c.if-any-eq0.true)

pub returns-else-any-eq0 : goal.returns-else-any-eq0
returns-else-any-eq0 c =
    let l = c.loop-i in
    rw (shapes c.args.self.bytes.now l.any l.i l.invariant.0 (omega (arith, c.loop-i-test.false)) l.invariant.1 ∙ ne_eqb _ 0 c.if-any-eq0.false)
