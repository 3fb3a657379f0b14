-- `register_pages::RegisterPage::blocks_refusal` meets its contract. The invariant: what the laws of Sides say of the sides that were passed.
use native.Mathlib.Omega.{arith}
use mathlib.Core.Bool.{Bool, false, cond, ◌&&◌, and-true}
use mathlib.Core.Path.{◌≡◌, refl, sym, ap, subst, ◌∙◌}
use Prim.Native.Nat.{ℕ, ◌+◌, ◌-◌, ◌*◌, ◌/◌}
use lib.ListN.{length}
use Rattle.words.proofs.Tests.{both}
use Rattle.register_words.specs.Asked.{bl_place}
use Rattle.registers.specs.Set.{block_pairs}
use Rattle.register_pages.proofs.Page.{PageSize, short_size, long_size, page_size_law}
use Rattle.register_pages.proofs.Sides.{SidesSeen, sides_none, sides_more, sides_wrong, sides_right, lent_good, lent_rises, lent_apart}
use Rattle.register_pages.proofs.register_page.RegisterPage.blocks_refusal.Goals as goal
use Rattle.register_pages.proofs.register_page.RegisterPage.blocks_refusal.Goals.{After-loop-side, then-half-eq64, else-half-eq64, then-seen-ne0, else-seen-ne0}

-- a page's half behind its segment registers, by its length
halves : {size : ℕ} {long : Bool} → PageSize size long → ((size - 68) / 2 ≡ 8 * block_pairs long) × (68 + 2 * ((size - 68) / 2) ≡ size)
halves short_size = (refl, refl)
halves long_size = (refl, refl)

lengths_of : {size : ℕ} {long : Bool} → PageSize size long → (lengths : ℕ)
    → ((size - 68) / 2 ≡ 64 → lengths ≡ 0x1FFFC00000000) → (((size - 68) / 2 ≡ 64 → ⊥) → lengths ≡ 0x1FFC00000000) → lengths ≡ bl_place long
lengths_of short_size lengths is-long is-short = is-short (λ e. omega arith)
lengths_of long_size lengths is-long is-short = is-long refl

pub loop-side-init : goal.loop-side-init
loop-side-init c =
    let size = page_size_law (length c.args.self.bytes.now) c.args.self.whole in
    let (half, whole) = halves size in (
      omega arith,
      half,
      whole,
      lengths_of size c.if-half-eq64.lengths
          (elim c.if-half-eq64.branch [ then-half-eq64 w ↦ (λ e. w.lengths-is) | else-half-eq64 w ↦ (λ e. absurd (w.if-half-eq64.false e)) ])
          (elim c.if-half-eq64.branch [ then-half-eq64 w ↦ (λ n. absurd (n w.if-half-eq64.true)) | else-half-eq64 w ↦ (λ n. w.lengths-is) ]),
      λ right. sides_none c.args.self.bytes.now right,
    )

pub loop-side-preserved : goal.loop-side-preserved
loop-side-preserved c =
    let page = c.args.self.bytes.now in
    let seen = c.side_of-seen in
    let l = c.loop-side in
    let s = l.side in
    let below = c.loop-side-test.true in
    let told = seen.ensures in
    let (upto, half_is, whole, lengths, before) = l.invariant in
    let H = (length page - 68) / 2 in
    let A = 68 + s * H in (
      omega arith,
      half_is,
      whole,
      lengths,
      λ any-right. sides_more page any-right s l.good l.apart _ c.if-seen-ne0.apart (before any-right)
          (lent_good page any-right s H A (A + H) below half_is refl refl _ (32 * s) seen.result lengths refl told)
          (λ shape. elim c.if-seen-ne0.branch [
            | then-seen-ne0 w ↦
                w.apart-is ∙ ap (λ (t : Bool). l.apart && t) (w.side_apart.ensures ∙ lent_apart page any-right s H A (A + H) below half_is refl refl shape)
            | else-seen-ne0 w ↦
                w.apart-is ∙ sym (ap (λ (t : Bool). l.apart && t)
                (lent_rises page any-right s H A (A + H) below half_is refl refl _ (32 * s) seen.result lengths refl told w.if-seen-ne0.false shape) ∙ and-true l.apart)
          ]),
    )

-- both sides were passed
both_sides : (c : After-loop-side) → SidesSeen c.args.self.bytes.now c.args.self.whole 2 c.loop-side.good c.loop-side.apart
both_sides c =
    let l = c.loop-side in
    let two : l.side ≡ 2 = let upto = l.invariant.0 in omega (arith, c.loop-side-test.false) in
    subst (λ (n : ℕ). SidesSeen c.args.self.bytes.now c.args.self.whole n l.good l.apart) two (l.invariant.4 c.args.self.whole)

pub returns-then-good-apart : goal.returns-then-good-apart
returns-then-good-apart c =
    let l = c.loop-side in
    let (good, apart) = both l.good l.apart c.if-good-apart.true in
    ap (λ (t : Bool). cond t 0 4) (sym apart) ∙ sides_right _ _ l.good l.apart (both_sides (goal.at.returns-then-good-apart c).After-loop-side) good

pub returns-then-good : goal.returns-then-good
returns-then-good c =
    let l = c.loop-side in
    let shared : l.apart ≡ false = ap (λ (t : Bool). t && l.apart) (sym c.if-good.true) ∙ c.if-good-apart.false in
    ap (λ (t : Bool). cond t 0 4) (sym shared) ∙ sides_right _ _ l.good l.apart (both_sides (goal.at.returns-then-good c).After-loop-side) c.if-good.true

pub returns-else-good : goal.returns-else-good
returns-else-good c =
    let l = c.loop-side in
    sides_wrong _ _ l.good l.apart (both_sides (goal.at.returns-else-good c).After-loop-side) c.if-good.false
