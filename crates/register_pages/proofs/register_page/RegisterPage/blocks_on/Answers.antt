-- `register_pages::RegisterPage::blocks_on` meets its contract: the eight pairs of a short page lie in one part, the sixteen of a long one in two.
use borrow.Author.Tests.{eq-eqb, ne_eqb, ltb-true, ltb-false}
use native.Mathlib.Omega.{arith}
use mathlib.Core.Bool.{Bool, true, true≢false}
use mathlib.Core.Path.{◌≡◌, sym, ap, ◌∙◌}
use Prim.Native.Nat.{ℕ, ◌+◌, ◌-◌, ◌*◌, ◌<◌}
use lib.Dec.{ltb}
use lib.ListN.{length}
use Rattle.words.specs.Words.{word_at}
use Rattle.words.proofs.Tests.{by_test}
use Rattle.register_words.specs.Block.{off}
use Rattle.registers.specs.Set.{is_long, block_pairs}
use Rattle.register_pages.proofs.Page.{page_least}
use Rattle.register_pages.proofs.Sides.{part_off, off_kept}
use Rattle.register_pages.proofs.register_page.RegisterPage.blocks_on.Goals as goal
use Rattle.register_pages.proofs.register_page.RegisterPage.blocks_on.Goals.{Else-any_on}

pub returns-then-any_on : goal.returns-then-any_on
returns-then-any_on c = λ e. absurd (true≢false e)

-- the first eight pairs are off
front : (c : Else-any_on) (i : ℕ) → i < 8 → off (word_at c.args.self.bytes.now (68 + 8 * i)) ≡ true
front c i l =
    part_off c.args.self.bytes.now 68 8 i (omega (arith, page_least (length c.args.self.bytes.now) c.args.self.whole)) (c.any_on.ensures c.if-any_on.false) l

pub returns-then-self-eq-REGISTERS_SIZE_LONG : goal.returns-then-self-eq-REGISTERS_SIZE_LONG
returns-then-self-eq-REGISTERS_SIZE_LONG c = λ e.
    let page = c.args.self.bytes.now in
    let size : length page ≡ 196 = c.if-self-eq-REGISTERS_SIZE_LONG.true in
    let all : 2 * block_pairs (is_long (length page)) ≡ 16 = ap (λ (t : Bool). 2 * block_pairs t) (eq-eqb (length page) 196 size) in
    off_kept page (λ i l. by_test (ltb i 8) (λ t. front (goal.at.returns-then-self-eq-REGISTERS_SIZE_LONG c).Else-any_on i (ltb-true i 8 t))
    (λ t.
    let past = ltb-false i 8 t in
    let here : 132 + 8 * (i - 8) ≡ 68 + 8 * i = omega arith in
    ap (λ (b : ℕ). off (word_at page b)) (sym here) ∙ part_off page 132 8 (i - 8) (omega arith) (c.any_on-then-self-eq-REGISTERS_SIZE_LONG.ensures e) (omega arith)))

pub returns : goal.returns
returns c = λ e.
    let page = c.args.self.bytes.now in
    let all : 2 * block_pairs (is_long (length page)) ≡ 8 = ap (λ (t : Bool). 2 * block_pairs t) (ne_eqb (length page) 196 c.if-self-eq-REGISTERS_SIZE_LONG.false) in
    off_kept page (λ i l. front (goal.at.returns c).Else-any_on i (omega arith))
