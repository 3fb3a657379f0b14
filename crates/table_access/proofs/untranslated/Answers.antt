-- `table_access::untranslated` meets its contract: both parts are done, so that the answer is that of one page or of two.
use borrow.Author.Tests.{lt-ltb, le-ltb}
use mathlib.Core.Path.{◌≡◌, refl, sym, ap, ap₂, ◌∙◌}
use mathlib.Core.Bool.{Bool, true, false}
use Prim.Native.Nat.{ℕ, ◌+◌, ◌%◌, ◌^◌}
use Rattle.translation.specs.Steps.{answer_of}
use Rattle.translation.specs.Decision.{decision_of}
use Rattle.translation.specs.Operand.{first_bytes, over_edge, part_start, within, across_edge}
use Rattle.translation.specs.declared.Answer.{Answer}
use Rattle.translation.specs.declared.decision.Decision.{Decision}
use Rattle.translation.specs.declared.Outcome.TheVariants.{Real}
use Rattle.translation.proofs.Parts.{start_first, start_second, one_done, both_done}
use Rattle.table_access.specs.declared.Part.{Part}
use Rattle.table_access.proofs.untranslated.Goals as goal
use Rattle.table_access.proofs.untranslated.Goals.{After-real_part-first}

-- what a part answers in real mode, and what decides it
abbrev real : ℕ → ℕ → ℕ → Bool → Answer
real address length kind second = answer_of kind (part_start address length second) Real

abbrev rule : Bool → Decision
rule second = decision_of (record { key = false; group = 0; entry = 0 }) Real

real_done : (address length kind : ℕ) (second : Bool) → (real address length kind second).result ≡ 0
unfolding answer_of
real_done address length kind second = refl

-- the first part's answer and what decided it
first_is : (c : After-real_part-first) (kind : ℕ) →
    let a = c.args.access in
    (c.real_part-first.result.answer ≡ real a.address a.length kind false) × (c.real_part-first.result.decision ≡ rule false)
first_is c kind =
    let a = c.args.access in
    let is = c.real_part-first.ensures kind in
    (ap (λ (p : Part). p.answer) is ∙ ap (λ (s : ℕ). answer_of kind s Real) (sym (start_first a.address a.length)), ap (λ (p : Part). p.decision) is)

pub returns-then-bytes-access : goal.returns-then-bytes-access
unfolding over_edge
returns-then-bytes-access c =
    let a = c.args.access in
    let kind = a.kind in
    let bytes = c.first_bytes-bytes.ensures in
    let over = lt-ltb (first_bytes a.address a.length) a.length (rw bytes at c.if-bytes-access.true) in
    let behind = c.next_start.ensures ∙ ap (λ (n : ℕ). (a.address + n) % 2 ^ 32) bytes ∙ sym (start_second a.address a.length) in
    let second = ap (λ (p : Part). p.answer) (c.real_part-second.ensures kind) ∙ ap (λ (s : ℕ). answer_of kind s Real) behind in
    let (answer, decides) = first_is (goal.at.returns-then-bytes-access c).After-real_part-first kind in
    c.across_edge.ensures
    ∙ ap₂ (λ (x y : Answer). across_edge x c.real_part-first.result.decision y c.first_bytes-bytes.result a.length) answer second
    ∙ ap₂ (λ (d : Decision) (n : ℕ). across_edge (real a.address a.length kind false) d (real a.address a.length kind true) n a.length) decides bytes
    ∙ sym (both_done a.address a.length (real a.address a.length kind) rule (real_done a.address a.length kind false) over (real_done a.address a.length kind true))

pub returns : goal.returns
unfolding over_edge
returns c =
    let a = c.args.access in
    let kind = a.kind in
    let bytes = c.first_bytes-bytes.ensures in
    let one = le-ltb (first_bytes a.address a.length) a.length (rw bytes at c.if-bytes-access.false) in
    let (answer, decides) = first_is (goal.at.returns c).After-real_part-first kind in
    c.within.ensures
    ∙ ap₂ (λ (x : Answer) (d : Decision). within x d a.length) answer decides
    ∙ sym (one_done a.address a.length (real a.address a.length kind) rule (real_done a.address a.length kind false) one)
