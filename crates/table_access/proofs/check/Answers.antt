-- `table_access::check` meets its contract: 6, then 12, then the check of the page, then the table's length.
use mathlib.Core.Path.{◌≡◌, sym, ap, ◌∙◌}
use mathlib.Core.List.{List}
use Prim.Native.Nat.{ℕ}
use native.Mathlib.Omega.{arith}
use lib.ListN.{length}
use Rattle.std.specs.Prelude.{Err}
use Rattle.numbers.specs.Refused.{refusal_number, result_number}
use Rattle.numbers.proofs.Refused.{refused_number}
use Rattle.register_words.specs.Sdr1.{table_length}
use Rattle.register_words.specs.Block.{bl_width}
use Rattle.registers.specs.Set.{is_long, block_pairs, sdr1_of, check_words, register_words}
use Rattle.theory_calls.proofs.Access as rules
use Rattle.theory_calls.proofs.Pages.{sdr1_set}
use Rattle.table_access.proofs.check.Goals as goal
use Rattle.table_access.proofs.check.Goals.{After-table_length}

-- a page's own limits
abbrev pairs_of : List ℕ → ℕ
pairs_of registers = block_pairs (is_long (length registers))

abbrev width_of : List ℕ → ℕ
width_of registers = bl_width (is_long (length registers))

pub returns-in_err-check : goal.returns-in_err-check
returns-in_err-check c =
    let a = c.args in
    let refusal = c.in_err-check.field-0.0 in
    let handed : c.from_residual.result ≡ Err refusal = grind arith in
    let number : refusal_number refusal ≡ check_words (pairs_of a.registers.bytes.now) (width_of a.registers.bytes.now) (register_words a.registers.bytes.now) = c.in_err-check.ensures in
    ap result_number handed ∙ number
    ∙ sym (rules.then_check (pairs_of a.registers.bytes.now) (width_of a.registers.bytes.now) (register_words a.registers.bytes.now) a.access.mode a.access.kind a.access.length a.lent
    c.if-not-access.false (c.if-not-access-2.false) (λ z. refused_number refusal (number ∙ z)))

-- the length that is asked for is that of the page's SDR1
length_is : (c : After-table_length) → c.table_length.result ≡ table_length (sdr1_of (register_words c.args.registers.bytes.now))
length_is c = c.table_length.ensures ∙ ap table_length (c.sdr1.ensures ∙ sdr1_set c.args.registers.bytes.now c.args.registers.whole)

pub returns-then-lent-table_length : goal.returns-then-lent-table_length
returns-then-lent-table_length c =
    let a = c.args in
    sym (rules.then_length (pairs_of a.registers.bytes.now) (width_of a.registers.bytes.now) (register_words a.registers.bytes.now) a.access.mode a.access.kind a.access.length a.lent
    c.if-not-access.false (c.if-not-access-2.false) (sym c.in_ok-check.ensures) (λ e. c.if-lent-table_length.true (e ∙ sym (length_is (goal.at.returns-then-lent-table_length c).After-table_length))))

pub returns : goal.returns
returns c =
    let a = c.args in
    sym (rules.then_none (pairs_of a.registers.bytes.now) (width_of a.registers.bytes.now) (register_words a.registers.bytes.now) a.access.mode a.access.kind a.access.length a.lent
    c.if-not-access.false (c.if-not-access-2.false) (sym c.in_ok-check.ensures) (c.if-lent-table_length.false ∙ length_is (goal.at.returns c).After-table_length))
