-- `register_pages::RegisterPage::check` meets its contract: SDR1, then the blocks, then the segments, in the order of the rules; where no block is on, none breaks one.
use mathlib.Core.Bool.{true}
use mathlib.Core.Path.{◌≡◌, sym, ap, ◌∙◌}
use native.Mathlib.Omega.{arith}
use lib.ListN.{length}
use Rattle.words.specs.Words.{word_at}
use Rattle.std.specs.Prelude.{Err}
use Rattle.numbers.specs.Refused.{refusal_number, result_number}
use Rattle.numbers.proofs.Refused.{refused_number}
use Rattle.register_words.specs.Sdr1.{sdr1_shape}
use Rattle.registers.specs.Set.{is_long, register_words}
use Rattle.register_pages.specs.Side.{blocks_refusal}
use Rattle.register_pages.proofs.Sides.{sdr1_broken, blocks_broken, blocks_kept}
use Rattle.register_pages.proofs.register_page.RegisterPage.check.Goals as goal
use Rattle.register_pages.proofs.register_page.RegisterPage.check.Goals.{After-sdr1_shape, Else-not-sdr1_shape}

-- what the test of SDR1 told
sdr1_told : (c : After-sdr1_shape) → c.sdr1_shape.result ≡ sdr1_shape (word_at c.args.self.bytes.now 0)
sdr1_told c = c.sdr1_shape.ensures ∙ ap sdr1_shape c.read_word.ensures

sdr1_kept : (c : Else-not-sdr1_shape) → sdr1_shape (word_at c.args.self.bytes.now 0) ≡ true
sdr1_kept c = sym (c.sdr1_shape.ensures ∙ ap sdr1_shape c.read_word.ensures) ∙ c.if-not-sdr1_shape.false

pub returns-then-not-sdr1_shape : goal.returns-then-not-sdr1_shape
returns-then-not-sdr1_shape c =
    sdr1_broken c.args.self.bytes.now (sym (sdr1_told (goal.at.returns-then-not-sdr1_shape c).After-sdr1_shape) ∙ c.if-not-sdr1_shape.true)

pub returns-then-not-blocks_on : goal.returns-then-not-blocks_on
returns-then-not-blocks_on c =
    c.segments_refusal-segments.ensures ∙ blocks_kept _ (sdr1_kept (goal.at.returns-then-not-blocks_on c).Else-not-sdr1_shape) (c.blocks_on.ensures c.if-not-blocks_on.true)

pub returns-in_err-blocks_refusal : goal.returns-in_err-blocks_refusal
returns-in_err-blocks_refusal c =
    let refusal = c.in_err-blocks_refusal.field-0.0 in
    let handed : c.from_residual.result ≡ Err refusal = grind arith in
    let number : refusal_number refusal ≡ blocks_refusal (is_long (length c.args.self.bytes.now)) (register_words c.args.self.bytes.now) = c.in_err-blocks_refusal.ensures in
    ap result_number handed ∙ number ∙ blocks_broken _ (sdr1_kept (goal.at.returns-in_err-blocks_refusal c).Else-not-sdr1_shape) (λ none. refused_number refusal (number ∙ none))

pub returns : goal.returns
returns c =
    c.segments_refusal-segments.ensures ∙ blocks_kept _ (sdr1_kept (goal.at.returns c).Else-not-sdr1_shape) (sym c.in_ok-blocks_refusal.ensures)
