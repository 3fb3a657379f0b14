-- `entry::pack` meets its contract. Where the test passed, each field is within its width, as the two words ask.
use mathlib.Core.Path.{sym, ◌∙◌}
use native.Mathlib.Omega.{arith}
use Rattle.entry.specs.Entry.{packed}
use Rattle.entry.proofs.Widths.{within}
use Rattle.entry.proofs.pack.Goals as goal

pub returns-then-not-within_widths : goal.returns-then-not-within_widths
unfolding packed
returns-then-not-within_widths c = rw (sym c.within_widths.ensures ∙ c.if-not-within_widths.true)

pub first_word-requires : goal.first_word-requires
first_word-requires c = omega (arith, within c.args.f (sym c.within_widths.ensures ∙ c.if-not-within_widths.false))

pub second_word-requires : goal.second_word-requires
second_word-requires c = omega (arith, within c.args.f (sym c.within_widths.ensures ∙ c.if-not-within_widths.false))

pub returns : goal.returns
unfolding packed
returns c =
    rw (sym c.within_widths.ensures ∙ c.if-not-within_widths.false, c.first_word.ensures, c.second_word.ensures)
