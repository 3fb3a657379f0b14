-- `entry::match_word` meets its contract: the packed word is handed on.
use mathlib.Core.Path.{ap, ◌∙◌}
use Rattle.words.specs.Words.{swapped}
use Rattle.entry.proofs.match_word.Goals as goal

pub returns : goal.returns
returns c = c.swapped.ensures ∙ ap swapped c.first_word.ensures
