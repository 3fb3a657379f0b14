-- `words::swapped` meets its contract: the library's reversed bytes are the word's.
use mathlib.Core.Path.{◌∙◌}
use Rattle.words.proofs.Words.{swap_bytes_swapped}
use Rattle.words.proofs.swapped.Goals as goal

pub returns : goal.returns
returns c = c.swap_bytes.ensures ∙ swap_bytes_swapped c.args.w
