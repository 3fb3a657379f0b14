-- `groups::second_of` meets its contract: the word that is read in the table is the entry's second.
use mathlib.Core.Path.{◌∙◌}
use Rattle.groups.specs.Group.{second_of}
use Rattle.groups.proofs.Lent.{second_in_table}
use Rattle.groups.proofs.second_of.Goals as goal

pub returns : goal.returns
unfolding second_of
returns c =
    c.read_word.ensures ∙ second_in_table c.args.table.now c.args.group c.args.entry c.requires.0
