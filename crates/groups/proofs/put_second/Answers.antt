-- `groups::put_second` meets its contract: the first word that is read is the entry's.
use Prim.Native.Nat.{ℕ}
use mathlib.Core.Path.{ap, ◌∙◌}
use Rattle.groups.specs.Group.{first_of, put_at}
use Rattle.groups.proofs.Lent.{first_in_table}
use Rattle.groups.proofs.put_second.Goals as goal

pub returns : goal.returns
unfolding first_of
returns c =
    let a = c.args in
    c.put_entry.ensures
    ∙ ap (λ (first : ℕ). put_at a.table.now a.group a.entry first a.second)
    (c.read_word-first.ensures ∙ first_in_table a.table.now a.group a.entry c.requires.0)
