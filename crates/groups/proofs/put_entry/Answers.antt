-- `groups::put_entry` meets its contract: the part that is lent is the group.
use Rattle.groups.specs.Group.{put_entry, put_at}
use Rattle.groups.proofs.Lent.{back_on}
use Rattle.groups.proofs.put_entry.Goals as goal

pub returns : goal.returns
unfolding put_at
returns c =
    let a = c.args in
    back_on _ a.group (λ group. put_entry group a.entry a.first a.second) _ c.write_entry.ensures
