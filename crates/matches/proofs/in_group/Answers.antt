-- `matches::in_group` meets its contract: the part that is lent is the group, and the word that is wanted there has the group's H.
use mathlib.Core.Path.{◌≡◌, ap, ◌∙◌}
use mathlib.Core.List.{List, ◌++◌}
use Prim.Native.Nat.{ℕ, ◌+◌, ◌-◌, ◌*◌}
use borrow.Rule.Slice.PartMut.{mid_of}
use Rattle.std.proofs.Common.{rules}
use Rattle.groups.specs.Group.{group_of, free_after}
use Rattle.groups.proofs.Lent.{lent_group}
use Rattle.matches.specs.Search.{group_matches, told}
use Rattle.matches.proofs.Matches.{h_is}
use Rattle.matches.proofs.in_group.Goals as goal

pub returns : goal.returns
returns c vsid api ms free wants few was =
    let a = c.args in
    let t = a.table.now in
    let g = c.group-at.result in
    let lent : c.unwrap-group.result.now ≡ mid_of (g * 64) (g * 64 + 64 - g * 64) t = search rules in
    c.search.ensures a.secondary vsid api ms free (wants.0, wants.1, c.wanted_in.ensures vsid api wants.0 wants.1 wants.2) (ap (λ (h : ℕ). 8 * h) (c.from-from.ensures ∙ h_is a.secondary)) few was
    ∙ ap (λ (group : List ℕ). told (ms ++ group_matches a.secondary vsid api group) (free_after free group))
    (lent ∙ lent_group t g ∙ ap (group_of t) c.group-at.ensures)
