-- `match_edits::edit_in` meets its contract: the part that is lent is the group, and the word that is wanted there has the group's H.
use mathlib.Core.Path.{ap, ◌∙◌}
use mathlib.Core.List.{List}
use Prim.Native.Nat.{ℕ}
use Rattle.groups.specs.Group.{group_of, on_group}
use Rattle.groups.proofs.Lent.{lent_group, back_on}
use Rattle.matches.specs.Search.{group_matches, marks_of}
use Rattle.match_edits.specs.Edit.{edit_matches}
use Rattle.match_edits.proofs.edit_in.Goals as goal

pub returns : goal.returns
returns c vsid api wants =
    let a = c.args in
    let t = a.table.now in
    let g = c.group-from.result in
    let edited = edit_matches a.edit a.secondary vsid api in
    let done = c.edit_group.ensures a.secondary vsid api (wants.0, wants.1, c.wanted_in.ensures vsid api wants.0 wants.1 wants.2) in (
      back_on t g edited _ done.0 ∙ ap (λ (n : ℕ). on_group t n edited) c.group-from.ensures,
      done.1 ∙ ap (λ (group : List ℕ). marks_of (group_matches a.secondary vsid api group) a.word) (lent_group t g ∙ ap (group_of t) c.group-from.ensures),
    )
