-- `match_edits::edit_both` meets its contract: the two groups are edited one after the other; the second is as it was at the start.
use Prim.Native.Nat.{ℕ, ◌+◌, ◌*◌, ◌≤◌}
use mathlib.Core.Path.{◌≡◌, sym, ap, ap₂, ◌∙◌}
use mathlib.Core.Bool.{Bool, true, false}
use mathlib.Core.List.{List}
use lib.ListN.{length}
use Rattle.theory_tables.specs.Matches.{Match}
use Rattle.groups.specs.Group.{group_of, on_group}
use Rattle.groups.proofs.Group.{group_other, length_group}
use Rattle.matches.specs.Search.{group_matches, pair_matches, marks_of}
use Rattle.matches.proofs.Merged.{marks_append}
use Rattle.match_edits.specs.Edit.{edit_matches}
use Rattle.match_edits.specs.declared.Edit.{Edit}
use Rattle.match_edits.proofs.Edits.{length_edit_matches}
use Rattle.match_edits.proofs.edit_both.Goals as goal

-- the edit of one group leaves another
other_stays : (edit : Edit) (vsid api : ℕ) (t : List ℕ) (p s : ℕ) → 64 * p + 64 ≤ length t → (p ≡ s → ⊥)
    → group_of (on_group t p (edit_matches edit false vsid api)) s ≡ group_of t s
unfolding on_group
other_stays edit vsid api t p s inside apart =
    group_other t p (edit_matches edit false vsid api (group_of t p)) inside (length_edit_matches edit false vsid api (group_of t p) ∙ length_group t p inside) s (λ e. apart (sym e))

pub returns : goal.returns
unfolding pair_matches
returns c vsid api wants =
    let a = c.args in
    let t = a.table.now in
    let p = a.page.primary in
    let s = a.page.secondary in
    let own = c.edit_in-word.ensures vsid api wants in
    let further = c.edit_in.ensures vsid api wants in
    let matching : Bool → List ℕ → List Match = λ b group. group_matches b vsid api group in (
      further.0 ∙ ap (λ (u : List ℕ). on_group u s (edit_matches a.edit true vsid api)) own.0,
      further.1
          ∙ ap₂ marks_of (ap (matching true) (ap (λ (u : List ℕ). group_of u s) own.0 ∙ other_stays a.edit vsid api t p s c.requires.0 c.requires.2)) own.1
          ∙ sym (marks_append (matching false (group_of t p)) (matching true (group_of t s)) a.second),
    )
