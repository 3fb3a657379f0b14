-- `match_edits::edit_page` meets its contract: where there is no other match, the edit of the first one is that of all, and its word has their marks.
use mathlib.Core.Path.{◌≡◌, sym, ap, ap₂, ◌∙◌}
use mathlib.Core.Bool.{cond}
use mathlib.Core.List.{List, [], ◌∷◌}
use denote.Enum.Bare.{sameb}
use Rattle.theory_tables.specs.Matches.{Match}
use Rattle.groups.specs.Group.{group_of, second_of}
use Rattle.groups.specs.declared.Place.{Place}
use Rattle.matches.specs.Search.{pair_matches, marks_of, merged, place_of}
use Rattle.matches.specs.contracts.Others.{the_type}
use Rattle.matches.specs.declared.FirstMatch.{FirstMatch}
use Rattle.matches.specs.declared.Others.TheVariants.{Absent}
use Rattle.matches.proofs.Found.{found_first, absent_alone}
use Rattle.matches.proofs.Merged.{merged_one}
use Rattle.match_edits.specs.Edit.{edit_at}
use Rattle.match_edits.proofs.Alone.{entry_is, edit_alone}
use Rattle.match_edits.proofs.edit_page.Goals as goal

pub returns-then-eq : goal.returns-then-eq
unfolding merged
returns-then-eq c vsid api wants found =
    let a = c.args in
    let t = a.table.now in
    let p = a.page.primary in
    let s = a.page.secondary in
    let pre = c.requires in
    let (m, (others, (all, first))) = found_first (pair_matches vsid api (group_of t p) (group_of t s)) a.first found in
    let none : others ≡ [] =
    absent_alone m others (sym (ap (λ (f : FirstMatch). sameb the_type f.others Absent) first) ∙ sym c.eq.ensures ∙ c.if-eq.true) in
    let are : pair_matches vsid api (group_of t p) (group_of t s) ≡ m ∷ [] = all ∙ ap (λ (ms : List Match). m ∷ ms) none in
    let place : a.first.place ≡ place_of m = ap (λ (f : FirstMatch). f.place) first in
    let group : c.group-group.result ≡ cond m.secondary s p = c.group-group.ensures ∙ ap (λ (x : Place). cond x.secondary s p) place in
    let entry : a.first.place.entry ≡ m.entry = ap (λ (x : Place). x.entry) place in (
      c.edit_entry.ensures.0 ∙ ap₂ (edit_at a.edit t) group entry ∙ edit_alone a.edit vsid api p s t m are pre.1 pre.2 pre.3,
      c.edit_entry.ensures.1
          ∙ ap₂ (second_of t) group entry
          ∙ (entry_is vsid api p s t m [] are).2
          ∙ sym (merged_one m)
          ∙ sym (ap₂ marks_of are (ap (λ (f : FirstMatch). f.second) first)),
    )
