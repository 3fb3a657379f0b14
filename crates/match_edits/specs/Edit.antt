-- What unmap and protect do to each match of a page (rules 6).
use Rattle.std.specs.Prelude.{ℕ, Bool, true, false}
use mathlib.Core.List.{List, foldl}
use Rattle.entry.specs.Entry.{with_pp}
use Rattle.theory_tables.specs.Matches.{Match}
use Rattle.groups.specs.Group.{put_entry, put_at, first_of, second_of, on_group}
use Rattle.matches.specs.Search.{group_matches}
use Rattle.match_edits.specs.declared.Edit.{Edit}
use Rattle.match_edits.specs.declared.Edit.TheVariants.{Clear, Protect}

-- the words that an edit makes of an entry's two: eight zero bytes, or another PP
abbrev pub edited_words : Edit → ℕ → ℕ → ℕ × ℕ
edited_words Clear first second = (0, 0)
edited_words (Protect pp) first second = (first, with_pp pp.value second)

unfoldable pub edited : Edit → Match → ℕ × ℕ
edited edit m = edited_words edit m.first m.second

-- a table with entry i of its group g edited
abbrev pub edit_at : Edit → List ℕ → ℕ → ℕ → List ℕ
edit_at edit t g i = let words = edited_words edit (first_of t g i) (second_of t g i) in put_at t g i words.0 words.1

-- a group with each match of a list edited
unfoldable pub edit_each : Edit → List Match → List ℕ → List ℕ
edit_each edit ms group = foldl (λ b m. put_entry b m.entry (edited edit m).0 (edited edit m).1) group ms

-- a group with each of its own matches edited
unfoldable pub edit_matches : Edit → Bool → ℕ → ℕ → List ℕ → List ℕ
edit_matches edit secondary vsid api group = edit_each edit (group_matches secondary vsid api group) group

-- a table with each match of a page's primary group edited, then each of its secondary
abbrev pub edit_pair : Edit → ℕ → ℕ → ℕ → ℕ → List ℕ → List ℕ
edit_pair edit vsid api primary secondary t = on_group (on_group t primary (edit_matches edit false vsid api)) secondary (edit_matches edit true vsid api)

-- a table with each match of a list replaced by two words of it; `group` tells the number of a page's primary or secondary group
unfoldable pub put_each : (Bool → ℕ) → (Match → ℕ × ℕ) → List Match → List ℕ → List ℕ
put_each group words ms t = foldl (λ u m. put_at u (group m.secondary) m.entry (words m).0 (words m).1) t ms
