-- What the calls on one page find in its two groups, what an edit of its matches leaves, and what unmap and look answer.
use Rattle.std.specs.Prelude.{ℕ, ◌+◌, false, true, List, ◌∷◌, Result}
use Rattle.std.specs.Result.{result_unwrap_or}
use Rattle.numbers.specs.Numbers.{done, refused_no_match}
use Rattle.numbers.specs.Refused.{result_number}
use Rattle.numbers.specs.declared.Refusal.{Refusal}
use Rattle.entry.specs.Entry.{api_of}
use Rattle.groups.specs.declared.Page.{Page}
use Rattle.groups.specs.Hash.{group_number}
use Rattle.groups.specs.Group.{group_of}
use Rattle.matches.specs.Search.{in_both, merged}
use Rattle.matches.specs.declared.Told.{Told}
use Rattle.match_edits.specs.Edit.{edited}
use Rattle.match_edits.specs.declared.Edit.{Edit}
use Rattle.theory_tables.specs.Layout.{matches_of, overwrite_each}
use Rattle.theory_calls.specs.Answers.{word_answer}
use Rattle.theory_calls.specs.OnBytes.{layout, by_matches}

-- what the search of a page's two groups tells, in a table for a mask of k ones
abbrev pub page_told : ℕ → Page → List ℕ → Told
page_told k page t =
    in_both page.vsid (api_of page.index) (group_of t (group_number (10 + k) false page)) (group_of t (group_number (10 + k) true page))

-- each match of a page edited: the number that is handed back, the table, and the first match's second word as it was, with the marks of all
unfoldable pub page_edited : ℕ → Page → Edit → List ℕ → ℕ × (List ℕ × ℕ)
page_edited k page edit t =
    by_matches (matches_of (layout k) t page) (refused_no_match, (t, 0))
    (λ x xs. (done, (overwrite_each (layout k) page (edited edit) (x ∷ xs) t, merged x xs)))

-- the 16 bytes that unmap and look answer: the number that is handed back, and the second entry word, 0 on a refusal
abbrev pub page_answer : Result ℕ Refusal → List ℕ
page_answer told = word_answer (result_number told) (result_unwrap_or told 0)
