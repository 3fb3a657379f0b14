-- `match_edits::edit_group` meets its contract. The loop's invariant: the matches among the entries passed, as the group was at the start, are edited, and
-- the word has their marks.
use Prim.Native.Nat.{ℕ, ◌*◌, ◌^◌, ◌<◌}
use lib.Dec.{eqb}
use Rattle.words.specs.Words.{swapped, word_at}
use Rattle.match_edits.specs.declared.Edit.{Edit}
use mathlib.Core.Path.{◌≡◌, refl, sym, ap, ap₂, ◌∙◌}
use mathlib.Core.Bool.{Bool}
use mathlib.Core.List.{List}
use native.Mathlib.Omega.{arith}
use Rattle.entry.specs.Entry.{matches}
use Rattle.theory_tables.specs.Matches.{Match, matches_below}
use Rattle.groups.specs.Group.{first_at, second_at, put_entry}
use Rattle.matches.specs.Search.{h_of, WantedWord, matches_to, group_matches, marks_of}
use Rattle.matches.proofs.Matches.{wanted_matches, entry_at, matches_more, matches_same}
use Rattle.matches.proofs.Merged.{marks_none, marks_more}
use Rattle.match_edits.specs.Edit.{edited_words, edited, edit_each, edit_matches}
use Rattle.match_edits.proofs.Edits.{edit_more, edit_later}
use Rattle.match_edits.proofs.edit_group.Goals as goal
use Rattle.match_edits.proofs.edit_group.Goals.{then-is_word, else-is_word}

pub loop-entry-init : goal.loop-entry-init
unfolding edit_each matches_below
loop-entry-init c = λ secondary vsid api wants. (refl, sym (marks_none _))

-- a turn of the loop, by its values
module _ (edit : Edit) (start : List ℕ) (wanted i : ℕ) (group : List ℕ) (test : Bool) (secondary : Bool) (vsid api : ℕ) (wants : WantedWord secondary vsid api wanted)
    (so_far : group ≡ edit_each edit (matches_to secondary vsid api start i) start) where
  -- the words that are read are the entry's at the start: no edit has reached it
  kept : (first_at group i ≡ first_at start i) × (second_at group i ≡ second_at start i)
  kept = edit_later edit secondary vsid api start i group so_far

  -- the test is whether entry i matches
  tested : (word_at group (8 * i) < 2 ^ 32) × ((w : ℕ) → w < 2 ^ 32 → wanted ≡ swapped w → test ≡ eqb (word_at group (8 * i)) w)
      → test ≡ matches vsid (h_of secondary) api (first_at start i)
  unfolding first_at
  tested is = wanted_matches secondary vsid api _ _ _ wants is ∙ ap (matches vsid (h_of secondary) api) kept.0

pub loop-entry-preserved : goal.loop-entry-preserved
unfolding first_at second_at edited
loop-entry-preserved c =
    let a = c.args in
    let g = a.group.now in
    let i = c.loop-entry.entry in
    elim c.if-is_word.branch [
      | then-is_word w ↦ λ secondary vsid api wants.
          let so_far = c.loop-entry.invariant secondary vsid api wants in
          let x = entry_at secondary g i in
          let own = kept a.edit g a.wanted i _ c.is_word.result secondary vsid api wants so_far.0 in
          let first : w.read_word-first.result ≡ first_at g i = w.read_word-first.ensures ∙ own.0 in
          let second : w.read_word-second.result ≡ second_at g i = w.read_word-second.ensures ∙ own.1 in
          let words : (w.edited_words-made.result.first, w.edited_words-made.result.second) ≡ edited a.edit x =
          w.edited_words-made.ensures ∙ ap₂ (edited_words a.edit) first second in
          let more = matches_more secondary vsid api g i (sym (tested a.edit g a.wanted i _ c.is_word.result secondary vsid api wants so_far.0 c.is_word.ensures) ∙ w.if-is_word.true) in (
            w.group-is ∙ w.write_entry.ensures ∙ ap₂ (λ (b : List ℕ) (uv : ℕ × ℕ). put_entry b i uv.0 uv.1) so_far.0 words
                ∙ sym (ap (λ (ms : List Match). edit_each a.edit ms g) more ∙ edit_more _ _ _ _),
            w.merged-is ∙ w.with_marks-merged.ensures
                ∙ marks_more (matches_to secondary vsid api g i) x a.word _ _ _ _ so_far.1 second w.is_referenced-r.ensures w.is_changed-c.ensures
                ∙ sym (ap (λ (ms : List Match). marks_of ms a.word) more),
          )
      | else-is_word w ↦ λ secondary vsid api wants.
          let so_far = c.loop-entry.invariant secondary vsid api wants in
          let same = matches_same secondary vsid api g i (sym (tested a.edit g a.wanted i _ c.is_word.result secondary vsid api wants so_far.0 c.is_word.ensures) ∙ w.if-is_word.false) in (
            w.group-is ∙ so_far.0 ∙ sym (ap (λ (ms : List Match). edit_each a.edit ms g) same),
            w.merged-is ∙ so_far.1 ∙ sym (ap (λ (ms : List Match). marks_of ms a.word) same),
          )
    ]

pub returns : goal.returns
unfolding edit_matches group_matches
returns c secondary vsid api wants = let e : c.loop-entry.entry ≡ 8 = omega arith in rw e at (c.loop-entry.invariant secondary vsid api wants)
