-- The edit of both groups where a page has one match: that entry is edited and nothing else, and the marks of one match are its own.
use mathlib.Core.Path.{◌≡◌, refl, sym, ap, ap₂, ◌∙◌, subst}
use mathlib.Core.Bool.{Bool, true, false, cond}
use mathlib.Core.List.{List, [], ◌∷◌, Memᴰ}
use mathlib.Core.Logic.{◌≢◌}
use Prim.Native.Nat.{ℕ, ◌+◌, ◌*◌, ◌≤◌, ◌<◌}
use lib.ListN.{length}
use Rattle.theory_tables.specs.Matches.{Match}
use Rattle.groups.specs.Group.{group_of, first_at, second_at, first_of, second_of, put_at}
use Rattle.matches.specs.Search.{pair_matches}
use Rattle.matches.proofs.Matches.{match_entry}
use Rattle.match_edits.specs.Edit.{edited_words, edited, edit_at, edit_pair, put_each}
use Rattle.match_edits.specs.declared.Edit.{Edit}
use Rattle.match_edits.proofs.Edits.{edit_both_each}

-- a test of both groups
pub either : (P : ℕ → Type 0) (primary secondary : ℕ) → P primary → P secondary → (b : Bool) → P (cond b secondary primary)
either P primary secondary p s true = s
either P primary secondary p s false = p

module _ (vsid api primary secondary : ℕ) (t : List ℕ) (m : Match) (ms : List Match) (are : pair_matches vsid api (group_of t primary) (group_of t secondary) ≡ m ∷ ms) where
  -- the number of the first match's group
  abbrev pub group_is : ℕ
  group_is = cond m.secondary secondary primary

  -- its entry is one of eight, and its words are the table's
  pub entry_is : (m.entry < 8) × (first_of t group_is m.entry ≡ m.first) × (second_of t group_is m.entry ≡ m.second)
  unfolding first_of second_of
  entry_is =
      let (lt, own) = match_entry vsid api (group_of t primary) (group_of t secondary) m (subst (Memᴰ m) (sym are) (Memᴰ.head refl)) in
      (lt, first m.secondary ∙ sym (ap (λ (x : Match). x.first) own), second m.secondary ∙ sym (ap (λ (x : Match). x.second) own))
    where
      first : (b : Bool) → first_of t (cond b secondary primary) m.entry ≡ first_at (cond b (group_of t secondary) (group_of t primary)) m.entry
      first true = refl
      first false = refl

      second : (b : Bool) → second_of t (cond b secondary primary) m.entry ≡ second_at (cond b (group_of t secondary) (group_of t primary)) m.entry
      second true = refl
      second false = refl

-- one match alone
pub edit_alone : (edit : Edit) (vsid api primary secondary : ℕ) (t : List ℕ) (m : Match) → pair_matches vsid api (group_of t primary) (group_of t secondary) ≡ m ∷ []
    → 64 * primary + 64 ≤ length t → 64 * secondary + 64 ≤ length t → primary ≢ secondary
    → edit_at edit t (cond m.secondary secondary primary) m.entry ≡ edit_pair edit vsid api primary secondary t
unfolding put_each edited
edit_alone edit vsid api primary secondary t m are p s apart =
    let own : Bool → ℕ = λ b. cond b secondary primary in
    let words = entry_is vsid api primary secondary t m [] are in
    ap₂ (λ (first second : ℕ). put_at t (own m.secondary) m.entry (edited_words edit first second).0 (edited_words edit first second).1) words.1 words.2
    ∙ sym (edit_both_each edit vsid api own t (either (λ g. 64 * g + 64 ≤ length t) primary secondary p s) (λ e. apart (sym e))
    ∙ ap (λ (l : List Match). put_each own (edited edit) l t) are)
