-- The cases of a call on bytes: refused by its arguments or not, and a page's matches by the two groups of 64 bytes that the code searches.
use mathlib.Core.Path.{◌≡◌, refl}
use mathlib.Core.Bool.{true, false}
use mathlib.Core.List.{List}
use Prim.Native.Nat.{ℕ, ◌+◌}
use lib.ListN.{length}
use borrow.Author.Tests.{eq-eqb, ne_eqb}
use Rattle.entry.specs.Entry.{api_of}
use Rattle.register_words.specs.Sdr1.{mask_ones}
use Rattle.groups.specs.declared.Page.{Page}
use Rattle.groups.specs.Hash.{group_number}
use Rattle.groups.specs.Group.{group_of, first_of, second_of}
use Rattle.matches.specs.Search.{group_matches, pair_matches}
use Rattle.theory_tables.specs.Layout.{matches_in, matches_of}
use Rattle.theory_calls.specs.Request.{Request, sdr1_in, fed}
use Rattle.theory_calls.specs.Rules.{refusal}
use Rattle.theory_calls.specs.Answers.{answer_refused}
use Rattle.theory_calls.specs.OnBytes.{layout, ended, bytes_do, on_bytes}

module _ (request : Request (List ℕ)) (t : List ℕ) where
  -- the arguments do not refuse the call
  pub taken : refusal (fed request) (length t) ≡ 0 → on_bytes request t ≡ bytes_do (mask_ones (sdr1_in request)) request t
  unfolding on_bytes
  taken e = rw (eq-eqb (refusal (fed request) (length t)) 0 e)

  -- the arguments refuse the call, which leaves the table
  pub refused : (number : ℕ) → refusal (fed request) (length t) ≡ number → (number ≡ 0 → ⊥)
      → on_bytes request t ≡ ended number t (answer_refused (λ lent. lent) request number)
  unfolding on_bytes
  refused number e n = rw (e, ne_eqb number 0 n)

-- the matches of a page, by its two groups' bytes
pub matches_by_groups : (k : ℕ) (t : List ℕ) (page : Page)
    → matches_of (layout k) t page
    ≡ pair_matches page.vsid (api_of page.index) (group_of t (group_number (10 + k) false page)) (group_of t (group_number (10 + k) true page))
unfolding matches_of matches_in pair_matches group_matches first_of second_of
matches_by_groups k t page = refl
