-- Laws of edits: what an edit of a list of matches keeps, and that the edit of both groups is one pass over the table's matches in search order.
use mathlib.Core.Path.{◌≡◌, refl, sym, ap, ap₂, ◌∙◌}
use mathlib.Core.Logic.{◌≢◌}
use mathlib.Core.Bool.{Bool, true, false}
use mathlib.Core.List.{List, [], ◌∷◌, ◌++◌, foldl-append, Memᴰ}
use Prim.Native.Nat.{ℕ, ◌+◌, ◌*◌, ◌≤◌}
use native.Mathlib.Omega.{arith}
use lib.ListN.{length}
use Rattle.theory_tables.specs.Matches.{Match}
use Rattle.groups.specs.Group.{group_of, on_group, first_at, second_at, put_entry, put_at}
use Rattle.matches.specs.Search.{matches_to, group_matches, pair_matches}
use Rattle.match_edits.specs.Edit.{edited, edit_each, edit_matches, put_each}
use Rattle.match_edits.specs.declared.Edit.{Edit}
use Rattle.groups.proofs.Group.{length_group, put_same, group_other, length_on, on_on}
use Rattle.groups.proofs.Entries.{length_entry, first_other, second_other}
use Rattle.groups.proofs.Stored.{stored_length}
use Rattle.matches.proofs.Matches.{match_is, match_in}

module _ (edit : Edit) where
  -- one match more
  pub edit_more : (ms : List Match) (m : Match) (group : List ℕ)
      → edit_each edit (ms ++ (m ∷ [])) group ≡ put_entry (edit_each edit ms group) m.entry (edited edit m).0 (edited edit m).1
  unfolding edit_each
  edit_more ms m group = foldl-append (λ (b : List ℕ) (x : Match). put_entry b x.entry (edited edit x).0 (edited edit x).1) group ms (m ∷ [])

  pub length_edit : (ms : List Match) (group : List ℕ) → length (edit_each edit ms group) ≡ length group
  unfolding edit_each
  length_edit [] group = refl
  length_edit (m ∷ ms) group = length_edit ms (put_entry group m.entry (edited edit m).0 (edited edit m).1) ∙ length_entry group m.entry (edited edit m).0 (edited edit m).1

  -- an entry that no match of the list is stays
  pub edit_other : (ms : List Match) (group : List ℕ) (j : ℕ) → ((m : Match) → Memᴰ m ms → j ≢ m.entry)
      → (first_at (edit_each edit ms group) j ≡ first_at group j) × (second_at (edit_each edit ms group) j ≡ second_at group j)
  unfolding edit_each
  edit_other [] group j h = (refl, refl)
  edit_other (m ∷ ms) group j h =
      let u = (edited edit m).0 in
      let v = (edited edit m).1 in
      let r = edit_other ms (put_entry group m.entry u v) j (λ x k. h x (Memᴰ.tail k)) in
      let n = h m (Memᴰ.head refl) in
      (r.0 ∙ first_other group m.entry u v j n, r.1 ∙ second_other group m.entry u v j n)

  -- while the entries are gone through in order, the next one is as it was at the start
  pub edit_later : (b : Bool) (vsid api : ℕ) (group : List ℕ) (i : ℕ) (now : List ℕ) → now ≡ edit_each edit (matches_to b vsid api group i) group
      → (first_at now i ≡ first_at group i) × (second_at now i ≡ second_at group i)
  edit_later b vsid api group i now e =
      rw e (edit_other (matches_to b vsid api group i) group i (λ m h q. let k = (match_is b vsid api group i m h).entry_lt in omega arith))

  -- edits of matches that stand in one group are writes of entries in the table
  edits_in_table : (group : Bool → ℕ) (b : Bool) (ms : List Match) (t : List ℕ) → 64 * group b + 64 ≤ length t
      → ((m : Match) → Memᴰ m ms → m.secondary ≡ b) → on_group t (group b) (edit_each edit ms) ≡ put_each group (edited edit) ms t
  unfolding edit_each put_each on_group put_at
  edits_in_table group b [] t inside side = put_same t (group b)
  edits_in_table group b (m ∷ ms) t inside side =
      let u = (edited edit m).0 in
      let v = (edited edit m).1 in
      let next = put_at t (group b) m.entry u v in
      sym (on_on t (group b) (λ x. put_entry x m.entry u v) (edit_each edit ms) inside (λ x. length_entry x m.entry u v))
      ∙ edits_in_table group b ms next (rw (stored_length t (group b) m.entry u v inside) inside) (λ x k. side x (Memᴰ.tail k))
      ∙ ap (λ (c : Bool). put_each group (edited edit) ms (put_at t (group c) m.entry u v)) (sym (side m (Memᴰ.head refl)))

  pub length_edit_matches : (b : Bool) (vsid api : ℕ) (group : List ℕ) → length (edit_matches edit b vsid api group) ≡ length group
  unfolding edit_matches
  length_edit_matches b vsid api group = length_edit _ group

module _ (edit : Edit) (vsid api : ℕ) (group : Bool → ℕ) where
  edit_one : (b : Bool) (t : List ℕ) → 64 * group b + 64 ≤ length t
      → on_group t (group b) (edit_matches edit b vsid api) ≡ put_each group (edited edit) (group_matches b vsid api (group_of t (group b))) t
  unfolding on_group edit_matches
  edit_one b t inside =
      edits_in_table edit group b (group_matches b vsid api (group_of t (group b))) t inside
      (λ m h. ap (λ (x : Match). x.secondary) (match_in b vsid api (group_of t (group b)) m h).is_entry)

  -- the edit of a page's primary group, then of its secondary, is one pass over the page's matches in search order
  pub edit_both_each : (t : List ℕ) → ((b : Bool) → 64 * group b + 64 ≤ length t) → group true ≢ group false
      → on_group (on_group t (group false) (edit_matches edit false vsid api)) (group true) (edit_matches edit true vsid api)
      ≡ put_each group (edited edit) (pair_matches vsid api (group_of t (group false)) (group_of t (group true))) t
  unfolding put_each pair_matches on_group
  edit_both_each t inside apart =
      let whole = length_edit_matches edit false vsid api (group_of t (group false)) ∙ length_group t (group false) (inside false) in
      let next = on_group t (group false) (edit_matches edit false vsid api) in
      let kept : length next ≡ length t = length_on t (group false) (edit_matches edit false vsid api) (inside false) whole in
      let same : group_of next (group true) ≡ group_of t (group true) = group_other t (group false) (edit_matches edit false vsid api (group_of t (group false))) (inside false) whole (group true) apart in
      let first = group_matches false vsid api (group_of t (group false)) in
      let second = group_matches true vsid api (group_of t (group true)) in
      edit_one true next (rw kept (inside true))
      ∙ ap₂ (λ (b u : List ℕ). put_each group (edited edit) (group_matches true vsid api b) u) same (edit_one false t (inside false))
      ∙ sym (foldl-append (λ (u : List ℕ) (m : Match). put_at u (group m.secondary) m.entry (edited edit m).0 (edited edit m).1) t first second)
