-- `table_access::cached_search` meets its contract: a hit is what the cache has of the page, and where it has none, or none is lent, the search tells.
use mathlib.Core.Path.{◌≡◌, sym, ap, ap₂, ◌∙◌}
use mathlib.Core.Bool.{Bool}
use mathlib.Core.List.{List}
use mathlib.Core.Option.{none}
use Prim.Native.Nat.{ℕ, ◌+◌}
use native.Mathlib.Omega.{arith}
use lib.Dec.{eqb}
use lib.ListN.{length}
use Rattle.words.specs.Bits.{bits}
use Rattle.register_words.specs.Sdr1.{table_length, mask_ones}
use Rattle.groups.specs.declared.Page.{Page}
use Rattle.groups.specs.Hash.{group_number, TableOf}
use Rattle.protection.specs.Access.{storing}
use Rattle.cache.specs.Cache.{hit, found}
use Rattle.cache.proofs.None.{no_bytes, never_hit}
use Rattle.theory_calls.specs.OnBytes.{wanted_page}
use Rattle.page_calls.proofs.Searched.{locatable, AtGroups, at_groups, group_is_law, group_inside}
use Rattle.table_access.specs.declared.Found.TheVariants.{InCache}
use Rattle.table_access.proofs.Finds.{found_hit, found_table}
use Rattle.table_access.proofs.cached_search.Goals as goal
use Rattle.table_access.proofs.cached_search.Goals.{After-find, After-locate-at, Joined-cache-eq-SIZE, then-cache-eq-SIZE+in_default, else-cache-eq-SIZE}

pub locate-at-requires : goal.locate-at-requires
locate-at-requires c = rw c.page_of-page.ensures (locatable _ (wanted_page c.args.wanted) c.requires.0 c.requires.1)

-- the groups are the page's
at : (c : After-locate-at) (sdr1 : ℕ) → TableOf sdr1 (length c.args.table.now)
    → AtGroups sdr1 (wanted_page c.args.wanted) c.args.table.now c.locate-at.result
at c sdr1 of = at_groups sdr1 _ _ _ of c.requires.1 (rw c.page_of-page.ensures at c.locate-at.ensures)

-- what the cache has of the page is what it told
hit_is : (c : After-find) → let a = c.args in hit (storing a.kind) a.cache.now (wanted_page a.wanted) ≡ found c.find.result
hit_is c =
    sym (c.find.ensures ∙ ap₂ (λ (store : Bool) (page : Page). hit store c.args.cache.now page) c.is_store.ensures c.page_of-page.ensures)

pub overflow_cast-result : goal.overflow_cast-result
unfolding table_length
overflow_cast-result c =
    let (sdr1, of) = c.requires.0 in
    let right = of.right in
    let inside = group_inside sdr1 _ _ _ (at (goal.at.overflow_cast-result c).After-locate-at sdr1 of) c.is_secondary.result _ c.group.ensures in
    record { fits = omega arith }

pub returns-in-Some : goal.returns-in-Some
returns-in-Some c sdr1 of =
    let a = c.args in
    let h = c.in-Some.hit in
    let page = wanted_page a.wanted in
    let places = goal.at.returns-in-Some c in
    let group : c.group.result ≡ group_number (10 + mask_ones sdr1) (eqb (bits 25 25 h.first) 1) page
    = group_is_law sdr1 _ _ _ (at places.After-locate-at sdr1 of) _ _ c.group.ensures
    ∙ ap (λ (b : Bool). group_number (10 + mask_ones sdr1) b page) c.is_secondary.ensures in
    ap (InCache h.second) group
    ∙ sym (found_hit (mask_ones sdr1) a.kind a.table.now a.cache.now a.wanted h.first h.second (hit_is places.After-find ∙ ap found c.in-Some.is))

-- past the hit there is none: the cache has none, or none is lent
missing : (c : Joined-cache-eq-SIZE) →
    let a = c.args in
    hit (storing a.kind) a.cache.now (wanted_page a.wanted) ≡ none
missing c =
    let a = c.args in
    elim c.if-cache-eq-SIZE.branch [
      | then-cache-eq-SIZE+in_default w ↦ sym (w.find.ensures ∙ ap₂ (λ (store : Bool) (page : Page). hit store a.cache.now page) w.is_store.ensures w.page_of-page.ensures) ∙ ap found w.in_default.is
      | else-cache-eq-SIZE w ↦ ap (λ (d : List ℕ). hit (storing a.kind) d (wanted_page a.wanted)) (no_bytes _ (c.requires.2 w.if-cache-eq-SIZE.false)) ∙ never_hit _ _
    ]

pub returns : goal.returns
returns c sdr1 of =
    let a = c.args in
    c.search.ensures sdr1 of
    ∙ sym (found_table (mask_ones sdr1) a.kind a.table.now a.cache.now a.wanted (missing (goal.at.returns c).Joined-cache-eq-SIZE))
