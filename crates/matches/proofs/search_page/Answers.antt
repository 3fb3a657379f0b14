-- `matches::search_page` meets its contract: nothing was told before the primary group, whose matches and free entries stand before the secondary's.
use mathlib.Core.Path.{refl}
use mathlib.Core.Bool.{false}
use mathlib.Core.List.{[]}
use native.Mathlib.Omega.{arith}
use Rattle.groups.proofs.Free.{free_one}
use Rattle.groups.specs.Group.{group_of, free_after}
use Rattle.matches.specs.Search.{group_matches, pair_matches, told, in_primary, in_both}
use Rattle.matches.proofs.search_page.Goals as goal

pub returns : goal.returns
unfolding told in_primary in_both pair_matches
returns c vsid api wants =
    let primary = group_of c.args.table.now c.args.page.primary in
    c.in_group.ensures vsid api (group_matches false vsid api primary) (free_after 0 primary) wants (free_one primary) (c.in_primary-primary.ensures vsid api wants)
