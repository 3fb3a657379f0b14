-- `matches::in_primary` meets its contract: nothing was told before, so that what the group tells is all.
use mathlib.Core.Path.{refl}
use mathlib.Core.List.{[]}
use native.Mathlib.Omega.{arith}
use Rattle.matches.specs.Search.{told, in_primary}
use Rattle.matches.proofs.in_primary.Goals as goal

pub returns : goal.returns
unfolding told in_primary
returns c vsid api wants = c.in_group.ensures vsid api [] 0 wants (omega arith) refl
