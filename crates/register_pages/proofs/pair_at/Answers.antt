-- `register_pages::pair_at` meets its contract: the bytes of a side's pairs lie on the page.
use Prim.Native.Nat.{◌+◌, ◌*◌, ◌≤◌}
use native.Mathlib.Omega.{arith}
use Rattle.register_pages.proofs.Page.{pair_fits}
use Rattle.register_pages.proofs.pair_at.Goals as goal
use Rattle.register_pages.proofs.pair_at.Goals.{After-side_at}

on_page : (c : After-side_at) → let a = c.args in c.side_at.result + 8 * a.i + 8 ≤ a.size
on_page c =
    rw c.side_at.ensures (pair_fits c.args.size c.requires.0 c.args.side c.args.i c.requires.1)

pub overflow_mul-result : goal.overflow_mul-result
overflow_mul-result c = omega (arith, on_page (goal.at.overflow_mul-result c).After-side_at)

pub overflow_add-result : goal.overflow_add-result
overflow_add-result c = omega (arith, on_page (goal.at.overflow_add-result c).After-side_at)

pub returns : goal.returns
returns c = (rw c.side_at.ensures, on_page (goal.at.returns c).After-side_at)
