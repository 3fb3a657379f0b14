-- `groups::locate` meets its contract: a table of 65,536 × 2 ^ k bytes has 2 ^ (10 + k) groups, so that its last group's number is the 10 + k ones under
-- which the hash names the two groups.
use mathlib.Core.Path.{◌≡◌}
use Prim.Native.Nat.{◌+◌, ◌-◌, ◌/◌, ◌^◌}
use native.Mathlib.Omega.{arith}
use lib.Pow.{pow-add}
use Rattle.entry.proofs.Addresses.{api_lt}
use Rattle.groups.specs.Hash.{group_number, groups_of}
use Rattle.groups.proofs.locate.Goals as goal

pub match_word-requires : goal.match_word-requires
match_word-requires c =
    let page = c.requires.2 in
    (page.vsid_lt, omega arith, rw c.api_of.ensures (api_lt _ page.index_lt))

pub returns : goal.returns
unfolding group_number groups_of
returns c k right =
    let n = 10 + k in
    let last : c.args.lent / 64 - 1 ≡ 2 ^ n - 1 = omega (arith, right, pow-add 2 10 k) in
    rw (c.groups_of-own.ensures n last, c.hash_of.ensures, c.match_word.ensures, c.api_of.ensures)
