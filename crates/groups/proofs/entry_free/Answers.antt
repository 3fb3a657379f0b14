-- `groups::entry_free` meets its contract: a first byte below 128 is a first word below 2 ^ 31, whose highest bit is V.
use mathlib.Core.Path.{◌≡◌, refl, sym}
use Prim.Native.Nat.{ℕ, ◌+◌, ◌*◌, ◌/◌, ◌%◌, ◌^◌, ◌<◌}
use mathlib.Core.Bool.{Bool, true, false}
use native.Mathlib.Omega.{arith}
use Rattle.std.proofs.Common.{rules, Fits, w8}
use lib.Dec.{eqb, ltb}
use lib.ListN.{get_or}
use borrow.Author.Tests.{ltb-true, ltb-false, eq-eqb, ne_eqb}
use Rattle.words.specs.Words.{word_of, word_at}
use Rattle.entry.specs.Entry.{free}
use Rattle.groups.specs.Group.{first_at, entry_free}
use Rattle.groups.proofs.entry_free.Goals as goal

-- V is the highest bit of the first of a word's four bytes
top_bit : (a b c d : ℕ) → a < 256 → b < 256 → c < 256 → d < 256 → ltb a 128 ≡ free (word_of a b c d)
unfolding free
top_bit a b c d la lb lc ld = go (ltb a 128) refl
  where
    go : (t : Bool) → ltb a 128 ≡ t → t ≡ eqb (word_of a b c d / 2 ^ 31 % 2 ^ 1) 0
    go true e = sym (eq-eqb (word_of a b c d / 2 ^ 31 % 2 ^ 1) 0 (omega (arith, ltb-true a 128 e)))
    go false e = sym (ne_eqb (word_of a b c d / 2 ^ 31 % 2 ^ 1) 0 (λ z. omega (arith, ltb-false a 128 e)))

pub returns : goal.returns
unfolding entry_free first_at word_at
returns c =
    let at = 8 * c.args.entry in
    let group = c.args.group.now in
    let byte : (i : ℕ) → get_or group i 0 < 256 = λ i. let fits : Fits w8 (get_or group i 0) = search rules in omega (arith, fits.fits) in
    top_bit (get_or group at 0) (get_or group (at + 1) 0) (get_or group (at + 2) 0) (get_or group (at + 3) 0) (byte at) (byte (at + 1)) (byte (at + 2)) (byte (at + 3))
