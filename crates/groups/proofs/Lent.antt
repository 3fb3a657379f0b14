-- A group lent as a part of the table is that group, and the table when the part is back has what the callee made of the group in its place.
use mathlib.Core.Path.{◌≡◌, sym, ap, ◌∙◌}
use mathlib.Core.List.{List, ◌++◌}
use Prim.Native.Nat.{ℕ, ◌+◌, ◌*◌, ◌-◌, ◌<◌, ◌≤◌}
use native.Mathlib.Nat.{add_assoc}
use native.Mathlib.Omega.{arith}
use borrow.Rule.Slice.PartMut.{put_mid, mid_of, Post-is}
use lib.ListN.{take, drop}
use Rattle.words.specs.Words.{word_at}
use Rattle.groups.specs.Group.{group_of, put_group, on_group, first_at, second_at}
use Rattle.groups.proofs.Group.{byte_of_group}

pub lent_group : (t : List ℕ) (g : ℕ) → mid_of (g * 64) (g * 64 + 64 - g * 64) t ≡ group_of t g
unfolding group_of
lent_group t g =
    let width : g * 64 + 64 - g * 64 ≡ 64 = omega arith in
    let from : g * 64 ≡ 64 * g = omega arith in
    rw width (ap (λ (a : ℕ). take 64 (drop a t)) from)

back_group : (t : List ℕ) (g : ℕ) (b : List ℕ) → put_mid (g * 64) (g * 64 + 64 - g * 64) t b ≡ put_group t g b
unfolding put_group
back_group t g b =
    let from : g * 64 ≡ 64 * g = omega arith in
    ap (λ (r : List ℕ). take (g * 64) t ++ (b ++ r)) (Post-is (g * 64) (g * 64 + 64) t (omega arith))
    ∙ ap (λ (a : ℕ). take a t ++ (b ++ drop (a + 64) t)) from

-- a callee that was lent the group and left f of it has left the table with f done to the group
pub back_on : (t : List ℕ) (g : ℕ) (f : List ℕ → List ℕ) (b : List ℕ) → b ≡ f (mid_of (g * 64) (g * 64 + 64 - g * 64) t)
    → put_mid (g * 64) (g * 64 + 64 - g * 64) t b ≡ on_group t g f
unfolding on_group
back_on t g f b e = back_group t g b ∙ ap (put_group t g) (e ∙ ap f (lent_group t g))

-- a word of a group is the table's
word_of_group : (t : List ℕ) (g a : ℕ) → a + 4 ≤ 64 → word_at (group_of t g) a ≡ word_at t (64 * g + a)
unfolding word_at
word_of_group t g a h =
    let b₀ = byte_of_group t g a (omega arith) in
    let b₁ = byte_of_group t g (a + 1) (omega arith) in
    let b₂ = byte_of_group t g (a + 2) (omega arith) in
    let b₃ = byte_of_group t g (a + 3) (omega arith) in
    simp (b₀, b₁, b₂, b₃, add_assoc)

-- an entry's first word, read in the table
pub first_in_table : (t : List ℕ) (g i : ℕ) → i < 8 → word_at t (g * 64 + 8 * i) ≡ first_at (group_of t g) i
unfolding first_at
first_in_table t g i h =
    let from : g * 64 + 8 * i ≡ 64 * g + 8 * i = omega arith in
    ap (word_at t) from ∙ sym (word_of_group t g (8 * i) (omega arith))

-- an entry's second word, read in the table
pub second_in_table : (t : List ℕ) (g i : ℕ) → i < 8 → word_at t (g * 64 + 8 * i + 4) ≡ second_at (group_of t g) i
unfolding second_at
second_in_table t g i h =
    let from : g * 64 + 8 * i + 4 ≡ 64 * g + (8 * i + 4) = omega arith in
    ap (word_at t) from ∙ sym (word_of_group t g (8 * i + 4) (omega arith))
