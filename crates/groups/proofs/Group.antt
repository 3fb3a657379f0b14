-- Laws of a table's groups: a group that is put is read back, every other byte stays, and bytes stay bytes.
use mathlib.Core.Path.{◌≡◌, sym, ap, ap₂, ◌∙◌}
use mathlib.Core.Logic.{◌≢◌, ⊎_elim}
use mathlib.Core.List.{List, [], ◌∷◌, ◌++◌, append_assoc}
use Prim.Native.Nat.{ℕ, zero, suc, ◌+◌, ◌*◌, ◌-◌, ◌^◌, ◌<◌, ◌≤◌}
use native.Mathlib.Nat.{add-suc}
use native.Mathlib.Omega.{arith}
use lib.Dec.{lit<}
use lib.ListN.{length, get_or, set, take, drop, length-append, length-take, length-drop, take-append-drop}
use lib.Seq.{take_at, drop_at, drop-drop, take-append-le, drop-append-le, length-take-le, drop-set-add, take-set-lt, take-set-le, drop-set-lt, get_or-take, get_or-drop, sets}
use Rattle.words.proofs.Tests.{three}
use Rattle.words.proofs.Words.{Bytes}
use Rattle.groups.specs.Group.{group_of, put_group, on_group}

pub length_group : (t : List ℕ) (g : ℕ) → 64 * g + 64 ≤ length t → length (group_of t g) ≡ 64
unfolding group_of
length_group t g h = length-take-le 64 (drop (64 * g) t) (rw length-drop (omega arith))

pub byte_of_group : (t : List ℕ) (g k : ℕ) → k < 64 → get_or (group_of t g) k 0 ≡ get_or t (64 * g + k) 0
unfolding group_of
byte_of_group t g k h = get_or-take 64 (drop (64 * g) t) k 0 h ∙ get_or-drop (64 * g) t k 0

-- a group put back as it was
pub put_same : (t : List ℕ) (g : ℕ) → put_group t g (group_of t g) ≡ t
unfolding group_of put_group
put_same t g =
    ap (λ (r : List ℕ). take (64 * g) t ++ (take 64 (drop (64 * g) t) ++ r)) (sym (drop-drop 64 (64 * g) t))
    ∙ ap (λ (r : List ℕ). take (64 * g) t ++ r) (take-append-drop 64 (drop (64 * g) t))
    ∙ take-append-drop (64 * g) t

-- a group before byte a is that of the first a bytes
before : (t r : List ℕ) (a j : ℕ) → 64 * j + 64 ≤ a → a ≤ length t → group_of (take a t ++ r) j ≡ take 64 (drop (64 * j) (take a t))
unfolding group_of
before t r a j h k =
    let n : length (take a t) ≡ a = length-take-le a t k in
    ap (take 64) (drop-append-le (64 * j) (take a t) r (omega arith))
    ∙ take-append-le 64 (drop (64 * j) (take a t)) r (rw length-drop (omega arith))

past : (t : List ℕ) (e k : ℕ) → e ≤ k → drop k t ≡ drop (k - e) (drop e t)
past t e k h = let s : e + (k - e) ≡ k = omega arith in sym (drop-drop (k - e) e t ∙ ap (λ (n : ℕ). drop n t) s)

module _ (t : List ℕ) (g : ℕ) (b : List ℕ) (inside : 64 * g + 64 ≤ length t) (whole : length b ≡ 64) where
  pub length_put : length (put_group t g b) ≡ length t
  unfolding put_group
  length_put = simp (length-append, length-take, length-drop) (omega arith)

  head : length (take (64 * g) t) ≡ 64 * g
  head = length-take-le (64 * g) t (omega arith)

  -- the group that was put
  pub group_same : group_of (put_group t g b) g ≡ b
  unfolding group_of put_group
  group_same = ap (take 64) (drop_at (take (64 * g) t) (b ++ drop (64 * g + 64) t) (64 * g) head) ∙ take_at b (drop (64 * g + 64) t) 64 whole

  -- the bytes before it and behind it
  kept_before : take (64 * g) (put_group t g b) ≡ take (64 * g) t
  unfolding put_group
  kept_before = take_at (take (64 * g) t) (b ++ drop (64 * g + 64) t) (64 * g) head

  kept_behind : drop (64 * g + 64) (put_group t g b) ≡ drop (64 * g + 64) t
  unfolding put_group
  kept_behind =
      ap (drop (64 * g + 64)) (sym (append_assoc (take (64 * g) t) b (drop (64 * g + 64) t)))
      ∙ drop_at (take (64 * g) t ++ b) (drop (64 * g + 64) t) (64 * g + 64) (length-append (take (64 * g) t) b ∙ omega (arith, head))

  -- another group stays
  pub group_other : (j : ℕ) → j ≢ g → group_of (put_group t g b) j ≡ group_of t j
  unfolding group_of put_group
  group_other j apart =
      ⊎_elim
      (λ m.
      before t (b ++ drop (64 * g + 64) t) (64 * g) j (omega arith) (omega arith)
      ∙ sym (before t (drop (64 * g) t) (64 * g) j (omega arith) (omega arith))
      ∙ ap (λ (x : List ℕ). group_of x j) (take-append-drop (64 * g) t))
      (λ r. ⊎_elim (λ e. absurd (apart e))
      (λ m.
      ap (take 64)
      (past (put_group t g b) (64 * g + 64) (64 * j) (omega arith)
      ∙ ap (drop (64 * j - (64 * g + 64))) kept_behind
      ∙ sym (past t (64 * g + 64) (64 * j) (omega arith))))
      r)
      (three j g)

  -- of two groups put in one place the second stays
  pub put_put : (d : List ℕ) → put_group (put_group t g b) g d ≡ put_group t g d
  unfolding put_group
  put_put d = ap₂ (λ (x y : List ℕ). x ++ (d ++ y)) kept_before kept_behind

-- two things done to one group, one after the other
pub on_on : (t : List ℕ) (g : ℕ) (f h : List ℕ → List ℕ) → 64 * g + 64 ≤ length t → ((b : List ℕ) → length (f b) ≡ length b)
    → on_group (on_group t g f) g h ≡ on_group t g (λ b. h (f b))
unfolding on_group
on_on t g f h inside keeps =
    let whole = keeps (group_of t g) ∙ length_group t g inside in
    put_put t g (f (group_of t g)) inside whole _
    ∙ ap (λ (b : List ℕ). put_group t g (h b)) (group_same t g (f (group_of t g)) inside whole)

pub length_on : (t : List ℕ) (g : ℕ) (f : List ℕ → List ℕ) → 64 * g + 64 ≤ length t → length (f (group_of t g)) ≡ 64 → length (on_group t g f) ≡ length t
unfolding on_group
length_on t g f inside whole = length_put t g (f (group_of t g)) inside whole

-- ---- stores in a group, as stores in the table

group_set : (t : List ℕ) (g j v : ℕ) → j < 64 → group_of (set t (64 * g + j) v) g ≡ set (group_of t g) j v
unfolding group_of
group_set t g j v h = ap (take 64) (drop-set-add (64 * g) t j v) ∙ take-set-lt 64 (drop (64 * g) t) j v h

put_set : (t : List ℕ) (g j v : ℕ) (b : List ℕ) → j < 64 → put_group (set t (64 * g + j) v) g b ≡ put_group t g b
unfolding put_group
put_set t g j v b h =
    ap₂ (λ (x y : List ℕ). x ++ (b ++ y)) (take-set-le (64 * g) t (64 * g + j) v (omega arith)) (drop-set-lt (64 * g + 64) t (64 * g + j) v (omega arith))

pub put_sets : (vs t : List ℕ) (g j : ℕ) → j + length vs ≤ 64 → put_group t g (sets (group_of t g) j vs) ≡ sets t (64 * g + j) vs
put_sets [] t g j h = put_same t g
put_sets (v ∷ vs) t g j h =
    let u : List ℕ = set t (64 * g + j) v in
    sym (put_set t g j v _ (omega arith))
    ∙ ap (λ (x : List ℕ). put_group u g (sets x (suc j) vs)) (sym (group_set t g j v (omega arith)))
    ∙ put_sets vs u g (suc j) (omega arith)
    ∙ ap (λ (n : ℕ). sets u n vs) (add-suc (64 * g) j)

-- ---- what every byte has

-- what holds of every byte of a list, and of the 0 that is read behind its end, holds of every byte of its parts
module _ (P : ℕ → Type 0) (behind : P 0) where
  take_each : (n : ℕ) (s : List ℕ) → ((i : ℕ) → P (get_or s i 0)) → (i : ℕ) → P (get_or (take n s) i 0)
  take_each zero s h i = behind
  take_each (suc n) [] h i = behind
  take_each (suc n) (x ∷ s) h zero = h 0
  take_each (suc n) (x ∷ s) h (suc i) = take_each n s (λ k. h (suc k)) i

  drop_each : (n : ℕ) (s : List ℕ) → ((i : ℕ) → P (get_or s i 0)) → (i : ℕ) → P (get_or (drop n s) i 0)
  drop_each n s h i = rw (get_or-drop n s i 0) (h (n + i))

  append_each : (s t : List ℕ) → ((i : ℕ) → P (get_or s i 0)) → ((i : ℕ) → P (get_or t i 0)) → (i : ℕ) → P (get_or (s ++ t) i 0)
  append_each [] t h k i = k i
  append_each (x ∷ s) t h k zero = h 0
  append_each (x ∷ s) t h k (suc i) = append_each s t (λ j. h (suc j)) k i

  pub group_each : (t : List ℕ) (g : ℕ) → ((i : ℕ) → P (get_or t i 0)) → (i : ℕ) → P (get_or (group_of t g) i 0)
  unfolding group_of
  group_each t g h = take_each 64 (drop (64 * g) t) (drop_each (64 * g) t h)

  pub put_each_law : (t : List ℕ) (g : ℕ) (b : List ℕ) → ((i : ℕ) → P (get_or t i 0)) → ((i : ℕ) → P (get_or b i 0)) → (i : ℕ) → P (get_or (put_group t g b) i 0)
  unfolding put_group
  put_each_law t g b h k = append_each (take (64 * g) t) (b ++ drop (64 * g + 64) t) (take_each (64 * g) t h) (append_each b (drop (64 * g + 64) t) k (drop_each (64 * g + 64) t h))

-- bytes stay bytes
pub bytes_group : (t : List ℕ) (g : ℕ) → Bytes t → Bytes (group_of t g)
bytes_group = group_each (λ (x : ℕ). x < 2 ^ 8) (lit< tt)

pub bytes_on : (t : List ℕ) (g : ℕ) (f : List ℕ → List ℕ) → Bytes t → ((b : List ℕ) → Bytes b → Bytes (f b)) → Bytes (on_group t g f)
unfolding on_group
bytes_on t g f h keeps = put_each_law (λ (x : ℕ). x < 2 ^ 8) (lit< tt) t g (f (group_of t g)) h (keeps (group_of t g) (bytes_group t g h))
