-- Laws of a list with zeros between its first part and its last and behind it: where each element stands, and a store.
use mathlib.Core.Path.{◌≡◌, refl, sym, ap, ap₂, ◌∙◌}
use mathlib.Core.Bool.{Bool, true, false, cond}
use mathlib.Core.List.{List, [], ◌∷◌, ◌++◌}
use Prim.Native.Nat.{ℕ, ◌+◌, ◌-◌, ◌<◌}
use native.Mathlib.Nat.{zero-add, suc-add}
use native.Mathlib.Omega.{arith}
use lib.Dec.{ltb}
use lib.ListN.{length, get_or, set, take, drop, replicate, get_or-replicate, get_or-append, length-append, length-replicate, length-drop}
use lib.Seq.{length-take-le, take-set-lt, take-set-le, drop-set-lt, drop-set-add, set-append_left, get_or-append-add, get_or-take, get_or-drop}
use borrow.Author.Tests.{ltb-true, ltb-false}
use Rattle.registers.specs.Set.{spread}

-- a store behind the seam of two lists
set_append_add : (xs ys : List ℕ) (n a : ℕ) → set (xs ++ ys) (length xs + n) a ≡ xs ++ set ys n a
set_append_add [] ys n a = ap (λ (k : ℕ). set ys k a) (zero-add n)
set_append_add (x ∷ xs) ys n a = ap (λ (k : ℕ). set (x ∷ (xs ++ ys)) k a) (suc-add (length xs) n) ∙ ap (λ (r : List ℕ). x ∷ r) (set_append_add xs ys n a)

module _ (front gap : ℕ) (xs : List ℕ) (full : length xs ≡ front + gap) where
  abbrev zeros : List ℕ
  zeros = replicate gap 0

  zeros_length : length zeros ≡ gap
  zeros_length = length-replicate {A = ℕ} gap 0

  front_length : length (take front xs) ≡ front
  front_length = length-take-le front xs (omega (arith, full))

  back_length : length (drop front xs) ≡ gap
  back_length = length-drop front xs ∙ omega (arith, full)

  pub spread_length : length (spread front gap xs) ≡ front + gap + gap + gap
  unfolding spread
  spread_length =
      length-append (take front xs) (zeros ++ (drop front xs ++ zeros))
      ∙ ap₂ ◌+◌ front_length
      (length-append zeros (drop front xs ++ zeros) ∙ ap₂ ◌+◌ zeros_length (length-append (drop front xs) zeros ∙ ap₂ ◌+◌ back_length zeros_length))
      ∙ omega arith

  -- where each element stands
  pub spread_front : (k : ℕ) → k < front → get_or (spread front gap xs) k 0 ≡ get_or xs k 0
  unfolding spread
  spread_front k l = get_or-append (take front xs) (zeros ++ (drop front xs ++ zeros)) 0 k (omega (arith, front_length, l)) ∙ get_or-take front xs k 0 l

  behind_front : (n : ℕ) → get_or (spread front gap xs) (front + n) 0 ≡ get_or (zeros ++ (drop front xs ++ zeros)) n 0
  unfolding spread
  behind_front n =
      ap (λ (k : ℕ). get_or (spread front gap xs) (k + n) 0) (sym front_length) ∙ get_or-append-add (take front xs) (zeros ++ (drop front xs ++ zeros)) n 0

  pub spread_gap : (n : ℕ) → n < gap → get_or (spread front gap xs) (front + n) 0 ≡ 0
  spread_gap n l = behind_front n ∙ get_or-append zeros (drop front xs ++ zeros) 0 n (omega (arith, zeros_length, l)) ∙ get_or-replicate gap n 0 0 l

  behind_gap : (n : ℕ) → get_or (spread front gap xs) (front + gap + n) 0 ≡ get_or (drop front xs ++ zeros) n 0
  behind_gap n =
      ap (λ (k : ℕ). get_or (spread front gap xs) k 0) (omega arith)
      ∙ behind_front (gap + n)
      ∙ ap (λ (k : ℕ). get_or (zeros ++ (drop front xs ++ zeros)) (k + n) 0) (sym zeros_length)
      ∙ get_or-append-add zeros (drop front xs ++ zeros) n 0

  pub spread_back : (n : ℕ) → n < gap → get_or (spread front gap xs) (front + gap + n) 0 ≡ get_or xs (front + n) 0
  spread_back n l = behind_gap n ∙ get_or-append (drop front xs) zeros 0 n (omega (arith, back_length, l)) ∙ get_or-drop front xs n 0

  pub spread_end : (n : ℕ) → n < gap → get_or (spread front gap xs) (front + gap + gap + n) 0 ≡ 0
  spread_end n l =
      ap (λ (k : ℕ). get_or (spread front gap xs) k 0) (omega arith)
      ∙ behind_gap (gap + n)
      ∙ ap (λ (k : ℕ). get_or (drop front xs ++ zeros) (k + n) 0) (sym back_length)
      ∙ get_or-append-add (drop front xs) zeros n 0
      ∙ get_or-replicate gap n 0 0 l

  -- an element replaced
  pub spread_set : (n a : ℕ) → n < front + gap → spread front gap (set xs n a) ≡ set (spread front gap xs) (cond (ltb n front) n (n + gap)) a
  unfolding spread
  spread_set n a l = go (ltb n front) refl
    where
      rest : List ℕ
      rest = drop front xs ++ zeros

      before : n < front → spread front gap (set xs n a) ≡ set (spread front gap xs) n a
      before h =
          ap₂ (λ (p q : List ℕ). p ++ (zeros ++ (q ++ zeros))) (take-set-lt front xs n a h) (drop-set-lt front xs n a h)
          ∙ sym (set-append_left (take front xs) (zeros ++ rest) n a (omega (arith, front_length, h)))

      behind : (m : ℕ) → m < gap → spread front gap (set xs (front + m) a) ≡ set (spread front gap xs) (front + gap + m) a
      behind m h =
          ap₂ (λ (p q : List ℕ). p ++ (zeros ++ (q ++ zeros))) (take-set-le front xs (front + m) a (omega arith)) (drop-set-add front xs m a)
          ∙ ap (λ (q : List ℕ). take front xs ++ (zeros ++ q)) (sym (set-append_left (drop front xs) zeros m a (omega (arith, back_length, h))))
          ∙ ap (λ (q : List ℕ). take front xs ++ q) (sym (set_append_add zeros rest m a))
          ∙ sym (set_append_add (take front xs) (zeros ++ rest) (length zeros + m) a)
          ∙ ap (λ (k : ℕ). set (spread front gap xs) k a) (omega (arith, front_length, zeros_length))

      go : (t : Bool) → ltb n front ≡ t → spread front gap (set xs n a) ≡ set (spread front gap xs) (cond t n (n + gap)) a
      go true e = before (ltb-true n front e)
      go false e =
          let h = ltb-false n front e in
          let at : n ≡ front + (n - front) = omega (arith, h) in
          ap (λ (k : ℕ). spread front gap (set xs k a)) at ∙ behind (n - front) (omega (arith, l, h)) ∙ ap (λ (k : ℕ). set (spread front gap xs) k a) (omega (arith, h))
