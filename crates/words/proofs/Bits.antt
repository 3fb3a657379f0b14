-- Laws of `bits` and `with_bits`, over the bits' numbers: what is put in is read back, and every other bit is kept.
use mathlib.Core.Path.{◌≡◌, sym, ap, ◌∙◌}
use Prim.Native.Nat.{ℕ, ◌+◌, ◌-◌, ◌*◌, ◌/◌, ◌%◌, ◌^◌, ◌≤◌, ◌<◌}
use native.Mathlib.Nat.{add_comm, add-mul, mul_assoc, mod-lt, div-one, div-lt_iff_lt-mul}
use native.Mathlib.Omega.{arith}
use lib.Pow.{pow_pos, pow-add, shr-shr, shr_lt, split, high, low, field, mod-pow-add, mod-mod-pow}
use Rattle.words.specs.Bits.{bits, placed, with_bits}

-- a word with v in the n bits above its k lowest
abbrev put : ℕ → ℕ → ℕ → ℕ → ℕ
put n k v w = w / 2 ^ (k + n) * 2 ^ (k + n) + v * 2 ^ k + w % 2 ^ k

-- it is read back there, and the bits above and below are kept
module _ (n k v w : ℕ) (fits : v < 2 ^ n) where
  put_parts : put n k v w ≡ (w / 2 ^ (k + n) * 2 ^ n + v) * 2 ^ k + w % 2 ^ k
  put_parts =
      let q = w / 2 ^ (k + n) in
      let power : 2 ^ (k + n) ≡ 2 ^ n * 2 ^ k = ap (λ (e : ℕ). 2 ^ e) (add_comm k n) ∙ pow-add 2 n k in
      let above : q * 2 ^ (k + n) ≡ q * 2 ^ n * 2 ^ k = ap (λ (p : ℕ). q * p) power ∙ sym (mul_assoc q (2 ^ n) (2 ^ k)) in
      omega (arith, add-mul (q * 2 ^ n) v (2 ^ k))

  put_shifted : put n k v w / 2 ^ k ≡ w / 2 ^ (k + n) * 2 ^ n + v
  put_shifted = rw put_parts (high (w / 2 ^ (k + n) * 2 ^ n + v) k (mod-lt w (pow_pos k)))

  put_in_law : put n k v w / 2 ^ k % 2 ^ n ≡ v
  put_in_law = rw put_shifted (low (w / 2 ^ (k + n)) n fits)

  put_above : put n k v w / 2 ^ (k + n) ≡ w / 2 ^ (k + n)
  put_above = sym (shr-shr (put n k v w) k n) ∙ (rw put_shifted (high (w / 2 ^ (k + n)) n fits))

  put_below : put n k v w % 2 ^ k ≡ w % 2 ^ k
  put_below = rw put_parts (low (w / 2 ^ (k + n) * 2 ^ n + v) k (mod-lt w (pow_pos k)))

module _ (a b v w : ℕ) (order : a ≤ b) (within : b < 32) (fits : v < 2 ^ (b + 1 - a)) where
  top : 32 - a ≡ (31 - b) + (b + 1 - a)
  top = omega arith

  is_put : with_bits a b v w ≡ put (b + 1 - a) (31 - b) v w
  is_put = rw top

  pub bits_in : bits a b (with_bits a b v w) ≡ v
  bits_in = rw is_put (put_in_law (b + 1 - a) (31 - b) v w fits)

  above : with_bits a b v w / 2 ^ (32 - a) ≡ w / 2 ^ (32 - a)
  above = rw (is_put, top) (put_above (b + 1 - a) (31 - b) v w fits)

  pub bits_above : (x y : ℕ) → y < a → bits x y (with_bits a b v w) ≡ bits x y w
  bits_above x y h =
      let more : 31 - y ≡ (32 - a) + (a - (y + 1)) = omega arith in
      rw (more, ← shr-shr (with_bits a b v w) (32 - a) (a - (y + 1)), above, shr-shr w (32 - a) (a - (y + 1)))

  pub bits_below : (x y : ℕ) → b < x → x ≤ y → y < 32 → bits x y (with_bits a b v w) ≡ bits x y w
  bits_below x y h l e = rest (with_bits a b v w) ∙ ap (λ (r : ℕ). r % 2 ^ (y + 1 - x + (31 - y)) / 2 ^ (31 - y)) below ∙ sym (rest w)
    where
      below : with_bits a b v w % 2 ^ (31 - b) ≡ w % 2 ^ (31 - b)
      below = rw is_put (put_below (b + 1 - a) (31 - b) v w fits)

      -- the bits x to y of a word are those of its bits behind b
      rest : (u : ℕ) → bits x y u ≡ u % 2 ^ (31 - b) % 2 ^ (y + 1 - x + (31 - y)) / 2 ^ (31 - y)
      rest u =
          let more : 31 - b ≡ (x - (b + 1)) + (y + 1 - x + (31 - y)) = omega arith in
          rw (more, mod-mod-pow u (x - (b + 1)) (y + 1 - x + (31 - y))) (sym (field u (y + 1 - x) (31 - y)))

  pub with_bits_lt : w < 2 ^ 32 → with_bits a b v w < 2 ^ 32
  with_bits_lt h =
      let width : a + (32 - a) ≡ 32 = omega arith in
      let power : 2 ^ a * 2 ^ (32 - a) ≡ 2 ^ 32 = sym (pow-add 2 a (32 - a)) ∙ ap (λ (e : ℕ). 2 ^ e) width in
      rw (← power) ((div-lt_iff_lt-mul (pow_pos (32 - a))).0 (rw above (shr_lt a (32 - a) (rw width h))))

-- its own bits put into a word change nothing
pub with_bits_own : (a b w : ℕ) → a ≤ b → b < 32 → with_bits a b (bits a b w) w ≡ w
with_bits_own a b w h l =
    let top : 32 - a ≡ (b + 1 - a) + (31 - b) = omega arith in
    rw top (omega (arith, mod-pow-add w (b + 1 - a) (31 - b), split w (b + 1 - a + (31 - b))))

-- the bits of a word from a on are its bits a to b, then those behind b
pub bits_split : (a b w : ℕ) → a ≤ b → b < 31 → bits a 31 w ≡ placed b (bits a b w) + bits (b + 1) 31 w
bits_split a b w h l =
    let width : 32 - a ≡ (b + 1 - a) + (31 - b) = omega arith in
    let last : 32 - (b + 1) ≡ 31 - b = omega arith in
    rw (width, last, div-one w) (mod-pow-add w (b + 1 - a) (31 - b))

-- bits 0 to 31 are the whole word
pub bits_all : (w : ℕ) → w < 2 ^ 32 → bits 0 31 w ≡ w
bits_all w h = omega arith
