-- A word put into a register page: it lies on the page, the page's words are the old ones with that one replaced, and the old word put back gives the
-- page as it was.
use mathlib.Core.Path.{◌≡◌, sym, ap, ◌∙◌}
use mathlib.Core.Bool.{Bool, true, false, cond}
use mathlib.Core.List.{List}
use mathlib.Core.Logic.{◌⊎◌, inl, inr}
use Prim.Native.Nat.{ℕ, zero, suc, ◌+◌, ◌-◌, ◌*◌, ◌^◌, ◌≤◌, ◌<◌}
use native.Mathlib.Nat.{add-zero}
use native.Mathlib.Omega.{arith}
use borrow.Author.Tests.{lt-ltb, le-ltb, ltb-true, ltb-false}
use lib.Dec.{eqb, ltb}
use lib.ListN.{length, get_or, set, length-set}
use lib.Seq.{ext_get_or, get_or-set_same, get_or-set_other}
use Rattle.words.specs.Words.{word_bytes, word_at, with_word, words_at}
use Rattle.words.proofs.Tests.{three, by_test}
use Rattle.words.proofs.Words.{Bytes, byte_0, byte_1, byte_2, byte_3, sets_in, length_word_bytes, length_with_word, byte_before, byte_behind}
use Rattle.words.proofs.Words.{word_before, word_behind, word_same, length_words_at, get_or_words_at}
use Rattle.register_words.specs.Block.{bl_width}
use Rattle.registers.specs.Set.{is_page, is_long, block_pairs, register_count, check_words, register_words, replacing}
use Rattle.register_pages.specs.Replace.{page_replaced}
use Rattle.register_pages.proofs.Page.{PageSize, short_size, long_size, page_size_law}

-- ---- bytes

-- the words of bytes into which a word was put
module _ (s : List ℕ) (n k w : ℕ) (l : k < n) (fits : 4 * n ≤ length s) (small : w < 2 ^ 32) where
  words_with : words_at (with_word s (4 * k) w) 0 n ≡ set (words_at s 0 n) k w
  words_with =
      ext_get_or 0 _ _ (length_words_at (with_word s (4 * k) w) 0 n ∙ sym (length-set (words_at s 0 n) k w ∙ length_words_at s 0 n))
      (λ i h. let i-in : i < n = omega (arith, length_words_at (with_word s (4 * k) w) 0 n) in
      get_or_words_at (with_word s (4 * k) w) 0 n i i-in ∙ at i i-in (three i k))
    where
      at : (i : ℕ) → i < n → (i < k) ⊎ ((i ≡ k) ⊎ (k < i)) → word_at (with_word s (4 * k) w) (0 + 4 * i) ≡ get_or (set (words_at s 0 n) k w) i 0
      at i h (inl b) =
          word_before s (4 * k) w (0 + 4 * i) (omega arith)
          ∙ sym (get_or-set_other (words_at s 0 n) k i w 0 (omega arith) ∙ get_or_words_at s 0 n i h)
      at i h (inr (inl e)) =
          ap (word_at (with_word s (4 * k) w)) (omega arith)
          ∙ word_same s (4 * k) w (omega arith) small
          ∙ sym (ap (λ (j : ℕ). get_or (set (words_at s 0 n) k w) j 0) e ∙ get_or-set_same (words_at s 0 n) k w 0 (omega (arith, length_words_at s 0 n)))
      at i h (inr (inr b)) =
          word_behind s (4 * k) w (0 + 4 * i) (omega arith)
          ∙ sym (get_or-set_other (words_at s 0 n) k i w 0 (omega arith) ∙ get_or_words_at s 0 n i h)

-- the old word put back
module _ (s : List ℕ) (at w : ℕ) (bytes : Bytes s) (fits : at + 4 ≤ length s) where
  abbrev old : ℕ
  old = word_at s at

  abbrev new : List ℕ
  new = with_word s at w

  -- its bytes are those that were there
  own_byte : (d : ℕ) → d < 4 → get_or (word_bytes old) d 0 ≡ get_or s (at + d) 0
  unfolding word_bytes word_at
  own_byte zero h = byte_0 _ _ _ _ (bytes at) (bytes (at + 1)) (bytes (at + 2)) (bytes (at + 3)) ∙ ap (λ (k : ℕ). get_or s k 0) (sym (add-zero at))
  own_byte (suc zero) h = byte_1 _ _ _ _ (bytes at) (bytes (at + 1)) (bytes (at + 2)) (bytes (at + 3))
  own_byte (suc (suc zero)) h = byte_2 _ _ _ _ (bytes at) (bytes (at + 1)) (bytes (at + 2)) (bytes (at + 3))
  own_byte (suc (suc (suc zero))) h = byte_3 _ _ _ _ (bytes at) (bytes (at + 1)) (bytes (at + 2)) (bytes (at + 3))
  own_byte (suc (suc (suc (suc d)))) h = absurd (omega arith)

  byte_in : (d : ℕ) → d < 4 → get_or (with_word new at old) (at + d) 0 ≡ get_or (word_bytes old) d 0
  unfolding with_word
  byte_in d h = sets_in (word_bytes old) new at d (omega (arith, length_word_bytes old)) (omega (arith, length_word_bytes old, length_with_word s at w))

  pub put_back : with_word new at old ≡ s
  put_back = ext_get_or 0 _ s (length_with_word new at old ∙ length_with_word s at w) (λ i h. by_test (ltb i at) (before i) (from i))
    where
      before : (i : ℕ) → ltb i at ≡ true → get_or (with_word new at old) i 0 ≡ get_or s i 0
      before i e = let l = ltb-true i at e in byte_before new at old i l ∙ byte_before s at w i l

      from : (i : ℕ) → ltb i at ≡ false → get_or (with_word new at old) i 0 ≡ get_or s i 0
      from i e = by_test (ltb i (at + 4)) within behind
        where
          within : ltb i (at + 4) ≡ true → get_or (with_word new at old) i 0 ≡ get_or s i 0
          within f =
              let d = i - at in
              let same : i ≡ at + d = omega (arith, ltb-false i at e) in
              let h : d < 4 = omega (arith, ltb-true i (at + 4) f, ltb-false i at e) in
              ap (λ (k : ℕ). get_or (with_word new at old) k 0) same ∙ byte_in d h ∙ own_byte d h ∙ ap (λ (k : ℕ). get_or s k 0) (sym same)

          behind : ltb i (at + 4) ≡ false → get_or (with_word new at old) i 0 ≡ get_or s i 0
          behind f = let l = ltb-false i (at + 4) f in byte_behind new at old i l ∙ byte_behind s at w i l

-- ---- the page

-- its words lie on it
words_fit : (size : ℕ) → is_page size ≡ true → 4 * register_count (is_long size) ≤ size
words_fit size page = go (page_size_law size page)
  where
    go : {n : ℕ} {long : Bool} → PageSize n long → 4 * register_count long ≤ n
    go short_size = omega arith
    go long_size = omega arith

module _ (page : List ℕ) (right : is_page (length page) ≡ true) (number : ℕ) (own : number < register_count (is_long (length page))) where
  -- the word of a number of its own lies on it
  pub number_fits : 4 * number + 4 ≤ length page
  number_fits = omega (arith, words_fit (length page) right)

  module _ (word : ℕ) (small : word < 2 ^ 32) where
    abbrev put : List ℕ
    put = with_word page (4 * number) word

    put_words : register_words put ≡ set (register_words page) number word
    unfolding register_words
    put_words =
        ap (λ (size : ℕ). words_at put 0 (register_count (is_long size))) (length_with_word page (4 * number) word)
        ∙ words_with page (register_count (is_long (length page))) number word own (words_fit (length page) right) small

    -- replacing it comes to the check of the page with the word put in
    pub put_replaced : let r = check_words (block_pairs (is_long (length put))) (bl_width (is_long (length put))) (register_words put) in
        page_replaced page number word ≡ (r, cond (eqb r 0) put page)
    unfolding page_replaced replacing
    put_replaced =
        let kept = ap is_long (length_with_word page (4 * number) word) in
        rw (lt-ltb number (register_count (is_long (length page))) own, kept, put_words)

-- a number past the page's own is refused
pub put_past : (page : List ℕ) (number word : ℕ) → register_count (is_long (length page)) ≤ number → page_replaced page number word ≡ (6, page)
unfolding page_replaced replacing
put_past page number word past = rw (le-ltb number (register_count (is_long (length page))) past)
