-- What a kind of hashed page table is, over a page type P and a type T of tables, and what every such table has: the matches of a page,
-- free entries, and entries overwritten. An instance gives the layout and proves its laws.
use Rattle.std.specs.Prelude.{◌≡◌, Bool, true, false, not, cond, List, [], ◌∷◌, ◌++◌, ◌≢◌, ℕ, suc, ◌+◌, ◌-◌, ◌<◌, ltb}
use Rattle.std.proofs.Math.Option.{Option, none, some}
use Rattle.words.specs.Below.{first_below}
use Rattle.theory_tables.specs.Matches.{Match, matches_below, how_many_below}

pub record Layout (P T : Type 0) : Type 0 where
  -- the number of a page's primary (false) or secondary (true) group
  pub group : Bool → P → ℕ
  -- there are half + half groups
  pub half : ℕ
  -- the number of entries in a group
  pub capacity : ℕ
  -- an entry with this first word matches the page, standing in its primary or its secondary group
  pub matching : Bool → P → ℕ → Bool
  -- an entry with this first word is free (V = 0)
  pub free : ℕ → Bool
  -- the first and the second word of entry i of group g: first t g i, second t g i
  pub first : T → ℕ → ℕ → ℕ
  pub second : T → ℕ → ℕ → ℕ
  -- entry i of group g replaced by two words: put t g i u v
  pub put : T → ℕ → ℕ → ℕ → ℕ → T

module _ {P T : Type 0} (L : Layout P T) where
  -- how many groups there are
  abbrev pub groups : ℕ
  groups = L.half + L.half

  -- entry i of group g has the words u and v
  abbrev pub Reads : T → ℕ → ℕ → ℕ → ℕ → Type 0
  Reads t g i u v = (L.first t g i ≡ u) × (L.second t g i ≡ v)

  -- the matches of page p in its primary (false) or its secondary (true) group
  unfoldable pub matches_in : T → Bool → P → List Match
  matches_in t b p = matches_below (L.matching b p) (L.first t (L.group b p)) (L.second t (L.group b p)) b L.capacity

  -- the matches of page p in search order: primary entries, then secondary
  unfoldable pub matches_of : T → P → List Match
  matches_of t p = matches_in t false p ++ matches_in t true p

  -- entry i of group g is free
  abbrev pub free_at : T → ℕ → ℕ → Bool
  free_at t g i = L.free (L.first t g i)

  -- how many entries of group g are not free
  unfoldable pub used : T → ℕ → ℕ
  used t g = how_many_below L.capacity (λ i. not (free_at t g i))

  -- the used entries of the pair of groups that group g is of: its own and those of the group that mirrors it
  abbrev pub used_of_pair : T → ℕ → ℕ
  used_of_pair t g = used t g + used t (groups - suc g)

  -- the first free entry of group g, or the number of entries where none is free
  unfoldable pub free_entry : T → ℕ → ℕ
  free_entry t g = first_below L.capacity (free_at t g)

  -- the first free entry in search order, with the group that holds it: false the primary, true the secondary
  unfoldable pub free_place : T → P → Option (Bool × ℕ)
  free_place t p =
      let primary = free_entry t (L.group false p) in
      let secondary = free_entry t (L.group true p) in
      cond (ltb primary L.capacity) (some (false, primary)) (cond (ltb secondary L.capacity) (some (true, secondary)) none)

  -- the entry of a match of page p replaced by two words
  unfoldable pub overwrite : P → Match → ℕ → ℕ → T → T
  overwrite p x u v t = L.put t (L.group x.secondary p) x.entry u v

  -- each match of a list replaced by the two words that `edit` makes of it
  unfoldable pub overwrite_each : P → (Match → ℕ × ℕ) → List Match → T → T
  overwrite_each p edit [] t = t
  overwrite_each p edit (x ∷ xs) t = overwrite_each p edit xs (overwrite p x (edit x).0 (edit x).1 t)

-- What an instance proves of its layout. `same` is its test that two pages are the same, `Valid p` says that a page's numbers are in range,
-- `Fits u` that a number is an entry's word, and `Good t` that a table has its length and holds bytes.
pub record LayoutLaws {P T : Type 0} (L : Layout P T) (same : P → P → Bool) (Valid : P → Type 0) (Fits : ℕ → Type 0) (Good : T → Type 0) : Type 0 where
  pub same_refl : (p : P) → same p p ≡ true
  pub same_eq : (p q : P) → same p q ≡ true → p ≡ q
  -- a page's secondary group number is the complement of its primary one
  pub mirror : (p : P) → L.group true p + suc (L.group false p) ≡ groups L
  -- only an entry that is not free matches
  pub match_used : (b : Bool) (p : P) (u : ℕ) → Valid p → L.matching b p u ≡ true → L.free u ≡ false
  -- a group and a first word name at most one page
  pub tells : (b c : Bool) (p q : P) (u : ℕ) → Valid p → Valid q → L.group b p ≡ L.group c q
      → L.matching b p u ≡ true → L.matching c q u ≡ true → p ≡ q
  -- a table's words are words
  pub read_fits : (t : T) (g i : ℕ) → Good t → g < groups L → i < L.capacity → Fits (L.first t g i) × Fits (L.second t g i)
  -- what is put is read there, every other entry reads as before, and the table stays good
  pub put_good : (t : T) (g i u v : ℕ) → Good t → g < groups L → i < L.capacity → Good (L.put t g i u v)
  pub put_same : (t : T) (g i u v : ℕ) → Good t → g < groups L → i < L.capacity → Fits u → Fits v → Reads L (L.put t g i u v) g i u v
  pub put_other_entry : (t : T) (g i j u v : ℕ) → Good t → g < groups L → i < L.capacity → j < L.capacity → j ≢ i
      → Reads L (L.put t g i u v) g j (L.first t g j) (L.second t g j)
  pub put_other_group : (t : T) (g h i j u v : ℕ) → Good t → g < groups L → h < groups L → i < L.capacity → j < L.capacity → h ≢ g
      → Reads L (L.put t g i u v) h j (L.first t h j) (L.second t h j)
