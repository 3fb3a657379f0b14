-- Laws of the matches in a group: one entry more, what each match is, and that a group and a first word name one page.
use mathlib.Core.Path.{◌≡◌, refl, sym, ap, ◌∙◌}
use mathlib.Core.Logic.{⊎_elim}
use mathlib.Core.Bool.{Bool, true, false, cond}
use mathlib.Core.List.Memᴰ
use mathlib.Core.List.{List, [], ◌∷◌, ◌++◌, append-nil, append_assoc, Memᴰ}
use Prim.Native.Nat.{ℕ, zero, suc, ◌+◌, ◌^◌, ◌≤◌, ◌<◌}
use native.Mathlib.Numerals.{add-one}
use native.Mathlib.Omega.{arith}
use mir.Val.{bool_byte}
use lib.Dec.{eqb, leb, lit<}
use borrow.Author.Tests.{leb-true, leb-false}
use Rattle.words.specs.Words.{swapped}
use Rattle.entry.specs.Entry.{first_word, matches, free, api_of}
use Rattle.entry.proofs.Packing.{FirstFields, first_lt}
use Rattle.entry.proofs.Addresses.{api_lt}
use Rattle.entry.proofs.Matches.{matched, match_whole, match_used}
use Rattle.theory_tables.specs.Matches.{Match, matches_below}
use Rattle.groups.specs.declared.Page.{Page}
use Rattle.groups.specs.Page.{InRange}
use Rattle.groups.specs.Hash.{group_number}
use Rattle.groups.specs.Group.{first_at, second_at}
use Rattle.matches.specs.Search.{h_of, WantedWord, matches_to, group_matches, pair_matches}
use Rattle.groups.proofs.Hash.{one_page}

-- entry i of a group, as a match
abbrev pub entry_at : Bool → List ℕ → ℕ → Match
entry_at secondary group i = record { secondary = secondary; entry = i; first = first_at group i; second = second_at group i }

-- H as the code makes it
pub h_is : (secondary : Bool) → bool_byte secondary ≡ h_of secondary
h_is true = refl
h_is false = refl

pub h_lt : (secondary : Bool) → bool_byte secondary < 2
h_lt true = omega arith
h_lt false = omega arith

-- the comparison with the packed word is the test of the fields
pub word_matches : (secondary : Bool) (vsid api wanted first : ℕ) (same : Bool) → vsid < 2 ^ 24 → api < 2 ^ 6
    → wanted ≡ swapped (first_word 1 vsid (bool_byte secondary) api) → (first < 2 ^ 32) × ((w : ℕ) → w < 2 ^ 32 → wanted ≡ swapped w → same ≡ eqb first w)
    → same ≡ matches vsid (h_of secondary) api first
word_matches secondary vsid api wanted first same vsid_lt api_lt is told =
    let h = bool_byte secondary in
    told.1 (first_word 1 vsid h api) (first_lt 1 vsid h api (lit< tt) vsid_lt (h_lt secondary) api_lt) is
    ∙ sym (match_whole vsid h api first)
    ∙ ap (λ (g : ℕ). matches vsid g api first) (h_is secondary)

pub wanted_matches : (secondary : Bool) (vsid api wanted first : ℕ) (same : Bool) → WantedWord secondary vsid api wanted
    → (first < 2 ^ 32) × ((w : ℕ) → w < 2 ^ 32 → wanted ≡ swapped w → same ≡ eqb first w) → same ≡ matches vsid (h_of secondary) api first
wanted_matches secondary vsid api wanted first same is told =
    word_matches secondary vsid api wanted first same is.0 is.1 (is.2 ∙ ap (λ (h : ℕ). swapped (first_word 1 vsid h api)) (sym (h_is secondary))) told

-- a match is an entry of the group that matches
pub record IsMatch (secondary : Bool) (vsid api : ℕ) (group : List ℕ) (n : ℕ) (m : Match) : Type 0 where
  pub entry_lt : m.entry < n
  pub is_entry : m ≡ entry_at secondary group m.entry
  pub matching : matches vsid (h_of secondary) api m.first ≡ true

module _ (secondary : Bool) (vsid api : ℕ) (group : List ℕ) where
  abbrev to : ℕ → List Match
  to n = matches_to secondary vsid api group n

  -- one entry more, which matches or does not
  pub matches_more : (i : ℕ) → matches vsid (h_of secondary) api (first_at group i) ≡ true → to (i + 1) ≡ to i ++ (entry_at secondary group i ∷ [])
  unfolding matches_below
  matches_more i e = rw (add-one, e)

  pub matches_same : (i : ℕ) → matches vsid (h_of secondary) api (first_at group i) ≡ false → to (i + 1) ≡ to i
  unfolding matches_below
  matches_same i e = rw (add-one, e) (append-nil (to i))

  -- entries more add matches behind those that there are
  pub matches_extend : (i n : ℕ) → i ≤ n → (rest : List Match) × (to n ≡ to i ++ rest)
  unfolding matches_below
  matches_extend i n l = go n l
    where
      here : (m : ℕ) → i ≡ m → (rest : List Match) × (to m ≡ to i ++ rest)
      here m e = ([], ap to (sym e) ∙ sym (append-nil (to i)))

      more : (m : ℕ) → i ≤ suc m → (i ≤ m → (rest : List Match) × (to m ≡ to i ++ rest)) → (t : Bool) → leb i m ≡ t
          → (rest : List Match) × (to (suc m) ≡ to i ++ rest)
      more m k before true e =
          let (rest, is) = before (leb-true i m e) in
          let last = cond (matches vsid (h_of secondary) api (first_at group m)) (entry_at secondary group m ∷ []) [] in
          (rest ++ last, ap (λ (ms : List Match). ms ++ last) is ∙ append_assoc (to i) rest last)
      more m k before false e = here (suc m) (omega (arith, k, leb-false i m e))

      go : (m : ℕ) → i ≤ m → (rest : List Match) × (to m ≡ to i ++ rest)
      go zero k = here zero (omega (arith, k))
      go (suc m) k = more m k (go m) (leb i m) refl

  pub match_is : (n : ℕ) (m : Match) → Memᴰ m (to n) → IsMatch secondary vsid api group n m
  unfolding matches_below
  match_is zero m h = absurd (Memᴰ.not-nil h)
  match_is (suc n) m h =
      ⊎_elim (λ k. let r = match_is n m k in record { entry_lt = omega (arith, r.entry_lt); is_entry = r.is_entry; matching = r.matching })
      (λ k. last (matches vsid (h_of secondary) api (first_at group n)) refl k)
      (Memᴰ.append_cases (to n) h)
    where
      last : (t : Bool) → matches vsid (h_of secondary) api (first_at group n) ≡ t → Memᴰ m (cond t (entry_at secondary group n ∷ []) [])
          → IsMatch secondary vsid api group (suc n) m
      last true e k =
          let q : m ≡ entry_at secondary group n = Memᴰ.eq_of_singleton k in
          rw q (record { entry_lt = omega arith; is_entry = refl; matching = e })
      last false e k = absurd (Memᴰ.not-nil k)

-- each match in a group
pub match_in : (secondary : Bool) (vsid api : ℕ) (group : List ℕ) (m : Match) → Memᴰ m (group_matches secondary vsid api group) → IsMatch secondary vsid api group 8 m
unfolding group_matches
match_in secondary vsid api group m h = match_is secondary vsid api group 8 m h

-- each match of both groups is one of the eight entries of its group
pub match_entry : (vsid api : ℕ) (primary secondary : List ℕ) (m : Match) → Memᴰ m (pair_matches vsid api primary secondary)
    → (m.entry < 8) × (m ≡ entry_at m.secondary (cond m.secondary secondary primary) m.entry)
unfolding pair_matches
match_entry vsid api primary secondary m h =
    ⊎_elim (λ k. of false primary refl (match_in false vsid api primary m k)) (λ k. of true secondary refl (match_in true vsid api secondary m k))
    (Memᴰ.append_cases (group_matches false vsid api primary) h)
  where
    of : (b : Bool) (group : List ℕ) → group ≡ cond b secondary primary → IsMatch b vsid api group 8 m
        → (m.entry < 8) × (m ≡ entry_at m.secondary (cond m.secondary secondary primary) m.entry)
    of b group e i =
        let side : m.secondary ≡ b = ap (λ (x : Match). x.secondary) i.is_entry in
        (i.entry_lt, i.is_entry ∙ ap (λ (g : List ℕ). entry_at b g m.entry) e ∙ ap (λ (c : Bool). entry_at c (cond c secondary primary) m.entry) (sym side))

h_same : (b c : Bool) → h_of b ≡ h_of c → b ≡ c
h_same true true e = refl
h_same true false e = absurd (omega arith)
h_same false true e = absurd (omega arith)
h_same false false e = refl

-- an entry that matches a page in range: it has V, the page's VSID and API, and H by its group, and is not free
module _ (b : Bool) (p : Page) (first : ℕ) (valid : InRange p) (e : matches p.vsid (h_of b) (api_of p.index) first ≡ true) where
  h_fits : (c : Bool) → h_of c < 2 ^ 1
  h_fits true = omega arith
  h_fits false = omega arith

  page_matched : FirstFields 1 p.vsid (h_of b) (api_of p.index) first
  page_matched = matched p.vsid (h_of b) (api_of p.index) first valid.vsid_lt (h_fits b) (api_lt p.index valid.index_lt) e

  pub page_used : free first ≡ false
  page_used = match_used p.vsid (h_of b) (api_of p.index) first valid.vsid_lt (h_fits b) (api_lt p.index valid.index_lt) e

-- an entry, by its group and first word, matches at most one page
pub tells : (n : ℕ) (b c : Bool) (p q : Page) (first : ℕ) → 10 ≤ n → InRange p → InRange q → group_number n b p ≡ group_number n c q
    → matches p.vsid (h_of b) (api_of p.index) first ≡ true → matches q.vsid (h_of c) (api_of q.index) first ≡ true → p ≡ q
tells n b c p q first enough vp vq g e f =
    let x = page_matched b p first vp e in
    let y = page_matched c q first vq f in
    one_page n p q enough b c (h_same b c (sym x.has_h ∙ y.has_h)) g (sym x.has_vsid ∙ y.has_vsid) (sym x.has_api ∙ y.has_api)
