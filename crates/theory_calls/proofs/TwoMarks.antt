-- The marks of an operand's parts on any table. The pages of the two parts are two, so the mark of one leaves the matches of the other, and either
-- mark may be made first.
--   wanted_index: a part wants the page at the page index of its start
--   pages_apart: the two parts over a page edge want two pages; apart-sym: two pages are two in either order
--   own_match: the head of a page's matches is an entry of the table that matches
--   mark_first, mark_none: the mark of a done access overwrites the first match, or nothing where there is none
--   fits: the words that a mark writes fit 32 bits
--   mark_good: a mark leaves a good table
--   mark_leaves: a mark leaves the matches of every other page
--   mark_reads, mark_others: after a mark the first match has its marks, and every other entry is as before
--   second_kept: the mark of the first part leaves the matches of the second part's page
--   match_kept, first_kept: where two tables have the same matches of a page, a match and the first match of one are those of the other
--   no_common: no entry matches two pages
--   marks_commute: the marks of two pages may be made in either order
use Prim.Native.Nat.{ℕ, ◌+◌, ◌^◌, ◌<◌}
use mathlib.Core.Path.{◌≡◌, refl, sym, ap, ap₂, ◌∙◌, subst}
use mathlib.Core.Bool.{Bool, true, false, cond, true≢false}
use mathlib.Core.Logic.{inr}
use mathlib.Core.List.{List, [], ◌∷◌, Memᴰ}
use lib.Dec.{eqb}
use borrow.Author.Tests.{eqb-true, eqb-false}
use Rattle.entry.specs.Entry.{page_index, with_marks}
use Rattle.entry.proofs.Marks.{marks_lt}
use Rattle.groups.specs.declared.Page.{Page}
use Rattle.groups.specs.Page.{InRange, same_page}
use Rattle.groups.specs.Group.{first_of, second_of}
use Rattle.groups.proofs.Hash.{same_page_refl, same_page_eq}
use Rattle.groups.proofs.Stored.{words_fit, stored_comm}
use Rattle.theory_tables.specs.Matches.{Match}
use Rattle.theory_tables.specs.Layout.{matches_of, overwrite}
use Rattle.theory_tables.proofs.Groups.{MatchOf, members_of, matches_of_same, group_in_range}
use Rattle.theory_tables.proofs.Overwrites.{overwrite_other}
use Rattle.protection.specs.Access.{storing}
use Rattle.translation.specs.Steps.{before_search}
use Rattle.translation.specs.Operand.{over_edge, part_start}
use Rattle.translation.specs.declared.Early.{Early}
use Rattle.translation.specs.declared.Early.TheVariants.{Search}
use Rattle.translation.specs.declared.Wanted.{Wanted}
use Rattle.translation.proofs.Steps.{searches}
use Rattle.translation.proofs.Parts.{next_page}
use Rattle.theory_calls.specs.OnBytes.{layout, wanted_page, marked_by}
use Rattle.theory_calls.specs.Represents.{GoodTable}
use Rattle.theory_calls.specs.AnyTable.{SameEntry, group_at, first_here, second_here, Matching, FirstMatch}
use Rattle.theory_calls.proofs.TableLaws.{Word, layout_laws}
use Rattle.theory_calls.proofs.Access.{by_early, part_valid, unmarked, unmarked_decided}
use Rattle.theory_calls.proofs.AnyEntries.{by_matches_law, own, as_match, matching_member, head_is, first_of_law, entry_put, all_but_kept}

-- ---- the two pages

-- the parts of an operand, by the words of the register set
module _ (pairs width : ℕ) (words : List ℕ) (mode kind address length : ℕ) where
  abbrev part_early : Bool → Early
  part_early second = before_search pairs width words mode kind (part_start address length second)

  -- a part wants the page at the page index of its start
  pub wanted_index : (second : Bool) (wanted : Wanted) → part_early second ≡ Search wanted → wanted.index ≡ page_index (part_start address length second)
  wanted_index second wanted e = ap (λ (w : Wanted). w.index) (searches pairs width words mode kind (part_start address length second) wanted e).wants

  pub pages_apart : over_edge address length ≡ true → (v w : Wanted) → part_early false ≡ Search v → part_early true ≡ Search w
      → same_page (wanted_page v) (wanted_page w) ≡ false
  pages_apart over v w e f = go (same_page (wanted_page v) (wanted_page w)) refl
    where
      go : (s : Bool) → same_page (wanted_page v) (wanted_page w) ≡ s → s ≡ false
      go true same =
          let index : v.index ≡ w.index = ap (λ (p : Page). p.index) (same_page_eq (wanted_page v) (wanted_page w) same) in
          absurd (next_page address length over (sym (wanted_index false v e) ∙ index ∙ wanted_index true w f))
      go false same = refl

pub apart_sym : (p q : Page) → same_page p q ≡ false → same_page q p ≡ false
apart_sym p q apart = go (same_page q p) refl
  where
    go : (s : Bool) → same_page q p ≡ s → s ≡ false
    go true same = absurd (true≢false (sym (same_page_refl p) ∙ ap (same_page p) (sym (same_page_eq q p same)) ∙ apart))
    go false same = refl

-- ---- one mark

module _ (k kind : ℕ) (wanted : Wanted) (t : List ℕ) where
  abbrev page : Page
  page = wanted_page wanted

  -- the table with the entry of a match marked
  abbrev marking : Match → List ℕ
  marking x = overwrite (layout k) page x x.first (with_marks true (storing kind) x.second) t

  pub mark_first : (x : Match) (xs : List Match) → own k t page ≡ x ∷ xs → marked_by k kind (Search wanted) 0 t ≡ marking x
  unfolding marked_by
  mark_first x xs e = rw e

  pub mark_none : (result : ℕ) → own k t page ≡ [] → marked_by k kind (Search wanted) result t ≡ t
  unfolding marked_by
  mark_none result e = rw e (go (eqb result 0))
    where
      go : (d : Bool) → cond d t t ≡ t
      go true = refl
      go false = refl

  mark_by : (P : List ℕ → Type 0) (result : ℕ) → P t → ((x : Match) (xs : List Match) → own k t page ≡ x ∷ xs → P (marking x)) → P (marked_by k kind (Search wanted) result t)
  mark_by P result left first = go (eqb result 0) refl
    where
      go : (d : Bool) → eqb result 0 ≡ d → P (marked_by k kind (Search wanted) result t)
      go true e =
          rw (eqb-true result 0 e)
          (by_matches_law (own k t page) (λ none. rw (mark_none 0 none) left) (λ x xs some. rw (mark_first x xs some) (first x xs some)))
      go false e = rw (unmarked k kind (Search wanted) result t (eqb-false result 0 e)) left

  pub own_match : (x : Match) (xs : List Match) → own k t page ≡ x ∷ xs → MatchOf (layout k) t page x
  own_match x xs e = members_of (layout k) t page x (subst (Memᴰ x) (sym e) (Memᴰ.head refl))

  module _ (good : GoodTable k t) where
    -- what is written fits an entry's words
    pub fits : (x : Match) → MatchOf (layout k) t page x → Word x.first × Word (with_marks true (storing kind) x.second)
    fits x m =
        let (first, second) = words_fit t (group_at k page x.secondary) x.entry good.bytes in
        (rw m.first_word_law first, rw m.second_word (marks_lt true (storing kind) (second_here k t page x.secondary x.entry) second))

    pub mark_good : (result : ℕ) → GoodTable k (marked_by k kind (Search wanted) result t)
    unfolding overwrite
    mark_good result =
        mark_by (GoodTable k) result good
        (λ x xs e.
        let m = own_match x xs e in
        (layout_laws k).put_good t (group_at k page x.secondary) x.entry x.first (with_marks true (storing kind) x.second) good
        (group_in_range (layout_laws k) x.secondary page) m.in_range_law)

    -- another page keeps its matches
    pub mark_leaves : (result : ℕ) (q : Page) → InRange page → InRange q → same_page page q ≡ false
        → matches_of (layout k) (marked_by k kind (Search wanted) result t) q ≡ matches_of (layout k) t q
    mark_leaves result q valid valid-q apart =
        mark_by (λ (u : List ℕ). matches_of (layout k) u q ≡ matches_of (layout k) t q) result refl
        (λ x xs e.
        let m = own_match x xs e in
        let (first, second) = fits x m in
        matches_of_same (layout k) t (marking x) q
        (overwrite_other (layout_laws k) t page good x x.first (with_marks true (storing kind) x.second) m first second (inr m.passes) q valid valid-q apart))

    -- the first match has its first word and the marked second word; every other entry reads as before
    pub mark_reads : (b : Bool) (i : ℕ) → FirstMatch k t page b i
        → (first_of (marked_by k kind (Search wanted) 0 t) (group_at k page b) i ≡ first_here k t page b i)
        × (second_of (marked_by k kind (Search wanted) 0 t) (group_at k page b) i ≡ with_marks true (storing kind) (second_here k t page b i))
    unfolding overwrite
    mark_reads b i f =
        let h = head_is k t page b i f in
        let (first, second) = words_fit t (group_at k page b) i good.bytes in
        let put : marked_by k kind (Search wanted) 0 t ≡ (layout k).put t (group_at k page b) i (first_here k t page b i) (with_marks true (storing kind) (second_here k t page b i))
        =
        mark_first h.x h.xs h.are
        ∙ ap₂ (λ (s : Bool) (j : ℕ). (layout k).put t (group_at k page s) j h.x.first (with_marks true (storing kind) h.x.second)) h.side h.at
        ∙ ap₂ (λ (u v : ℕ). (layout k).put t (group_at k page b) i u (with_marks true (storing kind) v)) h.first_is h.second_is in
        rw put
        (entry_put k t page good b i (first_here k t page b i) (with_marks true (storing kind) (second_here k t page b i)) f.matching.0 first
        (marks_lt true (storing kind) (second_here k t page b i) second))

    pub mark_others : (result g j : ℕ) → g < 2 ^ (10 + k) → j < 8 → ((b : Bool) → g ≡ group_at k page b → FirstMatch k t page b j → ⊥)
        → SameEntry t (marked_by k kind (Search wanted) result t) g j
    unfolding overwrite
    mark_others result g j lg lj not =
        mark_by (λ (u : List ℕ). SameEntry t u g j) result (refl, refl)
        (λ x xs e.
        let m = own_match x xs e in
        all_but_kept k t page good x.secondary x.entry x.first (with_marks true (storing kind) x.second) m.in_range_law g j lg lj
        (λ same at. not x.secondary same (subst (FirstMatch k t page x.secondary) (sym at) (first_of_law k t page x xs e))))

-- the first part's mark leaves the matches of the second's page
pub second_kept : (pairs width : ℕ) (words : List ℕ) (mode kind address length : ℕ) → over_edge address length ≡ true → (k result : ℕ) (t : List ℕ) → GoodTable k t → (w : Wanted)
    → part_early pairs width words mode kind address length true ≡ Search w
    → matches_of (layout k) (marked_by k kind (part_early pairs width words mode kind address length false) result t) (wanted_page w) ≡ matches_of (layout k) t (wanted_page w)
second_kept pairs width words mode kind address length over k result t good w e =
    by_early (part_early pairs width words mode kind address length false) (λ outcome f. rw (f, unmarked_decided k kind outcome result t))
    (λ v f.
    rw f (mark_leaves k kind v t good result (wanted_page w) (part_valid pairs width words mode kind (part_start address length false) v f)
    (part_valid pairs width words mode kind (part_start address length true) w e) (pages_apart pairs width words mode kind address length over v w f e)))

-- ---- a page whose matches are kept

module _ (k : ℕ) (t u : List ℕ) (page : Page) (kept : own k u page ≡ own k t page) where
  pub record KeptMatch (b : Bool) (i : ℕ) : Type 0 where
    pub matching : Matching k u page b i
    pub first_word_law : first_here k u page b i ≡ first_here k t page b i
    pub second_word : second_here k u page b i ≡ second_here k t page b i

  pub match_kept : (b : Bool) (i : ℕ) → Matching k t page b i → KeptMatch b i
  match_kept b i h =
      let m = members_of (layout k) u page (as_match k t page b i) (subst (Memᴰ (as_match k t page b i)) (sym kept) (matching_member k t page b i h)) in
      record {
        matching = (m.in_range_law, ap ((layout k).matching b page) (sym m.first_word_law) ∙ m.passes);
        first_word_law = sym m.first_word_law;
        second_word = sym m.second_word;
      }

pub first_kept : (k : ℕ) (t u : List ℕ) (page : Page) → own k u page ≡ own k t page → (b : Bool) (i : ℕ) → FirstMatch k t page b i → FirstMatch k u page b i
first_kept k t u page kept b i f = record {
  matching = (match_kept k t u page kept b i f.matching).matching;
  first = λ c j m. f.first c j (match_kept k u t page (sym kept) c j m).matching;
}

-- ---- two pages

module _ (k : ℕ) (t : List ℕ) (p q : Page) (valid-p : InRange p) (valid-q : InRange q) (apart : same_page p q ≡ false) where
  -- no entry matches both
  pub no_common : (b c : Bool) (i j : ℕ) → Matching k t p b i → Matching k t q c j → group_at k p b ≡ group_at k q c → i ≡ j → ⊥
  no_common b c i j m n same at =
      let word : first_here k t q c j ≡ first_here k t p b i = ap₂ (first_of t) (sym same) (sym at) in
      let equal = (layout_laws k).tells b c p q (first_here k t p b i) valid-p valid-q same m.1 (ap ((layout k).matching c q) (sym word) ∙ n.1) in
      true≢false (sym (same_page_refl p) ∙ ap (same_page p) equal ∙ apart)

module _ (k kind : ℕ) (v w : Wanted) (t : List ℕ) (good : GoodTable k t) (valid-v : InRange (wanted_page v)) (valid-w : InRange (wanted_page w))
    (apart : same_page (wanted_page v) (wanted_page w) ≡ false) where
  abbrev after : ℕ → Wanted → List ℕ → List ℕ
  after result x s = marked_by k kind (Search x) result s

  left_v : (result : ℕ) → own k (after result w t) (wanted_page v) ≡ own k t (wanted_page v)
  left_v result = mark_leaves k kind w t good result (wanted_page v) valid-w valid-v (apart_sym (wanted_page v) (wanted_page w) apart)

  left_w : (result : ℕ) → own k (after result v t) (wanted_page w) ≡ own k t (wanted_page w)
  left_w result = mark_leaves k kind v t good result (wanted_page w) valid-v valid-w apart

  pub marks_commute : (result : ℕ) → after result w (after result v t) ≡ after result v (after result w t)
  unfolding overwrite
  marks_commute result = go (eqb result 0) refl
    where
      both : (x y : Match) (xs ys : List Match) → own k t (wanted_page v) ≡ x ∷ xs → own k t (wanted_page w) ≡ y ∷ ys
          → after 0 w (after 0 v t) ≡ after 0 v (after 0 w t)
      both x y xs ys e f =
          let m = own_match k kind v t x xs e in
          let n = own_match k kind w t y ys f in
          let matching-x : Matching k t (wanted_page v) x.secondary x.entry
          = (m.in_range_law, ap ((layout k).matching x.secondary (wanted_page v)) (sym m.first_word_law) ∙ m.passes) in
          let matching-y : Matching k t (wanted_page w) y.secondary y.entry
          = (n.in_range_law, ap ((layout k).matching y.secondary (wanted_page w)) (sym n.first_word_law) ∙ n.passes) in
          mark_first k kind w (after 0 v t) y ys (left_w 0 ∙ f)
          ∙ ap (λ (s : List ℕ). overwrite (layout k) (wanted_page w) y y.first (with_marks true (storing kind) y.second) s) (mark_first k kind v t x xs e)
          ∙ stored_comm t (group_at k (wanted_page v) x.secondary) (group_at k (wanted_page w) y.secondary) x.entry y.entry
          x.first (with_marks true (storing kind) x.second) y.first (with_marks true (storing kind) y.second) m.in_range_law n.in_range_law
          (no_common k t (wanted_page v) (wanted_page w) valid-v valid-w apart x.secondary y.secondary x.entry y.entry matching-x matching-y)
          ∙ sym (ap (λ (s : List ℕ). overwrite (layout k) (wanted_page v) x x.first (with_marks true (storing kind) x.second) s) (mark_first k kind w t y ys f))
          ∙ sym (mark_first k kind v (after 0 w t) x xs (left_v 0 ∙ e))

      done : after 0 w (after 0 v t) ≡ after 0 v (after 0 w t)
      done =
          by_matches_law (own k t (wanted_page v))
          (λ e. ap (after 0 w) (mark_none k kind v t 0 e) ∙ sym (mark_none k kind v (after 0 w t) 0 (left_v 0 ∙ e)))
          (λ x xs e.
          by_matches_law (own k t (wanted_page w))
          (λ f. mark_none k kind w (after 0 v t) 0 (left_w 0 ∙ f) ∙ sym (ap (after 0 v) (mark_none k kind w t 0 f)))
          (λ y ys f. both x y xs ys e f))

      go : (d : Bool) → eqb result 0 ≡ d → after result w (after result v t) ≡ after result v (after result w t)
      go true e = rw (eqb-true result 0 e) done
      go false e =
          let n = eqb-false result 0 e in
          unmarked k kind (Search w) result (after result v t) n ∙ unmarked k kind (Search v) result t n
          ∙ sym (unmarked k kind (Search v) result (after result w t) n ∙ unmarked k kind (Search w) result t n)
