-- What the invariant says of one place of the cache: the words that it holds for a page are backed by the page's first match in the table. A mark, and
-- any edit of another page, keeps this; and where a hit is backed, the search finds an entry that agrees with it and the mark of step 7 changes nothing.
--   Backed: the page's first match stands for the cached words: same first word, a second word that agrees, R set, C set where cached
--   backed_kept: a table with the same matches of the page backs the words too
--   backed_marked: a mark of any page keeps them backed
--   contradict_marks: marks of the first match do not count where matches are compared
--   marks_idle: marks that a word has already change nothing
use Prim.Native.Nat.{ℕ}
use mathlib.Core.Path.{◌≡◌, refl, sym, ap, ap₂, ◌∙◌}
use mathlib.Core.Bool.{Bool, true, false, not, ◌||◌}
use mathlib.Core.List.{List, [], ◌∷◌}
use lib.Dec.{eqb, lit<, lit≤}
use borrow.Author.Tests.{eqb-true, eqb-false}
use Rattle.entry.specs.Entry.{referenced, changed, with_marks}
use Rattle.entry.proofs.Marks.{marks_above, marks_below, marks_own, marks_again, marks_referenced, marks_changed}
use Rattle.groups.specs.declared.Page.{Page}
use Rattle.groups.specs.Page.{InRange, same_page}
use Rattle.groups.proofs.Hash.{same_page_eq}
use Rattle.matches.specs.Search.{agree, contradict}
use Rattle.theory_tables.specs.Matches.{Match}
use Rattle.theory_tables.specs.Layout.{matches_of}
use Rattle.theory_tables.proofs.Overwrites.{with_words, overwrite_first}
use Rattle.protection.specs.Access.{storing}
use Rattle.translation.specs.declared.Early.TheVariants.{Search}
use Rattle.translation.specs.declared.Wanted.{Wanted}
use Rattle.theory_calls.specs.OnBytes.{layout, wanted_page, marked_by}
use Rattle.theory_calls.specs.Represents.{GoodTable}
use Rattle.theory_calls.proofs.TableLaws.{layout_laws}
use Rattle.theory_calls.proofs.Access.{unmarked}
use Rattle.theory_calls.proofs.TwoMarks.{mark_first, mark_leaves, own_match, fits}

-- the page's first match has that first word; its second word agrees with the cached one, has R set, and C set where the cached one has; and no other
-- match disagrees
pub record Backed (k : ℕ) (t : List ℕ) (page : Page) (first second : ℕ) : Type 0 where
  pub x : Match
  pub xs : List Match
  pub are : matches_of (layout k) t page ≡ x ∷ xs
  pub word : x.first ≡ first
  pub agrees : agree second x.second ≡ true
  pub agreed : contradict x xs ≡ false
  pub r_set : referenced x.second ≡ true
  pub c_set : changed second ≡ true → changed x.second ≡ true

-- marks do not count in a comparison
pub agree_marks : (r c : Bool) (v w : ℕ) → agree v (with_marks r c w) ≡ agree v w
unfolding agree
agree_marks r c v w =
    rw (marks_above r c w 0 19 (lit< tt), marks_below r c w 25 28 (lit< tt) (lit≤ tt) (lit< tt), marks_below r c w 30 31 (lit< tt) (lit≤ tt) (lit< tt))

marks_agree : (r c : Bool) (v w : ℕ) → agree (with_marks r c v) w ≡ agree v w
unfolding agree
marks_agree r c v w =
    rw (marks_above r c v 0 19 (lit< tt), marks_below r c v 25 28 (lit< tt) (lit≤ tt) (lit< tt), marks_below r c v 30 31 (lit< tt) (lit≤ tt) (lit< tt))

pub contradict_marks : (r c : Bool) (x : Match) (xs : List Match) → contradict (with_words x (x.first, with_marks r c x.second)) xs ≡ contradict x xs
unfolding contradict
contradict_marks r c x [] = refl
contradict_marks r c x (y ∷ ys) = ap₂ (λ (a b : Bool). not a || b) (marks_agree r c x.second y.second) (contradict_marks r c x ys)

or_true : (a b : Bool) → b ≡ true → (a || b) ≡ true
or_true true b e = refl
or_true false b e = e

-- a word with these marks already
pub marks_idle : (c : Bool) (w : ℕ) → referenced w ≡ true → (c ≡ true → changed w ≡ true) → with_marks true c w ≡ w
marks_idle c w r h =
    ap (with_marks true c) (sym (marks_own w)) ∙ marks_again true c (referenced w) (changed w) w
    ∙ ap₂ (λ (a b : Bool). with_marks a b w) (sym r) (own c h) ∙ marks_own w
  where
    own : (d : Bool) → (d ≡ true → changed w ≡ true) → (d || changed w) ≡ changed w
    own true e = sym (e refl)
    own false e = refl

module _ {k : ℕ} {t : List ℕ} {page : Page} {first second : ℕ} (b : Backed k t page first second) where
  -- the same matches in another table
  pub backed_kept : (u : List ℕ) → matches_of (layout k) u page ≡ matches_of (layout k) t page → Backed k u page first second
  backed_kept u same = record {
    x = b.x;
    xs = b.xs;
    are = same ∙ b.are;
    word = b.word;
    agrees = b.agrees;
    agreed = b.agreed;
    r_set = b.r_set;
    c_set = b.c_set;
  }

  module _ (good : GoodTable k t) (valid : InRange page) where
    -- a mark, of this page or of another
    pub backed_marked : (kind : ℕ) (wanted : Wanted) (result : ℕ) → InRange (wanted_page wanted) → Backed k (marked_by k kind (Search wanted) result t) page first second
    backed_marked kind wanted result own-valid = by_page_law (same_page (wanted_page wanted) page) refl
      where
        marked : (d : Bool) → eqb result 0 ≡ d → wanted_page wanted ≡ page → Backed k (marked_by k kind (Search wanted) result t) page first second
        marked false e same = backed_kept (marked_by k kind (Search wanted) result t) (ap (λ (u : List ℕ). matches_of (layout k) u page) (unmarked k kind (Search wanted) result t (eqb-false result 0 e)))
        marked true e same =
            let x = b.x in
            let are : matches_of (layout k) t (wanted_page wanted) ≡ x ∷ b.xs = ap (matches_of (layout k) t) same ∙ b.are in
            let m = own_match k kind wanted t x b.xs are in
            let (f, s) = fits k kind wanted t good x m in
            let now = overwrite_first (layout_laws k) t (wanted_page wanted) good x b.xs x.first (with_marks true (storing kind) x.second) are f s m.passes in
            rw (eqb-true result 0 e)
            (record {
              x = with_words x (x.first, with_marks true (storing kind) x.second);
              xs = b.xs;
              are =
                  ap (matches_of (layout k) (marked_by k kind (Search wanted) 0 t)) (sym same)
                  ∙ ap (λ (u : List ℕ). matches_of (layout k) u (wanted_page wanted)) (mark_first k kind wanted t x b.xs are) ∙ now;
              word = b.word;
              agrees = agree_marks true (storing kind) second x.second ∙ b.agrees;
              agreed = contradict_marks true (storing kind) x b.xs ∙ b.agreed;
              r_set = marks_referenced true (storing kind) x.second;
              c_set = λ c. marks_changed true (storing kind) x.second ∙ or_true (storing kind) (changed x.second) (b.c_set c);
            })

        by_page_law : (s : Bool) → same_page (wanted_page wanted) page ≡ s → Backed k (marked_by k kind (Search wanted) result t) page first second
        by_page_law true e = marked (eqb result 0) refl (same_page_eq (wanted_page wanted) page e)
        by_page_law false e =
            backed_kept (marked_by k kind (Search wanted) result t) (mark_leaves k kind wanted t good result page own-valid valid e)
