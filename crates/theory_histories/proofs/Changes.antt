-- What a call does to the finite map: it leaves it, empties it, puts a page in, takes one out, or revises pages' marks or protection.
use Prim.Native.Nat.{ℕ}
use mathlib.Core.Path.{◌≡◌, refl, sym, subst}
use mathlib.Core.Bool.{Bool, true, false, cond}
use mathlib.Core.List.{[], ◌∷◌}
use mathlib.Core.Logic.{ite, if_pos, if_neg}
use mathlib.Core.Option.{Option, none, some}
use lib.Dec.{eqb}
use borrow.Author.Tests.{eqb-true, eqb-false}
use Rattle.theory_placement.specs.FiniteMap.{fields_at, put_in, take_out, revise, mapped_pages}
use Rattle.register_words.specs.Sdr1.{mask_ones}
use Rattle.groups.specs.declared.Page.{Page}
use Rattle.groups.specs.Page.{same_page}
use Rattle.protection.specs.Access.{storing}
use Rattle.translation.specs.Operand.{over_edge}
use Rattle.translation.specs.declared.Early.{Early}
use Rattle.translation.specs.declared.Early.TheVariants.{Decided, Search}
use Rattle.theory_calls.specs.Request.{Request, clear, map_page, unmap, protect, look, access, sdr1_in}
use Rattle.theory_calls.specs.Rules.{refusal}
use Rattle.theory_calls.specs.Answers.{word_answer}
use Rattle.theory_calls.specs.OnBytes.{Ended, ended, by_option, early_of, whole_answer, wanted_page}
use Rattle.theory_calls.specs.OnMap.{PageFields, Map, fields_word, mark_fields, protect_fields, Arranged, arranged?, found_in, map_marked, map_does, on_map}
use Rattle.theory_calls.proofs.Histories.{map_taken, map_refused}
use Rattle.theory_histories.specs.Theorem.{Maps, by_map, TakesOut, by_clear, by_unmap}

-- marks and protection leave frame and attributes
pub record KeepsFrame (u : PageFields → PageFields) : Type 0 where
  pub frame : (f : PageFields) → (u f).frame ≡ f.frame
  pub attributes : (f : PageFields) → (u f).attributes ≡ f.attributes

-- a map of which pages' marks or protection were revised, one after the other
pub data Revisions (m : Map) : Map → Type 0 where
  kept : {n : Map} → n ≡ m → Revisions m n
  revising : {n : Map} (o : Map) → Revisions m o → (page : Page) (u : PageFields → PageFields) → KeepsFrame u → n ≡ revise same_page page u o → Revisions m n

pub data Changed (request : Request ℕ) (m : Map) (d : Ended Map) : Type 0 where
  left : d.state ≡ m → Changed request m d
  emptied : ((page : Page) → TakesOut page request) → d.number ≡ 0 → d.state ≡ [] → Changed request m d
  put : (page : Page) (f : PageFields) → Maps page request → d.number ≡ 0 → fields_at same_page page m ≡ none → d.state ≡ put_in page f m → Changed request m d
  took : (page : Page) (f : PageFields) → TakesOut page request → d.number ≡ 0 → fields_at same_page page m ≡ some f → d.state ≡ take_out same_page page m → Changed request m d
  revised : Revisions m d.state → Changed request m d

mark_keeps : (store : Bool) → KeepsFrame (mark_fields store)
mark_keeps store = record { frame = λ f. refl; attributes = λ f. refl }

protect_keeps : (pp : ℕ) → KeepsFrame (protect_fields pp)
protect_keeps pp = record { frame = λ f. refl; attributes = λ f. refl }

-- the mark of a part
mark_revises : (kind : ℕ) (early : Early) (result : ℕ) (m n : Map) → Revisions m n → Revisions m (map_marked kind early result n)
unfolding map_marked
mark_revises kind (Decided outcome) result m n so = so
mark_revises kind (Search wanted) result m n so = go (eqb result 0)
  where
    go : (t : Bool) → Revisions m (cond t (revise same_page (wanted_page wanted) (mark_fields (storing kind)) n) n)
    go true = revising n so (wanted_page wanted) (mark_fields (storing kind)) (mark_keeps (storing kind)) refl
    go false = so

module _ (k : ℕ) (m : Map) where
  -- a call that its arguments do not refuse
  does : (request : Request ℕ) → Changed request m (map_does k request m)
  unfolding map_does
  does (clear c) = emptied (λ page. by_clear c) refl refl
  does (map_page c) = go (fields_at same_page c.page m) refl
    where
      page : Page
      page = c.page

      new : PageFields
      new = record { frame = c.rpn; attributes = c.wimg; protection = c.pp; referenced = false; changed = false }

      branch : Ended Map
      branch = ite (arranged? k (page ∷ mapped_pages m)) (ended 0 (put_in page new m) []) (ended 9 m [])

      by : Dec (Arranged k (page ∷ mapped_pages m)) → fields_at same_page page m ≡ none → Changed (map_page c) m branch
      by (yes a) e =
          let same = if_pos (arranged? k (page ∷ mapped_pages m)) a (ended 0 (put_in page new m) []) (ended 9 m []) in
          subst (Changed (map_page c) m) (sym same) (put page new (by_map c refl) refl e refl)
      by (no a) e =
          let same = if_neg (arranged? k (page ∷ mapped_pages m)) a (ended 0 (put_in page new m) []) (ended 9 m []) in
          subst (Changed (map_page c) m) (sym same) (left refl)

      go : (o : Option PageFields) → fields_at same_page page m ≡ o → Changed (map_page c) m (by_option o branch (λ f. ended 7 m []))
      go none e = by (arranged? k (page ∷ mapped_pages m)) e
      go (some f) e = left refl
  does (unmap c) = go (fields_at same_page c.page m) refl
    where
      go : (o : Option PageFields) → fields_at same_page c.page m ≡ o
          → Changed (unmap c) m (by_option o (ended 8 m (word_answer 8 0)) (λ f. ended 0 (take_out same_page c.page m) (word_answer 0 (fields_word f))))
      go none e = left refl
      go (some f) e = took c.page f (by_unmap c refl) refl e refl
  does (protect c) = go (fields_at same_page c.page m)
    where
      go : (o : Option PageFields) → Changed (protect c) m (by_option o (ended 8 m []) (λ f. ended 0 (revise same_page c.page (protect_fields c.pp) m) []))
      go none = left refl
      go (some f) = revised (revising m (kept refl) c.page (protect_fields c.pp) (protect_keeps c.pp) refl)
  does (look c) = go (fields_at same_page c.page m)
    where
      go : (o : Option PageFields) → Changed (look c) m (by_option o (ended 8 m (word_answer 8 0)) (λ f. ended 0 m (word_answer 0 (fields_word f))))
      go none = left refl
      go (some f) = left refl
  does (access c) = revised (go (over_edge c.address c.length))
    where
      result : ℕ
      result = (whole_answer c (λ wanted. found_in m (wanted_page wanted)) (λ wanted. (0, 0))).part.result

      step : Bool → Map → Map
      step second = map_marked c.kind (early_of c second) result

      marks : (n : Map) → Revisions m n → (second : Bool) → Revisions m (step second n)
      marks n so second = mark_revises c.kind (early_of c second) result m n so

      go : (over : Bool) → Revisions m (cond over (step true (step false m)) (step false m))
      go true = marks _ (marks m (kept refl) false) true
      go false = marks m (kept refl) false

-- any call
pub changed : (request : Request ℕ) (lent : ℕ) (m : Map) → Changed request m (on_map request lent m)
changed request lent m = go (eqb (refusal request lent) 0) refl
  where
    go : (t : Bool) → eqb (refusal request lent) 0 ≡ t → Changed request m (on_map request lent m)
    go true e = rw (map_taken request lent m (eqb-true (refusal request lent) 0 e)) (does (mask_ones (sdr1_in request)) m request)
    go false e = rw (map_refused request lent m (refusal request lent) refl (eqb-false (refusal request lent) 0 e)) (left refl)
