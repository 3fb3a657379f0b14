-- What a request on the finite map does to one page: it keeps it out unless it maps it, and keeps its frame and attributes unless it takes it out.
use Prim.Native.Nat.{ℕ}
use mathlib.Core.Path.{◌≡◌, refl, sym, ap, ◌∙◌, subst}
use mathlib.Core.Bool.{Bool, true, false, cond}
use mathlib.Core.Logic.{ite, if_pos, if_neg}
use borrow.Author.Tests.{eqb-true, eqb-false}
use Rattle.register_words.specs.Sdr1.{mask_ones}
use mathlib.Core.List.{List, [], ◌∷◌}
use mathlib.Core.Option.{Option, none, some, some-ne-none}
use native.Mathlib.Omega.{arith}
use lib.Dec.{eqb}
use Rattle.theory_placement.specs.FiniteMap.{fields_at, put_in, take_out, revise, mapped_pages}
use Rattle.theory_placement.proofs.FiniteMap.{fields_at_put_in_same, fields_at_put_in_other, fields_at_take_out_same, fields_at_take_out_other, fields_at_revise}
use Rattle.groups.specs.declared.Page.{Page}
use Rattle.groups.specs.Page.{same_page}
use Rattle.groups.proofs.Hash.{same_page_refl, same_page_eq}
use Rattle.theory_calls.specs.Made.{fed_answered}
use Rattle.theory_calls.specs.Request.{MapCall, Request, clear, map_page, unmap, protect, look, access, fed, sdr1_in}
use Rattle.theory_calls.specs.Rules.{refusal}
use Rattle.theory_calls.specs.Answers.{word_answer}
use Rattle.theory_calls.specs.OnBytes.{Ended, ended, by_option}
use Rattle.theory_calls.specs.OnMap.{PageFields, Map, fields_word, Arranged, arranged?, map_does, on_map}
use Rattle.theory_histories.specs.Theorem.{Maps, by_map, TakesOut, by_clear, by_unmap}
use Rattle.theory_histories.proofs.Changes.{Revisions, kept, revising, Changed, left, emptied, put, took, revised}
use Rattle.theory_calls.proofs.Histories.{map_taken, map_refused}

-- a page's fields have this frame and these attributes
pub record Has (rpn wimg : ℕ) (page : Page) (m : Map) : Type 0 where
  pub fields : PageFields
  pub mapped : fields_at same_page page m ≡ some fields
  pub frame : fields.frame ≡ rpn
  pub attributes : fields.attributes ≡ wimg

-- revised marks and protection keep a page out, or its frame and attributes
module _ (page : Page) (m : Map) where
  revisions_out : (n : Map) → fields_at same_page page m ≡ none → Revisions m n → fields_at same_page page n ≡ none
  revisions_out n e (kept q) = rw q e
  revisions_out n e (revising o more other u keep q) =
      rw q (fields_at_revise same_page same_page_refl same_page_eq other page u o ∙ (rw (revisions_out o e more) (cond_none (same_page other page))))
    where
      cond_none : (t : Bool) → cond {A = Option PageFields} t none none ≡ none
      cond_none true = refl
      cond_none false = refl

  module _ (rpn wimg : ℕ) (had : Has rpn wimg page m) where
    revisions_in : (n : Map) → Revisions m n → Has rpn wimg page n
    revisions_in n (kept q) = rw q had
    revisions_in n (revising o more other u keep q) = rw q (by (revisions_in o more) (same_page other page) refl)
      where
        by : Has rpn wimg page o → (t : Bool) → same_page other page ≡ t → Has rpn wimg page (revise same_page other u o)
        by has true s = record {
          fields = u has.fields;
          mapped = fields_at_revise same_page same_page_refl same_page_eq other page u o ∙ (rw (s, has.mapped));
          frame = keep.frame has.fields ∙ has.frame;
          attributes = keep.attributes has.fields ∙ has.attributes;
        }
        by has false s = record {
          fields = has.fields;
          mapped = fields_at_revise same_page same_page_refl same_page_eq other page u o ∙ (rw s has.mapped);
          frame = has.frame;
          attributes = has.attributes;
        }

module _ (page : Page) (request : Request ℕ) (m : Map) (d : Ended Map) where
  -- a page that is not mapped stays so unless it is mapped
  pub stays_out : fields_at same_page page m ≡ none → (Maps page request → d.number ≡ 0 → ⊥) → Changed request m d → fields_at same_page page d.state ≡ none
  stays_out e n (left q) = rw q e
  stays_out e n (emptied a b q) = rw q
  stays_out e n (put other f a b c q) = rw q (by (same_page other page) refl)
    where
      by : (t : Bool) → same_page other page ≡ t → fields_at same_page page (put_in other f m) ≡ none
      by true s = absurd (n (subst (λ p. Maps p request) (same_page_eq other page s) a) b)
      by false s = fields_at_put_in_other same_page same_page_refl same_page_eq other page f m s ∙ e
  stays_out e n (took other f a b c q) = rw q (by (same_page other page) refl)
    where
      by : (t : Bool) → same_page other page ≡ t → fields_at same_page page (take_out same_page other m) ≡ none
      by true s = subst (λ p. fields_at same_page p (take_out same_page other m) ≡ none) (same_page_eq other page s) (fields_at_take_out_same same_page same_page_refl same_page_eq other m)
      by false s = fields_at_take_out_other same_page same_page_refl same_page_eq other page m s ∙ e
  stays_out e n (revised more) = revisions_out page m _ e more

  -- a mapped page keeps its frame and attributes unless it is taken out
  pub stays_in : (rpn wimg : ℕ) → Has rpn wimg page m → (TakesOut page request → d.number ≡ 0 → ⊥) → Changed request m d → Has rpn wimg page d.state
  stays_in rpn wimg has n (left q) = rw q has
  stays_in rpn wimg has n (emptied a b q) = absurd (n (a page) b)
  stays_in rpn wimg has n (put other f a b c q) = rw q (by (same_page other page) refl)
    where
      by : (t : Bool) → same_page other page ≡ t → Has rpn wimg page (put_in other f m)
      by true s = absurd (some-ne-none has.fields (sym has.mapped ∙ subst (λ p. fields_at same_page p m ≡ none) (same_page_eq other page s) c))
      by false s = record {
        fields = has.fields;
        mapped = fields_at_put_in_other same_page same_page_refl same_page_eq other page f m s ∙ has.mapped;
        frame = has.frame;
        attributes = has.attributes;
      }
  stays_in rpn wimg has n (took other f a b c q) = rw q (by (same_page other page) refl)
    where
      by : (t : Bool) → same_page other page ≡ t → Has rpn wimg page (take_out same_page other m)
      by true s = absurd (n (subst (λ p. TakesOut p request) (same_page_eq other page s) a) b)
      by false s = record {
        fields = has.fields;
        mapped = fields_at_take_out_other same_page same_page_refl same_page_eq other page m s ∙ has.mapped;
        frame = has.frame;
        attributes = has.attributes;
      }
  stays_in rpn wimg has n (revised more) = revisions_in page m rpn wimg has _ more

-- what the finite map is fed asks the same
pub maps_fed : (page : Page) (request : Request (List ℕ)) → Maps page (fed request) → Maps page request
unfolding fed
maps_fed page (clear c) m = elim m [ ]
maps_fed page (map_page c) (by_map d is) = by_map d is
maps_fed page (unmap c) m = elim m [ ]
maps_fed page (protect c) m = elim m [ ]
maps_fed page (look c) m = elim m [ ]
maps_fed page (access c) m = elim m [ ]

pub takes_fed : (page : Page) (request : Request (List ℕ)) → TakesOut page (fed request) → TakesOut page request
unfolding fed
takes_fed page (clear c) (by_clear d) = by_clear c
takes_fed page (map_page c) m = elim m [ ]
takes_fed page (unmap c) (by_unmap d is) = by_unmap c is
takes_fed page (protect c) m = elim m [ ]
takes_fed page (look c) m = elim m [ ]
takes_fed page (access c) m = elim m [ ]

pub fed_takes : (page : Page) (request : Request (List ℕ)) → TakesOut page request → TakesOut page (fed request)
unfolding fed
fed_takes page request (by_clear c) = by_clear c
fed_takes page request (by_unmap c is) = by_unmap (fed_answered c) is

-- a done call that takes the page out leaves it out, and a done map of it leaves it with the map's frame and attributes
module _ (lent : ℕ) (m : Map) where
  -- a done call is one that its arguments do not refuse
  pub done_taken : (request : Request ℕ) → (on_map request lent m).number ≡ 0 → refusal request lent ≡ 0
  done_taken request z = by (eqb (refusal request lent) 0) refl
    where
      by : (t : Bool) → eqb (refusal request lent) 0 ≡ t → refusal request lent ≡ 0
      by true e = eqb-true (refusal request lent) 0 e
      by false e =
          let n = eqb-false (refusal request lent) 0 e in
          absurd (n (sym (ap (λ (d : Ended Map). d.number) (map_refused request lent m (refusal request lent) refl n)) ∙ z))

  pub done_does : (request : Request ℕ) → (on_map request lent m).number ≡ 0 → on_map request lent m ≡ map_does (mask_ones (sdr1_in request)) request m
  done_does request z = map_taken request lent m (done_taken request z)

  pub taken_out : (page : Page) (request : Request ℕ) → TakesOut page request → (on_map request lent m).number ≡ 0
      → fields_at same_page page (on_map request lent m).state ≡ none
  unfolding map_does
  taken_out page request (by_clear c) z = rw (done_does (clear c) z)
  taken_out page request (by_unmap c is) z =
      subst (λ (p : Page). fields_at same_page p (on_map (unmap c) lent m).state ≡ none) is
      (rw (done_does (unmap c) z) (by (fields_at same_page c.page m) (rw (done_does (unmap c) z) at z)))
    where
      told : Option PageFields → Ended Map
      told o = by_option o (ended 8 m (word_answer 8 0)) (λ f. ended 0 (take_out same_page c.page m) (word_answer 0 (fields_word f)))

      by : (o : Option PageFields) → (told o).number ≡ 0 → fields_at same_page c.page (told o).state ≡ none
      by none n = absurd (omega arith)
      by (some f) n = fields_at_take_out_same same_page same_page_refl same_page_eq c.page m

  pub put_in_law : (c : MapCall) → (on_map (map_page c) lent m).number ≡ 0 → Has c.rpn c.wimg c.page (on_map (map_page c) lent m).state
  unfolding map_does
  put_in_law c z = rw (done_does (map_page c) z) (by (fields_at same_page c.page m) (rw (done_does (map_page c) z) at z))
    where
      ones : ℕ
      ones = mask_ones (sdr1_in {A = ℕ} (map_page c))

      new : PageFields
      new = record { frame = c.rpn; attributes = c.wimg; protection = c.pp; referenced = false; changed = false }

      placed_in : Ended Map
      placed_in = ended 0 (put_in c.page new m) []

      full : Ended Map
      full = ended 9 m []

      arranged : (d : Dec (Arranged ones (c.page ∷ mapped_pages m))) → (ite d placed_in full).number ≡ 0 → Has c.rpn c.wimg c.page (ite d placed_in full).state
      arranged d n = pick d
        where
          pick : Dec (Arranged ones (c.page ∷ mapped_pages m)) → Has c.rpn c.wimg c.page (ite d placed_in full).state
          pick (yes a) =
              subst (λ (x : Ended Map). Has c.rpn c.wimg c.page x.state) (sym (if_pos d a placed_in full))
              (record { fields = new; mapped = fields_at_put_in_same same_page same_page_refl same_page_eq c.page new m; frame = refl; attributes = refl })
          pick (no a) = absurd (let z : ◌≡◌ {A = ℕ} 9 0 = ap (λ (x : Ended Map). x.number) (sym (if_neg d a placed_in full)) ∙ n in omega arith)

      by : (o : Option PageFields) → (by_option o (ite (arranged? ones (c.page ∷ mapped_pages m)) placed_in full) (λ f. ended 7 m [])).number ≡ 0
          → Has c.rpn c.wimg c.page (by_option o (ite (arranged? ones (c.page ∷ mapped_pages m)) placed_in full) (λ f. ended 7 m [])).state
      by none n = arranged (arranged? ones (c.page ∷ mapped_pages m)) n
      by (some f) n = absurd (omega arith)
