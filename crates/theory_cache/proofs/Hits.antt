-- A part of an operand by a backed hit answers as by the search: the entry agrees in RPN, WIMG and PP, which is all that steps 5 to 7 and the record
-- read of it, and stands in the group that its H names. Only the entry number is another.
use Prim.Native.Nat.{ℕ, ◌+◌}
use mathlib.Core.Path.{◌≡◌, refl, sym, ap, ap₂, ◌∙◌}
use mathlib.Core.Bool.{Bool, true, false, ◌&&◌}
use mathlib.Core.List.{List}
use lib.Dec.{eqb}
use borrow.Author.Tests.{eqb-true, eqb-false}
use Rattle.words.specs.Bits.{bits}
use Rattle.words.proofs.Tests.{both, by_test}
use Rattle.entry.specs.Entry.{api_of, rpn_of, wimg_of, pp_of, changed, with_marks, physical_address}
use Rattle.entry.proofs.Addresses.{api_lt}
use Rattle.entry.proofs.Matches.{matched}
use Rattle.groups.specs.Page.{InRange}
use Rattle.groups.specs.Hash.{group_number}
use Rattle.groups.specs.Group.{first_of, second_of, put_at}
use Rattle.groups.proofs.Stored.{stored_own}
use Rattle.matches.specs.Search.{h_of, agree}
use Rattle.theory_tables.specs.Layout.{overwrite}
use Rattle.theory_tables.specs.Matches.{Match}
use Rattle.protection.specs.Access.{fetching, storing}
use Rattle.protection.specs.Protection.{page_allows, guarded}
use Rattle.translation.specs.Steps.{page_outcome, after_search, answer_of}
use Rattle.translation.specs.Decision.{key_and_pp, decision_of}
use Rattle.translation.specs.declared.Early.TheVariants.{Search}
use Rattle.translation.specs.declared.Searched.TheVariants.{At}
use Rattle.translation.specs.declared.Wanted.{Wanted}
use Rattle.translation.specs.declared.decision.Used.{Used}
use Rattle.theory_calls.specs.OnBytes.{wanted_page, searched, search_in, first_place_in, marked_by}
use Rattle.theory_calls.specs.Represents.{GoodTable}
use Rattle.theory_calls.proofs.Fields.{one_if_lt}
use Rattle.theory_calls.proofs.Access.{unmarked}
use Rattle.theory_calls.proofs.TwoMarks.{mark_first, own_match}
use Rattle.theory_cache.proofs.Backed.{Backed, marks_idle}

-- ---- two second words that agree

module _ (v w : ℕ) (same : agree v w ≡ true) where
  fields : (rpn_of v ≡ rpn_of w) × (wimg_of v ≡ wimg_of w) × (pp_of v ≡ pp_of w)
  unfolding agree
  fields =
      let (front, p) = both (eqb (rpn_of v) (rpn_of w) && eqb (wimg_of v) (wimg_of w)) (eqb (pp_of v) (pp_of w)) same in
      let (r, a) = both (eqb (rpn_of v) (rpn_of w)) (eqb (wimg_of v) (wimg_of w)) front in
      (eqb-true (rpn_of v) (rpn_of w) r, eqb-true (wimg_of v) (wimg_of w) a, eqb-true (pp_of v) (pp_of w) p)

  module _ (kind : ℕ) (key : Bool) where
    -- an access answers alike by them
    pub answer_agrees : (address : ℕ) → answer_of kind address (after_search kind key (At v)) ≡ answer_of kind address (after_search kind key (At w))
    unfolding after_search page_outcome answer_of physical_address
    answer_agrees address =
        let (r, a, p) = fields in
        rw (a, p) (by_test (fetching kind && guarded (wimg_of w)) (λ g. rw g) (λ g. rw g (by_test (page_allows key (pp_of w) kind) (λ h. rw (h, r, a)) (λ h. rw h))))

    -- and shows the same
    pub decision_agrees : (used : Used) → decision_of used (after_search kind key (At v)) ≡ decision_of used (after_search kind key (At w))
    unfolding after_search page_outcome decision_of key_and_pp
    decision_agrees used =
        let (r, a, p) = fields in
        rw (a, p) (by_test (fetching kind && guarded (wimg_of w)) (λ g. rw g) (λ g. rw g (by_test (page_allows key (pp_of w) kind) (λ h. rw (h, p)) (λ h. rw (h, p)))))

-- ---- a backed hit

module _ (k : ℕ) (t : List ℕ) (wanted : Wanted) (first second : ℕ) (b : Backed k t (wanted_page wanted) first second) where
  -- the search finds the first match
  pub search_is : search_in k t wanted ≡ At b.x.second
  unfolding searched
  search_is = rw (b.are, b.agreed)

  pub place_is : first_place_in k t wanted ≡ (group_number (10 + k) b.x.secondary (wanted_page wanted), b.x.entry)
  place_is = rw b.are

  -- it stands in the group that H of its first word names
  pub group_is_law : InRange (wanted_page wanted) → eqb (bits 25 25 first) 1 ≡ b.x.secondary
  group_is_law valid =
      let m = own_match k 0 wanted t b.x b.xs b.are in
      let f = matched wanted.vsid (h_of b.x.secondary) (api_of wanted.index) b.x.first valid.vsid_lt (one_if_lt b.x.secondary) (api_lt wanted.index valid.index_lt) m.passes in
      ap (λ (w : ℕ). eqb (bits 25 25 w) 1) (sym b.word) ∙ ap (λ (h : ℕ). eqb h 1) f.has_h ∙ own b.x.secondary
    where
      own : (s : Bool) → eqb (h_of s) 1 ≡ s
      own true = refl
      own false = refl

  -- its mark changes nothing
  pub mark_idle : (kind result : ℕ) → GoodTable k t → (storing kind ≡ true → changed second ≡ true) → marked_by k kind (Search wanted) result t ≡ t
  unfolding overwrite
  mark_idle kind result good has_c = go (eqb result 0) refl
    where
      x : Match
      x = b.x

      go : (d : Bool) → eqb result 0 ≡ d → marked_by k kind (Search wanted) result t ≡ t
      go true e =
          let m = own_match k kind wanted t x b.xs b.are in
          let g = group_number (10 + k) x.secondary (wanted_page wanted) in
          let words : (x.first ≡ first_of t g x.entry) × (with_marks true (storing kind) x.second ≡ second_of t g x.entry)
          = (m.first_word_law, marks_idle (storing kind) x.second b.r_set (λ s. b.c_set (has_c s)) ∙ m.second_word) in
          rw (eqb-true result 0 e)
          (mark_first k kind wanted t x b.xs b.are ∙ ap₂ (put_at t g x.entry) words.0 words.1 ∙ stored_own t g x.entry good.bytes)
      go false e = unmarked k kind (Search wanted) result t (eqb-false result 0 e)
