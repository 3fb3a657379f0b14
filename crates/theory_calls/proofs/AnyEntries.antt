-- Entries of any table, by group and number: a match is a member of the list of a page's matches, the first match is its head, the first free entry is
-- the one that map takes, and what an edit of all matches or of one entry leaves.
--   by_matches_law: a proof by the cases of a list of matches, none or a first one
--   own: the list of a page's matches in the table
--   as_match: the entry at a group and number as a member; matching-member: it is in the list where it matches
--   member_matching, member_second: a member is an entry that matches, and its second word is the entry's
--   some_match, no_match_law: the list is empty exactly where no entry matches
--   first_of_law, head_is: the head of the list is the page's first match, and the first match is the head
--   disagree, contradicts: the list contradicts itself exactly where two matching entries disagree
--   disagreeing_some: two that disagree are matches
--   place_free, free_is: the place that the search for a free entry names is the first free one, and the only such
--   none_free: where it names none, no entry of the page's groups is free
--   match_edited, others_kept: after an edit of all matches each has its new words, and every other entry is as before
--   entry_put, all_but_kept: an entry written has its new words, and every other entry is as before
use Prim.Native.Nat.{ℕ, suc, ◌+◌, ◌^◌, ◌≤◌, ◌<◌}
use mathlib.Core.Path.{◌≡◌, refl, sym, ap, ap₂, ◌∙◌, subst}
use mathlib.Core.Bool.{Bool, true, false, true≢false}
use mathlib.Core.List.{List, [], ◌∷◌, Memᴰ}
use mathlib.Core.Option.{none, some}
use native.Mathlib.Nat.{pow-suc}
use native.Mathlib.Omega.{arith}
use lib.Dec.{eqb}
use borrow.Author.Tests.{eqb-true, eqb-false}
use Rattle.matches.specs.Search.{agree, contradict}
use Rattle.matches.proofs.Agreement.{contradicted, agreeing}
use Rattle.groups.specs.declared.Page.{Page}
use Rattle.groups.specs.Group.{first_of, second_of}
use Rattle.theory_tables.specs.Matches.{Match}
use Rattle.theory_tables.specs.Layout.{groups, matches_of, free_place, overwrite_each}
use Rattle.theory_tables.proofs.Groups.{MatchOf, member_of, members_of, group_in_range}
use Rattle.theory_tables.proofs.Places.{free_place_some, free_place_none, free_unused}
use Rattle.theory_tables.proofs.First.{first_match_least, first_free_least}
use Rattle.theory_tables.proofs.Edits.{Edited, each_edited, reads_edited, reads_kept}
use Rattle.theory_calls.specs.OnBytes.{layout}
use Rattle.theory_calls.specs.Represents.{GoodTable}
use Rattle.theory_calls.specs.AnyTable.{SameEntry, in_order, group_at, first_here, second_here, Matching, SomeMatch, Disagreeing, FirstMatch, Free, FirstFree, OthersKept, AllButKept}
use Rattle.theory_calls.proofs.TableLaws.{Word, layout_laws}

-- by a list of matches, keeping the equation
pub by_matches_law : {X : Type 0} (ms : List Match) → (ms ≡ [] → X) → ((x : Match) (xs : List Match) → ms ≡ x ∷ xs → X) → X
by_matches_law [] missing found = missing refl
by_matches_law (x ∷ xs) missing found = found x xs refl

-- a place in search order tells the group and the entry
same_place : (b c : Bool) (i j : ℕ) → i < 8 → j < 8 → in_order b i ≡ in_order c j → (b ≡ c) × (i ≡ j)
same_place true true i j l m e = (refl, omega arith)
same_place true false i j l m e = absurd (omega arith)
same_place false true i j l m e = absurd (omega arith)
same_place false false i j l m e = (refl, omega arith)

pub at_place : (b c : Bool) (i j : ℕ) → i < 8 → j < 8 → in_order b i ≤ in_order c j → in_order c j ≤ in_order b i → (b ≡ c) × (i ≡ j)
at_place b c i j l m p q = same_place b c i j l m (omega arith)

module _ (k : ℕ) where
  -- there are 2 ^ (10 + k) groups
  groups_are : groups (layout k) ≡ 2 ^ (10 + k)
  groups_are = let e : 10 + k ≡ suc (9 + k) = omega arith in rw (e, pow-suc) (omega arith)

  module _ (t : List ℕ) (page : Page) where
    abbrev pub own : List Match
    own = matches_of (layout k) t page

    -- ---- matches

    pub member_matching : (x : Match) → Memᴰ x own → Matching k t page x.secondary x.entry
    member_matching x at =
        let m = members_of (layout k) t page x at in
        (m.in_range_law, ap ((layout k).matching x.secondary page) (sym m.first_word_law) ∙ m.passes)

    pub member_second : (x : Match) → Memᴰ x own → x.second ≡ second_here k t page x.secondary x.entry
    member_second x at = (members_of (layout k) t page x at).second_word

    -- an entry that matches, as a member
    abbrev pub as_match : Bool → ℕ → Match
    as_match b i = record { secondary = b; entry = i; first = first_here k t page b i; second = second_here k t page b i }

    pub matching_member : (b : Bool) (i : ℕ) → Matching k t page b i → Memᴰ (as_match b i) own
    matching_member b i m = member_of (layout k) t page b i m.0 m.1

    head_member : (x : Match) (xs : List Match) → own ≡ x ∷ xs → Memᴰ x own
    head_member x xs e = subst (Memᴰ x) (sym e) (mathlib.Core.List.Memᴰ.head refl)

    pub some_match : (x : Match) (xs : List Match) → own ≡ x ∷ xs → SomeMatch k t page
    some_match x xs e = (x.secondary, x.entry, member_matching x (head_member x xs e))

    pub no_match_law : own ≡ [] → SomeMatch k t page → ⊥
    no_match_law e (b, i, m) = mathlib.Core.List.Memᴰ.not-nil (subst (Memᴰ (as_match b i)) e (matching_member b i m))

    -- the head of the list is the first match
    pub first_of_law : (x : Match) (xs : List Match) → own ≡ x ∷ xs → FirstMatch k t page x.secondary x.entry
    first_of_law x xs e = record {
      matching = member_matching x (head_member x xs e);
      first = λ c j m. first_match_least (layout k) t page x xs e c j m.0 m.1;
    }

    -- the first match is the head of the list
    pub record HeadIs (b : Bool) (i : ℕ) : Type 0 where
      pub x : Match
      pub xs : List Match
      pub are : own ≡ x ∷ xs
      pub side : x.secondary ≡ b
      pub at : x.entry ≡ i
      pub first_is : x.first ≡ first_here k t page b i
      pub second_is : x.second ≡ second_here k t page b i

    pub head_is : (b : Bool) (i : ℕ) → FirstMatch k t page b i → HeadIs b i
    head_is b i f =
        by_matches_law own (λ e. absurd (no_match_law e (b, i, f.matching)))
        (λ x xs e.
        let here = head_member x xs e in
        let m = members_of (layout k) t page x here in
        let (side, at) = at_place x.secondary b x.entry i m.in_range_law f.matching.0
        (first_match_least (layout k) t page x xs e b i f.matching.0 f.matching.1) (f.first x.secondary x.entry (member_matching x here)) in
        record {
          x = x;
          xs = xs;
          are = e;
          side = side;
          at = at;
          first_is = m.first_word_law ∙ ap₂ (first_here k t page) side at;
          second_is = m.second_word ∙ ap₂ (second_here k t page) side at;
        })

    -- matches contradict exactly where two of them do not agree
    pub disagree : (x : Match) (xs : List Match) → own ≡ x ∷ xs → contradict x xs ≡ true → Disagreeing k t page
    disagree x xs e c =
        let (y, at, differ) = contradicted x xs c in
        let here = head_member x xs e in
        let there : Memᴰ y own = subst (Memᴰ y) (sym e) (mathlib.Core.List.Memᴰ.tail at) in (
          x.secondary,
          x.entry,
          y.secondary,
          y.entry,
          member_matching x here,
          member_matching y there,
          ap₂ agree (sym (member_second x here)) (sym (member_second y there)) ∙ differ,
        )

    pub contradicts : (x : Match) (xs : List Match) → own ≡ x ∷ xs → Disagreeing k t page → contradict x xs ≡ true
    contradicts x xs e (b, i, c, j, m, n, differ) = go (contradict x xs) refl
      where
        go : (d : Bool) → contradict x xs ≡ d → d ≡ true
        go true q = refl
        go false q =
            absurd (true≢false (sym (agreeing x xs q (as_match b i) (as_match c j) (subst (Memᴰ (as_match b i)) e (matching_member b i m))
            (subst (Memᴰ (as_match c j)) e (matching_member c j n))) ∙ differ))

    pub disagreeing_some : Disagreeing k t page → SomeMatch k t page
    disagreeing_some (b, i, c, j, m, n, differ) = (b, i, m)

    -- ---- free entries

    pub place_free : (b : Bool) (i : ℕ) → free_place (layout k) t page ≡ some (b, i) → FirstFree k t page b i
    place_free b i e =
        let f = free_place_some (layout k) t page b i e in
        record { is_free = (f.in_range_law, f.is_free); first = λ c j free. first_free_least (layout k) t page b i f c j free.0 free.1 }

    -- the first free entry is the one that the search names
    pub free_is : (b c : Bool) (i j : ℕ) → FirstFree k t page b i → free_place (layout k) t page ≡ some (c, j) → (b ≡ c) × (i ≡ j)
    free_is b c i j f e =
        let g = place_free c j e in
        at_place b c i j f.is_free.0 g.is_free.0 (f.first c j g.is_free) (g.first b i f.is_free)

    pub none_free : free_place (layout k) t page ≡ none → (b : Bool) (i : ℕ) → Free k t page b i → ⊥
    none_free e b i f = go b f
      where
        go : (c : Bool) → Free k t page c i → ⊥
        go false g =
            let used = free_unused (layout k) t (group_at k page false) i g.0 g.1 in
            let full = ((free_place_none (layout k) t page).0 e).0 in
            omega arith
        go true g =
            let used = free_unused (layout k) t (group_at k page true) i g.0 g.1 in
            let full = ((free_place_none (layout k) t page).0 e).1 in
            omega arith

    module _ (good : GoodTable k t) where
      -- ---- an edit of every match

      module _ (edit : Match → ℕ × ℕ) (fits : (x : Match) → MatchOf (layout k) t page x → Word (edit x).0 × Word (edit x).1) where
        edited : Edited (layout k) (GoodTable k) t (overwrite_each (layout k) page edit own t) page edit
        edited = each_edited (layout_laws k) page edit t good fits

        pub match_edited : (b : Bool) (i : ℕ) → Matching k t page b i
            → (first_of (overwrite_each (layout k) page edit own t) (group_at k page b) i ≡ (edit (as_match b i)).0)
            × (second_of (overwrite_each (layout k) page edit own t) (group_at k page b) i ≡ (edit (as_match b i)).1)
        match_edited b i m = reads_edited (layout_laws k) edited b i m.0 m.1

        pub others_kept : OthersKept k t page (overwrite_each (layout k) page edit own t)
        others_kept g i lg l not = go (eqb g (group_at k page false)) refl (eqb g (group_at k page true)) refl
          where
            kept : (b : Bool) → g ≡ group_at k page b → (m : Bool) → (layout k).matching b page (first_here k t page b i) ≡ m
                → SameEntry t (overwrite_each (layout k) page edit own t) g i
            kept b is true e = absurd (not b is (l, e))
            kept b is false e = rw is (reads_kept (layout_laws k) edited b i l e)

            go : (p : Bool) → eqb g (group_at k page false) ≡ p → (s : Bool) → eqb g (group_at k page true) ≡ s
                → SameEntry t (overwrite_each (layout k) page edit own t) g i
            go true e s f = kept false (eqb-true g (group_at k page false) e) ((layout k).matching false page (first_here k t page false i)) refl
            go false e true f = kept true (eqb-true g (group_at k page true) f) ((layout k).matching true page (first_here k t page true i)) refl
            go false e false f =
                edited.elsewhere g i (rw groups_are lg) l (eqb-false g (group_at k page false) e) (eqb-false g (group_at k page true) f)

      -- ---- one entry written

      module _ (b : Bool) (i u v : ℕ) (l : i < 8) where
        pub entry_put : Word u → Word v
            → (first_of ((layout k).put t (group_at k page b) i u v) (group_at k page b) i ≡ u)
            × (second_of ((layout k).put t (group_at k page b) i u v) (group_at k page b) i ≡ v)
        entry_put fu fv = (layout_laws k).put_same t (group_at k page b) i u v good (group_in_range (layout_laws k) b page) l fu fv

        pub all_but_kept : AllButKept k t page b i ((layout k).put t (group_at k page b) i u v)
        all_but_kept g j lg lj not = go (eqb g (group_at k page b)) refl
          where
            go : (p : Bool) → eqb g (group_at k page b) ≡ p → SameEntry t ((layout k).put t (group_at k page b) i u v) g j
            go true e =
                let is = eqb-true g (group_at k page b) e in
                rw is ((layout_laws k).put_other_entry t (group_at k page b) i j u v good (group_in_range (layout_laws k) b page) l lj (λ q. not is q))
            go false e =
                (layout_laws k).put_other_group t (group_at k page b) g i j u v good (group_in_range (layout_laws k) b page) (rw groups_are lg) l lj
                (eqb-false g (group_at k page b) e)
