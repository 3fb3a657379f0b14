-- What a call on one page knows once the page's groups are located and searched: where they lie, what the search told of the page's matches and free
-- entries, and that an edit or an entry made there is the page's own.
--   table_of: the table of a call that its rules do not refuse has the length that its SDR1 tells
--   locatable: what `locate` asks holds; search_asked: so does what the search of the groups located asks
--   AtGroups, at_groups: the groups located are the page's own, two, and lie in the table
--   group_is_law, group_inside: the group of an entry found or free is the page's, and lies in the table
--   page_free: which entries are free; told_is: the search tells of the page's matches and free entries
--   placed_is: an entry written at the group located is the page's
--   Known, known: what the search told of the page's matches and free entries, for any SDR1 that the table's length is right for
--   contradict_is: the first match is told to have others that differ where these contradict it
--   First, first_found, none_found: the page's first match and the others, as the search told, or none; first_lt: it is one of eight entries
--   free_is, place_lt: the free place told is the page's first free one, and one of eight entries
--   edited_missing, edited_done: the edit of a page with no match, and of one that has matches
--   unmap_by, protect_by: what unmap and protect leave, by what the edit of the page does
use mathlib.Core.Path.{◌≡◌, refl, sym, ap, ap₂, ◌∙◌}
use mathlib.Core.Bool.{Bool, true, false, cond}
use mathlib.Core.List.{List, [], ◌∷◌}
use Prim.Native.Nat.{ℕ, ◌+◌, ◌*◌, ◌^◌, ◌≤◌, ◌<◌}
use native.Mathlib.Omega.{arith}
use denote.Enum.Bare.{sameb}
use lib.ListN.{length}
use Rattle.std.specs.Prelude.{Option, Some, None}
use Rattle.entry.specs.Entry.{first_word, api_of}
use Rattle.entry.proofs.Addresses.{api_lt}
use Rattle.register_words.specs.Sdr1.{table_length, mask_ones, hash_bits}
use Rattle.register_words.proofs.Sdr1.{length_is}
use Rattle.groups.specs.declared.Page.{Page}
use Rattle.groups.specs.Page.{InRange}
use Rattle.groups.specs.Hash.{group_number, located, TableOf, SomeTable}
use Rattle.groups.specs.Group.{group_of, put_at, free_after, first_free_place}
use Rattle.groups.specs.declared.Located.{Located}
use Rattle.groups.specs.declared.Place.{Place}
use Rattle.groups.proofs.Free.{PlaceCase, in_primary_law, in_secondary_law, nowhere, place_case}
use Rattle.groups.proofs.Hash.{group_lt, own_groups_differ, within_table}
use Rattle.theory_tables.specs.Matches.{Match}
use Rattle.theory_tables.specs.Layout.{matches_of, overwrite_each}
use Rattle.matches.specs.Search.{h_of, WantedWord, pair_matches, marks_of, merged, contradict, others_of, found_of, first_match, told, in_both}
use Rattle.matches.specs.contracts.Others.{the_type}
use Rattle.matches.specs.declared.FirstMatch.{FirstMatch}
use Rattle.matches.specs.declared.Others.TheVariants.{Agreeing, Differing}
use Rattle.matches.specs.declared.Told.{Told}
use Rattle.match_edits.specs.Edit.{edited, edit_pair}
use Rattle.match_edits.specs.declared.Edit.{Edit}
use Rattle.match_edits.specs.declared.Edit.TheVariants.{Clear, Protect}
use Rattle.match_edits.specs.declared.pp.Pp.{Pp}
use Rattle.match_edits.proofs.Alone.{entry_is}
use Rattle.theory_calls.specs.Made.{to_unmap, to_protect}
use Rattle.theory_calls.specs.Answers.{word_answer}
use Rattle.theory_calls.specs.OnBytes.{layout, by_matches, entry_word, ended, bytes_do}
use Rattle.theory_calls.proofs.OnBytes.{matches_by_groups}
use Rattle.theory_calls.proofs.PageCalls.{Kept, own_group, page_matches, edited_both, edit_is}
use Rattle.page_calls.specs.PageWork.{page_told, page_edited}

-- a free place is one of a group's eight entries
pub place_lt : (p s : List ℕ) (place : Place) → first_free_place p s ≡ Some place → place.entry < 8
place_lt p s place q = go (first_free_place p s) (place_case p s) q
  where
    go : (o : Option Place) → PlaceCase p s o → o ≡ Some place → place.entry < 8
    go o (in_primary_law j n l) e = let z : place.entry ≡ j = cc in omega arith
    go o (in_secondary_law j m n l) e = let z : place.entry ≡ j = cc in omega arith
    go o (nowhere m n) e = absurd (let z : ◌≡◌ {A = ℕ} 0 1 = cc in omega arith)

-- what the rules that every call on a page has leave of the table
pub table_of : (in_range : Bool) (sdr1 lent : ℕ) → Kept in_range sdr1 lent → TableOf sdr1 lent
table_of in_range sdr1 lent k = record { shape = k.shape; right = k.right_length }

-- the first match is told to have others that differ where these contradict it
pub contradict_is : (x : Match) (xs : List Match) → contradict x xs ≡ sameb the_type (others_of x xs) Differing
unfolding contradict others_of
contradict_is x [] = refl
contradict_is x (y ∷ ys) = go (contradict x (y ∷ ys))
  where
    go : (b : Bool) → b ≡ sameb the_type (cond b Differing Agreeing) Differing
    go true = refl
    go false = refl

-- what `locate` asks
pub locatable : (lent : ℕ) (page : Page) → SomeTable lent → InRange page → (64 ≤ lent) × (lent < 2 ^ 32) × InRange page
unfolding table_length
locatable lent page (sdr1, right) fits = let whole = right.right in (omega arith, omega arith, fits)

-- ---- the first match of a list, as a search tells it

module _ (ms : List Match) (first : FirstMatch) where
  pub record First : Type 0 where
    pub x : Match
    pub xs : List Match
    pub are : ms ≡ x ∷ xs
    pub is : first_match x xs ≡ first

pub first_found : (ms : List Match) (first : FirstMatch) → found_of ms ≡ Some first → First ms first
first_found [] first e = absurd (let z : ◌≡◌ {A = ℕ} 0 1 = cc in omega arith)
first_found (x ∷ xs) first e = record { x = x; xs = xs; are = refl; is = cc }

pub none_found : (ms : List Match) → found_of ms ≡ None → ms ≡ []
none_found [] e = refl
none_found (x ∷ xs) e = absurd (let z : ◌≡◌ {A = ℕ} 0 1 = cc in omega arith)

-- ---- where a page's groups lie

module _ (sdr1 : ℕ) (page : Page) (t : List ℕ) (l : Located) where
  -- where a page's groups lie in a table of right length
  pub record AtGroups : Type 0 where
    pub own : l ≡ located (mask_ones sdr1) page
    pub primary_in : 64 * l.primary + 64 ≤ length t
    pub secondary_in : 64 * l.secondary + 64 ≤ length t
    pub apart : l.primary ≡ l.secondary → ⊥
    pub wants : WantedWord false page.vsid (api_of page.index) l.wanted
    pub both_in : (b : Bool) → 64 * group_number (10 + mask_ones sdr1) b page + 64 ≤ length t

  own_groups : TableOf sdr1 (length t) → InRange page → l ≡ located (mask_ones sdr1) page → AtGroups
  unfolding hash_bits
  own_groups right fits e =
      let k = mask_ones sdr1 in
      let inside : (b : Bool) → 64 * group_number (10 + k) b page + 64 ≤ length t =
      λ b. rw right.right (within_table sdr1 (group_number (10 + k) b page) right.shape (group_lt (10 + k) page b)) in
      record {
        own = e;
        primary_in = rw e (inside false);
        secondary_in = rw e (inside true);
        apart = λ q. own_groups_differ (10 + k) page (omega arith) (sym (ap (λ (x : Located). x.secondary) e) ∙ sym q ∙ ap (λ (x : Located). x.primary) e);
        wants = (fits.vsid_lt, api_lt page.index fits.index_lt, ap (λ (x : Located). x.wanted) e);
        both_in = inside;
      }

  -- the same by what `locate` ensures
  pub at_groups : TableOf sdr1 (length t) → InRange page → ((k : ℕ) → length t ≡ 65536 * 2 ^ k → l ≡ located k page) → AtGroups
  at_groups right fits locates = own_groups right fits (locates (mask_ones sdr1) (right.right ∙ length_is sdr1 right.shape))

  module _ (at : AtGroups) where
    abbrev k : ℕ
    k = mask_ones sdr1

    -- which entries of the page's groups are free
    abbrev pub page_free : ℕ
    page_free = free_after (free_after 0 (own_group k t page false)) (own_group k t page true)

    -- the search tells of the page's matches and free entries
    pub told_is : (both : Told)
        → ((vsid api : ℕ) → WantedWord false vsid api l.wanted → both ≡ in_both vsid api (group_of t l.primary) (group_of t l.secondary))
        → both ≡ told (page_matches k t page) page_free
    unfolding in_both
    told_is both searches =
        searches page.vsid (api_of page.index) at.wants ∙ ap (λ (x : Located). in_both page.vsid (api_of page.index) (group_of t x.primary) (group_of t x.secondary)) at.own

    pub pair_is : pair_matches page.vsid (api_of page.index) (group_of t l.primary) (group_of t l.secondary) ≡ page_matches k t page
    pair_is = ap (λ (x : Located). pair_matches page.vsid (api_of page.index) (group_of t x.primary) (group_of t x.secondary)) at.own

    edit_is_law : (edit : Edit) → edit_pair edit page.vsid (api_of page.index) l.primary l.secondary t ≡ edited_both k t page edit
    edit_is_law edit = ap (λ (x : Located). edit_pair edit page.vsid (api_of page.index) x.primary x.secondary t) at.own

    pub group_is_law : (b : Bool) (g : ℕ) → g ≡ cond b l.secondary l.primary → g ≡ group_number (10 + k) b page
    group_is_law true g q = q ∙ ap (λ (x : Located). x.secondary) at.own
    group_is_law false g q = q ∙ ap (λ (x : Located). x.primary) at.own

    pub group_inside : (b : Bool) (g : ℕ) → g ≡ cond b l.secondary l.primary → 64 * g + 64 ≤ length t
    group_inside b g q = rw (group_is_law b g q) (at.both_in b)

    -- an entry written by the group that was located and by its first word is the page's
    pub placed_is : (b : Bool) (i g first second word : ℕ) (u : List ℕ) → g ≡ cond b l.secondary l.primary
        → first ≡ first_word 1 page.vsid (h_of b) (api_of page.index) → second ≡ word → u ≡ put_at t g i first second
        → u ≡ put_at t (group_number (10 + k) b page) i (entry_word b page) word
    unfolding entry_word
    placed_is b i g first second word u qg qf qs q = q ∙ rw (group_is_law b g qg, qf, qs)

    -- each match edited is the edit of the page
    module _ (first : FirstMatch) (f : First (page_matches k t page) first) where
      pub first_lt : first.place.entry < 8
      first_lt = rw (ap (λ (x : FirstMatch). x.place.entry) (sym f.is)) (entry_is page.vsid (api_of page.index) l.primary l.secondary t f.x f.xs (pair_is ∙ f.are)).0

      pub edited_done : (edit : Edit) (u : List ℕ) (word : ℕ)
          → ((vsid api : ℕ) → WantedWord false vsid api l.wanted → found_of (pair_matches vsid api (group_of t l.primary) (group_of t l.secondary)) ≡ Some first
          → (u ≡ edit_pair edit vsid api l.primary l.secondary t) × (word ≡ marks_of (pair_matches vsid api (group_of t l.primary) (group_of t l.secondary)) first.second))
          → ◌≡◌ {A = ℕ × (List ℕ × ℕ)} (0, (u, word)) (page_edited k page edit t)
      unfolding merged page_edited
      edited_done edit u word edits =
          let done = edits page.vsid (api_of page.index) at.wants (ap found_of (pair_is ∙ f.are) ∙ ap Some f.is) in
          let word_is : word ≡ merged f.x f.xs = done.1 ∙ ap₂ marks_of (pair_is ∙ f.are) (ap (λ (x : FirstMatch). x.second) (sym f.is)) in
          rw (done.0 ∙ edit_is_law edit ∙ edit_is k t page edit at.both_in, word_is, matches_by_groups k t page ∙ f.are)

-- what the search of the groups located asks
pub search_asked : (page : Page) (t : List ℕ) (l : Located) → SomeTable (length t) → InRange page → ((k : ℕ) → length t ≡ 65536 * 2 ^ k → l ≡ located k page)
    → (64 * l.primary + 64 ≤ length t) × (64 * l.secondary + 64 ≤ length t)
search_asked page t l table fits locates =
    let g = at_groups table.0 page t l table.1 fits locates in (g.primary_in, g.secondary_in)

-- what a call knows of a page whose groups were located and searched
module _ (sdr1 : ℕ) (page : Page) (t : List ℕ) (l : Located) (both : Told) where
  pub record Known : Type 0 where
    pub at : AtGroups sdr1 page t l
    pub first_is : both.first ≡ found_of (page_matches (mask_ones sdr1) t page)
    pub free_is : both.free ≡ page_free sdr1 page t l at

pub known : (page : Page) (t : List ℕ) (found : Located × Told) → InRange page
    → ((sdr1 : ℕ) → TableOf sdr1 (length t) → found ≡ (located (mask_ones sdr1) page, page_told (mask_ones sdr1) page t))
    → (sdr1 : ℕ) → TableOf sdr1 (length t) → Known sdr1 page t found.0 found.1
unfolding in_both told
known page t found fits finds sdr1 right =
    let e = finds sdr1 right in
    record {
      at = own_groups sdr1 page t found.0 right fits (ap (λ (p : Located × Told). p.0) e);
      first_is = ap (λ (p : Located × Told). p.1.first) e;
      free_is = ap (λ (p : Located × Told). p.1.free) e;
    }

-- ---- an edit of the page's matches, and what unmap and protect make of it

module _ (k : ℕ) (page : Page) (t : List ℕ) where
  pub edited_missing : (edit : Edit) → page_matches k t page ≡ [] → ◌≡◌ {A = ℕ × (List ℕ × ℕ)} (8, (t, 0)) (page_edited k page edit t)
  unfolding page_edited
  edited_missing edit none = rw (matches_by_groups k t page ∙ none)

  -- what is made of an edit's number, table and word, by the page's matches
  by_edit : {X : Type 0} (make : ℕ × (List ℕ × ℕ) → X) (edit : Edit) (p : ℕ × (List ℕ × ℕ)) → p ≡ page_edited k page edit t
      → make p ≡ by_matches (matches_of (layout k) t page) (make (8, (t, 0))) (λ x xs. make (0, (overwrite_each (layout k) page (edited edit) (x ∷ xs) t, merged x xs)))
  unfolding page_edited
  by_edit make edit p e = ap make e ∙ go (matches_of (layout k) t page)
    where
      go : (ms : List Match) → make (by_matches ms (8, (t, 0)) (λ x xs. (0, (overwrite_each (layout k) page (edited edit) (x ∷ xs) t, merged x xs))))
          ≡ by_matches ms (make (8, (t, 0))) (λ x xs. make (0, (overwrite_each (layout k) page (edited edit) (x ∷ xs) t, merged x xs)))
      go [] = refl
      go (x ∷ xs) = refl

  module _ (sdr1 number : ℕ) (u : List ℕ) (word : ℕ) where
    pub unmap_by : (answer : List ℕ) → ◌≡◌ {A = ℕ × (List ℕ × ℕ)} (number, (u, word)) (page_edited k page Clear t)
        → ended number u (word_answer number word) ≡ bytes_do k (to_unmap sdr1 page answer) t
    unfolding bytes_do edited
    unmap_by answer e = by_edit (λ p. ended p.0 p.1.0 (word_answer p.0 p.1.1)) Clear (number, (u, word)) e

    pub protect_by : (pp : Pp) → ◌≡◌ {A = ℕ × (List ℕ × ℕ)} (number, (u, word)) (page_edited k page (Protect pp) t)
        → ended number u [] ≡ bytes_do k (to_protect sdr1 page pp.value) t
    unfolding bytes_do edited
    protect_by pp e = by_edit (λ p. ended p.0 p.1.0 []) (Protect pp) (number, (u, word)) e
