-- A call that is lent no cache keeps every place of the cache backed but those of the sets that it leaves to be invalidated: another page's matches are
-- as before, a page that is mapped anew had no match, and a mark keeps an entry backed.
use Prim.Native.Nat.{ℕ, ◌^◌, ◌<◌}
use mathlib.Core.Path.{◌≡◌, refl, sym, ap, ◌∙◌}
use mathlib.Core.Bool.{Bool, true, false, ◌&&◌, true≢false}
use mathlib.Core.List.{List, cons≢nil}
use mathlib.Core.Logic.{inl, inr}
use lib.Dec.{eqb, lit<}
use lib.ListN.{length}
use borrow.Author.Tests.{eq-eqb}
use Rattle.words.proofs.Tests.{by_test}
use Rattle.entry.specs.Entry.{second_word, with_pp}
use Rattle.entry.proofs.Marks.{with_pp_lt}
use Rattle.entry.proofs.Matches.{free_zero}
use Rattle.entry.proofs.Packing.{second_lt}
use Rattle.groups.specs.declared.Page.{Page}
use Rattle.groups.specs.Page.{InRange, same_page}
use Rattle.groups.proofs.Hash.{same_page_eq}
use Rattle.groups.proofs.Stored.{words_fit}
use Rattle.matches.specs.Search.{contradict}
use Rattle.theory_tables.specs.Matches.{Match}
use Rattle.theory_tables.specs.Layout.{matches_of, free_place, overwrite_each}
use Rattle.theory_tables.proofs.Groups.{MatchOf, matches_of_same, group_in_range}
use Rattle.theory_tables.proofs.Places.{free_place_some}
use Rattle.theory_tables.proofs.Overwrites.{OwnWord, put_other_page}
use Rattle.theory_tables.proofs.Edits.{each_edited, edited_other}
use Rattle.translation.specs.Operand.{over_edge}
use Rattle.cache.specs.Cache.{set_of}
use Rattle.theory_calls.specs.Made.{fed_answered}
use Rattle.theory_calls.specs.Request.{ClearCall, MapCall, ProtectCall, AnsweredCall, AccessCall, Request, clear, map_page, unmap, protect, look, access, fed}
use Rattle.theory_calls.specs.Rules.{refusal}
use Rattle.theory_calls.specs.OnBytes.{Ended, layout, entry_word, early_of, whole_answer, search_in, first_place_in, marked_by, bytes_do}
use Rattle.theory_calls.specs.Represents.{GoodTable}
use Rattle.theory_calls.proofs.TableLaws.{layout_laws, represents_zeros}
use Rattle.theory_calls.proofs.Rules.{map_kept, unmap_kept, protect_kept}
use Rattle.theory_calls.proofs.Access.{by_early, wanted_valid, unmarked_decided}
use Rattle.theory_calls.proofs.AnyEntries.{by_matches_law}
use Rattle.theory_calls.proofs.Step.{own_fits, own_matches}
use Rattle.theory_calls.proofs.TwoMarks.{mark_good}
use Rattle.theory_cache.proofs.Backed.{Backed, backed_kept, backed_marked}
use Rattle.theory_cache.proofs.Found.{by_cases}
use Rattle.theory_histories.specs.Discipline.{leaves_stale}

and_true : (a : Bool) → (a && true) ≡ a
and_true true = refl
and_true false = refl

-- the table after a call is good, and a page whose set is not left to be invalidated is still backed
pub record Keeps (k : ℕ) (request : Request (List ℕ)) (t : List ℕ) (e : Ended (List ℕ)) : Type 0 where
  pub fine : GoodTable k e.state
  pub still : (page : Page) → InRange page → (first second : ℕ) → (leaves_stale request (set_of page.index) && eqb e.number 0) ≡ false
      → Backed k t page first second → Backed k e.state page first second

module _ (k : ℕ) (t : List ℕ) (good : GoodTable k t) where
  -- a call that leaves the table
  unchanged : (request : Request (List ℕ)) (e : Ended (List ℕ)) → e.state ≡ t → Keeps k request t e
  unchanged request e same = rw same (record { fine = good; still = λ page valid first second fresh b. b })

  -- pages of two sets are two
  apart : (p q : Page) → eqb (set_of p.index) (set_of q.index) ≡ false → same_page p q ≡ false
  apart p q sets = go (same_page p q) refl
    where
      go : (s : Bool) → same_page p q ≡ s → s ≡ false
      go true same =
          absurd (true≢false (sym (eq-eqb (set_of p.index) (set_of q.index) (ap (λ (r : Page). set_of r.index) (same_page_eq p q same))) ∙ sets))
      go false same = refl

  clear_keeps : (c : ClearCall) → Keeps k (clear c) t (bytes_do k (clear c) t)
  unfolding bytes_do
  clear_keeps c = record {
    fine = (represents_zeros k (length t) good.long).good;
    still = λ page valid first second fresh b. absurd (true≢false fresh);
  }

  map_keeps : (c : MapCall) → InRange c.page → c.rpn < 2 ^ 20 → c.wimg < 2 ^ 4 → c.pp < 2 ^ 2 → Keeps k (map_page c) t (bytes_do k (map_page c) t)
  unfolding bytes_do
  map_keeps c valid hr hw hp =
      by_matches_law (matches_of (layout k) t c.page)
      (λ none-there.
      by_cases (free_place (layout k) t c.page) (λ n. rw (none-there, n) (unchanged (map_page c) _ refl))
      (λ at n.
      let place = free_place_some (layout k) t c.page at.0 at.1 n in
      let first = entry_word at.0 c.page in
      let second = second_word c.rpn 0 0 c.wimg c.pp in
      let fits = second_lt c.rpn 0 0 c.wimg c.pp hr (lit< tt) (lit< tt) hw hp in
      rw (none-there, n)
      (record {
        fine = (layout_laws k).put_good t ((layout k).group at.0 c.page) at.1 first second good (group_in_range (layout_laws k) at.0 c.page) place.in_range_law;
        still = λ page v f s fresh b.
            by_test (same_page c.page page)
            (λ same.
            absurd (cons≢nil (sym b.are ∙ ap (matches_of (layout k) t) (sym (same_page_eq c.page page same)) ∙ none-there)))
            (λ other.
            backed_kept b ((layout k).put t ((layout k).group at.0 c.page) at.1 first second)
            (matches_of_same (layout k) t ((layout k).put t ((layout k).group at.0 c.page) at.1 first second) page
            (put_other_page (layout_laws k) t c.page good at.0 at.1 first second place.in_range_law (own_fits at.0 c.page valid) fits (inl place.is_free)
            (inr (own_matches at.0 c.page valid k)) page valid v other)));
      })))
      (λ x xs there. rw there (unchanged (map_page c) _ refl))

  -- every match of a page edited, the set of its page index left to be invalidated
  edited_keeps : (request : Request (List ℕ)) (page : Page) (edit : Match → ℕ × ℕ) (e : Ended (List ℕ)) → InRange page
      → ((q : Page) → leaves_stale request (set_of q.index) ≡ eqb (set_of page.index) (set_of q.index)) → e.number ≡ 0
      → e.state ≡ overwrite_each (layout k) page edit (matches_of (layout k) t page) t
      → ((x : Match) → MatchOf (layout k) t page x → ((edit x).0 < 2 ^ 32) × ((edit x).1 < 2 ^ 32))
      → ((x : Match) → MatchOf (layout k) t page x → OwnWord (layout k) page x.secondary (edit x).0) → Keeps k request t e
  edited_keeps request page edit e valid stale zero left fits own =
      let edited = each_edited (layout_laws k) page edit t good fits in
      let u = overwrite_each (layout k) page edit (matches_of (layout k) t page) t in
      rw left
      (record {
        fine = edited.good;
        still = λ q v f s fresh b.
            let sets : eqb (set_of page.index) (set_of q.index) ≡ false = sym (stale q) ∙ sym (and_true (leaves_stale request (set_of q.index))) ∙ ap (λ (n : ℕ). leaves_stale request (set_of q.index) && eqb n 0) (sym zero) ∙ fresh in
            backed_kept b u (matches_of_same (layout k) t u q (edited_other (layout_laws k) edited own q valid v (apart page q sets)));
      })

  unmap_keeps : (c : AnsweredCall (List ℕ)) → InRange c.page → Keeps k (unmap c) t (bytes_do k (unmap c) t)
  unfolding bytes_do
  unmap_keeps c valid =
      by_matches_law (matches_of (layout k) t c.page) (λ none-there. rw none-there (unchanged (unmap c) _ refl))
      (λ x xs there.
      rw there
      (edited_keeps (unmap c) c.page (λ y. (0, 0)) _ valid (λ q. refl) refl (ap (λ (l : List Match). overwrite_each (layout k) c.page (λ y. (0, 0)) l t) (sym there))
      (λ y m. (lit< tt, lit< tt)) (λ y m. inl free_zero)))

  protect_keeps : (c : ProtectCall) → InRange c.page → c.pp < 2 ^ 2 → Keeps k (protect c) t (bytes_do k (protect c) t)
  unfolding bytes_do
  protect_keeps c valid fits =
      by_matches_law (matches_of (layout k) t c.page) (λ none-there. rw none-there (unchanged (protect c) _ refl))
      (λ x xs there.
      rw there
      (edited_keeps (protect c) c.page (λ y. (y.first, with_pp c.pp y.second)) _ valid (λ q. refl) refl
      (ap (λ (l : List Match). overwrite_each (layout k) c.page (λ y. (y.first, with_pp c.pp y.second)) l t) (sym there))
      (λ y m.
      let (first, second) = words_fit t ((layout k).group y.secondary c.page) y.entry good.bytes in
      (rw m.first_word_law first, rw m.second_word (with_pp_lt c.pp _ fits second))) (λ y m. inr m.passes)))

  look_keeps : (c : AnsweredCall (List ℕ)) → Keeps k (look c) t (bytes_do k (look c) t)
  unfolding bytes_do
  look_keeps c =
      by_matches_law (matches_of (layout k) t c.page) (λ none-there. rw none-there (unchanged (look c) _ refl))
      (λ x xs there. rw there (by_test (contradict x xs) (λ d. rw d (unchanged (look c) _ refl)) (λ d. rw d (unchanged (look c) _ refl))))

-- a mark of a part of an access
part_keeps : (k : ℕ) (t : List ℕ) → GoodTable k t → (c : AccessCall (List ℕ)) (second : Bool) (result : ℕ) →
    let u = marked_by k c.kind (early_of c second) result t in
    GoodTable k u × ((page : Page) → InRange page → (f s : ℕ) → Backed k t page f s → Backed k u page f s)
part_keeps k t good c second result =
    by_early (early_of c second) (λ outcome e. rw (e, unmarked_decided k c.kind outcome result t) (good, λ page v f s b. b))
    (λ wanted e. rw e (mark_good k c.kind wanted t good result, λ page v f s b. backed_marked b good v c.kind wanted result (wanted_valid c second wanted e)))

access_keeps : (k : ℕ) (t : List ℕ) → GoodTable k t → (c : AccessCall (List ℕ)) → Keeps k (access c) t (bytes_do k (access c) t)
unfolding bytes_do
access_keeps k t good c =
    let result = (whole_answer c (search_in k t) (first_place_in k t)).part.result in
    let (fine, still) = part_keeps k t good c false result in
    let (fine-2, still-2) = part_keeps k (marked_by k c.kind (early_of c false) result t) fine c true result in
    by_test (over_edge c.address c.length)
    (λ over. rw over (record { fine = fine-2; still = λ page v f s fresh b. still-2 page v f s (still page v f s b) }))
    (λ one. rw one (record { fine = fine; still = λ page v f s fresh b. still page v f s b }))

-- each call that its arguments do not refuse
pub keeps : (k : ℕ) (t : List ℕ) → GoodTable k t → (request : Request (List ℕ)) (lent : ℕ) → refusal (fed request) lent ≡ 0 → Keeps k request t (bytes_do k request t)
unfolding fed
keeps k t good (clear c) lent e = clear_keeps k t good c
keeps k t good (map_page c) lent e = let kept = map_kept lent c e in map_keeps k t good c kept.0 kept.1.0 kept.1.1.0 kept.1.1.1
keeps k t good (unmap c) lent e = unmap_keeps k t good c (unmap_kept lent (fed_answered c) e)
keeps k t good (protect c) lent e = let (valid, hp) = protect_kept lent c e in protect_keeps k t good c valid hp
keeps k t good (look c) lent e = look_keeps k t good c
keeps k t good (access c) lent e = access_keeps k t good c
