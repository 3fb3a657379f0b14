-- A part by what the steps before the search come to: what it answers, what decided it, that its entry lies in the table, and that taking it is what
-- the definition takes. A hit takes nothing; a part that went to the table marks the first match, which is still the first match of its page then.
use Prim.Native.Nat.{ℕ, ◌+◌, ◌^◌, ◌<◌}
use mathlib.Core.Path.{◌≡◌, refl, sym, ap, ap₂, subst, ◌∙◌}
use mathlib.Core.Bool.{Bool, true, false, cond}
use mathlib.Core.List.{List, ◌∷◌, Memᴰ}
use native.Mathlib.Omega.{arith}
use lib.Dec.{ltb, lit<}
use borrow.Author.Tests.{lt-ltb, ltb-true}
use Rattle.std.specs.Prelude.{Option, Some, None, IfSome}
use Rattle.registers.specs.Set.{block_pairs, covering_pair}
use Rattle.register_pages.specs.Pair.{pair_number}
use Rattle.register_pages.proofs.Page.{pairs_most}
use lib.ListN.{length, get_or}
use Rattle.words.specs.Bits.{bits}
use Rattle.words.proofs.Tests.{by_test}
use Rattle.entry.specs.Entry.{api_of, page_index, with_marks}
use Rattle.entry.proofs.Matches.{matched}
use Rattle.entry.proofs.Marks.{marks_lt}
use Rattle.entry.proofs.Addresses.{api_lt}
use Rattle.register_words.specs.Sdr1.{mask_ones}
use Rattle.register_words.proofs.Sdr1.{length_is}
use Rattle.groups.specs.declared.Page.{Page}
use Rattle.groups.specs.Page.{InRange}
use Rattle.groups.specs.Hash.{group_number, TableOf}
use Rattle.groups.specs.Group.{first_of, put_at}
use Rattle.groups.proofs.Stored.{words_fit}
use Rattle.matches.specs.Search.{h_of, contradict}
use Rattle.theory_tables.specs.Matches.{Match}
use Rattle.theory_tables.specs.Layout.{matches_of, overwrite}
use Rattle.theory_tables.proofs.Groups.{MatchOf, members_of}
use Rattle.theory_tables.proofs.Overwrites.{with_words, overwrite_first}
use Rattle.protection.specs.Access.{storing}
use Rattle.protection.specs.Fault.{no_match}
use Rattle.translation.specs.Steps.{before_search, after_search, outcome_of, answer_of}
use Rattle.translation.specs.Decision.{decision_of}
use Rattle.translation.specs.declared.Outcome.{Outcome}
use Rattle.translation.specs.declared.Early.{Early}
use Rattle.translation.specs.declared.Early.TheVariants.{Decided, Search}
use Rattle.translation.specs.declared.Wanted.{Wanted}
use Rattle.translation.proofs.Steps.{searches, outcome_decided, outcome_searched, after_nothing, after_contradicting}
use Rattle.cache.specs.Cache.{loaded}
use Rattle.theory_calls.specs.OnBytes.{layout, used_by, wanted_page, marked_by}
use Rattle.theory_calls.specs.Represents.{GoodTable}
use Rattle.theory_calls.proofs.Access.{part_valid, fault_number}
use Rattle.theory_calls.proofs.AnyEntries.{by_matches_law}
use Rattle.theory_calls.proofs.TableLaws.{Word, layout_laws}
use Rattle.theory_calls.proofs.TwoMarks.{mark_first}
use Rattle.theory_cache.specs.Cached.{cached_search, cached_place, missed, loaded_by, taken}
use Rattle.table_access.specs.Part.{covered_by, LiesIn, searched_of, found_by, by_outcome, by_found, begun_by, part_by, taken_by}
use Rattle.std.specs.declared.ops.ControlFlow.TheVariants.{Continue}
use Rattle.table_access.specs.declared.Found.{Found}
use Rattle.table_access.specs.declared.Found.TheVariants.{Unmatched, Contradicted, InTable}
use Rattle.table_access.specs.declared.Part.{Part}
use Rattle.table_access.proofs.Finds.{first_found, first_against, in_none, in_some, by_hit, found_hit, found_table, found_searched, found_decides, found_lies}

-- ---- the pair that covers an address

-- a pair that covers an address, or none
pub some_covered : (n i : ℕ) → Some i ≡ cond (ltb n 8) (Some n) None → (i ≡ n) × (n < 8)
some_covered n i e = by_test (ltb n 8)
    (λ l. let is : Some i ≡ Some n = rw l at e in (cc, ltb-true n 8 l))
    (λ l. let is : Some i ≡ None = rw l at e in absurd (let z : ◌≡◌ {A = ℕ} 0 1 = cc in omega arith))

pub none_covered : (n : ℕ) → None ≡ cond (ltb n 8) (Some n) None → ltb n 8 ≡ false
none_covered n e = by_test (ltb n 8) (λ l. let is : None ≡ Some n = rw l at e in absurd (let z : ◌≡◌ {A = ℕ} 0 1 = cc in omega arith)) (λ l. l)

-- what the search of the pairs hands back
pub covered_is : (words : List ℕ) (side user : Bool) (address : ℕ) (long : Bool) (o : Option ℕ) → pair_number o ≡ covering_pair 8 15 words side user address
    → IfSome o (λ i. i < block_pairs long) → o ≡ covered_by words side user address
covered_is words side user address long None e own = rw (← e)
covered_is words side user address long (Some i) e own =
    let most = pairs_most long in
    rw (← e) (rw (lt-ltb i 8 (omega arith)))

-- ---- the steps before the search, as the code holds them

pub begun_wants : (kind address : ℕ) (early : Early) (wanted : Wanted) → begun_by kind address early ≡ Continue wanted → early ≡ Search wanted
unfolding begun_by
begun_wants kind address (Decided outcome) wanted e = absurd (let z : ◌≡◌ {A = ℕ} 0 1 = cc in omega arith)
begun_wants kind address (Search wanted) other e = cc

pub part_searched : (kind address : ℕ) (find : Wanted → Found) (wanted : Wanted) → part_by kind address find (Search wanted) ≡ by_found kind address wanted.key (find wanted)
unfolding part_by
part_searched kind address find wanted = refl

-- a table of right length, in which every element is a byte
pub good_table : (sdr1 : ℕ) (t : List ℕ) → TableOf sdr1 (length t) → ((i : ℕ) → get_or t i 0 < 2 ^ 8) → GoodTable (mask_ones sdr1) t
good_table sdr1 t of bytes = record { long = of.right ∙ length_is sdr1 of.shape; bytes = bytes }

-- the page that a part wants has the same matches in both tables
unfoldable pub SameMatches : ℕ → Early → List ℕ → List ℕ → Type 0
SameMatches k (Decided outcome) t u = Unit {0}
SameMatches k (Search wanted) t u = matches_of (layout k) u (wanted_page wanted) ≡ matches_of (layout k) t (wanted_page wanted)

-- a table has the matches that it has
pub same_self : (k : ℕ) (e : Early) (t : List ℕ) → SameMatches k e t t
unfolding SameMatches
same_self k (Decided outcome) t = tt
same_self k (Search wanted) t = refl

-- ---- the first match taken

module _ (k kind : ℕ) (wanted : Wanted) (u : List ℕ) (good : GoodTable k u) (valid : InRange (wanted_page wanted)) (x : Match) (xs : List Match)
    (are : matches_of (layout k) u (wanted_page wanted) ≡ x ∷ xs) where
  abbrev page : Page
  page = wanted_page wanted

  abbrev word : ℕ
  word = with_marks true (storing kind) x.second

  own : MatchOf (layout k) u page x
  own = members_of (layout k) u page x (subst (Memᴰ x) (sym are) (Memᴰ.head refl))

  -- the first match with its marks is still the first
  marked_first : matches_of (layout k) (marked_by k kind (Search wanted) 0 u) page ≡ with_words x (x.first, word) ∷ xs
  marked_first =
      let (first, second) = words_fit u (group_number (10 + k) x.secondary page) x.entry good.bytes in
      let first_fits : Word x.first = rw own.first_word_law first in
      let second_fits : Word word = rw own.second_word (marks_lt true (storing kind) _ second) in
      ap (λ (v : List ℕ). matches_of (layout k) v page) (mark_first k kind wanted u x xs are)
      ∙ overwrite_first (layout_laws k) u page good x xs x.first word are first_fits second_fits own.passes

  loaded_first : (e : List ℕ) → loaded_by k (Search wanted) 0 (marked_by k kind (Search wanted) 0 u) e ≡ loaded page x.first word e
  unfolding loaded_by
  loaded_first e = rw marked_first

  -- its first word has the page's VSID
  vsid_is : bits 1 24 x.first ≡ wanted.vsid
  vsid_is =
      (matched wanted.vsid (h_of x.secondary) (api_of wanted.index) x.first valid.vsid_lt (h_lt x.secondary) (api_lt wanted.index valid.index_lt)
      own.passes).has_vsid
    where
      h_lt : (b : Bool) → h_of b < 2 ^ 1
      h_lt true = lit< tt
      h_lt false = lit< tt

  -- the first match is taken as the definition says
  first_taken : (address : ℕ) → wanted.index ≡ page_index address → (e : List ℕ)
      → taken_by kind address (InTable x.second (group_number (10 + k) x.secondary page) x.entry) (u, e) ≡ taken k kind (Search wanted) 0 (u, e)
  unfolding taken_by taken overwrite
  first_taken address index e =
      let group = group_number (10 + k) x.secondary page in
      let first_is : first_of u group x.entry ≡ x.first = sym own.first_word_law in
      ap₂ (λ (a b : List ℕ). (a, b))
      (ap (λ (a : ℕ). put_at u group x.entry a word) first_is ∙ sym (mark_first k kind wanted u x xs are))
      (ap (λ (a : ℕ). loaded (record { vsid = bits 1 24 a; index = page_index address }) a word e) first_is
      ∙ ap₂ (λ (v i : ℕ). loaded (record { vsid = v; index = i }) x.first word e) vsid_is (sym index)
      ∙ sym (loaded_first e))

-- ---- a part

-- a part at an address by a table and a cache, by what steps 1 to 3 came to
pub record ByPart (k : ℕ) (t d : List ℕ) (kind address : ℕ) (early : Early) (part : Part) : Type 0 where
  pub answers : part.answer ≡ answer_of kind address (outcome_of kind (cached_search k kind t d) early)
  pub decides : part.decision ≡ decision_of (used_by (cached_place k kind t d) early) (outcome_of kind (cached_search k kind t d) early)
  pub lies : LiesIn part.found (length t)
  -- in any table where its page has the same matches, and any cache
  pub takes : (u e : List ℕ) → GoodTable k u → part.answer.result ≡ 0 → SameMatches k early t u
      → taken_by kind address part.found (u, e) ≡ cond (missed k kind t d early) (taken k kind early 0 (u, e)) (u, e)

module _ (sdr1 kind address : ℕ) (t d : List ℕ) (of : TableOf sdr1 (length t)) where
  abbrev k : ℕ
  k = mask_ones sdr1

  by_decided : (outcome : Outcome) → ByPart k t d kind address (Decided outcome) (by_outcome kind address outcome)
  unfolding taken_by missed
  by_decided outcome =
      let is = outcome_decided kind (cached_search k kind t d) outcome in
      record { answers = ap (answer_of kind address) (sym is); decides = ap (decision_of _) (sym is); lies = tt; takes = λ u e good done same. refl }

  -- a page without a match, or with matches that contradict, is not done
  not_done : (wanted : Wanted) (f : Found) → (by_found kind address wanted.key f).answer.result ≡ 0
      → ((f ≡ Unmatched) → ⊥) × ((second group entry : ℕ) → f ≡ Contradicted second group entry → ⊥)
  unfolding answer_of
  not_done wanted f done =
      let result : Outcome → ℕ = λ o. (answer_of kind address o).result in
      let of : (g : Found) → f ≡ g → result (after_search kind wanted.key (searched_of g)) ≡ 0
      = λ g e. sym (ap (λ (h : Found). result (after_search kind wanted.key (searched_of h))) e) ∙ done in (
        λ e. fault_number no_match kind (sym (ap result (after_nothing kind wanted.key)) ∙ of Unmatched e),
        λ second group entry e. let ten : ◌≡◌ {A = ℕ} 10 0 = sym (ap result (after_contradicting kind wanted.key)) ∙ of (Contradicted second group entry) e in omega arith,
      )

  -- a hit, or a part that went to the table and is done, is taken as the definition says
  found_taken : (wanted : Wanted) → InRange (wanted_page wanted) → wanted.index ≡ page_index address → (u e : List ℕ) → GoodTable k u
      → (by_found kind address wanted.key (found_by k kind t d wanted)).answer.result ≡ 0 → SameMatches k (Search wanted) t u
      → taken_by kind address (found_by k kind t d wanted) (u, e) ≡ cond (missed k kind t d (Search wanted)) (taken k kind (Search wanted) 0 (u, e)) (u, e)
  unfolding missed SameMatches taken_by
  found_taken wanted valid index u e good done same =
      let (some, agree) = not_done wanted (found_by k kind t d wanted) done in
      by_hit k kind t d wanted
      (taken_by kind address (found_by k kind t d wanted) (u, e) ≡ cond (missed k kind t d (Search wanted)) (taken k kind (Search wanted) 0 (u, e)) (u, e))
      (λ first second is. rw (found_hit k kind t d wanted first second is, is))
      (λ is. rw is
      (by_matches_law (matches_of (layout k) t (wanted_page wanted))
      (λ empty. absurd (some (found_table k kind t d wanted is ∙ in_none k t wanted empty)))
      (λ x xs are.
      let against = first_against k t wanted x xs are in
      let first = first_found k t wanted x xs are in
      let found : (b : Bool) → contradict x xs ≡ b → found_by k kind t d wanted ≡ cond b against first
      = λ b c. found_table k kind t d wanted is ∙ in_some k t wanted x xs are ∙ ap (λ (b : Bool). cond b against first) c in
      by_test (contradict x xs) (λ c. absurd (agree x.second (group_number (10 + k) x.secondary (wanted_page wanted)) x.entry (found true c)))
      (λ c. ap (λ (g : Found). taken_by kind address g (u, e)) (found false c) ∙ first_taken k kind wanted u good valid x xs (same ∙ are) address index e))))

  pub by_searched : (wanted : Wanted) → InRange (wanted_page wanted) → wanted.index ≡ page_index address
      → ByPart k t d kind address (Search wanted) (by_found kind address wanted.key (found_by k kind t d wanted))
  by_searched wanted valid index =
      let late = outcome_searched kind (cached_search k kind t d) wanted in
      let searched = ap (after_search kind wanted.key) (found_searched k kind t d wanted) in
      record {
        answers = ap (answer_of kind address) (searched ∙ sym late);
        decides = ap (decision_of _) searched ∙ found_decides k kind t d wanted ∙ ap (decision_of _) (sym late);
        lies = found_lies k kind t d wanted sdr1 of refl;
        takes = found_taken wanted valid index;
      }

  -- a part of the access of a mode
  pub by_steps_law : (words : List ℕ) (mode : ℕ) →
      let early = before_search 8 15 words mode kind address in
      ByPart k t d kind address early (part_by kind address (found_by k kind t d) early)
  unfolding part_by
  by_steps_law words mode = go (before_search 8 15 words mode kind address) refl
    where
      go : (early : Early) → before_search 8 15 words mode kind address ≡ early → ByPart k t d kind address early (part_by kind address (found_by k kind t d) early)
      go (Decided outcome) e = by_decided outcome
      go (Search wanted) e =
          by_searched wanted (part_valid 8 15 words mode kind address wanted e) (ap (λ (w : Wanted). w.index) (searches 8 15 words mode kind address wanted e).wants)
