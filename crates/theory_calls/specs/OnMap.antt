-- The plain finite map (rules 8), one clause a call. It is fed arguments and lent lengths, and no table byte; so of what decides an access it does not
-- tell the group and the entry number, which follow from the table.
use Rattle.std.specs.Prelude.{ℕ, ◌+◌, ◌^◌, Bool, true, false, cond, ◌||◌, List, [], ◌∷◌, eqb}
use Rattle.std.proofs.Math.Logic.{ite}
use Rattle.numbers.specs.Numbers.{done, refused_mapped, refused_no_match, refused_full, group_entries}
use Rattle.entry.specs.Entry.{second_word}
use Rattle.theory_placement.specs.Lists.{one_if}
use Rattle.theory_placement.specs.Placement.{Arrangement}
use Rattle.theory_placement.proofs.Decision.{arrangement?}
use Rattle.theory_placement.specs.FiniteMap.{fields_at, put_in, take_out, revise, mapped_pages}
use Rattle.register_words.specs.Sdr1.{mask_ones}
use Rattle.groups.specs.declared.Page.{Page}
use Rattle.groups.specs.Page.{same_page}
use Rattle.groups.specs.Hash.{group_number}
use Rattle.groups.proofs.Hash.{group_mirror}
use Rattle.protection.specs.Access.{storing}
use Rattle.translation.specs.declared.Early.{Early}
use Rattle.translation.specs.declared.Early.TheVariants.{Decided, Search}
use Rattle.translation.specs.declared.Searched.{Searched}
use Rattle.translation.specs.declared.Searched.TheVariants.{Nothing, At}
use Rattle.theory_calls.specs.Request.{Request, clear, map_page, unmap, protect, look, access, sdr1_in}
use Rattle.theory_calls.specs.Rules.{refusal}
use Rattle.theory_calls.specs.Answers.{word_answer, access_answer, answer_refused}
use Rattle.theory_calls.specs.OnBytes.{Ended, ended, by_option, early_of, whole_answer, each_part, wanted_page}

-- what the map has of a mapped page: frame (RPN), attributes (WIMG), protection (PP) and marks (R, C)
pub record PageFields : Type 0 where
  pub frame : ℕ
  pub attributes : ℕ
  pub protection : ℕ
  pub referenced : Bool
  pub changed : Bool

abbrev pub Map : Type 0
Map = List (Page × PageFields)

-- the second entry word of a page's fields, ignored bits zero
unfoldable pub fields_word : PageFields → ℕ
fields_word f = second_word f.frame (one_if f.referenced) (one_if f.changed) f.attributes f.protection

-- R is set, and C too on a store
abbrev pub mark_fields : Bool → PageFields → PageFields
mark_fields store f = record { frame = f.frame; attributes = f.attributes; protection = f.protection; referenced = true; changed = store || f.changed }

abbrev pub protect_fields : ℕ → PageFields → PageFields
protect_fields pp f = record { frame = f.frame; attributes = f.attributes; protection = pp; referenced = f.referenced; changed = f.changed }

-- an arrangement of pages for a mask of k ones: groups of eight entries
abbrev pub Arranged : ℕ → List Page → Type 0
Arranged k pages = Arrangement (group_number (10 + k)) group_entries pages

unfoldable pub arranged? : (k : ℕ) (pages : List Page) → Dec (Arranged k pages)
unfolding arrangement?
arranged? k pages = arrangement? (group_number (10 + k)) group_entries (2 ^ (9 + k)) (group_mirror k) pages

-- the search of an access is the map
unfoldable pub found_in : Map → Page → Searched
found_in m page = by_option (fields_at same_page page m) Nothing (λ f. At (fields_word f))

-- step 7 on the map: a part that is done by a page
unfoldable pub map_marked : ℕ → Early → ℕ → Map → Map
map_marked kind (Decided outcome) result m = m
map_marked kind (Search wanted) result m = cond (eqb result done) (revise same_page (wanted_page wanted) (mark_fields (storing kind)) m) m

module _ (k : ℕ) where
  -- a call that its arguments do not refuse
  unfoldable pub map_does : Request ℕ → Map → Ended Map
  map_does (clear c) m = ended done [] []
  map_does (map_page c) m =
      by_option (fields_at same_page c.page m) (ite (arranged? k (c.page ∷ mapped_pages m))
      (ended done (put_in c.page (record { frame = c.rpn; attributes = c.wimg; protection = c.pp; referenced = false; changed = false }) m) [])
      (ended refused_full m [])) (λ f. ended refused_mapped m [])
  map_does (unmap c) m =
      by_option (fields_at same_page c.page m) (ended refused_no_match m (word_answer refused_no_match 0))
      (λ f. ended done (take_out same_page c.page m) (word_answer done (fields_word f)))
  map_does (protect c) m =
      by_option (fields_at same_page c.page m) (ended refused_no_match m []) (λ f. ended done (revise same_page c.page (protect_fields c.pp) m) [])
  map_does (look c) m =
      by_option (fields_at same_page c.page m) (ended refused_no_match m (word_answer refused_no_match 0)) (λ f. ended done m (word_answer done (fields_word f)))
  map_does (access c) m =
      let answer = whole_answer c (λ wanted. found_in m (wanted_page wanted)) (λ wanted. (0, 0)) in
      let result = answer.part.result in
      ended result (each_part c (λ second. map_marked c.kind (early_of c second) result) m) (access_answer answer)

-- a call, fed its arguments and the length of what is lent as the table
unfoldable pub on_map : Request ℕ → ℕ → Map → Ended Map
on_map request lent m =
    let number = refusal request lent in
    cond (eqb number 0) (map_does (mask_ones (sdr1_in request)) request m) (ended number m (answer_refused (λ length. []) request number))
