-- What three accesses would come to on a table that represents a map is what the map tells of them: each answer but for its place, and the marks.
use Prim.Native.Nat.{ℕ}
use mathlib.Core.Path.{◌≡◌, refl, sym, ap, ◌∙◌}
use mathlib.Core.Bool.{true, false, cond, true≢false}
use mathlib.Core.List.{List, [], ◌∷◌, ◌++◌, map}
use mathlib.Core.Option.{Option, none, some}
use lib.Dec.{eqb}
use lib.ListN.{length}
use borrow.Author.Tests.{eqb-true, eqb-false, ne_eqb}
use Rattle.words.specs.Words.{word_bytes, bytes_of}
use Rattle.words.proofs.Tests.{by_test}
use Rattle.theory_placement.specs.FiniteMap.{fields_at}
use Rattle.register_words.specs.Sdr1.{sdr1_shape, table_length, mask_ones}
use Rattle.register_words.specs.Block.{bl_width}
use Rattle.registers.specs.Set.{is_page, is_long, block_pairs, register_words}
use Rattle.groups.specs.Page.{same_page}
use Rattle.theory_tables.specs.Matches.{Match}
use Rattle.theory_tables.specs.Represents.{words_of}
use Rattle.protection.specs.Access.{storing}
use Rattle.translation.specs.Steps.{outcome_of}
use Rattle.translation.specs.declared.Early.TheVariants.{Search}
use Rattle.translation.specs.declared.Wanted.{Wanted}
use Rattle.translation.proofs.Parts.{parts_done}
use Rattle.theory_calls.specs.Request.{access, fed, sdr1_in}
use Rattle.theory_calls.specs.Rules.{refusal}
use Rattle.theory_calls.specs.Answers.{access_answer, refused_bytes, answer_refused, without_place, seen_of}
use Rattle.theory_calls.specs.OnBytes.{Ended, by_option, start_of, early_of, part_answer, part_decision, wanted_page, search_in, first_place_in, bytes_do}
use Rattle.theory_calls.specs.OnMap.{PageFields, Map, fields_word, found_in, map_does, on_map}
use Rattle.theory_calls.specs.Represents.{TableRepresents}
use Rattle.theory_calls.proofs.Access.{by_early, then_not_11}
use Rattle.theory_calls.proofs.AnyEntries.{by_matches_law, own}
use Rattle.theory_calls.proofs.Histories.{map_taken, map_refused, wrong_length}
use Rattle.theory_calls.proofs.OnBytes.{taken, refused}
use Rattle.theory_calls.proofs.Refusals.{refusals_leave, whole_past}
use Rattle.theory_cache.proofs.Found.{by_cases, done_at}
use Rattle.access_rights.specs.Rights.{RightsCall, asking, would_end, new_marks, three_told, rights_told}
use Rattle.access_rights.proofs.Marks.{unchanged_none}
use Rattle.access_rights.proofs.Shared.{own_rules_law}
use Rattle.access_rights.proofs.Words.{lacking, lacking_fields}
use Rattle.access_rights.proofs.AnyMarks.{matched_marks, marks_on_any}
use Rattle.access_rights.proofs.Stated.{first_part, second_part, third_part, rest_part, answer_length}
use Rattle.theory_histories.specs.Calls.{rights, lent_for}
use Rattle.theory_histories.specs.Fed.{lacked_by, lacked_at, rights_on_map, seen_in}
use Rattle.theory_histories.proofs.Pages.{done_taken, done_does}
use Rattle.theory_histories.proofs.Follows.{Brings, TableFollows, table_follows}

-- what is seen of three answers of 48 bytes and the marks behind them
abbrev joined : (ℕ → List ℕ) → (ℕ → ℕ) → List ℕ
joined answers marks = without_place (answers 0) ++ (without_place (answers 1) ++ (without_place (answers 2) ++ bytes_of (marks 0 ∷ marks 1 ∷ marks 2 ∷ [])))

seen_three : {A : Type 0} (x : RightsCall) (lent : A) (answers : ℕ → List ℕ) (marks : ℕ → ℕ) → ((kind : ℕ) → length (answers kind) ≡ 48)
    → seen_in (rights x lent) (three_told answers marks) ≡ joined answers marks
unfolding seen_in
seen_three x lent answers marks long =
    let a = answers 0 in
    let b = answers 1 in
    let c = answers 2 in
    let d = bytes_of (marks 0 ∷ marks 1 ∷ marks 2 ∷ []) in
    rw (first_part a b c d (long 0) (long 1) (long 2), second_part a b c d (long 0) (long 1) (long 2), third_part a b c d (long 0) (long 1) (long 2), rest_part a b c d (long 0) (long 1) (long 2))

module _ (c : RightsCall) (page : is_page (length c.registers) ≡ true) (kind : ℕ) where
  -- an access by a register page of right length and an answer of right length is not refused 11
  refusal_not_11 : (lent : ℕ) → refusal (fed (access (asking c kind))) lent ≡ 11 → ⊥
  refusal_not_11 lent =
      eqb-false (refusal (fed (access (asking c kind))) lent) 11
      (ap (λ (n : ℕ). eqb n 11) (own_rules_law c page kind lent)
      ∙ then_not_11 (block_pairs (is_long (length c.registers))) (bl_width (is_long (length c.registers))) (register_words c.registers) c.mode kind 1 lent)

  -- nor does it answer so
  number_not_11 : (t : List ℕ) → (would_end c t kind).number ≡ 11 → ⊥
  unfolding bytes_do
  number_not_11 t =
      let number = refusal (fed (access (asking c kind))) (length t) in
      by_test (eqb number 0)
      (λ z. let is = taken (access (asking c kind)) t (eqb-true number 0 z) in λ e. (whole_past (asking c kind) (search_in (mask_ones (sdr1_in (access (asking c kind)))) t) (first_place_in (mask_ones (sdr1_in (access (asking c kind)))) t)).not_11 (sym (ap (λ (x : Ended (List ℕ)). x.number) is) ∙ e))
      (λ z.
      let is = refused (access (asking c kind)) t number refl (eqb-false number 0 z) in
      λ e. refusal_not_11 (length t) (sym (ap (λ (x : Ended (List ℕ)). x.number) is) ∙ e))

  -- the map's answer has 48 bytes
  map_length : (lent : ℕ) (m : Map) → length (on_map (fed (access (asking c kind))) lent m).answer ≡ 48
  unfolding map_does fed answer_refused refused_bytes access_answer bytes_of word_bytes
  map_length lent m =
      let number = refusal (fed (access (asking c kind))) lent in
      by_test (eqb number 0)
      (λ z. rw (map_taken (fed (access (asking c kind))) lent m (eqb-true number 0 z)))
      (λ z. rw (map_refused (fed (access (asking c kind))) lent m number refl (eqb-false number 0 z), ne_eqb number 11 (refusal_not_11 lent)))

module _ (sdr1 size : ℕ) (shape : sdr1_shape sdr1 ≡ true) (long : size ≡ table_length sdr1) (c : RightsCall) (page : is_page (length c.registers) ≡ true)
    (o : Option (List ℕ)) (t : List ℕ) (m : Map) (r : TableRepresents (mask_ones sdr1) t m)
    (brings : (kind : ℕ) → Brings sdr1 size shape long (access (asking c kind)) o) where
  abbrev u : List ℕ
  u = lent_for o t

  abbrev lent : ℕ
  lent = by_option o size length

  abbrev on_it : ℕ → Ended Map
  on_it kind = on_map (fed (access (asking c kind))) lent m

  module _ (kind : ℕ) where
    follows : TableFollows sdr1 size shape long (access (asking c kind)) o t m
    follows = table_follows sdr1 size shape long (access (asking c kind)) o t m r (brings kind)

    answers_same : without_place (would_end c u kind).answer ≡ without_place (on_it kind).answer
    unfolding seen_of fed
    answers_same =
        let n = number_not_11 c page kind u in
        let here : eqb (would_end c u kind).number 11 ≡ false = ne_eqb (would_end c u kind).number 11 n in
        let there : eqb (on_it kind).number 11 ≡ false = ap (λ (x : ℕ). eqb x 11) (sym follows.number) ∙ here in
        ap (λ (x : ℕ × List ℕ). x.1) (rw (here, there) at follows.told)

    -- an access that is not done has no new marks
    not_done : ((would_end c u kind).number ≡ 0 → ⊥) → new_marks u (would_end c u kind) ≡ 0
    not_done n = unchanged_none u (would_end c u kind) (refusals_leave.table (access (asking c kind)) u n)

-- a done access on a table that represents the map
module _ (k : ℕ) (c : RightsCall) (t : List ℕ) (m : Map) (r : TableRepresents k t m) (kind : ℕ) (same : mask_ones (sdr1_in (access (asking c kind))) ≡ k) where
  -- by a page that is mapped
  mapped_marks : (would_end c t kind).number ≡ 0 → (wanted : Wanted) → early_of (asking c kind) false ≡ Search wanted
      → (f : PageFields) → fields_at same_page (wanted_page wanted) m ≡ some f → new_marks t (would_end c t kind) ≡ lacked_by kind f
  mapped_marks z wanted reaches f mapped =
      let (valid, range) = r.valid (wanted_page wanted) f mapped in
      let words = r.found (wanted_page wanted) valid ∙ ap (words_of fields_word) mapped in
      by_matches_law (own k t (wanted_page wanted))
      (λ missing. let no : [] ≡ fields_word f ∷ [] = sym (ap (map (λ (x : Match). x.second)) missing) ∙ words in absurd (true≢false (cc)))
      (λ x xs are.
      let some : x.second ∷ map (λ (y : Match). y.second) xs ≡ fields_word f ∷ [] = sym (ap (map (λ (y : Match). y.second)) are) ∙ words in
      let word : x.second ≡ fields_word f = cc in
      matched_marks c t r.good.bytes kind z wanted reaches x xs (rw same are)
      ∙ ap (lacking (storing kind)) word ∙ lacking_fields f range (storing kind))

  -- one that the map has done too is by a page that is mapped
  found_mapped : (lent : ℕ) → (on_map (fed (access (asking c kind))) lent m).number ≡ 0 → (wanted : Wanted) → early_of (asking c kind) false ≡ Search wanted
      → fields_at same_page (wanted_page wanted) m ≡ none → ⊥
  unfolding map_does fed found_in outcome_of
  found_mapped lent z wanted reaches missing =
      let a = asking c kind in
      let number = ap (λ (d : Ended Map). d.number) (sym (done_does lent m (fed (access a)) z)) ∙ z in
      let first = (parts_done a.address a.length (part_answer a (λ w. found_in m (wanted_page w))) (part_decision a (λ w. found_in m (wanted_page w)) (λ w. (0, 0))) number).0 in
      true≢false (sym (done_at kind wanted.key (start_of a false) (found_in m (wanted_page wanted)) (rw reaches at first)) ∙ (rw missing))

  done_marks : (lent : ℕ) → (would_end c t kind).number ≡ 0 → (on_map (fed (access (asking c kind))) lent m).number ≡ 0
      → new_marks t (would_end c t kind) ≡ lacked_at kind m (early_of (asking c kind) false)
  unfolding lacked_at
  done_marks lent z d =
      by_early (early_of (asking c kind) false)
      (λ outcome e. rw e ((marks_on_any c t r.good.bytes kind).decided outcome e))
      (λ wanted e.
      by_cases (fields_at same_page (wanted_page wanted) m) (λ missing. absurd (found_mapped lent d wanted e missing)) (λ f mapped. rw (e, mapped) (mapped_marks z wanted e f mapped)))

module _ (sdr1 size : ℕ) (shape : sdr1_shape sdr1 ≡ true) (long : size ≡ table_length sdr1) (c : RightsCall) (page : is_page (length c.registers) ≡ true) (m : Map) where
  abbrev AllBring : Option (List ℕ) → Type 0
  AllBring o = (kind : ℕ) → Brings sdr1 size shape long (access (asking c kind)) o

  -- where the map has the access done
  taken_marks : (o : Option (List ℕ)) (t : List ℕ) (r : TableRepresents (mask_ones sdr1) t m) (brings : AllBring o) (kind : ℕ)
      → (would_end c (lent_for o t) kind).number ≡ 0 → (on_map (fed (access (asking c kind))) (by_option o size length) m).number ≡ 0
      → new_marks (lent_for o t) (would_end c (lent_for o t) kind) ≡ lacked_at kind m (early_of (asking c kind) false)
  taken_marks none t r brings kind z d =
      done_marks (mask_ones sdr1) c t m r kind (ap mask_ones (brings kind (done_taken size m (fed (access (asking c kind))) d)).0) size z d
  taken_marks (some slice) t r brings kind z d =
      let zero = done_taken (length slice) m (fed (access (asking c kind))) d in
      absurd (wrong_length sdr1 size shape long (access (asking c kind)) (length slice) (brings kind zero).0 ((brings kind zero).1 slice refl) zero)

  marks_same : (o : Option (List ℕ)) (t : List ℕ) (r : TableRepresents (mask_ones sdr1) t m) (brings : AllBring o) (kind : ℕ)
      → new_marks (lent_for o t) (would_end c (lent_for o t) kind)
      ≡ cond (eqb (on_map (fed (access (asking c kind))) (by_option o size length) m).number 0) (lacked_at kind m (early_of (asking c kind) false)) 0
  marks_same o t r brings kind =
      let number = (follows sdr1 size shape long c page o t m r brings kind).number in
      let d = (on_map (fed (access (asking c kind))) (by_option o size length) m).number in
      by_test (eqb d 0) (λ z. rw z (taken_marks o t r brings kind (number ∙ eqb-true d 0 z) (eqb-true d 0 z)))
      (λ z. rw z (not_done sdr1 size shape long c page o t m r brings kind (λ e. eqb-false d 0 z (sym number ∙ e))))

  pub rights_seen : (o : Option (List ℕ)) (t : List ℕ) (r : TableRepresents (mask_ones sdr1) t m) (brings : AllBring o) (answer : List ℕ)
      → seen_in (rights c answer) (rights_told c (lent_for o t)) ≡ seen_in (rights c (length answer)) (rights_on_map c (by_option o size length) m)
  unfolding rights_told rights_on_map
  rights_seen o t r brings answer =
      let lent = by_option o size length in
      let u = lent_for o t in
      let e : ℕ → Ended Map = λ kind. on_map (fed (access (asking c kind))) lent m in
      let same = answers_same sdr1 size shape long c page o t m r brings in
      let marks = marks_same o t r brings in
      let bytes : ℕ → List ℕ = λ kind. (would_end c u kind).answer in
      let lacked : ℕ → ℕ = λ kind. cond (eqb (e kind).number 0) (lacked_at kind m (early_of (asking c kind) false)) 0 in
      let between : joined bytes (λ kind. new_marks u (would_end c u kind)) ≡ joined (λ kind. (e kind).answer) lacked = rw (same 0, same 1, same 2, marks 0, marks 1, marks 2) in
      seen_three c answer bytes (λ kind. new_marks u (would_end c u kind)) (answer_length c u) ∙ between
      ∙ sym (seen_three c (length answer) (λ kind. (e kind).answer) lacked (λ kind. map_length c page kind lent m))
