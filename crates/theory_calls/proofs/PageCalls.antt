-- The cases of the calls on one page, as the code meets them: what their three common rules refuse, what one search of a page's two groups
-- says of the table's matches, and what its edit and its free entry are in the table.
--   page_rules: the rules that every call on a page has (6, 2, 1); Kept, kept: what holds where none of them is broken
--   page_ranges, map_ranges: the ranges that a test of them gives, of a page and of the arguments of map
--   clear_refused, map_refused, protect_refused, unmap_refused, look_refused: what a refused call leaves
--   clear_done, map_taken, protect_taken, unmap_taken, look_taken: a call that is not refused leaves what its work does
--   unmap_11, look_11: with an answer of another length than 16 all stays
--   own_group, page_matches: the bytes of a page's group, and the matches in its two groups
--   edited_both: the table with every match of both groups edited; edit_is: it is one pass over the page's matches
--   map_full, map_placed: map of a page with no match, where no entry is free and where one is
--   map_matched: map of a page that has a match
--   look_missing, look_contradicted, look_done: look at a page with no match, at one whose matches contradict, and at one whose matches do not
use mathlib.Core.Path.{◌≡◌, refl, sym, ap, ◌∙◌}
use mathlib.Core.Bool.{Bool, true, false, cond, not, ◌&&◌}
use mathlib.Core.List.{List, [], ◌∷◌}
use mathlib.Core.Option.{Option, none, some}
use Rattle.std.specs.Prelude.{Some, None}
use Rattle.std.specs.Prelude as code
use Prim.Native.Nat.{ℕ, ◌+◌, ◌*◌, ◌^◌, ◌≤◌, ◌<◌}
use native.Mathlib.Omega.{arith}
use lib.Dec.{eqb, ltb}
use lib.ListN.{length, replicate}
use borrow.Author.Tests.{eqb-true, ltb-true, ne_eqb, not-false}
use Rattle.words.proofs.Tests.{both}
use Rattle.entry.specs.Entry.{second_word, api_of}
use Rattle.registers.specs.Rules.{first_broken}
use Rattle.register_words.specs.Sdr1.{sdr1_shape, table_length, mask_ones}
use Rattle.registers.proofs.Set.{rule_kept}
use Rattle.groups.specs.declared.Page.{Page}
use Rattle.groups.specs.Hash.{group_number}
use Rattle.groups.specs.Group as groups
use Rattle.groups.specs.Group.{group_of, on_group, first_of, put_at}
use Rattle.matches.specs.Search.{pair_matches, contradict}
use Rattle.match_edits.specs.Edit as edits
use Rattle.match_edits.specs.Edit.{edited, edit_matches}
use Rattle.match_edits.specs.declared.Edit.{Edit}
use Rattle.groups.specs.declared.Place.{Place}
use Rattle.groups.proofs.Hash.{own_groups_differ}
use Rattle.match_edits.proofs.Edits.{edit_both_each}
use Rattle.theory_tables.specs.Matches.{Match}
use Rattle.theory_tables.specs.Layout.{free_entry, free_place, matches_of, overwrite, overwrite_each}
use Rattle.theory_calls.specs.Request.{ClearCall, MapCall, ProtectCall, AnsweredCall, Request, clear, map_page, unmap, protect, look, sdr1_in, fed}
use Rattle.theory_calls.specs.Made.{to_map, to_look}
use Rattle.theory_calls.specs.Rules.{page_in_range, map_in_range, table_rules, rules, refusal}
use Rattle.theory_calls.specs.Answers.{word_answer, refused_bytes, answer_refused}
use Rattle.theory_calls.specs.OnBytes.{layout, Ended, ended, entry_word, bytes_do, on_bytes}
use Rattle.theory_calls.proofs.OnBytes.{taken, refused, matches_by_groups}

-- ---- the rules

-- the rules that every call on a page has: 6, 2, 1
abbrev pub page_rules : Bool → ℕ → ℕ → List (Bool × ℕ)
page_rules in_range sdr1 lent = (not in_range, 6) ∷ table_rules sdr1 lent

-- what holds where none of them is broken
pub record Kept (in_range : Bool) (sdr1 lent : ℕ) : Type 0 where
  pub in_range_law : in_range ≡ true
  pub shape : sdr1_shape sdr1 ≡ true
  pub right_length : lent ≡ table_length sdr1

pub kept : (in_range : Bool) (sdr1 lent : ℕ) → first_broken (page_rules in_range sdr1 lent) ≡ 0 → Kept in_range sdr1 lent
kept in_range sdr1 lent passed =
    let shape = sdr1_shape sdr1 in
    let right = eqb lent (table_length sdr1) in
    let (kept₆, rest₆) = rule_kept (not in_range) 6 (cond (not shape) 2 (cond (not right) 1 0)) (λ e. omega arith) passed in
    let (kept₂, rest₂) = rule_kept (not shape) 2 (cond (not right) 1 0) (λ e. omega arith) rest₆ in
    let (kept₁, rest₁) = rule_kept (not right) 1 0 (λ e. omega arith) rest₂ in
    record {
      in_range_law = not-false in_range kept₆;
      shape = not-false shape kept₂;
      right_length = eqb-true lent (table_length sdr1) (not-false right kept₁);
    }

-- 11 is none of their numbers
not_11 : (in_range : Bool) (sdr1 lent : ℕ) → first_broken (page_rules in_range sdr1 lent) ≡ 11 → ⊥
not_11 in_range sdr1 lent = go (not in_range) (not (sdr1_shape sdr1)) (not (eqb lent (table_length sdr1)))
  where
    go : (a b c : Bool) → first_broken ((a, 6) ∷ (b, 2) ∷ (c, 1) ∷ []) ≡ 11 → ⊥
    go true b c e = omega arith
    go false true c e = omega arith
    go false false true e = omega arith
    go false false false e = omega arith

pub record MapRanges (c : MapCall) : Type 0 where
  pub vsid_lt : c.page.vsid < 2 ^ 24
  pub index_lt : c.page.index < 2 ^ 16
  pub rpn_lt : c.rpn < 2 ^ 20
  pub wimg_lt : c.wimg < 2 ^ 4
  pub pp_lt : c.pp < 2 ^ 2

pub map_ranges : (c : MapCall) (in_range : Bool) → in_range ≡ map_in_range c → in_range ≡ true → MapRanges c
unfolding page_in_range
map_ranges c in_range same holds =
    let (to-pp, _) = both _ _ (sym same ∙ holds) in
    let (to-wimg, pp_lt) = both _ _ to-pp in
    let (to-rpn, wimg_lt) = both _ _ to-wimg in
    let (to-page, rpn_lt) = both _ _ to-rpn in
    let (vsid_lt, index_lt) = both _ _ to-page in
    record {
      vsid_lt = ltb-true c.page.vsid (2 ^ 24) vsid_lt;
      index_lt = ltb-true c.page.index (2 ^ 16) index_lt;
      rpn_lt = ltb-true c.rpn (2 ^ 20) rpn_lt;
      wimg_lt = ltb-true c.wimg (2 ^ 4) wimg_lt;
      pp_lt = ltb-true c.pp (2 ^ 2) pp_lt;
    }

pub page_ranges : (page : Page) (in_range : Bool) → in_range ≡ page_in_range page → in_range ≡ true → (page.vsid < 2 ^ 24) × (page.index < 2 ^ 16)
unfolding page_in_range
page_ranges page in_range same holds =
    let (vsid_lt, index_lt) = both _ _ (sym same ∙ holds) in
    (ltb-true page.vsid (2 ^ 24) vsid_lt, ltb-true page.index (2 ^ 16) index_lt)

-- a call whose refusal is by these rules, and the number that they give, by a test equal to its test of the ranges
module _ (request : Request (List ℕ)) (t : List ℕ) (in_range fits : Bool) (sdr1 number : ℕ) (same : in_range ≡ fits)
    (given : number ≡ first_broken (page_rules in_range sdr1 (length t))) (by-rules : refusal (fed request) (length t) ≡ first_broken (page_rules fits sdr1 (length t))) where
  number_is : refusal (fed request) (length t) ≡ number
  number_is = by-rules ∙ ap (λ (b : Bool). first_broken (page_rules b sdr1 (length t))) (sym same) ∙ sym given

  by_refusal : (number ≡ 0 → ⊥) → on_bytes request t ≡ ended number t (answer_refused (λ lent. lent) request number)
  by_refusal n = refused request t number number_is n

  by_work : number ≡ 0 → (left : Ended (List ℕ)) → left ≡ bytes_do (mask_ones (sdr1_in request)) request t → left ≡ on_bytes request t
  by_work z left e = e ∙ sym (taken request t (number_is ∙ z))

module _ (c : ClearCall) (t : List ℕ) (number : ℕ) (given : number ≡ first_broken (page_rules true c.sdr1 (length t))) where
  pub clear_refused : (number ≡ 0 → ⊥) → on_bytes (clear c) t ≡ ended number t []
  unfolding refusal rules fed answer_refused
  clear_refused n = by_refusal (clear c) t true true c.sdr1 number refl given refl n

  pub clear_done : number ≡ 0 → (left : List ℕ) → left ≡ replicate (length t) 0 → ended 0 left [] ≡ on_bytes (clear c) t
  unfolding refusal rules fed bytes_do
  clear_done z left e = by_work (clear c) t true true c.sdr1 number refl given refl z (ended 0 left []) (ap (λ (u : List ℕ). ended 0 u []) e)

module _ (c : MapCall) (t : List ℕ) (in_range : Bool) (same : in_range ≡ map_in_range c)
    (number : ℕ) (given : number ≡ first_broken (page_rules in_range c.sdr1 (length t))) where
  pub map_refused : (number ≡ 0 → ⊥) → on_bytes (map_page c) t ≡ ended number t []
  unfolding refusal rules fed answer_refused
  map_refused n = by_refusal (map_page c) t in_range (map_in_range c) c.sdr1 number same given refl n

  pub map_taken : number ≡ 0 → (left : Ended (List ℕ)) → left ≡ bytes_do (mask_ones c.sdr1) (map_page c) t → left ≡ on_bytes (map_page c) t
  unfolding refusal rules fed sdr1_in
  map_taken z left e = by_work (map_page c) t in_range (map_in_range c) c.sdr1 number same given refl z left e

module _ (c : ProtectCall) (t : List ℕ) (in_range : Bool) (same : in_range ≡ page_in_range c.page)
    (number : ℕ) (given : number ≡ first_broken (page_rules (in_range && ltb c.pp (2 ^ 2)) c.sdr1 (length t))) where
  abbrev both_fit : Bool
  both_fit = page_in_range c.page && ltb c.pp (2 ^ 2)

  both_ranges : (in_range && ltb c.pp (2 ^ 2)) ≡ both_fit
  both_ranges = ap (λ (b : Bool). b && ltb c.pp (2 ^ 2)) same

  pub protect_refused : (number ≡ 0 → ⊥) → on_bytes (protect c) t ≡ ended number t []
  unfolding refusal rules fed answer_refused
  protect_refused n = by_refusal (protect c) t (in_range && ltb c.pp (2 ^ 2)) both_fit c.sdr1 number both_ranges given refl n

  pub protect_taken : number ≡ 0 → (left : Ended (List ℕ)) → left ≡ bytes_do (mask_ones c.sdr1) (protect c) t → left ≡ on_bytes (protect c) t
  unfolding refusal rules fed sdr1_in
  protect_taken z left e = by_work (protect c) t (in_range && ltb c.pp (2 ^ 2)) both_fit c.sdr1 number both_ranges given refl z left e

-- after any refusal but that of a length the answer is the number and three zero words
refused_answer_law : (number : ℕ) (lent : List ℕ) → (number ≡ 11 → ⊥) → refused_bytes 3 number lent ≡ word_answer number 0
unfolding refused_bytes word_answer
refused_answer_law number lent n = rw (ne_eqb number 11 n)

-- the same call with another answer
abbrev pub answering : AnsweredCall (List ℕ) → List ℕ → AnsweredCall (List ℕ)
answering c answer = record { sdr1 = c.sdr1; page = c.page; answer = answer }

-- unmap and look, lent an answer of 16 bytes
module _ (c : AnsweredCall (List ℕ)) (t : List ℕ) (number : ℕ) (given : number ≡ first_broken (page_rules (page_in_range c.page) c.sdr1 (length t)))
    (sixteen : length c.answer ≡ 16) where
  other_refusal : refused_bytes 3 number c.answer ≡ word_answer number 0
  other_refusal = refused_answer_law number c.answer (λ q. not_11 (page_in_range c.page) c.sdr1 (length t) (sym given ∙ q))

  unmap_rules : refusal (fed (unmap c)) (length t) ≡ first_broken (page_rules (page_in_range c.page) c.sdr1 (length t))
  unfolding refusal rules fed
  unmap_rules = rw sixteen

  pub unmap_refused : (number ≡ 0 → ⊥) → on_bytes (unmap c) t ≡ ended number t (word_answer number 0)
  unfolding answer_refused
  unmap_refused n =
      by_refusal (unmap c) t (page_in_range c.page) (page_in_range c.page) c.sdr1 number refl given unmap_rules n ∙ ap (ended number t) other_refusal

  pub unmap_taken : number ≡ 0 → (left : Ended (List ℕ)) → left ≡ bytes_do (mask_ones c.sdr1) (unmap (answering c [])) t → left ≡ on_bytes (unmap c) t
  unfolding sdr1_in bytes_do
  unmap_taken z left e = by_work (unmap c) t (page_in_range c.page) (page_in_range c.page) c.sdr1 number refl given unmap_rules z left e

  look_rules : refusal (fed (look c)) (length t) ≡ first_broken (page_rules (page_in_range c.page) c.sdr1 (length t))
  unfolding refusal rules fed
  look_rules = rw sixteen

  pub look_refused : (number ≡ 0 → ⊥) → on_bytes (look c) t ≡ ended number t (word_answer number 0)
  unfolding answer_refused
  look_refused n =
      by_refusal (look c) t (page_in_range c.page) (page_in_range c.page) c.sdr1 number refl given look_rules n ∙ ap (ended number t) other_refusal

  pub look_taken : number ≡ 0 → (left : Ended (List ℕ)) → left ≡ bytes_do (mask_ones c.sdr1) (look (answering c [])) t → left ≡ on_bytes (look c) t
  unfolding sdr1_in bytes_do
  look_taken z left e = by_work (look c) t (page_in_range c.page) (page_in_range c.page) c.sdr1 number refl given look_rules z left e

-- lent an answer of another length they leave all as it was
module _ (c : AnsweredCall (List ℕ)) (t : List ℕ) (wrong : length c.answer ≡ 16 → ⊥) where
  pub unmap_11 : on_bytes (unmap c) t ≡ ended 11 t c.answer
  unfolding on_bytes refusal rules fed answer_refused refused_bytes
  unmap_11 = rw (ne_eqb (length c.answer) 16 wrong)

  pub look_11 : on_bytes (look c) t ≡ ended 11 t c.answer
  unfolding on_bytes refusal rules fed answer_refused refused_bytes
  look_11 = rw (ne_eqb (length c.answer) 16 wrong)

-- ---- the search

-- the place of a free entry, as the definition on tables gives it
abbrev pub place_option : code.Option Place → Option (Bool × ℕ)
place_option (Some place) = some (place.secondary, place.entry)
place_option None = none

module _ (k : ℕ) (t : List ℕ) (page : Page) where
  -- the 64 bytes of the page's primary (false) or secondary (true) group
  abbrev pub own_group : Bool → List ℕ
  own_group secondary = group_of t (group_number (10 + k) secondary page)

  abbrev pub page_matches : List Match
  page_matches = pair_matches page.vsid (api_of page.index) (own_group false) (own_group true)

  pub free_place_is : free_place (layout k) t page ≡ place_option (groups.first_free_place (own_group false) (own_group true))
  unfolding free_place free_entry groups.first_free_place groups.first_free groups.entry_free first_of
  free_place_is = go (ltb (groups.first_free (own_group false)) 8) (ltb (groups.first_free (own_group true)) 8)
    where
      go : (a b : Bool) → cond a (some (false, groups.first_free (own_group false))) (cond b (some (true, groups.first_free (own_group true))) none)
          ≡ place_option (cond a (Some (groups.place false (groups.first_free (own_group false)))) (cond b (Some (groups.place true (groups.first_free (own_group true)))) None))
      go true b = refl
      go false true = refl
      go false false = refl

  -- the table with each match of the page's primary group edited, then each of its secondary group
  abbrev pub edited_both : Edit → List ℕ
  edited_both edit =
      let api = api_of page.index in
      on_group (on_group t (group_number (10 + k) false page) (edit_matches edit false page.vsid api)) (group_number (10 + k) true page) (edit_matches edit true page.vsid api)

  -- which is one pass over the page's matches
  each : (words : Match → ℕ × ℕ) (ms : List Match) (u : List ℕ)
      → edits.put_each (λ b. group_number (10 + k) b page) words ms u ≡ overwrite_each (layout k) page words ms u
  unfolding edits.put_each overwrite_each overwrite
  each words [] u = refl
  each words (x ∷ xs) u = each words xs (put_at u (group_number (10 + k) x.secondary page) x.entry (words x).0 (words x).1)

  pub edit_is : (edit : Edit) → ((b : Bool) → 64 * group_number (10 + k) b page + 64 ≤ length t)
      → edited_both edit ≡ overwrite_each (layout k) page (edited edit) (matches_of (layout k) t page) t
  edit_is edit inside =
      edit_both_each edit page.vsid (api_of page.index) (λ b. group_number (10 + k) b page) t inside
      (own_groups_differ (10 + k) page (omega arith))
      ∙ each (edited edit) _ t
      ∙ ap (λ (ms : List Match). overwrite_each (layout k) page (edited edit) ms t) (sym (matches_by_groups k t page))

  own_are : (ms : List Match) → page_matches ≡ ms → matches_of (layout k) t page ≡ ms
  own_are ms e = matches_by_groups k t page ∙ e

  -- map and look of a page with no match
  module _ (none : page_matches ≡ []) where
    module _ (sdr1 rpn wimg pp : ℕ) where
      pub map_full : groups.first_free_place (own_group false) (own_group true) ≡ None → bytes_do k (to_map sdr1 page rpn wimg pp) t ≡ ended 9 t []
      unfolding bytes_do
      map_full full = rw (own_are [] none, free_place_is, full)

      pub map_placed : (place : Place) → groups.first_free_place (own_group false) (own_group true) ≡ Some place
          → bytes_do k (to_map sdr1 page rpn wimg pp) t
          ≡ ended 0 (put_at t (group_number (10 + k) place.secondary page) place.entry (entry_word place.secondary page) (second_word rpn 0 0 wimg pp)) []
      unfolding bytes_do
      map_placed place is = rw (own_are [] none, free_place_is, is)

    pub look_missing : (sdr1 : ℕ) (answer : List ℕ) → bytes_do k (to_look sdr1 page answer) t ≡ ended 8 t (word_answer 8 0)
    unfolding bytes_do
    look_missing sdr1 answer = rw (own_are [] none)

  -- of a page that has a match
  module _ (x : Match) (xs : List Match) (are : page_matches ≡ x ∷ xs) where
    pub map_matched : (sdr1 rpn wimg pp : ℕ) → bytes_do k (to_map sdr1 page rpn wimg pp) t ≡ ended 7 t []
    unfolding bytes_do
    map_matched sdr1 rpn wimg pp = rw (own_are (x ∷ xs) are)

    pub look_contradicted : (sdr1 : ℕ) (answer : List ℕ) → contradict x xs ≡ true → bytes_do k (to_look sdr1 page answer) t ≡ ended 10 t (word_answer 10 0)
    unfolding bytes_do
    look_contradicted sdr1 answer d = rw (own_are (x ∷ xs) are, d)

    pub look_done : (sdr1 : ℕ) (answer : List ℕ) → contradict x xs ≡ false → bytes_do k (to_look sdr1 page answer) t ≡ ended 0 t (word_answer 0 x.second)
    unfolding bytes_do
    look_done sdr1 answer d = rw (own_are (x ∷ xs) are, d)
