-- What is found of a page is what the definition's search and place say, with a cache and without one.
use Prim.Native.Nat.{ℕ, ◌+◌, ◌*◌, ◌≤◌, ◌<◌}
use mathlib.Core.Path.{◌≡◌, refl, sym, ap, subst, ◌∙◌}
use mathlib.Core.Bool.{Bool, true, false, cond}
use mathlib.Core.List.{List, [], ◌∷◌, Memᴰ}
use mathlib.Core.Option.{Option, none, some}
use lib.Dec.{eqb}
use lib.ListN.{length}
use Rattle.words.specs.Bits.{bits}
use Rattle.register_words.specs.Sdr1.{mask_ones, hash_bits}
use Rattle.groups.proofs.Hash.{group_lt, within_table}
use Rattle.groups.specs.Hash.{group_number, TableOf}
use Rattle.matches.specs.Search.{contradict}
use Rattle.theory_tables.specs.Matches.{Match}
use Rattle.theory_tables.specs.Layout.{matches_of}
use Rattle.theory_tables.proofs.Groups.{members_of}
use Rattle.protection.specs.Access.{storing}
use Rattle.translation.specs.Steps.{after_search}
use Rattle.translation.specs.Decision.{decision_of}
use Rattle.translation.specs.declared.Outcome.{Outcome}
use Rattle.translation.specs.declared.Early.TheVariants.{Search}
use Rattle.translation.specs.declared.Searched.TheVariants.{At, Contradicting}
use Rattle.translation.specs.declared.Wanted.{Wanted}
use Rattle.translation.specs.declared.decision.Decision.{Decision}
use Rattle.cache.specs.Cache.{hit}
use Rattle.theory_calls.specs.OnBytes.{layout, used_by, wanted_page, searched, search_in, first_place_in}
use Rattle.theory_calls.proofs.AnyEntries.{by_matches_law}
use Rattle.theory_cache.specs.Cached.{cached_search, cached_place}
use Rattle.table_access.specs.Part.{LiesIn, table_found, found_by, searched_of, shown_of}
use Rattle.table_access.specs.declared.Found.{Found}
use Rattle.table_access.specs.declared.Found.TheVariants.{Unmatched, Contradicted, InCache, InTable}

-- ---- by the table, by a hit

-- a page's groups lie in the table
pub inside : (sdr1 : ℕ) (t : List ℕ) (wanted : Wanted) → TableOf sdr1 (length t) → (b : Bool) → 64 * group_number (10 + mask_ones sdr1) b (wanted_page wanted) + 64 ≤ length t
unfolding hash_bits
inside sdr1 t wanted of b = rw of.right (within_table sdr1 (group_number (10 + mask_ones sdr1) b (wanted_page wanted)) of.shape (group_lt (10 + mask_ones sdr1) (wanted_page wanted) b))

module _ (k : ℕ) (t : List ℕ) (wanted : Wanted) where
  pub in_none : matches_of (layout k) t (wanted_page wanted) ≡ [] → table_found k t wanted ≡ Unmatched
  unfolding table_found
  in_none e = rw e

  module _ (x : Match) (xs : List Match) (e : matches_of (layout k) t (wanted_page wanted) ≡ x ∷ xs) where
    abbrev pub first_found : Found
    first_found = InTable x.second (group_number (10 + k) x.secondary (wanted_page wanted)) x.entry

    abbrev pub first_against : Found
    first_against = Contradicted x.second (group_number (10 + k) x.secondary (wanted_page wanted)) x.entry

    pub in_some : table_found k t wanted ≡ cond (contradict x xs) first_against first_found
    unfolding table_found
    in_some = rw e

    -- its number is one of a group's
    pub number_lt : x.entry < 8
    number_lt = (members_of (layout k) t (wanted_page wanted) x (subst (Memᴰ x) (sym e) (Memᴰ.head refl))).in_range_law

  -- by cases of what is found: no match, matches that contradict, or the first match
  pub in_cases : (P : Found → Type 0) → P Unmatched
      → ((x : Match) (xs : List Match) (e : matches_of (layout k) t (wanted_page wanted) ≡ x ∷ xs) → P (first_against x xs e) × P (first_found x xs e))
      → P (table_found k t wanted)
  in_cases P unmatched first =
      by_matches_law (matches_of (layout k) t (wanted_page wanted)) (λ e. subst P (sym (in_none e)) unmatched)
      (λ x xs e. subst P (sym (in_some x xs e)) (go (first_against x xs e) (first_found x xs e) (first x xs e) (contradict x xs)))
    where
      go : (f g : Found) → P f × P g → (b : Bool) → P (cond b f g)
      go f g p true = p.0
      go f g p false = p.1

  pub in_searched : searched_of (table_found k t wanted) ≡ search_in k t wanted
  unfolding searched
  in_searched = by_matches_law (matches_of (layout k) t (wanted_page wanted)) (λ e. rw (in_none e, e)) (λ x xs e. rw (in_some x xs e, e) (go (contradict x xs) x.second (group_number (10 + k) x.secondary (wanted_page wanted)) x.entry))
    where
      go : (b : Bool) (second group entry : ℕ) → searched_of (cond b (Contradicted second group entry) (InTable second group entry)) ≡ cond b Contradicting (At second)
      go true second group entry = refl
      go false second group entry = refl

  -- what decides is the same of what was found and of the first match's place: where there is none no entry is shown
  pub in_decides : (kind : ℕ) → decision_of (shown_of wanted.key (table_found k t wanted)) (after_search kind wanted.key (search_in k t wanted))
      ≡ decision_of (used_by (first_place_in k t) (Search wanted)) (after_search kind wanted.key (search_in k t wanted))
  unfolding searched after_search decision_of
  in_decides kind =
      by_matches_law (matches_of (layout k) t (wanted_page wanted)) (λ e. rw (in_none e, e)) (λ x xs e. rw (in_some x xs e, e) (go (contradict x xs) x.second (group_number (10 + k) x.secondary (wanted_page wanted)) x.entry))
    where
      go : (b : Bool) (second group entry : ℕ)
          → decision_of (shown_of wanted.key (cond b (Contradicted second group entry) (InTable second group entry))) (after_search kind wanted.key (cond b Contradicting (At second)))
          ≡ decision_of (record { key = wanted.key; group = group; entry = entry }) (after_search kind wanted.key (cond b Contradicting (At second)))
      go true second group entry = refl
      go false second group entry = refl

  in_lies : (sdr1 : ℕ) → TableOf sdr1 (length t) → k ≡ mask_ones sdr1 → LiesIn (table_found k t wanted) (length t)
  in_lies sdr1 of is =
      in_cases (λ f. LiesIn f (length t)) tt
      (λ x xs e.
      let there : (64 * group_number (10 + k) x.secondary (wanted_page wanted) + 64 ≤ length t) × (x.entry < 8)
      = (subst (λ (n : ℕ). 64 * group_number (10 + n) x.secondary (wanted_page wanted) + 64 ≤ length t) (sym is) (inside sdr1 t wanted of x.secondary), number_lt x xs e) in
      (there, there))

module _ (k kind : ℕ) (t d : List ℕ) (wanted : Wanted) where
  -- a hit, or none
  pub by_hit : (X : Type 0) → ((first second : ℕ) → hit (storing kind) d (wanted_page wanted) ≡ some (first, second) → X)
      → (hit (storing kind) d (wanted_page wanted) ≡ none → X) → X
  by_hit X hits misses = go (hit (storing kind) d (wanted_page wanted)) refl
    where
      go : (o : Option (ℕ × ℕ)) → hit (storing kind) d (wanted_page wanted) ≡ o → X
      go none e = misses e
      go (some (first, second)) e = hits first second e

  module _ (first second : ℕ) (is : hit (storing kind) d (wanted_page wanted) ≡ some (first, second)) where
    pub found_hit : found_by k kind t d wanted ≡ InCache second (group_number (10 + k) (eqb (bits 25 25 first) 1) (wanted_page wanted))
    unfolding found_by
    found_hit = rw is

    search_hit : cached_search k kind t d wanted ≡ At second
    unfolding cached_search
    search_hit = rw is

    place_hit : cached_place k kind t d wanted ≡ (group_number (10 + k) (eqb (bits 25 25 first) 1) (wanted_page wanted), 8)
    unfolding cached_place
    place_hit = rw is

  module _ (is : hit (storing kind) d (wanted_page wanted) ≡ none) where
    pub found_table : found_by k kind t d wanted ≡ table_found k t wanted
    unfolding found_by
    found_table = rw is

    pub search_table : cached_search k kind t d wanted ≡ search_in k t wanted
    unfolding cached_search
    search_table = rw is

    pub place_table : cached_place k kind t d wanted ≡ first_place_in k t wanted
    unfolding cached_place
    place_table = rw is

  -- what was found is what step 4 says
  pub found_searched : searched_of (found_by k kind t d wanted) ≡ cached_search k kind t d wanted
  found_searched =
      by_hit (searched_of (found_by k kind t d wanted) ≡ cached_search k kind t d wanted)
      (λ first second is. ap searched_of (found_hit first second is) ∙ sym (search_hit first second is))
      (λ is. ap searched_of (found_table is) ∙ in_searched k t wanted ∙ sym (search_table is))

  abbrev shown : Found → Outcome → Decision
  shown f outcome = decision_of (shown_of wanted.key f) outcome

  pub found_decides : shown (found_by k kind t d wanted) (after_search kind wanted.key (cached_search k kind t d wanted))
      ≡ decision_of (used_by (cached_place k kind t d) (Search wanted)) (after_search kind wanted.key (cached_search k kind t d wanted))
  found_decides =
      by_hit (shown (found_by k kind t d wanted) (after_search kind wanted.key (cached_search k kind t d wanted))
      ≡ decision_of (used_by (cached_place k kind t d) (Search wanted)) (after_search kind wanted.key (cached_search k kind t d wanted)))
      (λ first second is. rw (found_hit first second is, place_hit first second is))
      (λ is. rw (found_table is, place_table is, search_table is) (in_decides k t wanted kind))

  -- what was found lies in the table
  pub found_lies : (sdr1 : ℕ) → TableOf sdr1 (length t) → k ≡ mask_ones sdr1 → LiesIn (found_by k kind t d wanted) (length t)
  found_lies sdr1 of is =
      by_hit (LiesIn (found_by k kind t d wanted) (length t)) (λ first second h. rw (found_hit first second h, is) (inside sdr1 t wanted of (eqb (bits 25 25 first) 1)))
      (λ n. subst (λ (f : Found). LiesIn f (length t)) (sym (found_table n)) (in_lies k t wanted sdr1 of is))
