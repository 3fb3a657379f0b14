-- What an access with a cache does to a lent table and a lent cache, for any bytes, and what an invalidate does to a cache (request 7). A hit takes
-- the place of the search (step 4); all other steps are those of an access without a cache.
use Rattle.std.specs.Prelude.{ℕ, ◌+◌, ◌^◌, Bool, true, false, cond, not, List, [], ◌∷◌, eqb, ltb, length}
use Rattle.std.proofs.Math.Option.{Option}
use Rattle.numbers.specs.Numbers.{done, refused_argument, refused_lent_length}
use Rattle.words.specs.Bits.{bits}
use Rattle.register_words.specs.Sdr1.{mask_ones}
use Rattle.registers.specs.Rules.{first_broken}
use Rattle.groups.specs.Hash.{group_number}
use Rattle.theory_tables.specs.Layout.{matches_of}
use Rattle.protection.specs.Access.{storing}
use Rattle.translation.specs.declared.Early.{Early}
use Rattle.translation.specs.declared.Early.TheVariants.{Decided, Search}
use Rattle.translation.specs.declared.Searched.{Searched}
use Rattle.translation.specs.declared.Searched.TheVariants.{At}
use Rattle.translation.specs.declared.Wanted.{Wanted}
use Rattle.cache.specs.Cache.{cache_size, hit, loaded, set_zeroed}
use Rattle.theory_calls.specs.Request.{AccessCall, access, sdr1_in, fed}
use Rattle.theory_calls.specs.Rules.{rules}
use Rattle.theory_calls.specs.Answers.{access_answer, answer_refused}
use Rattle.theory_calls.specs.OnBytes.{Ended, ended, by_matches, by_option, layout, early_of, whole_answer, each_part, wanted_page, search_in, first_place_in, marked_by}

-- the entry number that stands for a hit
abbrev pub hit_entry : ℕ
hit_entry = 8

-- a table for a mask of k ones and a cache, as an access of a kind is lent them
module _ (k kind : ℕ) (table cache : List ℕ) where
  -- what the cache has of a wanted page
  abbrev pub hit_of : Wanted → Option (ℕ × ℕ)
  hit_of wanted = hit (storing kind) cache (wanted_page wanted)

  -- step 4 with a cache: a hit is what the search finds
  unfoldable pub cached_search : Wanted → Searched
  cached_search wanted = by_option (hit_of wanted) (search_in k table wanted) (λ words. At words.1)

  -- what the record shows of it: the group that the loaded H names, and 8
  unfoldable pub cached_place : Wanted → ℕ × ℕ
  cached_place wanted =
      by_option (hit_of wanted) (first_place_in k table wanted) (λ words. (group_number (10 + k) (eqb (bits 25 25 words.0) 1) (wanted_page wanted), hit_entry))

  -- a part goes to the table: it reaches step 4, and is no hit
  unfoldable pub missed : Early → Bool
  missed (Decided outcome) = false
  missed (Search wanted) = by_option (hit_of wanted) true (λ words. false)

-- the page of a part of a done operand is loaded, with the words of its first match as they stand in a table
unfoldable pub loaded_by : ℕ → Early → ℕ → List ℕ → List ℕ → List ℕ
loaded_by k (Decided outcome) result table cache = cache
loaded_by k (Search wanted) result table cache =
    let page = wanted_page wanted in
    cond (eqb result done) (by_matches (matches_of (layout k) table page) cache (λ x xs. loaded page x.first x.second cache)) cache

-- a part that went to the table is marked there, and loaded as it then stands
unfoldable pub taken : ℕ → ℕ → Early → ℕ → List ℕ × List ℕ → List ℕ × List ℕ
taken k kind early result lent =
    let table = marked_by k kind early result lent.0 in
    (table, loaded_by k early result table lent.1)

-- that part of an operand with this result, where the access was lent a table and a cache: each part asks the cache as it was lent
unfoldable pub taken_part : ℕ → AccessCall (List ℕ) → List ℕ × List ℕ → ℕ → Bool → List ℕ × List ℕ → List ℕ × List ℕ
taken_part k c lent result second left =
    cond (missed k c.kind lent.0 lent.1 (early_of c second)) (taken k c.kind (early_of c second) result left) left

-- an access that its arguments do not refuse
unfoldable pub cached_does : ℕ → AccessCall (List ℕ) → List ℕ × List ℕ → Ended (List ℕ × List ℕ)
cached_does k c lent =
    let answer = whole_answer c (cached_search k c.kind lent.0 lent.1) (cached_place k c.kind lent.0 lent.1) in
    let result = answer.part.result in
    ended result (each_part c (taken_part k c lent result) lent) (access_answer answer)

-- the refusal that follows from the arguments and the lent lengths: that of an access, the cache's length among the others
unfoldable pub cached_refusal : AccessCall (List ℕ) → ℕ → ℕ → ℕ
cached_refusal c table cache = first_broken ((not (eqb cache cache_size), refused_lent_length) ∷ rules (fed (access c)) table)

-- an access with a lent table and a lent cache
unfoldable pub on_cached : AccessCall (List ℕ) → List ℕ × List ℕ → Ended (List ℕ × List ℕ)
on_cached c lent =
    let number = cached_refusal c (length lent.0) (length lent.1) in
    cond (eqb number 0) (cached_does (mask_ones (sdr1_in (access c))) c lent) (ended number lent (answer_refused (λ answer. answer) (access c) number))

-- an invalidate of a page index: the refusal of its arguments, and the cache that it leaves
unfoldable pub invalidate_refusal : ℕ → ℕ → ℕ
invalidate_refusal index cache =
    first_broken ((not (eqb cache cache_size), refused_lent_length) ∷ (not (ltb index (2 ^ 16)), refused_argument) ∷ [])

unfoldable pub invalidate_call : ℕ → List ℕ → ℕ × List ℕ
invalidate_call index cache =
    let number = invalidate_refusal index (length cache) in
    (number, cond (eqb number 0) (set_zeroed index cache) cache)
