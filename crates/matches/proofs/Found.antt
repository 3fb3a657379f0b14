-- What the search tells of a list of matches: the first one and the others, and of two lists one after the other.
use mathlib.Core.Path.{◌≡◌, refl, sym, ap, ap₂, ◌∙◌}
use mathlib.Core.Bool.{Bool, true, false, cond, not, ◌&&◌, ◌||◌, true≢false}
use mathlib.Core.List.{List, [], ◌∷◌, ◌++◌, append_assoc}
use Prim.Native.Nat.{ℕ, ◌+◌}
use native.Mathlib.Omega.{arith}
use denote.Enum.Bare.{sameb}
use Rattle.std.specs.Prelude.{Some, is_some}
use Rattle.entry.specs.Entry.{matches}
use Rattle.theory_tables.specs.Matches.{Match}
use Rattle.groups.specs.Group.{first_at}
use Rattle.matches.specs.Search.{h_of, matches_to, any_match, disagrees, contradict, place_of, with_others, others_of, first_match, found_of}
use Rattle.matches.specs.declared.FirstMatch.{FirstMatch}
use Rattle.matches.specs.contracts.Others.{the_type}
use Rattle.matches.specs.declared.Others.TheVariants.{Absent, Agreeing, Differing}
use Rattle.matches.proofs.Agreement.{agree_self}
use Rattle.matches.proofs.Matches.{entry_at, matches_more, matches_same}
use Rattle.matches.proofs.Merged.{or_false, any_append}

-- a list of which no first match is told has none
pub nothing_found : (ms : List Match) → ((first : FirstMatch) → found_of ms ≡ Some first → ⊥) → ms ≡ []
nothing_found [] none = refl
nothing_found (m ∷ ms) none = absurd (none (first_match m ms) refl)

-- a list of which one is told begins with it
pub found_first : (ms : List Match) (first : FirstMatch) → found_of ms ≡ Some first → (m : Match) × ((rest : List Match) × ((ms ≡ m ∷ rest) × (first ≡ first_match m rest)))
found_first [] first e = absurd (let z : ◌≡◌ {A = ℕ} 0 1 = cc in omega arith)
found_first (m ∷ ms) first e = (m, (ms, (refl, cc)))

-- one is told exactly where there is a match
pub found_any : (ms : List Match) → is_some (found_of ms) ≡ any_match (λ m. true) ms
found_any [] = refl
found_any (m ∷ ms) = refl

-- its entry is the first match's
pub found_entry : (m : Match) (ms : List Match) (first : FirstMatch) → found_of (m ∷ ms) ≡ Some first → first.place.entry ≡ m.entry
found_entry m ms first e = let is : first ≡ first_match m ms = cc in ap (λ (f : FirstMatch). f.place.entry) is

-- the others differ exactly where they contradict the first, as the code asks it
pub differing : (m : Match) (ms : List Match) → sameb the_type (others_of m ms) Differing ≡ contradict m ms
unfolding others_of contradict
differing m [] = refl
differing m (n ∷ ms) = go (contradict m (n ∷ ms))
  where
    go : (t : Bool) → sameb the_type (cond t Differing Agreeing) Differing ≡ t
    go true = refl
    go false = refl

-- there are none where none is told
pub absent_alone : (m : Match) (ms : List Match) → sameb the_type (others_of m ms) Absent ≡ true → ms ≡ []
unfolding others_of
absent_alone m [] e = refl
absent_alone m (n ∷ ms) e = absurd (go (contradict m (n ∷ ms)) e)
  where
    go : (t : Bool) → sameb the_type (cond t Differing Agreeing) Absent ≡ true → ⊥
    go true q = true≢false (sym q)
    go false q = true≢false (sym q)

-- ---- further matches behind the first

several_is : (m : Match) (ms : List Match) (x : Match) (rest : List Match) → found_of (m ∷ ms ++ x ∷ rest) ≡ Some (with_others m (ms ++ x ∷ rest))
unfolding others_of
several_is m [] x rest = refl
several_is m (n ∷ ms) x rest = refl

-- the first match of a group's search has been compared with those met before: comparing the whole group with it tells no more
pub others_are : (ms to rest : List Match) (x m : Match) (others : List Match) → ms ++ to ≡ m ∷ others
    → Some (with_others m (others ++ (to ++ x ∷ rest))) ≡ found_of (ms ++ (to ++ x ∷ rest))
unfolding contradict
others_are ms to rest x m others e =
    let more = x ∷ rest in
    let d = disagrees m.second in
    let own : d m ≡ false = ap not (agree_self m.second) in
    let met : any_match d others ≡ (any_match d ms || any_match d to) =
    sym (ap (λ (b : Bool). b || any_match d others) own) ∙ sym (ap (any_match d) e) ∙ any_append d ms to in
    let twice : any_match d (others ++ (to ++ more)) ≡ any_match d (others ++ more) =
    any_append d others (to ++ more)
    ∙ ap₂ ◌||◌ met (any_append d to more)
    ∙ again (any_match d ms) (any_match d to) (any_match d more)
    ∙ sym (any_append d others more ∙ ap (λ (b : Bool). b || any_match d more) met) in
    ap (λ (t : Bool). Some (record { place = place_of m; second = m.second; others = cond t Differing Agreeing })) twice
    ∙ sym (ap found_of (sym (append_assoc ms to more) ∙ ap (λ (l : List Match). l ++ more) e) ∙ several_is m others x rest)
  where
    again : (a b r : Bool) → (a || b) || (b || r) ≡ (a || b) || r
    again true b r = refl
    again false true r = refl
    again false false r = refl

-- one entry more: a test of the matches up to it
pub any_more : (test : Match → Bool) (secondary : Bool) (vsid api : ℕ) (group : List ℕ) (n : ℕ) (same : Bool) → same ≡ matches vsid (h_of secondary) api (first_at group n)
    → any_match test (matches_to secondary vsid api group (n + 1)) ≡ (any_match test (matches_to secondary vsid api group n) || (same && test (entry_at secondary group n)))
any_more test secondary vsid api group n true e =
    ap (any_match test) (matches_more secondary vsid api group n (sym e))
    ∙ any_append test (matches_to secondary vsid api group n) (entry_at secondary group n ∷ [])
    ∙ ap (λ (b : Bool). any_match test (matches_to secondary vsid api group n) || b) (or_false (test (entry_at secondary group n)))
any_more test secondary vsid api group n false e =
    ap (any_match test) (matches_same secondary vsid api group n (sym e)) ∙ sym (or_false (any_match test (matches_to secondary vsid api group n)))
