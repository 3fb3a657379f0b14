-- What the plain finite map is fed of a call of the list, and what it answers (rules 8).
use Rattle.std.specs.Prelude.{ℕ, ◌+◌, ◌*◌, false, cond, not, ◌&&◌, List, [], ◌++◌, eqb, length, drop}
use Rattle.numbers.specs.Numbers.{done, refused_lent_length, access_answer_size}
use Rattle.theory_placement.specs.FiniteMap.{fields_at}
use Rattle.groups.specs.Page.{same_page}
use Rattle.protection.specs.Access.{storing}
use Rattle.translation.specs.declared.Early.{Early}
use Rattle.translation.specs.declared.Early.TheVariants.{Decided, Search}
use Rattle.cache.specs.Cache.{cache_size}
use Rattle.theory_calls.specs.Request.{access, fed}
use Rattle.theory_calls.specs.Made.{fed_access}
use Rattle.theory_calls.specs.Answers.{without_place, seen_of, compared}
use Rattle.theory_calls.specs.OnBytes.{Ended, ended, by_option, early_of, wanted_page}
use Rattle.theory_calls.specs.OnMap.{PageFields, Map, on_map}
use Rattle.theory_cache.specs.Cached.{invalidate_refusal}
use Rattle.access_rights.specs.Rights.{RightsCall, asking, three_told, rights_refusal}
use Rattle.access_rights.specs.Stated.{answer_told}
use Rattle.theory_histories.specs.Calls.{Asked, plain, cached, invalidate, rights, Slices, State, Call, calling, lent_lengths}

-- of a lent answer its length alone
unfoldable pub fed_asked : Asked (List ℕ) → Asked ℕ
fed_asked (plain request) = plain (fed request)
fed_asked (cached c) = cached (fed_access c)
fed_asked (invalidate index) = invalidate index
fed_asked (rights c answer) = rights c (length answer)

-- what is fed of a call: what is asked, and the lengths of what is lent, by those of the list's own slices
abbrev pub fed_of : Slices ℕ → Call → Asked ℕ × Slices ℕ
fed_of own c = (fed_asked c.asked, lent_lengths own c)

-- ---- what three accesses would come to on the map

-- the marks that a page's fields lack: R, and on a store C
abbrev pub lacked_by : ℕ → PageFields → ℕ
lacked_by kind f = cond f.referenced 0 0x100 + cond (storing kind && not f.changed) 0x080 0

-- the marks that a done access newly sets: those that its page lacks, if it went by one
unfoldable pub lacked_at : ℕ → Map → Early → ℕ
lacked_at kind m (Decided outcome) = 0
lacked_at kind m (Search wanted) = by_option (fields_at same_page (wanted_page wanted) m) 0 (lacked_by kind)

unfoldable pub rights_on_map : RightsCall → ℕ → Map → List ℕ
rights_on_map c table m =
    let e : ℕ → Ended Map = λ kind. on_map (fed (access (asking c kind))) table m in
    three_told (λ kind. (e kind).answer) (λ kind. cond (eqb (e kind).number done) (lacked_at kind m (early_of (asking c kind) false)) 0)

-- ---- the step

-- a call on the map; a call that is lent no table leaves it
unfoldable pub map_calling : Asked ℕ → Slices ℕ → Map → Ended Map
map_calling (plain request) lent m = on_map request lent.table m
map_calling (cached c) lent m = cond (eqb lent.cache cache_size) (on_map (access c) lent.table m) (ended refused_lent_length m [])
map_calling (invalidate index) lent m = ended (invalidate_refusal index lent.cache) m []
map_calling (rights c answer) lent m =
    let number = rights_refusal c answer lent.table in
    ended number m (cond (eqb number refused_lent_length) [] (rights_on_map c lent.table m))

-- what is seen of a call's answer: every byte, but of an access, and of each of the three accesses that rights tell of, not the place
unfoldable pub seen_in : {A : Type 0} → Asked A → List ℕ → List ℕ
seen_in (plain request) answer = seen_of request answer
seen_in (cached c) answer = without_place answer
seen_in (invalidate index) answer = answer
seen_in (rights c lent) told =
    without_place (answer_told told 0) ++ (without_place (answer_told told 1) ++ (without_place (answer_told told 2) ++ drop (3 * access_answer_size) told))

-- what is compared of a call, and what it leaves: on bytes, and on the map
unfoldable pub bytes_step : Call → State → (ℕ × List ℕ) × State
bytes_step c s = let e = calling c s in (compared (seen_in c.asked) e.number e.answer, e.state)

unfoldable pub map_step : Asked ℕ × Slices ℕ → Map → (ℕ × List ℕ) × Map
map_step f m = let e = map_calling f.0 f.1 m in (compared (seen_in f.0) e.number e.answer, e.state)
