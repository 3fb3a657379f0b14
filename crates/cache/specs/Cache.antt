-- The cache of translations (request 7): 2,048 bytes, 64 sets of two places, four big-endian words a place: an entry's two words, a page index,
-- and 1 for the newer load of the set, else 0. In what follows false is place 0 of a set and true is place 1.
use Rattle.std.specs.Prelude.{ℕ, ◌+◌, ◌*◌, ◌%◌, Bool, true, false, cond, not, ◌&&◌, List, eqb, replicate, Option as Found, Some, None}
use Rattle.std.proofs.Math.Option.{Option, none, some}
use Rattle.std.proofs.lemmas.List.Edits.{sets}
use Rattle.words.specs.Bits.{bits}
use Rattle.words.specs.Words.{word_at, with_word}
use Rattle.entry.specs.Entry.{changed}
use Rattle.entry.specs.declared.Words.{Words}
use Rattle.groups.specs.declared.Page.{Page}

-- the length of a cache
abbrev pub cache_size : ℕ
cache_size = 2048

-- the set of a page index: its low six bits
unfoldable pub set_of : ℕ → ℕ
set_of index = index % 64

-- the byte at which a place of that set begins
unfoldable pub place_at : ℕ → Bool → ℕ
place_at index place = 32 * set_of index + cond place 16 0

-- the four words of a place of a page index's set
module _ (cache : List ℕ) (index : ℕ) (place : Bool) where
  abbrev pub first_in : ℕ
  first_in = word_at cache (place_at index place)

  abbrev pub second_in : ℕ
  second_in = word_at cache (place_at index place + 4)

  abbrev pub index_in : ℕ
  index_in = word_at cache (place_at index place + 8)

  abbrev pub newer_in : ℕ
  newer_in = word_at cache (place_at index place + 12)

-- a place holds a page: V is 1, and the VSID and the page index are the page's
unfoldable pub holds : List ℕ → Page → Bool → Bool
holds cache page place =
    eqb (bits 0 0 (first_in cache page.index place)) 1
    && eqb (bits 1 24 (first_in cache page.index place)) page.vsid && eqb (index_in cache page.index place) page.index

-- the words of the entry in a place, but none to a store that meets C clear there
unfoldable pub met : Bool → List ℕ → ℕ → Bool → Option (ℕ × ℕ)
met storing cache index place =
    cond (storing && not (changed (second_in cache index place))) none (some (first_in cache index place, second_in cache index place))

-- a hit: the entry that the page's set holds for it, place 0 first
unfoldable pub hit : Bool → List ℕ → Page → Option (ℕ × ℕ)
hit storing cache page =
    cond (holds cache page false) (met storing cache page.index false)
    (cond (holds cache page true) (met storing cache page.index true) none)

-- the same of what `find` hands back
abbrev pub found : Found Words → Option (ℕ × ℕ)
found None = none
found (Some words) = some (words.first, words.second)

-- the place that a load replaces: 1 if only place 0's fourth word is 1, else 0
unfoldable pub older_place : List ℕ → ℕ → Bool
older_place cache index = eqb (newer_in cache index false) 1 && not (eqb (newer_in cache index true) 1)

-- the place that a page is loaded into: the one that holds it, place 0 first, else the older
unfoldable pub load_place : List ℕ → Page → Bool
load_place cache page = cond (holds cache page false) false (cond (holds cache page true) true (older_place cache page.index))

-- four words as the place that begins at byte `at`
unfoldable pub put_place : List ℕ → ℕ → ℕ → ℕ → ℕ → ℕ → List ℕ
put_place cache at first second index newer =
    with_word (with_word (with_word (with_word cache at first) (at + 4) second) (at + 8) index) (at + 12) newer

-- a page loaded with the words of its entry: it is the newer load of its set, and the other place is not
unfoldable pub loaded : Page → ℕ → ℕ → List ℕ → List ℕ
loaded page first second cache =
    let place = load_place cache page in
    with_word (put_place cache (place_at page.index place) first second page.index 1) (place_at page.index (not place) + 12) 0

-- the set of a page index zeroed, both places
unfoldable pub set_zeroed : ℕ → List ℕ → List ℕ
set_zeroed index cache = sets cache (32 * set_of index) (replicate 32 0)
