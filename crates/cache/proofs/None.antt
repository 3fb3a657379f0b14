-- A cache of no bytes is none: no page is a hit in it, and a load leaves it as it is.
use mathlib.Core.Path.{◌≡◌, refl}
use mathlib.Core.Bool.{Bool}
use mathlib.Core.List.{List, [], ◌∷◌}
use mathlib.Core.Option.{none}
use Prim.Native.Nat.{ℕ}
use native.Mathlib.Omega.{arith}
use lib.ListN.{length}
use Rattle.words.specs.Words.{word_bytes, word_at, with_word}
use Rattle.groups.specs.declared.Page.{Page}
use Rattle.cache.specs.Cache.{holds, hit, put_place, loaded}

-- no bytes are the empty list
pub no_bytes : (d : List ℕ) → length d ≡ 0 → d ≡ []
no_bytes [] e = refl
no_bytes (x ∷ xs) e = absurd (omega arith)

pub never_hit : (storing : Bool) (page : Page) → hit storing [] page ≡ none
unfolding hit holds word_at
never_hit storing page = refl

pub never_loaded : (page : Page) (first second : ℕ) → loaded page first second [] ≡ []
unfolding loaded put_place with_word word_bytes
never_loaded page first second = refl
