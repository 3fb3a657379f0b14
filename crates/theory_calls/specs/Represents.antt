-- The relation "this table represents this finite map" for a mask of k ones: the matches of every page are its lookup, and the used entries of a
-- pair of groups are its mapped pages. It has no history in it.
use Rattle.std.specs.Prelude.{ℕ, ◌*◌, ◌^◌, ◌<◌, List, ◌≡◌, length, get_or}
use Rattle.groups.specs.Page.{InRange, same_page}
use Rattle.theory_tables.specs.Represents.{Represents}
use Rattle.theory_calls.specs.OnBytes.{layout}
use Rattle.theory_calls.specs.OnMap.{PageFields, Map, fields_word}

-- 65,536 × 2 ^ k bytes
pub record GoodTable (k : ℕ) (t : List ℕ) : Type 0 where
  pub long : length t ≡ 65536 * 2 ^ k
  pub bytes : (i : ℕ) → get_or t i 0 < 2 ^ 8

-- frame, attributes and protection of a mapped page are in range
pub record FieldsInRange (f : PageFields) : Type 0 where
  pub frame_lt : f.frame < 2 ^ 20
  pub attributes_lt : f.attributes < 2 ^ 4
  pub protection_lt : f.protection < 2 ^ 2

abbrev pub TableRepresents : ℕ → List ℕ → Map → Type 0
TableRepresents k t m = Represents (layout k) same_page InRange (GoodTable k) fields_word FieldsInRange t m
