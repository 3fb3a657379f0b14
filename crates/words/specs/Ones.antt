-- Fields that are ones only at their low end.
use Rattle.std.specs.Prelude.{ℕ, ◌-◌, ◌^◌, Bool, eqb}
use Rattle.std.specs.Float.Ieee.{size}

-- "ones only at its low end" (rules 1; 0 included): f is 2 ^ k - 1, where k is `size f`, how many binary digits f has
unfoldable pub low_ones : ℕ → Bool
low_ones f = eqb f (2 ^ size f - 1)
