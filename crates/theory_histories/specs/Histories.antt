-- Histories: a first clear that was done, and the calls that follow it under its SDR1.
use Rattle.std.specs.Prelude.{ℕ, List, [], map, ◌≡◌}
use Rattle.std.proofs.Math.Option.{none}
use Rattle.numbers.specs.Numbers.{done}
use Rattle.theory_tables.specs.Runs.{after, Each}
use Rattle.theory_calls.specs.OnBytes.{Ended}
use Rattle.theory_calls.specs.OnMap.{Map}
use Rattle.theory_calls.specs.FirstClear.{clearing}
use Rattle.theory_histories.specs.Calls.{Asked, Slices, slices, Call, State, calling, lengths_of, Under}
use Rattle.theory_histories.specs.Fed.{fed_of, bytes_step, map_step}
use Rattle.theory_histories.specs.Discipline.{Disciplined, filled}

-- a call that is lent the list's own slices
abbrev pub own_call : Asked (List ℕ) → Call
own_call asked = record { asked = asked; other = slices none none }

-- a first clear that was done, and the calls that follow it, each under the clear's SDR1
pub record History : Type 0 where
  pub sdr1 : ℕ
  pub start : State
  pub clear_done : (clearing sdr1 start.table).number ≡ done
  pub calls : List Call
  pub under : Each (Under sdr1 (lengths_of start)) calls

module _ (h : History) where
  -- the lengths of its table and cache
  abbrev pub own : Slices ℕ
  own = lengths_of h.start

  -- table and cache after the clear, and after the calls that follow it
  abbrev pub begun : State
  begun = slices (clearing h.sdr1 h.start.table).state h.start.cache

  abbrev pub state_after : State
  state_after = after bytes_step h.calls begun

  -- what the finite map is fed of the calls, and the map after them, empty after the clear
  abbrev pub fed_calls : List (Asked ℕ × Slices ℕ)
  fed_calls = map (fed_of own) h.calls

  abbrev pub map_after : Map
  map_after = after map_step fed_calls []

  -- the cache's discipline is kept
  abbrev pub CacheKept : Type 0
  CacheKept = Disciplined h.calls begun (filled h.start.cache)

  -- what a call that follows ends in
  abbrev pub next : Call → Ended State
  next c = calling c state_after
