-- Instances of what is assumed of a lost call, over every table of 65,536 bytes and every cache of 2,048: a lost map and a lost unmap, each of which matters.
use Rattle.std.specs.Prelude.{List, [], ◌∷◌, ◌≡◌}
use Rattle.groups.specs.declared.Page.{Page}
use Rattle.theory_calls.specs.OnMap.{Map}
use Rattle.theory_histories.specs.Calls.{slices, State, Call, lengths_of}
use Rattle.theory_lost_call.specs.Lost.{LostCall, lacking, map_after_run, Mapped}
use Rattle.theory_lost_call.specs.Rows.{page_number, map_to, unmap_it}

-- a lost call of a list, between some calls before and some behind it, on a table and a cache; with it and without it such maps come about
pub record Lost (before : List Call) (lost : Call) (behind : List Call) (Differ : Map → Map → Type 0) (s : State) : Type 0 where
  pub instance : LostCall
  pub its_start : instance.history.start ≡ s
  pub its_before : instance.before ≡ before
  pub its_lost : instance.lost ≡ lost
  pub its_behind : instance.behind ≡ behind
  pub differ : Differ (map_after_run instance instance.history.calls) (map_after_run instance (lacking instance))

-- a page is mapped in the first map alone
abbrev pub OnlyInFirst : Page → Map → Map → Type 0
OnlyInFirst page m n = Mapped m page × (Mapped n page → ⊥)

pub record LostInstances : Type 0 where
  -- a map between two others: its page is mapped with it alone
  pub lost_map : (s : State) → lengths_of s ≡ slices 65536 2048
      → Lost (map_to 1 1 ∷ []) (map_to 1 2) (map_to 1 3 ∷ []) (OnlyInFirst (page_number 2)) s
  -- an unmap: its page is mapped without it alone
  pub lost_unmap : (s : State) → lengths_of s ≡ slices 65536 2048
      → Lost (map_to 1 1 ∷ map_to 1 2 ∷ []) (unmap_it 1) (map_to 1 3 ∷ []) (λ m n. OnlyInFirst (page_number 1) n m) s
