-- Worked examples of edits of every match, each row closed by computation.
use Rattle.std.specs.Prelude.{true, false, [], ◌∷◌, replicate}
use Rattle.words.specs.Rows.{Hold}
use Rattle.groups.specs.Examples.{mixed, example, full}
use Rattle.match_edits.specs.Edit.{edit_matches}
use Rattle.match_edits.specs.declared.Edit.TheVariants.{Clear, Protect}
use Rattle.match_edits.specs.declared.pp.Pp.{Pp}
use native.Mathlib.Omega.{arith}

-- the PP that the second row puts into each match
abbrev pub pp_1 : Pp
pp_1 = record { value = 1; below = omega arith }

pub record EditsTables : Type 0 where
  -- eight zero bytes over each match; another PP in each, every other bit kept, the ignored ones too; and the match of the other H alone
  pub edits : Hold (
      (edit_matches Clear false 0x0C701C 3 example, mixed 0 0 0 0 0 0)
      ∷ (edit_matches (Protect pp_1) false 0x0C701C 3 example, mixed 0x86380E03 0x12345E95 0x86380E03 0x12345E95 0x86380E03 0x12345111)
      ∷ (edit_matches Clear true 0xFFFFFF 63 full, replicate 64 0)
      ∷ (edit_matches Clear false 0xFFFFFF 63 full, full)
      ∷ []
      )
