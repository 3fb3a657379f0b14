-- What a refusal's number is not: the number that a done call hands back.
use mathlib.Core.Path.{◌≡◌}
use Prim.Native.Nat.{ℕ}
use native.Mathlib.Omega.{arith}
use Rattle.numbers.specs.Numbers.{done}
use Rattle.numbers.specs.Refused.{refusal_number}
use Rattle.numbers.specs.declared.Refusal.{Refusal}
use Rattle.numbers.specs.declared.Refusal.TheVariants.{TableLength, Sdr1, Block, BlocksShare, Segment, Argument, Mapped, NoMatch, Full, Contradiction, LentLength, OperandLength}

pub refused_number : (refusal : Refusal) → refusal_number refusal ≡ done → ⊥
refused_number TableLength e = omega arith
refused_number Sdr1 e = omega arith
refused_number Block e = omega arith
refused_number BlocksShare e = omega arith
refused_number Segment e = omega arith
refused_number Argument e = omega arith
refused_number Mapped e = omega arith
refused_number NoMatch e = omega arith
refused_number Full e = omega arith
refused_number Contradiction e = omega arith
refused_number LentLength e = omega arith
refused_number OperandLength e = omega arith
