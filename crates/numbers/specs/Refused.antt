-- The number of a refusal, and the number that a call hands back.
use Rattle.std.specs.Prelude.{ℕ, Result, Ok, Err}
use Rattle.numbers.specs.Numbers.{done, refused_table_length, refused_sdr1, refused_block, refused_blocks_share, refused_segment, refused_argument}
use Rattle.numbers.specs.Numbers.{refused_mapped, refused_no_match, refused_full, refused_contradiction, refused_lent_length, refused_operand_length}
use Rattle.numbers.specs.declared.Refusal.{Refusal}
use Rattle.numbers.specs.declared.Refusal.TheVariants.{TableLength, Sdr1, Block, BlocksShare, Segment, Argument, Mapped, NoMatch, Full, Contradiction, LentLength, OperandLength}

-- the number of a refusal
abbrev pub refusal_number : Refusal → ℕ
refusal_number TableLength = refused_table_length
refusal_number Sdr1 = refused_sdr1
refusal_number Block = refused_block
refusal_number BlocksShare = refused_blocks_share
refusal_number Segment = refused_segment
refusal_number Argument = refused_argument
refusal_number Mapped = refused_mapped
refusal_number NoMatch = refused_no_match
refusal_number Full = refused_full
refusal_number Contradiction = refused_contradiction
refusal_number LentLength = refused_lent_length
refusal_number OperandLength = refused_operand_length

-- the number that a call hands back: done, whatever value it made, or its refusal's
abbrev pub result_number : {T : Type 0} → Result T Refusal → ℕ
result_number (Ok value) = done
result_number (Err refusal) = refusal_number refusal
