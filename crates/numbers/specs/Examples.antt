-- Each name beside the number that the rules state (rules 2, 5 and 7).
use Rattle.std.specs.Prelude.{ℕ, [], ◌∷◌, Ok, Err}
use Rattle.words.specs.Rows.{Hold}
use Rattle.numbers.specs.Numbers.{done, data_storage_fault, instruction_storage_fault}
use Rattle.numbers.specs.Numbers.{refused_table_length, refused_sdr1, refused_block, refused_blocks_share, refused_segment, refused_argument}
use Rattle.numbers.specs.Numbers.{refused_mapped, refused_no_match, refused_full, refused_contradiction, refused_lent_length, refused_operand_length}
use Rattle.numbers.specs.Refused.{refusal_number, result_number}
use Rattle.numbers.specs.declared.Refusal.TheVariants.{TableLength, Sdr1, Block, BlocksShare, Segment, Argument, Mapped, NoMatch, Full, Contradiction, LentLength, OperandLength}
use Rattle.numbers.specs.Numbers.{fetch, load, store, attributes_real}
use Rattle.numbers.specs.Numbers.{rule_real, rule_block, rule_no_execute, rule_no_match, rule_guarded, rule_protection, rule_done}
use Rattle.numbers.specs.Numbers.{registers_size_short, registers_size_long, answer_size, access_answer_size, fields_size, group_size, entry_size}
use Rattle.numbers.specs.Numbers.{page_size, longest_operand, register_count_short, register_count_long, group_entries}

pub record NumbersTables : Type 0 where
  pub results : Hold ((done, 0) ∷ (data_storage_fault, 64) ∷ (instruction_storage_fault, 65) ∷ [])
  pub refusals : Hold (
      (refused_table_length, 1)
      ∷ (refused_sdr1, 2)
      ∷ (refused_block, 3)
      ∷ (refused_blocks_share, 4)
      ∷ (refused_segment, 5)
      ∷ (refused_argument, 6)
      ∷ (refused_mapped, 7)
      ∷ (refused_no_match, 8)
      ∷ (refused_full, 9)
      ∷ (refused_contradiction, 10)
      ∷ (refused_lent_length, 11)
      ∷ (refused_operand_length, 12)
      ∷ []
      )
  pub by_kind : Hold (
      (refusal_number TableLength, 1)
      ∷ (refusal_number Sdr1, 2)
      ∷ (refusal_number Block, 3)
      ∷ (refusal_number BlocksShare, 4)
      ∷ (refusal_number Segment, 5)
      ∷ (refusal_number Argument, 6)
      ∷ (refusal_number Mapped, 7)
      ∷ (refusal_number NoMatch, 8)
      ∷ (refusal_number Full, 9)
      ∷ (refusal_number Contradiction, 10)
      ∷ (refusal_number LentLength, 11)
      ∷ (refusal_number OperandLength, 12)
      ∷ []
      )
  -- a value that was made plays no part
  pub handed_back : Hold ((result_number {T = ℕ} (Ok 5), 0) ∷ (result_number {T = ℕ} (Err Full), 9) ∷ [])
  pub accesses : Hold ((fetch, 0) ∷ (load, 1) ∷ (store, 2) ∷ (attributes_real, 3) ∷ [])
  pub rules : Hold ((rule_real, 0) ∷ (rule_block, 1) ∷ (rule_no_execute, 2) ∷ (rule_no_match, 3) ∷ (rule_guarded, 4) ∷ (rule_protection, 5) ∷ (rule_done, 6) ∷ [])
  pub lengths : Hold ((registers_size_short, 132) ∷ (registers_size_long, 196) ∷ (answer_size, 16) ∷ (access_answer_size, 48) ∷ (fields_size, 36) ∷ (group_size, 64) ∷ (entry_size, 8) ∷ [])
  pub operands : Hold ((page_size, 4096) ∷ (longest_operand, 128) ∷ [])
  pub counts : Hold ((register_count_short, 33) ∷ (register_count_long, 49) ∷ (group_entries, 8) ∷ [])
