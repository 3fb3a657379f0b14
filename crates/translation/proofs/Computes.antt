-- What rows compute with: where `translation-computes` unfolds, so does every definition of this crate and of those below.
use Rattle.entry.proofs.Computes.{entry_computes}
use Rattle.registers.proofs.Computes.{registers_compute}
use Rattle.protection.proofs.Computes.{protection_computes}
use Rattle.translation.specs.Steps.{block_outcome, before_search, page_outcome, after_search, outcome_of, answer_of}
use Rattle.translation.specs.Decision.{key_and_pp, decision_of}
use Rattle.translation.specs.Operand.{first_bytes, over_edge, part_start, operand_answer}
use Rattle.translation.specs.Stated.{early_outcome}

unfoldable pub translation_computes : Unit {0}
unfolding entry_computes registers_compute protection_computes block_outcome before_search page_outcome after_search outcome_of answer_of key_and_pp decision_of first_bytes over_edge part_start operand_answer early_outcome
translation_computes = tt
