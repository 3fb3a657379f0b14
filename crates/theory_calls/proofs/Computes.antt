-- What rows compute with: where `calls-compute` unfolds, so does every definition of this crate and of those below.
use Rattle.matches.proofs.Computes.{matches_compute}
use Rattle.translation.proofs.Computes.{translation_computes}
use Rattle.theory_calls.specs.Lent.{of_length}
use Rattle.theory_calls.specs.WithoutTable.{check_call, set_register_call, pack_call, unpack_call}
use Rattle.theory_calls.specs.Request.{sdr1_in, fed}
use Rattle.theory_calls.specs.Rules.{page_in_range, write_through_inhibited, rules, refusal}
use Rattle.theory_calls.specs.Answers.{word_answer, access_answer, refused_bytes, answer_refused, without_place, seen_of}
use Rattle.theory_calls.specs.OnBytes.{entry_word, searched, marked_by, bytes_do, on_bytes}
use Rattle.theory_calls.specs.OnMap.{fields_word, arranged?, found_in, map_marked, map_does, on_map}
use Rattle.theory_calls.specs.PageRows.{group_with}

unfoldable pub calls_compute : Unit {0}
unfolding matches_compute translation_computes of_length check_call set_register_call pack_call unpack_call sdr1_in fed page_in_range write_through_inhibited rules refusal word_answer access_answer refused_bytes answer_refused without_place seen_of entry_word searched marked_by bytes_do on_bytes fields_word arranged? found_in map_marked map_does on_map group_with
calls_compute = tt
