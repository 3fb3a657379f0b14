-- The rule that decided a part of an operand, and what it went by (rules 5): rule r is step r + 1.
use Rattle.std.specs.Prelude.{ℕ, ◌+◌, ◌*◌, Bool, cond}
use Rattle.numbers.specs.Numbers.{rule_real, rule_block, rule_no_execute, rule_no_match, rule_guarded, rule_protection, rule_done}
use Rattle.entry.specs.Entry.{pp_of}
use Rattle.translation.specs.declared.Outcome.{Outcome}
use Rattle.translation.specs.declared.Outcome.TheVariants.{Real, Block, BlockProtection, NoExecute, NoMatch, Guarded, Protection, Done, Refused}
use Rattle.translation.specs.declared.decision.Decision.{Decision}
use Rattle.translation.specs.declared.decision.Used.{Used}

-- a decision in which no entry plays a part: its rule, and the number of the block in rule 1
abbrev pub decided : ℕ → ℕ → Decision
decided rule detail = record { rule = rule; detail = detail; group = 0; entry = 0 }

-- a decision by the first match, which stands in that group as that entry
abbrev pub by_entry : ℕ → ℕ → Used → Decision
by_entry rule detail used = record { rule = rule; detail = detail; group = used.group; entry = used.entry }

-- key × 4 + PP, by the second word of an entry
unfoldable pub key_and_pp : Bool → ℕ → ℕ
key_and_pp key second = 4 * cond key 1 0 + pp_of second

-- what each outcome shows; a refusal shows zero words
unfoldable pub decision_of : Used → Outcome → Decision
decision_of used Real = decided rule_real 0
decision_of used (Block i physical attributes) = decided rule_block i
decision_of used (BlockProtection i) = decided rule_block i
decision_of used NoExecute = decided rule_no_execute 0
decision_of used NoMatch = decided rule_no_match 0
decision_of used Guarded = by_entry rule_guarded 0 used
decision_of used (Protection second) = by_entry rule_protection (key_and_pp used.key second) used
decision_of used (Done second) = by_entry rule_done (key_and_pp used.key second) used
decision_of used (Refused number) = decided 0 0
