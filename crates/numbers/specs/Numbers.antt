-- The numbers that calls hand back and the lengths of what they are lent, under the names that include/mmu.h has for them.
use Rattle.std.specs.Prelude.{ℕ}

-- done: the call did what it was asked
abbrev pub done : ℕ
done = 0

-- data storage fault: a load or a store is not allowed or not mapped
abbrev pub data_storage_fault : ℕ
data_storage_fault = 64

-- instruction storage fault: a fetch is not allowed or not mapped
abbrev pub instruction_storage_fault : ℕ
instruction_storage_fault = 65

-- refusals (rules 7)
abbrev pub refused_table_length : ℕ
refused_table_length = 1

abbrev pub refused_sdr1 : ℕ
refused_sdr1 = 2

abbrev pub refused_block : ℕ
refused_block = 3

abbrev pub refused_blocks_share : ℕ
refused_blocks_share = 4

abbrev pub refused_segment : ℕ
refused_segment = 5

abbrev pub refused_argument : ℕ
refused_argument = 6

abbrev pub refused_mapped : ℕ
refused_mapped = 7

abbrev pub refused_no_match : ℕ
refused_no_match = 8

abbrev pub refused_full : ℕ
refused_full = 9

abbrev pub refused_contradiction : ℕ
refused_contradiction = 10

abbrev pub refused_lent_length : ℕ
refused_lent_length = 11

abbrev pub refused_operand_length : ℕ
refused_operand_length = 12

-- the kinds of access (rules 5)
abbrev pub fetch : ℕ
fetch = 0

abbrev pub load : ℕ
load = 1

abbrev pub store : ℕ
store = 2

-- the attributes of an access in real mode: M and G
abbrev pub attributes_real : ℕ
attributes_real = 3

-- the rules that decide an access (rules 5): rule r is step r + 1
abbrev pub rule_real : ℕ
rule_real = 0

abbrev pub rule_block : ℕ
rule_block = 1

abbrev pub rule_no_execute : ℕ
rule_no_execute = 2

abbrev pub rule_no_match : ℕ
rule_no_match = 3

abbrev pub rule_guarded : ℕ
rule_guarded = 4

abbrev pub rule_protection : ℕ
rule_protection = 5

abbrev pub rule_done : ℕ
rule_done = 6

-- lengths in bytes: the short and the long register page, the answers of look and unmap and of an access, an entry's fields, a group and an entry; a page, and the
-- longest operand
abbrev pub registers_size_short : ℕ
registers_size_short = 132

abbrev pub registers_size_long : ℕ
registers_size_long = 196

abbrev pub answer_size : ℕ
answer_size = 16

abbrev pub access_answer_size : ℕ
access_answer_size = 48

abbrev pub fields_size : ℕ
fields_size = 36

abbrev pub group_size : ℕ
group_size = 64

abbrev pub entry_size : ℕ
entry_size = 8

abbrev pub page_size : ℕ
page_size = 4096

abbrev pub longest_operand : ℕ
longest_operand = 128

-- how many register words a short and a long page have, and how many entries a group has
abbrev pub register_count_short : ℕ
register_count_short = 33

abbrev pub register_count_long : ℕ
register_count_long = 49

abbrev pub group_entries : ℕ
group_entries = 8
