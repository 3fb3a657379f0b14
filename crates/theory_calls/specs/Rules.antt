-- The rules of each call in their order; the refusal is the first that is broken (rules 7).
use Rattle.std.specs.Prelude.{ℕ, ◌/◌, ◌^◌, Bool, not, ◌&&◌, List, [], ◌∷◌, ◌++◌, eqb, ltb, leb, length}
use Rattle.numbers.specs.Numbers.{refused_table_length, refused_sdr1, refused_argument, refused_lent_length, refused_operand_length}
use Rattle.numbers.specs.Numbers.{answer_size, access_answer_size, longest_operand}
use Rattle.registers.specs.Rules.{first_broken}
use Rattle.register_words.specs.Sdr1.{sdr1_shape, table_length}
use Rattle.register_words.specs.Block.{bl_width}
use Rattle.registers.specs.Set.{is_page, is_long, block_pairs, sdr1_of, register_rules, register_words}
use Rattle.groups.specs.declared.Page.{Page}
use Rattle.theory_calls.specs.Request.{MapCall, AccessCall, Request, clear, map_page, unmap, protect, look, access}

-- a VSID below 2 ^ 24 and a page index below 65,536
unfoldable pub page_in_range : Page → Bool
page_in_range page = ltb page.vsid (2 ^ 24) && ltb page.index (2 ^ 16)

-- W, 8 of the attributes, and I, 4, are both one
unfoldable pub write_through_inhibited : ℕ → Bool
write_through_inhibited wimg = eqb (wimg / 4) 3

-- map's arguments: a page in range, RPN below 2 ^ 20, WIMG below 16 without W and I both one, PP below 4
abbrev pub map_in_range : MapCall → Bool
map_in_range c = page_in_range c.page && ltb c.rpn (2 ^ 20) && ltb c.wimg (2 ^ 4) && ltb c.pp (2 ^ 2) && not (write_through_inhibited c.wimg)

-- an operand of 1 to 128 bytes
abbrev pub operand_in_range : ℕ → Bool
operand_in_range length = ltb 0 length && leb length longest_operand

-- the shape of SDR1, then the table's length
abbrev pub table_rules : ℕ → ℕ → List (Bool × ℕ)
table_rules sdr1 lent = (not (sdr1_shape sdr1), refused_sdr1) ∷ (not (eqb lent (table_length sdr1)), refused_table_length) ∷ []

-- an access by a long register page
abbrev pub on_long_page : {A : Type 0} → AccessCall A → Bool
on_long_page c = is_long (length c.registers)

-- the rules of a request, given the length of what is lent as the table
unfoldable pub rules : Request ℕ → ℕ → List (Bool × ℕ)
rules (clear c) lent = table_rules c.sdr1 lent
rules (map_page c) lent = (not (map_in_range c), refused_argument) ∷ table_rules c.sdr1 lent
rules (unmap c) lent =
    (not (eqb c.answer answer_size), refused_lent_length) ∷ (not (page_in_range c.page), refused_argument) ∷ table_rules c.sdr1 lent
rules (protect c) lent = (not (page_in_range c.page && ltb c.pp (2 ^ 2)), refused_argument) ∷ table_rules c.sdr1 lent
rules (look c) lent =
    (not (eqb c.answer answer_size), refused_lent_length) ∷ (not (page_in_range c.page), refused_argument) ∷ table_rules c.sdr1 lent
rules (access c) lent =
    (not (is_page (length c.registers) && eqb c.answer access_answer_size), refused_lent_length)
    ∷ (not (ltb c.mode 8 && ltb c.kind 3), refused_argument)
    ∷ (not (operand_in_range c.length), refused_operand_length)
    ∷ register_rules (block_pairs (on_long_page c)) (bl_width (on_long_page c)) (register_words c.registers)
    ++ ((not (eqb lent (table_length (sdr1_of (register_words c.registers)))), refused_table_length) ∷ [])

-- the refusal that follows from the arguments and the lent lengths alone, or 0
unfoldable pub refusal : Request ℕ → ℕ → ℕ
refusal request lent = first_broken (rules request lent)
