-- The four calls that are lent no table: check, set_register, pack and unpack.
use Rattle.std.specs.Prelude.{ℕ, ◌*◌, cond, List, [], ◌∷◌, eqb, length}
use Rattle.numbers.specs.Numbers.{done, refused_lent_length, fields_size, entry_size}
use Rattle.words.specs.Words.{with_word, bytes_of}
use Rattle.entry.specs.declared.Fields.{Fields}
use Rattle.entry.specs.Entry.{packed, unpacked}
use Rattle.register_words.specs.Block.{bl_width}
use Rattle.registers.specs.Set.{is_page, is_long, block_pairs, check_words, replacing, register_words}
use Rattle.theory_calls.specs.Lent.{of_length}

-- check: the length, then the rules of the set by the page's own limits; the register page is only read
unfoldable pub check_call : List ℕ → ℕ
check_call registers =
    let long = is_long (length registers) in
    cond (is_page (length registers)) (check_words (block_pairs long) (bl_width long) (register_words registers)) refused_lent_length

-- set_register: the length, then the number by the page's own range, then the rules of the new set; the register page has the new word, or stays
unfoldable pub set_register_call : List ℕ → ℕ → ℕ → ℕ × List ℕ
set_register_call registers number word =
    let result = replacing (is_long (length registers)) (register_words registers) number word in
    cond (is_page (length registers)) (result, cond (eqb result done) (with_word registers (4 * number) word) registers) (refused_lent_length, registers)

-- pack: the length, then the widths; the entry's two words, zero where a field is refused
unfoldable pub pack_call : Fields → List ℕ → ℕ × List ℕ
unfolding of_length
pack_call fields entry = of_length entry_size entry ((packed fields).0, bytes_of ((packed fields).1.0 ∷ (packed fields).1.1 ∷ []))

-- the nine fields as words, in the order of the rules (rules 4)
abbrev pub field_words : Fields → List ℕ
field_words f = f.v ∷ f.vsid ∷ f.h ∷ f.api ∷ f.rpn ∷ f.r ∷ f.c ∷ f.wimg ∷ f.pp ∷ []

-- unpack: the length; the nine fields of the two words
unfoldable pub unpack_call : ℕ → ℕ → List ℕ → ℕ × List ℕ
unfolding of_length
unpack_call first second fields = of_length fields_size fields (done, bytes_of (field_words (unpacked first second)))
