-- `mmu::mmu_unpack` meets its contract: nine words fill thirty-six bytes.
use mathlib.Core.Path.{◌≡◌, sym}
use lib.ListN.{length}
use Rattle.theory_calls.specs.WithoutTable.{unpack_call}
use Rattle.theory_calls.proofs.Lent.{right_length, wrong_length, beside}
use Rattle.mmu.proofs.mmu_unpack.Goals as goal

pub returns-then-fields-ne-FIELDS_SIZE : goal.returns-then-fields-ne-FIELDS_SIZE
unfolding unpack_call
returns-then-fields-ne-FIELDS_SIZE c = rw c.from.ensures (sym (wrong_length 36 _ _ c.if-fields-ne-FIELDS_SIZE.true))

pub returns : goal.returns
unfolding unpack_call
returns c =
    let len : length c.args.fields.now ≡ 36 = c.if-fields-ne-FIELDS_SIZE.false in
    rw (right_length, ← c.unpack-f.ensures) (beside _ c.write_words.ensures)
