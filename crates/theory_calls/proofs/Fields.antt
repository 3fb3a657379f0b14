-- The second entry word of a page's fields follows the fields: it fits, marks and protection change both alike.
use Prim.Native.Nat.{ℕ, ◌^◌, ◌<◌}
use mathlib.Core.Path.{◌≡◌, refl, ap, ◌∙◌}
use mathlib.Core.Bool.{Bool, true, false, cond, ◌||◌}
use lib.Dec.{lit<}
use Rattle.entry.specs.Entry.{second_word, with_marks, with_pp}
use Rattle.entry.proofs.Packing.{second_lt}
use Rattle.entry.proofs.Marks.{marks_packed, pp_packed}
use Rattle.theory_placement.specs.Lists.{one_if}
use Rattle.theory_calls.specs.OnMap.{PageFields, fields_word, mark_fields, protect_fields}
use Rattle.theory_calls.specs.Represents.{FieldsInRange}

pub one_if_lt : (t : Bool) → one_if t < 2 ^ 1
one_if_lt true = lit< tt
one_if_lt false = lit< tt

mark_one : (store changed : Bool) → cond store 1 (one_if changed) ≡ one_if (store || changed)
mark_one true changed = refl
mark_one false changed = refl

module _ (f : PageFields) (range : FieldsInRange f) where
  pub word_fits : fields_word f < 2 ^ 32
  unfolding fields_word
  word_fits =
      second_lt f.frame (one_if f.referenced) (one_if f.changed) f.attributes f.protection
      range.frame_lt (one_if_lt f.referenced) (one_if_lt f.changed) range.attributes_lt range.protection_lt

  pub marked_word : (store : Bool) → with_marks true store (fields_word f) ≡ fields_word (mark_fields store f)
  unfolding fields_word
  marked_word store =
      marks_packed f.frame (one_if f.referenced) (one_if f.changed) f.attributes f.protection
      range.frame_lt (one_if_lt f.referenced) (one_if_lt f.changed) range.attributes_lt range.protection_lt true store
      ∙ ap (λ (c : ℕ). second_word f.frame 1 c f.attributes f.protection) (mark_one store f.changed)

  pub protected_word : (pp : ℕ) → pp < 2 ^ 2 → with_pp pp (fields_word f) ≡ fields_word (protect_fields pp f)
  unfolding fields_word
  protected_word pp fits =
      pp_packed f.frame (one_if f.referenced) (one_if f.changed) f.attributes f.protection
      range.frame_lt (one_if_lt f.referenced) (one_if_lt f.changed) range.attributes_lt range.protection_lt pp fits

  pub mark_range : (store : Bool) → FieldsInRange (mark_fields store f)
  mark_range store = record { frame_lt = range.frame_lt; attributes_lt = range.attributes_lt; protection_lt = range.protection_lt }

  pub protect_range : (pp : ℕ) → pp < 2 ^ 2 → FieldsInRange (protect_fields pp f)
  protect_range pp fits = record { frame_lt = range.frame_lt; attributes_lt = range.attributes_lt; protection_lt = fits }
