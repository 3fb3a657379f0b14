-- `entry::first_in` meets its contract: the word that matches in either group, its bytes in order again.
use Prim.Native.Nat.{◌<◌, ◌^◌}
use mathlib.Core.Path.{◌≡◌, ap, ◌∙◌}
use mathlib.Core.Bool.{Bool, true, false, cond}
use lib.Dec.{lit<}
use Rattle.words.specs.Words.{swapped}
use Rattle.words.proofs.Words.{swapped_twice}
use Rattle.entry.specs.Entry.{first_word}
use Rattle.entry.proofs.Packing.{first_lt}
use Rattle.entry.proofs.first_in.Goals as goal
use Rattle.entry.proofs.first_in.Goals.{then-secondary, else-secondary}

-- H fits its bit
h_lt : (b : Bool) → cond b 1 0 < 2 ^ 1
h_lt true = lit< tt
h_lt false = lit< tt

pub returns : goal.returns
returns c vsid api v a e =
    let secondary = c.args.secondary in
    let wanted : c.if-secondary.wanted ≡ swapped (first_word 1 vsid (cond secondary 1 0) api) =
    elim c.if-secondary.branch [ then-secondary w ↦ rw w.if-secondary.true (w.wanted-is ∙ w.secondary_word-wanted.ensures vsid api v a e) | else-secondary w ↦ rw w.if-secondary.false (w.wanted-is ∙ e) ] in
    c.swapped.ensures ∙ ap swapped wanted ∙ swapped_twice _ (first_lt 1 vsid (cond secondary 1 0) api (lit< tt) v (h_lt secondary) a)
