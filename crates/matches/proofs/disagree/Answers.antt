-- `matches::disagree` meets its contract. The loop's invariant: what was found is of the matches among the entries passed.
use mathlib.Core.Path.{◌≡◌, refl, sym, ap, ap₂, ◌∙◌}
use mathlib.Core.Bool.{Bool, not, ◌&&◌, ◌||◌}
use native.Mathlib.Omega.{arith}
use Rattle.theory_tables.specs.Matches.{matches_below}
use Rattle.groups.specs.Group.{first_at, second_at}
use Rattle.matches.specs.Search.{agree, disagrees, group_matches}
use Rattle.matches.proofs.Matches.{entry_at, wanted_matches}
use Rattle.matches.proofs.Found.{any_more}
use Rattle.matches.proofs.disagree.Goals as goal

pub loop-entry-init : goal.loop-entry-init
unfolding matches_below
loop-entry-init c = λ secondary vsid api wants. refl

pub loop-entry-preserved : goal.loop-entry-preserved
unfolding first_at second_at
loop-entry-preserved c secondary vsid api wants =
    let a = c.args in
    let group = a.group.now in
    let entry = c.loop-entry.entry in
    let test = disagrees a.second in
    let told : not c.words_agree.result ≡ test (entry_at secondary group entry) = ap not (c.words_agree.ensures ∙ ap (agree a.second) c.read_word-other.ensures) in
    ap₂ (λ (before here : Bool). before || (c.is_word.result && here)) (c.loop-entry.invariant secondary vsid api wants) told
    ∙ sym (any_more test secondary vsid api group entry _ (wanted_matches secondary vsid api _ _ _ wants c.is_word.ensures))

pub returns : goal.returns
unfolding group_matches
returns c secondary vsid api wants = let e : c.loop-entry.entry ≡ 8 = omega arith in rw e at (c.loop-entry.invariant secondary vsid api wants)
