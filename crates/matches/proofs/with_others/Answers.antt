-- `matches::with_others` meets its contract: some other disagrees where one did before or one of this group does.
use mathlib.Core.Path.{◌≡◌, sym, ap, ap₂, ◌∙◌}
use mathlib.Core.Bool.{Bool, cond, ◌||◌}
use mathlib.Core.List.{◌++◌}
use denote.Enum.Bare.{sameb}
use Rattle.matches.specs.Search.{group_matches, any_match, disagrees, contradict}
use Rattle.matches.specs.contracts.Others.{the_type}
use Rattle.matches.specs.declared.FirstMatch.{FirstMatch}
use Rattle.matches.specs.declared.Others.{Others}
use Rattle.matches.specs.declared.Others.TheVariants.{Differing, Agreeing}
use Rattle.matches.proofs.Merged.{or_swap, any_append}
use Rattle.matches.proofs.Found.{differing}
use Rattle.matches.proofs.with_others.Goals as goal
use Rattle.matches.proofs.with_others.Goals.{then-differs, else-differs}

pub returns : goal.returns
unfolding contradict group_matches
returns c secondary vsid api m ms wants is =
    let a = c.args in
    let group = group_matches secondary vsid api a.group.now in
    let test = disagrees m.second in
    let told : Bool → Others = λ b. cond b Differing Agreeing in
    let differs : (c.disagree.result || c.eq.result) ≡ contradict m (ms ++ group) =
    ap₂ ◌||◌ (c.disagree.ensures secondary vsid api wants ∙ ap (λ (f : FirstMatch). any_match (disagrees f.second) group) is)
    (c.eq.ensures ∙ ap (λ (f : FirstMatch). sameb the_type f.others Differing) is ∙ differing m ms)
    ∙ or_swap (any_match test group) (any_match test ms)
    ∙ sym (any_append test ms group) in
    let others : c.if-differs.result ≡ told (c.disagree.result || c.eq.result) =
    elim c.if-differs.branch [ then-differs w ↦ w.result-is ∙ sym (ap told w.if-differs.true) | else-differs w ↦ w.result-is ∙ sym (ap told w.if-differs.false) ] in
    ap₂ (λ (f : FirstMatch) (o : Others). record { place = f.place; second = f.second; others = o }) is (others ∙ ap told differs)
