-- `page_calls::look_page` meets its contract: by what the search of the page's groups told: none, matches that contradict, or the first one's second word.
use mathlib.Core.Path.{◌≡◌, refl, sym, ap, ◌∙◌}
use mathlib.Core.Bool.{Bool, true, false, cond}
use mathlib.Core.List.{List, [], ◌∷◌}
use denote.Enum.Bare.{sameb}
use Prim.Native.Nat.{ℕ}
use lib.ListN.{length}
use Rattle.groups.specs.Hash.{TableOf}
use Rattle.theory_tables.specs.Matches.{Match}
use Rattle.matches.specs.Search.{contradict, others_of}
use Rattle.matches.specs.contracts.Others.{the_type}
use Rattle.matches.specs.declared.FirstMatch.{FirstMatch}
use Rattle.matches.specs.declared.Others.TheVariants.{Agreeing, Differing}
use Rattle.theory_calls.specs.Answers.{word_answer}
use Rattle.theory_calls.specs.OnBytes.{ended}
use Rattle.theory_calls.proofs.PageCalls.{look_missing, look_contradicted, look_done}
use Rattle.page_calls.proofs.Searched.{Known, known, first_found, none_found, contradict_is}
use Rattle.page_calls.proofs.look_page.Goals as goal
use Rattle.page_calls.proofs.look_page.Goals.{After-search}

-- what was told is of the page's matches and free entries
told_of : (c : After-search) (sdr1 : ℕ) → TableOf sdr1 (length c.args.table.now)
    → Known sdr1 c.args.page c.args.table.now c.search.result.0 c.search.result.1
told_of c = known _ c.args.table.now _ c.requires.1 c.search.ensures

pub returns-in_default : goal.returns-in_default
returns-in_default c sdr1 right =
    sym (look_missing _ _ _ (none_found _ (sym (told_of (goal.at.returns-in_default c).After-search sdr1 right).first_is ∙ c.in_default.is)) _ _)

pub returns-then-eq : goal.returns-then-eq
returns-then-eq c sdr1 right =
    let f = first_found _ _ (sym (told_of (goal.at.returns-then-eq c).After-search sdr1 right).first_is ∙ c.in-Some.is) in
    sym (look_contradicted _ _ _ _ _ f.are _ _ (contradict_is _ _ ∙ ap (λ (x : FirstMatch). sameb the_type x.others Differing) f.is ∙ sym c.eq.ensures ∙ c.if-eq.true))

pub returns : goal.returns
returns c sdr1 right =
    let f = first_found _ _ (sym (told_of (goal.at.returns c).After-search sdr1 right).first_is ∙ c.in-Some.is) in
    ap (λ (x : FirstMatch). ended 0 c.args.table.now (word_answer 0 x.second)) (sym f.is)
    ∙ sym (look_done _ _ _ _ _ f.are _ _ (contradict_is _ _ ∙ ap (λ (x : FirstMatch). sameb the_type x.others Differing) f.is ∙ sym c.eq.ensures ∙ c.if-eq.false))
