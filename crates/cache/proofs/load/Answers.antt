-- `cache::load` meets its contract: by the place that the page is loaded into, its four words are written there and the other place's fourth is zeroed.
use mathlib.Core.Path.{sym, ◌∙◌}
use Rattle.cache.proofs.Steps.{loaded_0, loaded_1}
use Rattle.cache.proofs.load.Goals as goal

pub returns-then-load_place : goal.returns-then-load_place
returns-then-load_place c =
    c.write_word.ensures
    ∙ loaded_1 _ _ _ _ _ c.set_start-start.ensures.at _ c.write_place.ensures (sym c.load_place.ensures ∙ c.if-load_place.true)

pub returns-else-load_place : goal.returns-else-load_place
returns-else-load_place c =
    c.write_word-else-load_place.ensures
    ∙ loaded_0 _ _ _ _ _ c.set_start-start.ensures.at _ c.write_place-else-load_place.ensures (sym c.load_place.ensures ∙ c.if-load_place.false)
