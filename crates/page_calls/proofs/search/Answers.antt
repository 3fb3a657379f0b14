-- `page_calls::search` meets its contract: the groups that `locate` tells are the page's own and lie in the table.
use mathlib.Core.Path.{refl}
use Rattle.entry.specs.Entry.{api_of}
use Rattle.page_calls.proofs.Searched.{locatable, at_groups, search_asked}
use Rattle.page_calls.proofs.search.Goals as goal

pub locate-at-requires : goal.locate-at-requires
locate-at-requires c = locatable _ _ c.requires.0 c.requires.1

pub search_page-requires : goal.search_page-requires
search_page-requires c = search_asked _ c.args.table.now _ c.requires.0 c.requires.1 c.locate-at.ensures

pub returns : goal.returns
returns c sdr1 right =
    let g = at_groups sdr1 _ c.args.table.now _ right c.requires.1 c.locate-at.ensures in
    rw (c.search_page.ensures c.args.page.vsid (api_of c.args.page.index) g.wants, g.own) refl
