-- `register_pages::RegisterPage::segment` meets its contract: the word at that byte is the set's.
use mathlib.Core.Path.{sym, ◌∙◌}
use native.Mathlib.Omega.{arith}
use lib.ListN.{length}
use Rattle.register_pages.proofs.Page.{page_least, segment_at_law}
use Rattle.register_pages.proofs.register_page.RegisterPage.segment.Goals as goal

pub read_word-requires : goal.read_word-requires
read_word-requires c = omega (arith, page_least (length c.args.self.bytes.now) c.args.self.whole)

pub returns : goal.returns
returns c =
    c.read_word.ensures ∙ sym (segment_at_law c.args.self.bytes.now c.args.i c.requires)
