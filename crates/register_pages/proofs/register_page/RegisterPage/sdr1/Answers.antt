-- `register_pages::RegisterPage::sdr1` meets its contract: the page's first word is the set's.
use mathlib.Core.Path.{sym, ◌∙◌}
use native.Mathlib.Omega.{arith}
use lib.ListN.{length}
use Rattle.register_pages.proofs.Page.{page_least, sdr1_at}
use Rattle.register_pages.proofs.register_page.RegisterPage.sdr1.Goals as goal

pub read_word-requires : goal.read_word-requires
read_word-requires c = omega (arith, page_least (length c.args.self.bytes.now) c.args.self.whole)

pub returns : goal.returns
returns c = c.read_word.ensures ∙ sym (sdr1_at c.args.self.bytes.now)
