-- A virtual page (rules 4): a VSID and a page index.
use Rattle.std.specs.Prelude.{◌^◌, ◌<◌, Bool, ◌&&◌, eqb}
use Rattle.groups.specs.declared.Page.{Page}

-- a VSID below 2 ^ 24 and a page index below 65,536
pub record InRange (page : Page) : Type 0 where
  pub vsid_lt : page.vsid < 2 ^ 24
  pub index_lt : page.index < 2 ^ 16

-- two pages are the same: VSID and page index agree
unfoldable pub same_page : Page → Page → Bool
same_page p q = eqb p.vsid q.vsid && eqb p.index q.index
