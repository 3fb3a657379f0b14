-- `page_calls::unmap_page` meets its contract: it is the edit that makes zeros of each match.
use Rattle.page_calls.proofs.Searched.{unmap_by}
use Rattle.page_calls.proofs.unmap_page.Goals as goal

pub returns : goal.returns
returns c sdr1 right = unmap_by _ _ _ _ _ _ _ _ (c.edit_page.ensures sdr1 right)
