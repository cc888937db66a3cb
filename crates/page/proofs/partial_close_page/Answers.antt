-- `page::partial_close_page` meets its contract: to a page that is not Open nothing is done. Assumes nothing.
use Rattle.chip.proofs.Running.{did_none}
use Rattle.page.proofs.States.{told}
use Rattle.page.proofs.partial_close_page.Goals as goal

pub returns : goal.returns
returns c =
    let a = c.args in
    rw (← c.get_page_state-current.ensures, told _ _ c.if-eq.ensures) (did_none a.g a.budget.now a.image.now)
