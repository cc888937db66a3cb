-- `page::repair_page` meets its contract. A Corrupted page is erased, and any other is passed. Assumes nothing.
use Rattle.paper.specs.declared.PageState.TheVariants.{Corrupted}
use Rattle.chip.proofs.Running.{did_none}
use Rattle.page.proofs.Repairs.{repairs_page, repairs_pass}
use Rattle.page.proofs.States.{told}
use Rattle.page.proofs.repair_page.Goals as goal

pub returns-then-eq : goal.returns-then-eq
returns-then-eq c =
    let a = c.args in
    rw (repairs_page a.g a.image.now a.p.0 _ c.get_page_state-current.ensures (told _ Corrupted c.if-eq.ensures)) c.open_page.ensures

pub returns : goal.returns
returns c =
    let a = c.args in
    rw (repairs_pass a.g a.image.now a.p.0 _ c.get_page_state-current.ensures (told _ Corrupted c.if-eq.ensures)) (did_none a.g a.budget.now a.image.now)
