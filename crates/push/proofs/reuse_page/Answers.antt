-- `push::reuse_page` meets its contract. An erase, the close and a mark in a row. Assumes nothing.
use Rattle.std.proofs.Common.{refl}
use Rattle.chip.proofs.Running.{did_then}
use Rattle.chip.proofs.Early.{did_ends}
use Rattle.push.proofs.reuse_page.Goals as goal

pub returns-in_err-open_page : goal.returns-in_err-open_page
returns-in_err-open_page c = did_ends _ c.from_residual.ensures.0 c.in_err-open_page.ensures _

pub returns-in_err-close_other : goal.returns-in_err-close_other
returns-in_err-close_other c =
    did_then c.in_ok-open_page.ensures refl (did_ends _ c.from_residual-in_err-close_other.ensures.0 c.in_err-close_other.ensures _)

pub returns : goal.returns
returns c = did_then c.in_ok-open_page.ensures refl (did_then c.in_ok-close_other.ensures refl c.mark_start.ensures)
