-- `push::start_page` meets its contract. Two marks in a row. Assumes nothing.
use Rattle.std.proofs.Common.{refl}
use Rattle.chip.proofs.Running.{did_then}
use Rattle.chip.proofs.Early.{did_ends}
use Rattle.push.proofs.start_page.Goals as goal

pub returns-in_err-close_page : goal.returns-in_err-close_page
returns-in_err-close_page c = did_ends _ c.from_residual.ensures.0 c.in_err-close_page.ensures _

pub returns : goal.returns
returns c = did_then c.in_ok-close_page.ensures refl c.mark_start.ensures
