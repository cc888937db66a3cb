-- `push::close_other` meets its contract: where the next page is the current one, nothing is done. Assumes nothing.
use Rattle.std.proofs.Common.{sym}
use Rattle.chip.proofs.Running.{did_none}
use Rattle.push.proofs.close_other.Goals as goal

pub returns-then-eq : goal.returns-then-eq
returns-then-eq c = rw (sym c.if-eq.ensures) (did_none c.args.g c.args.budget.now c.args.image.now)
