-- `queue::pop` meets its contract: refused with its shape, or what the accepted call promises. Assumes nothing.
use Rattle.std.proofs.Common.{rules}
use Rattle.paper.specs.Calls.{plan_of, pops}
use Rattle.queue.proofs.Calls.{shows_refused, shows_accepted}
use Rattle.queue.proofs.pop.Goals as goal

pub returns-in_err-g : goal.returns-in_err-g
returns-in_err-g c = let a = c.args in shows_refused a.s a.image.now (pops a.buffer.now) a.limit c.in_err-g.ensures a.buffer.now _ (search rules)

pub returns : goal.returns
unfolding plan_of
returns c = let a = c.args in shows_accepted a.s a.image.now (pops a.buffer.now) a.limit c.in_ok-g.ensures c.pop.ensures
