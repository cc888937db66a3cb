-- `queue::push` meets its contract: refused with its shape, or what the accepted call promises. Assumes nothing.
use Rattle.std.proofs.Common.{rules}
use Rattle.paper.specs.Calls.{plan_of, pushes}
use Rattle.queue.proofs.Calls.{answers_refused, answers_accepted}
use Rattle.queue.proofs.push.Goals as goal

pub returns-in_err-g : goal.returns-in_err-g
returns-in_err-g c = let a = c.args in answers_refused a.s a.image.now (pushes a.slip.now a.over) a.limit c.in_err-g.ensures _ (search rules)

pub returns : goal.returns
unfolding plan_of
returns c = let a = c.args in answers_accepted a.s a.image.now (pushes a.slip.now a.over) a.limit c.in_ok-g.ensures c.push.ensures
