-- `queue::space_left` meets its contract: refused with its shape, or what the accepted call promises. Assumes nothing.
use Rattle.std.proofs.Common.{rules}
use Rattle.paper.specs.Calls.{plan_of, spaces}
use Rattle.queue.proofs.Calls.{answers_refused, answers_accepted}
use Rattle.queue.proofs.space_left.Goals as goal

pub returns-in_err-g : goal.returns-in_err-g
returns-in_err-g c = let a = c.args in answers_refused a.s a.image.now spaces a.limit c.in_err-g.ensures _ (search rules)

pub returns : goal.returns
unfolding plan_of
returns c = let a = c.args in answers_accepted a.s a.image.now spaces a.limit c.in_ok-g.ensures c.space_left.ensures
