-- What `push::take_page` ensures where a page is kept. Assumes nothing.
use Rattle.std.proofs.Common.{sym}
use Rattle.paper.specs.Push.{take_page}
use Rattle.chip.proofs.Binding.{ran_none}
use Rattle.push.proofs.take_page.Goals as goal

pub returns-then-is_kept : goal.returns-then-is_kept
unfolding take_page
returns-then-is_kept c = rw (sym c.if-is_kept.ensures) (ran_none c.args.g c.args.budget.now c.args.image.now _)
