-- What `push::turn_page` ensures where the next page should not be as it is. Assumes nothing.
use Rattle.std.proofs.Common.{sym}
use Rattle.paper.specs.Push.{turn_page}
use Rattle.chip.proofs.Binding.{ran_none}
use Rattle.push.proofs.turn_page.Goals as goal

pub returns-else-eq : goal.returns-else-eq
unfolding turn_page
returns-else-eq c =
    rw (← c.next_page-following.ensures.0, sym c.in-PartialOpen.ensures, sym c.if-eq.ensures) (ran_none c.args.g c.args.budget.now c.args.image.now _)

pub returns-in-Corrupted : goal.returns-in-Corrupted
unfolding turn_page
returns-in-Corrupted c =
    rw (← c.next_page-following.ensures.0, sym c.in-Corrupted.ensures) (ran_none c.args.g c.args.budget.now c.args.image.now _)
