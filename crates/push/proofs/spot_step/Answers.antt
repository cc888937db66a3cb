-- What `push::spot_step` ensures where no youngest page is found. Assumes nothing.
use Rattle.std.proofs.Common.{refl}
use Rattle.paper.specs.Push.{spot_on, spot_step}
use Rattle.chip.specs.declared.Failure.TheVariants as failure
use Rattle.chip.proofs.Binding.{ran_none}
use Rattle.chip.proofs.Early.{handed}
use Rattle.page.proofs.Searching.{seen}
use Rattle.push.proofs.spot_step.Goals as goal

pub returns-in_err-current : goal.returns-in_err-current
unfolding spot_step spot_on
returns-in_err-current c =
    let a = c.args in
    let y = seen c.in_err-current.ensures refl c.page_states-states.ensures in
    rw (handed _ failure.Corrupted c.from_residual.ensures.1, y) (record { ran = ran_none a.g a.budget.now a.image.now _; holds = tt })
