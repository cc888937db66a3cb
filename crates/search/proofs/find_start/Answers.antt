-- `search::find_start` meets its contract: one run, or two with a repair between them. Assumes nothing.
use Rattle.std.proofs.Common.{refl}
use Rattle.chip.specs.declared.Failure.TheVariants as failure
use Rattle.chip.proofs.Early.{handed}
use Rattle.search.proofs.Beginning.{start_gives, start_stops, start_again}
use Rattle.search.proofs.find_start.Goals as goal

pub returns-in-Ok : goal.returns-in-Ok
returns-in-Ok c =
    let a = c.args in
    let first = c.in-Ok.ensures in
    record { shows = start_gives a.g a.budget.now a.image.now _ first.0; within = first.1 _ refl }

pub returns-in_err-try_general_repair : goal.returns-in_err-try_general_repair
returns-in_err-try_general_repair c =
    let a = c.args in
    rw (handed _ failure.Cut c.from_residual.ensures.1)
    (record { shows = start_stops a.g a.budget.now a.image.now c.in_default.ensures.0 c.in_err-try_general_repair.ensures _ refl; within = tt })

pub returns-in_err-find_start_address : goal.returns-in_err-find_start_address
returns-in_err-find_start_address c =
    let a = c.args in
    let again = c.in_err-find_start_address.ensures in
    rw (handed _ failure.Corrupted c.from_residual-in_err-find_start_address.ensures.1)
    (record { shows = start_again a.g a.budget.now a.image.now c.in_default.ensures.0 c.in_ok-try_general_repair.ensures again.0; within = tt })

pub returns : goal.returns
returns c =
    let a = c.args in
    let again = c.in_ok-find_start_address.ensures in
    record {
      shows = start_again a.g a.budget.now a.image.now c.in_default.ensures.0 c.in_ok-try_general_repair.ensures again.0;
      within = again.1 _ refl;
    }
