-- `count::run_with_auto_repair` meets its contract: a run that gives, one whose repair is cut, and one more after the repair. Assumes nothing.
use Rattle.std.proofs.Common.{refl, sym}
use Rattle.paper.specs.Chip.{fails, gives}
use Rattle.chip.specs.declared.Failure.TheVariants as failure
use Rattle.chip.proofs.Early.{handed}
use Rattle.count.proofs.Retries.{count_gives, count_cut, count_again}
use Rattle.count.proofs.run_with_auto_repair.Goals as goal

pub returns-in-Ok : goal.returns-in-Ok
returns-in-Ok g c =
    let a = c.args in
    count_gives a.g a.budget.now a.image.now (g.C.Count.step a.g) _ (sym c.in-Ok.ensures)

pub returns-in_err-try_general_repair-in-Err : goal.returns-in_err-try_general_repair-in-Err
returns-in_err-try_general_repair-in-Err g c =
    let a = c.args in
    rw (handed _ failure.Cut c.from_residual.ensures.1)
    (count_cut a.g a.budget.now a.image.now (g.C.Count.step a.g) (sym c.in-Err.ensures) c.in_err-try_general_repair-in-Err.ensures _ refl)

pub returns-in_err-run-in-Err : goal.returns-in_err-run-in-Err
returns-in_err-run-in-Err g c =
    let a = c.args in
    let r = c.in_ok-try_general_repair-in-Err.ensures in
    rw (handed _ failure.Corrupted c.from_residual-in_err-run-in-Err.ensures.1)
    (count_again a.g a.budget.now a.image.now (g.C.Count.step a.g) (sym c.in-Err.ensures) r refl (fails tt) c.in_err-run-in-Err.ensures)

pub returns-in_ok-run-in-Err : goal.returns-in_ok-run-in-Err
returns-in_ok-run-in-Err g c =
    let a = c.args in
    let r = c.in_ok-try_general_repair-in-Err.ensures in
    let e = c.in_ok-run-in-Err in
    count_again a.g a.budget.now a.image.now (g.C.Count.step a.g) (sym c.in-Err.ensures) r refl (gives (g.C.Count.answer e.field-0)) e.ensures
