-- `push::spot_for` meets its contract. The step's run, and where it failed the runs of the repair and of the step once more. Assumes nothing.
use Rattle.std.proofs.Common.{◌≡◌, refl, Err}
use Rattle.paper.specs.Push.{spot_step, spot_for}
use Rattle.chip.specs.declared.Failure.TheVariants as failure
use Rattle.chip.proofs.Repairing.{repair_cut, repair_gives, repair_stops, repair_again}
use Rattle.chip.proofs.Early.{handed}
use Rattle.push.proofs.spot_for.Goals as goal

pub returns-in-Ok : goal.returns-in-Ok
unfolding spot_for
returns-in-Ok c =
    let a = c.args in
    let e = c.in-Ok.is in
    let s = rw e at c.spot_step-spot.ensures in
    rw e (record { ran = repair_gives (spot_step a.g a.n a.over) tt s.ran _ refl refl; holds = s.holds })

pub returns-in-Err-Cut : goal.returns-in-Err-Cut
unfolding spot_for
returns-in-Err-Cut c =
    let a = c.args in
    let e : c.spot_step-spot.result ≡ Err failure.Cut = cc (c.in-Err-Cut.is, rw c.in-Err-Cut.is at c.in-Err-Cut.field-0-is) in
    let s = rw e at c.spot_step-spot.ensures in
    rw e (record { ran = repair_cut (spot_step a.g a.n a.over) tt s.ran _ refl; holds = s.holds })

pub returns-in_err-try_general_repair-in-Err-Corrupted : goal.returns-in_err-try_general_repair-in-Err-Corrupted
unfolding spot_for
returns-in_err-try_general_repair-in-Err-Corrupted c =
    let a = c.args in
    let e : c.spot_step-spot.result ≡ Err failure.Corrupted = cc (c.in-Err-Corrupted.is, rw c.in-Err-Corrupted.is at c.in-Err-Corrupted.field-0-is) in
    let s = rw e at c.spot_step-spot.ensures in
    rw (handed _ failure.Cut c.from_residual.ensures.1)
    (record { ran = repair_stops (spot_step a.g a.n a.over) tt s.ran tt refl refl c.in_err-try_general_repair-in-Err-Corrupted.ensures _ refl; holds = tt })

pub returns-in_ok-try_general_repair-in-Err-Corrupted : goal.returns-in_ok-try_general_repair-in-Err-Corrupted
unfolding spot_for
returns-in_ok-try_general_repair-in-Err-Corrupted c =
    let a = c.args in
    let e : c.spot_step-spot.result ≡ Err failure.Corrupted = cc (c.in-Err-Corrupted.is, rw c.in-Err-Corrupted.is at c.in-Err-Corrupted.field-0-is) in
    let s = rw e at c.spot_step-spot.ensures in
    let t = c.spot_step.ensures in
    record {
      ran =
          repair_again (spot_step a.g a.n a.over) tt s.ran tt refl refl c.in_ok-try_general_repair-in-Err-Corrupted.ensures refl t.ran;
      holds = t.holds;
    }
