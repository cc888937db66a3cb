-- `count::find_max_fit` meets its contract: what the count with its repair came to, in the words of its answer. Assumes nothing.
use Rattle.std.proofs.Common.{◌≡◌, ℕ, Option, Some, None, Ok, refl}
use Rattle.paper.specs.Refusals.{fit_as}
use Rattle.paper.specs.Counts.{find_max_fit}
use Rattle.item.specs.Headers.{available_as}
use Rattle.chip.proofs.Early.{handed, refused_by}
use Rattle.chip.proofs.Limiting.{under_done}
use Rattle.count.proofs.find_max_fit.Goals as goal

-- the fit that is available, as the call's answer
fit_available : (t : Option ℕ) → fit_as (Ok t) ≡ available_as t
fit_available (Some n) = refl
fit_available None = refl

pub returns-in_err-run_with_auto_repair : goal.returns-in_err-run_with_auto_repair
unfolding find_max_fit
returns-in_err-run_with_auto_repair c =
    let e = c.in_err-run_with_auto_repair in
    rw (handed _ _ c.from_residual.ensures.1) (refused_by (Option ℕ) _ e.field-0.0 e.ensures)

pub returns : goal.returns
unfolding find_max_fit
returns c = rw (fit_available c.in_ok-run_with_auto_repair.field-0) (under_done _ _ c.in_ok-run_with_auto_repair.ensures refl)
