-- `count::space_left` meets its contract: what the count with its repair came to, in the words of its answer. Assumes nothing.
use Rattle.std.proofs.Common.{ℕ, refl}
use Rattle.paper.specs.Counts.{space_left}
use Rattle.chip.proofs.Early.{handed, refused_by}
use Rattle.chip.proofs.Limiting.{under_done}
use Rattle.count.proofs.space_left.Goals as goal

pub returns-in_err-run_with_auto_repair : goal.returns-in_err-run_with_auto_repair
unfolding space_left
returns-in_err-run_with_auto_repair c =
    let e = c.in_err-run_with_auto_repair in
    rw (handed _ _ c.from_residual.ensures.1) (refused_by ℕ _ e.field-0.0 e.ensures)

pub returns : goal.returns
unfolding space_left
returns c = under_done _ _ c.in_ok-run_with_auto_repair.ensures refl
