-- `count::erase_all`: the invariant: erasing the pages from here on completes the erase of all. Assumes nothing.
use Rattle.std.proofs.Common.{◌≡◌, List, ℕ, ◌-◌, length}
use Rattle.paper.specs.Pages.{around}
use Rattle.paper.specs.Calls.{erases, erase_all}
use Rattle.chip.specs.Run.{Spent, Did}
use Rattle.count.proofs.erase_all.Given as goal

abbrev pub invariant-loop-p : goal.invariant-loop-p
invariant-loop-p l = record {
  same_length : length l.image ≡ length l.fn.image;
  completes : (o : List ℕ) (r : Spent) → Did l.g l.budget (erases l.g (around l.g (l.g.pages - l.p) l.p)) l.image o r
      → Did l.g l.fn.budget (erase_all l.g).events l.fn.image o r;
}
