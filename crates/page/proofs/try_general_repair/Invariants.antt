-- `page::try_general_repair`: the invariant: the pages from here on have the states that they had at the start, and repairing them completes
-- the repair of the start. Assumes nothing.
use Rattle.std.proofs.Common.{◌≡◌, List, ℕ, ◌-◌, ◌≤◌, ◌<◌, length}
use Rattle.paper.specs.Pages.{state, around, repairs, repair}
use Rattle.chip.specs.Run.{Spent, Did}
use Rattle.page.proofs.try_general_repair.Given as goal

abbrev pub invariant-loop-p : goal.invariant-loop-p
invariant-loop-p l = record {
  same_length : length l.image ≡ length l.fn.image;
  same_states : (q : ℕ) → l.p ≤ q → q < l.g.pages → state l.g l.image q ≡ state l.g l.fn.image q;
  completes : (o : List ℕ) (r : Spent) → Did l.g l.budget (repairs l.g l.fn.image (around l.g (l.g.pages - l.p) l.p)) l.image o r
      → Did l.g l.fn.budget (repair l.g l.fn.image) l.fn.image o r;
}
