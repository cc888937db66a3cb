-- `page::read_states`: the invariant: the table has the states of the pages from `start` to before this one, and what it had below `start`.
-- Assumes nothing.
use Rattle.std.proofs.Common.{◌≡◌, ℕ, ◌≤◌, ◌<◌, length, get_or}
use Rattle.paper.specs.declared.PageState.TheVariants.{Open}
use Rattle.paper.specs.Refusals.{page_count_limit}
use Rattle.page.specs.Table.{Has}
use Rattle.page.proofs.read_states.Given as goal

abbrev pub invariant-loop-p : goal.invariant-loop-p
invariant-loop-p l = record {
  same_length : length l.states ≡ page_count_limit;
  kept : (q : ℕ) → q < l.start → get_or l.states q Open ≡ get_or l.fn.table q Open;
  has : (q : ℕ) → l.start ≤ q → q < l.p → Has l.g l.image l.states q;
}
