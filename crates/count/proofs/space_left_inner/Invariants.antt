-- `count::space_left_inner`: the invariant: what the pages from here on add, and the sum so far, are the whole sum. Assumes nothing.
use Rattle.std.proofs.Common.{◌≡◌, ◌-◌, ◌*◌, ◌≤◌}
use Rattle.paper.specs.Pages.{around, all_pages}
use Rattle.paper.specs.Counts.{space_of}
use Rattle.chip.specs.Within.{address_limit}
use Rattle.count.proofs.Spaces.{plus}
use Rattle.count.proofs.space_left_inner.Given as goal

abbrev pub invariant-loop-page_index : goal.invariant-loop-page_index
invariant-loop-page_index l = record {
  small : l.total_free_space ≤ address_limit * l.page_index;
  sum : space_of l.g l.image (all_pages l.g)
      ≡ plus l.total_free_space (space_of l.g l.image (around l.g (l.g.pages - l.page_index) l.page_index));
}
