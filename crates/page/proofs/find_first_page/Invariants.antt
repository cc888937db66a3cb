-- `page::find_first_page`: the invariant, for every image that the table covers: it covers the search of what is left, from here on, which
-- answers as the search from the start. Assumes nothing.
use Rattle.std.proofs.Common.{◌≡◌, List, ℕ, ◌-◌, ◌<◌}
use Rattle.paper.specs.Pages.{around, from, first}
use Rattle.page.specs.Table.{Covers}
use Rattle.page.proofs.find_first_page.Given as goal

abbrev pub invariant-loop : goal.invariant-loop
invariant-loop l = record {
  in_ring : l.p.0 < l.g.pages;
  answers : (im : List ℕ) → Covers l.g im l.table l.want (from l.g l.fn.start.0)
      → Covers l.g im l.table l.want (around l.g (l.g.pages - l.counter) l.p.0)
      × (first l.g im l.want (around l.g (l.g.pages - l.counter) l.p.0) ≡ first l.g im l.want (from l.g l.fn.start.0));
}
