-- `search::read_items`: the invariant: reading what is left from here on is reading the whole from the start. Assumes nothing.
use Rattle.std.proofs.Common.{List, ℕ, ◌-◌, ◌≤◌, ◌<◌, length}
use Rattle.paper.specs.Search.{Met}
use Rattle.chip.specs.Within.{address_limit}
use Rattle.item.specs.Places.{Inside}
use Rattle.search.specs.Searching.{Copied}
use Rattle.search.proofs.ReadingItems.{reading}
use Rattle.search.proofs.read_items.Given as goal

abbrev pub invariant-loop-item : goal.invariant-loop-item
invariant-loop-item l = record {
  inside : Inside l.g (length l.image) l.from.0 l.end.0;
  top : l.end.0 < address_limit;
  order : l.fn.start.0 ≤ l.from.0;
  completes : (e : List ℕ) (x : Met) → Copied l.g (reading l.g l.image l.end.0 (length l.initial.buffer) l.from.0) l.image l.buffer e x
      → Copied l.g (reading l.g l.image l.end.0 (length l.initial.buffer) l.fn.start.0) l.image l.initial.buffer e x;
}

abbrev pub decreases-loop-item : goal.decreases-loop-item
decreases-loop-item l = l.end.0 - l.from.0
