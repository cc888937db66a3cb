-- `search::next_inner`: the invariant: what the search does from here on, with the turns that are left, is what it does from the start with
-- all of them. Assumes nothing.
use Rattle.std.proofs.Common.{◌≡◌, List, ℕ, ◌*◌, ◌-◌, length}
use Rattle.paper.specs.Chip.{Try}
use Rattle.paper.specs.Search.{Stand, Ended, next_item}
use Rattle.chip.specs.Run.{Spent, Showed}
use Rattle.search.specs.Meanings.{stand_as, StandIn}
use Rattle.search.proofs.next_inner.Given as goal

abbrev pub invariant-loop : goal.invariant-loop
invariant-loop l = record {
  same_image : length l.image ≡ length l.fn.image;
  same_buffer : length l.buffer ≡ length l.fn.buffer;
  stands : StandIn l.g l.stand;
  completes : (o e : List ℕ) (r : Spent) (x : Try Stand Ended)
      → Showed l.g l.budget (next_item l.g (length l.fn.buffer) l.oldest.0 l.clears (2 * l.g.pages - l.counter) (stand_as l.stand) l.image)
      l.image o l.buffer e r x
      → Showed l.g l.fn.budget (next_item l.g (length l.fn.buffer) l.oldest.0 l.clears (2 * l.g.pages) (stand_as l.fn.stand) l.fn.image)
      l.fn.image o l.fn.buffer e r x;
}
