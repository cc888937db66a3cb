-- The loop's invariant: a run of the words that are left completes a run of all words from the start.
use Rattle.std.proofs.Common.{◌≡◌, ◌≤◌, ◌<◌, ◌+◌, List, ℕ, length}
use Rattle.paper.specs.Chip.{round_up, writes}
use Rattle.chip.specs.Within.{address_limit}
use Rattle.chip.specs.Run.{Spent, Did}
use Rattle.chip.proofs.write.Given as goal

abbrev pub invariant-loop-chunk : goal.invariant-loop-chunk
invariant-loop-chunk l =
    let rest = l.chunk-iterator.rest.now in
    record {
      size : l.chunk-iterator.size ≡ l.g.word;
      inside : l.a + round_up l.g.word (length rest) ≤ length l.image;
      low : l.a + round_up l.g.word (length rest) < address_limit;
      completes : (o : List ℕ) (r : Spent) → Did l.g l.budget (writes l.g l.a rest) l.image o r
          → Did l.g l.fn.budget (writes l.g l.fn.at.0 l.bytes) l.fn.image o r;
    }
