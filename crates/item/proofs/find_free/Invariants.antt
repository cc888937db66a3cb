-- `item::find_free` meets its contract: no turn changes what the walk comes to in the end. Assumes nothing.
use Rattle.std.proofs.Common.{◌≡◌, ◌-◌, length}
use Rattle.item.specs.Places.{Inside}
use Rattle.item.specs.Scanning.{walk_from}
use Rattle.item.proofs.find_free.Given as goal

abbrev pub invariant-loop-at : goal.invariant-loop-at
invariant-loop-at l = record {
  inside : Inside l.g (length l.image) l.at.0 l.end.0;
  rest : (walk_from l.g l.image l.end.0 l.at.0).rest ≡ (walk_from l.g l.image l.end.0 l.fn.start.0).rest;
}

abbrev pub decreases-loop-at : goal.decreases-loop-at
decreases-loop-at l = l.end.0 - l.at.0
