-- `item::next_live` meets its contract: no turn passes a live header. Assumes nothing.
use Rattle.std.proofs.Common.{◌≡◌, ◌-◌, ◌≤◌, length}
use Rattle.item.specs.Places.{Inside}
use Rattle.item.specs.Scanning.{walk_from, lives}
use Rattle.item.proofs.next_live.Given as goal

abbrev pub invariant-loop-header : goal.invariant-loop-header
invariant-loop-header l = record {
  inside : Inside l.g (length l.image) l.address.0 l.end.0;
  order : l.fn.start.0 ≤ l.address.0;
  heads : lives (walk_from l.g l.image l.end.0 l.address.0).heads ≡ lives (walk_from l.g l.image l.end.0 l.fn.start.0).heads;
}

abbrev pub decreases-loop-header : goal.decreases-loop-header
decreases-loop-header l = l.end.0 - l.address.0
