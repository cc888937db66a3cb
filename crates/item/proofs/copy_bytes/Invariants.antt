-- `item::copy_bytes`: what was copied is the front of what is copied.
use Rattle.std.proofs.Common.{◌≡◌, ◌≤◌, length, take}
use Rattle.item.proofs.copy_bytes.Given as goal

abbrev pub invariant-loop-i : goal.invariant-loop-i
invariant-loop-i l = record {
  same_length : length l.to ≡ length l.from;
  bound : l.i ≤ length l.from;
  copied : take l.i l.to ≡ take l.i l.from;
}
