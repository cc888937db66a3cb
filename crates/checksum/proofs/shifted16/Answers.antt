-- A turn of the loop of `checksum::shifted16` is a turn of `BitLoop`, at the degree 16. Assumes nothing.
use native.Mathlib.Omega.{arith}
use lib.Bits.{and_mask}
use lib.Dec.{lit<}
use Rattle.paper.specs.Checksum.{length_poly}
use Rattle.checksum.proofs.BitLoop.{turn_even, turn_odd}
use Rattle.checksum.proofs.Constants.{length_constant}
use Rattle.checksum.proofs.shifted16.Goals as goal
use Rattle.checksum.proofs.shifted16.Goals.{then-c-eq1, else-c-eq1}

pub loop-preserved : goal.loop-preserved
loop-preserved c =
    let low = and_mask c.loop.c 1 in
    let odd = turn_odd 16 length_poly 0x1a2e (lit< tt) length_constant c.loop.invariant in
    elim c.if-c-eq1.branch [
      | then-c-eq1 w ↦ rw w.c-is (odd (omega arith) (omega (arith, low)))
      | else-c-eq1 w ↦ rw w.c-is (turn_even 16 length_poly c.loop.invariant (omega arith) (omega (arith, low)))
    ]
