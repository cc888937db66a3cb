-- `checksum::shifted16` meets its contract: each turn of the loop is a turn of `BitLoop`, at the degree 16. Assumes nothing.
use Rattle.paper.specs.Checksum.{length_poly}
use Rattle.checksum.proofs.BitLoop.{Remains}
use Rattle.checksum.proofs.shifted16.Given as goal

abbrev pub invariant-loop : goal.invariant-loop
invariant-loop l = Remains 16 length_poly l.initial.c l.c l.counter
