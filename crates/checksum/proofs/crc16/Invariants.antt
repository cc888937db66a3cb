-- `checksum::crc16` meets its contract: each turn feeds a byte, by `ByteLoop` at the degree 16. Assumes nothing.
use Rattle.paper.specs.Checksum.{length_poly}
use Rattle.checksum.proofs.ByteLoop.{Fed}
use Rattle.checksum.proofs.crc16.Given as goal

abbrev pub invariant-loop-b : goal.invariant-loop-b
invariant-loop-b l = Fed 16 length_poly 0xffff l.data l.crc l.b-index
