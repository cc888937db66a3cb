-- `checksum::crc32_with_initial` meets its contract: each turn feeds a byte, by `ByteLoop` at the degree 32. Assumes nothing.
use Rattle.paper.specs.Checksum.{data_poly}
use Rattle.checksum.proofs.ByteLoop.{Fed}
use Rattle.checksum.proofs.crc32_with_initial.Given as goal

abbrev pub invariant-loop-b : goal.invariant-loop-b
invariant-loop-b l = Fed 32 data_poly l.fn.initial l.data l.crc l.b-index
