-- `checksum::shifted32` meets its contract: it is a step of `Bytewise`, at the degree 32. Assumes nothing.
use native.Mathlib.Omega.{arith}
use Rattle.paper.specs.Checksum.{data_poly}
use Rattle.checksum.proofs.Bytewise.{bytewise}
use Rattle.checksum.proofs.shifted32.Goals as goal

pub returns : goal.returns
returns c = bytewise 24 data_poly (omega arith) c.entry.result c.entry.ensures
