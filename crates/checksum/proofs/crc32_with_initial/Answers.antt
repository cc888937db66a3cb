-- `checksum::crc32_with_initial` meets its contract: each turn feeds a byte, by `ByteLoop` at the degree 32. Assumes nothing.
use native.Mathlib.Omega.{arith}
use Rattle.paper.specs.Checksum.{data_poly}
use Rattle.checksum.proofs.ByteLoop.{fed_none, fed_more, fed_all}
use Rattle.checksum.proofs.crc32_with_initial.Goals as goal

pub loop-b-init : goal.loop-b-init
loop-b-init c = fed_none (omega arith)

pub loop-b-preserved : goal.loop-b-preserved
loop-b-preserved c =
    let s = rw c.from.ensures at c.shifted32-crc.ensures in
    fed_more 24 data_poly c.loop-b.invariant (omega arith) (omega (arith, c.type_inv.data c.loop-b.b-index)) s (omega arith)

pub returns : goal.returns
returns c = fed_all 32 data_poly c.loop-b.invariant (omega arith)
