-- `checksum::crc16` meets its contract: each turn feeds a byte, by `ByteLoop` at the degree 16. The arms of
-- the `match` are those of `length_adjusted`. Assumes nothing.
use mathlib.Core.Path.{◌≡◌}
use Prim.Native.Nat.{ℕ}
use lib.Bits.{bit_xor}
use borrow.Author.Tests.{eq-eqb, ne_eqb}
use native.Mathlib.Omega.{arith}
use Rattle.paper.specs.Checksum.{length_poly, length_adjusted}
use Rattle.checksum.proofs.ByteLoop.{fed_none, fed_more, fed_ones}
use Rattle.checksum.proofs.crc16.Goals as goal

pub loop-b-init : goal.loop-b-init
loop-b-init c = fed_none (omega arith)

pub loop-b-preserved : goal.loop-b-preserved
loop-b-preserved c =
    let s = rw c.from.ensures at c.shifted16-crc.ensures in
    fed_more 8 length_poly c.loop-b.invariant (omega arith) (omega (arith, c.type_inv.data c.loop-b.b-index)) s (omega arith)

pub returns-in-65535 : goal.returns-in-65535
unfolding length_adjusted
returns-in-65535 c =
    record { plain = _; crc = fed_ones 16 length_poly c.loop-b.invariant (omega arith); answer = simp (eq-eqb _ _ c.in-65535.is) }

pub returns-in_default : goal.returns-in_default
unfolding length_adjusted
returns-in_default c =
    let plain : ℕ = bit_xor c.loop-b.crc 0xffff in
    let other : plain ≡ 0xffff → ⊥ = omega arith in
    record { plain = plain; crc = fed_ones 16 length_poly c.loop-b.invariant (omega arith); answer = simp (ne_eqb plain 0xffff other) }
