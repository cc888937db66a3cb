-- A turn of the loop of `page::is_marked`: a byte's zero bits are counted, or it is FF and has none. Assumes nothing.
use Rattle.std.proofs.Common.{◌+◌, ◌-◌, arith}
use lib.Count.{ones-ones}
use Rattle.paper.specs.Chip.{part}
use Rattle.page.proofs.Marks.{zeros_next}
use Rattle.page.proofs.is_marked.Goals as goal
use Rattle.page.proofs.is_marked.Goals.{then-b+else-n-ge-HALF_MARKER_BITS, else-b}

pub loop-b-preserved : goal.loop-b-preserved
loop-b-preserved c =
    let a = c.args in
    let s = zeros_next (part a.at.0 (a.at.0 + a.g.word - a.at.0) a.image.now) c.loop-b.b-index c.loop-b-test.true in
    elim c.if-b.branch [
      | then-b+else-n-ge-HALF_MARKER_BITS w ↦ record { few = omega arith; counted = omega (arith, s, w.zero_bits-n.ensures.0) }
      | else-b w ↦ record { few = omega arith; counted = omega (arith, rw w.if-b.false at s, ones-ones 8) }
    ]
