-- What `checksum::adapted_crc32` ensures where it adjusts what `crc32` gives. Assumes nothing.
use borrow.Author.Tests.{eq-eqb, ne_eqb}
use Rattle.paper.specs.Poly.{◌⊕◌}
use Rattle.paper.specs.Checksum.{data_adjusted}
use Rattle.checksum.proofs.adapted_crc32.Goals as goal
use Rattle.checksum.proofs.adapted_crc32.Goals.{then-crc-eq0-2-via-then-crc-eq0-2, then-crc-eq0-2-via-else-crc-eq0-2+then-crc-eq255}

pub returns-then-crc-eq0-2 : goal.returns-then-crc-eq0-2
unfolding data_adjusted ◌⊕◌
returns-then-crc-eq0-2 c =
    let not_zero = ne_eqb _ _ c.if-crc-eq0.false in
    record {
      plain = _;
      crc = c.crc32-crc.ensures;
      answer =
          elim c.then-crc-eq0-2.branch [
            | then-crc-eq0-2-via-then-crc-eq0-2 w ↦ simp (not_zero, eq-eqb _ _ w.if-crc-eq0-2.true)
            | then-crc-eq0-2-via-else-crc-eq0-2+then-crc-eq255 w ↦
                simp (not_zero, ne_eqb _ _ w.if-crc-eq0-2.false, eq-eqb _ _ w.if-crc-eq255.true)
          ];
    }
