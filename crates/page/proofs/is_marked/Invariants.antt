-- `page::is_marked`: the invariant: the zero bits counted so far are fewer than four, and with those of the bytes left they are the mark's.
-- Assumes nothing.
use Rattle.std.proofs.Common.{◌≡◌, ◌+◌, ◌<◌, drop}
use Rattle.paper.specs.Pages.{zero_bits}
use Rattle.page.proofs.is_marked.Given as goal

abbrev pub invariant-loop-b : goal.invariant-loop-b
invariant-loop-b l = record { few : l.n < 4; counted : l.n + zero_bits (drop l.b-index l.b-items) ≡ zero_bits l.b-items }
