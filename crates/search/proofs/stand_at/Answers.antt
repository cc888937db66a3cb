-- `search::stand_at` meets its contract: the test is that of the paper. Assumes nothing.
use Rattle.std.proofs.Common.{◌<◌, arith}
use Rattle.search.proofs.Standing.{stands_before}
use Rattle.search.proofs.stand_at.Goals as goal

pub returns-then-lt : goal.returns-then-lt
returns-then-lt c =
    let pre = c.requires in
    let before : c.args.address.0 < c.args.end.0 = grind arith in
    stands_before c.args.g pre.0 pre.1 pre.3 (rw pre.2 at before)
