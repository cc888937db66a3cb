-- What `chip::check_geometry` ensures at its end: no rule that it tests is broken, and the rest is what `check_sizes` ensures. Assumes nothing.
use Rattle.std.proofs.Common.{◌≡◌, arith}
use Rattle.std.proofs.lemmas.Bool.Decides.{nat_tests}
use Rattle.paper.specs.Refusals.{rules, judge, check}
use Rattle.chip.proofs.Checking.{check_promised}
use Rattle.chip.proofs.check_geometry.Goals as goal

pub returns : goal.returns
unfolding check rules judge
returns c =
    let e : c.check_sizes.result ≡ check c.args.n c.args.s = grind (arith, nat_tests) in
    check_promised _ _ _ (omega arith) e
