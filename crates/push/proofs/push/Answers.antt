-- What `push::push` ensures where a slip is too big. Assumes nothing.
use Rattle.std.proofs.Common.{refl, sym}
use Rattle.paper.specs.Push.{push}
use Rattle.chip.proofs.Binding.{ran_none}
use Rattle.chip.proofs.Limiting.{under_done}
use Rattle.push.proofs.push.Goals as goal

pub returns-then-is_too_big : goal.returns-then-is_too_big
unfolding push
returns-then-is_too_big c =
    let a = c.args in
    rw (sym c.if-is_too_big.ensures) (under_done a.budget _ (ran_none a.g a.budget a.image.now _) refl)
