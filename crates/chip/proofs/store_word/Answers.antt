-- `chip::store_word` meets its contract: a store that is not paid for changes nothing, a turn of the loop stores one byte more, and at the end
-- nothing is left to put. Assumes nothing.
use Rattle.std.proofs.Common.{refl, sym, ◌∙◌, ◌+◌, arith}
use Rattle.paper.specs.Chip.{store, store_count, image_by}
use Rattle.chip.proofs.Early.{paid_cut}
use Rattle.chip.proofs.Running.{did_paid, did_unpaid}
use Rattle.chip.proofs.Stores.{and_step, and_end}
use Rattle.chip.proofs.store_word.Goals as goal

pub returns-in_err-pay : goal.returns-in_err-pay
unfolding store_count
returns-in_err-pay c =
    let a = c.args in
    rw (paid_cut _ _ c.from_residual.ensures.0)
    (did_unpaid a.g a.budget.now (store a.at.0 a.word.now) a.image.now _ refl c.in_err-pay.ensures refl)

pub loop-i-preserved : goal.loop-i-preserved
loop-i-preserved c =
    let a = c.args in
    let l = c.loop-i in
    let s = and_step l.image a.at.0 a.word.now l.i (omega arith) (omega arith) in
    record { within = omega arith; stored = sym s ∙ l.invariant.stored }

pub returns : goal.returns
unfolding image_by store_count
returns c =
    let a = c.args in
    let l = c.loop-i in
    did_paid a.g a.budget.now (store a.at.0 a.word.now) a.image.now _ refl c.in_ok-pay.ensures l.image refl
    (sym (and_end l.image (a.at.0 + l.i) a.word.now l.i (omega arith)) ∙ l.invariant.stored)
