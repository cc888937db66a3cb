-- `page::try_general_repair` meets its contract. A page's turn leaves the other pages' states, and its events are the next of the repair.
-- Assumes nothing.
use Rattle.std.proofs.Common.{List, ℕ, refl, ap, ◌∙◌, arith}
use Rattle.paper.specs.Pages.{state, repair}
use Rattle.chip.proofs.Early.{paid_cut}
use Rattle.chip.proofs.Running.{did_none, did_image}
use Rattle.page.proofs.Rings.{order_first, order_next, order_last}
use Rattle.page.proofs.Repairs.{repairs_none, repairs_cut, repairs_on, repairs_elsewhere}
use Rattle.page.proofs.try_general_repair.Goals as goal

pub loop-p-init : goal.loop-p-init
unfolding repair
loop-p-init c = record { same_length = refl; same_states = λ q l h. refl; completes = λ o r x. (rw (order_first c.args.g) x) }

pub returns-in_err-repair_page : goal.returns-in_err-repair_page
returns-in_err-repair_page c =
    let a = c.args in
    let l = c.loop-p in
    let s = l.invariant.same_states l.p (omega arith) (omega arith) in
    rw (paid_cut _ _ c.from_residual.ensures.0)
    (l.invariant.completes _ _ (rw (order_next a.g l.p (omega arith)) (repairs_cut a.image.now l.p _ s c.in_err-repair_page.ensures refl)))

pub loop-p-preserved : goal.loop-p-preserved
loop-p-preserved c =
    let g = c.args.g in
    let im = c.args.image.now in
    let l = c.loop-p in
    let i = l.invariant in
    let d = c.in_ok-repair_page.ensures in
    let w = rw (← i.same_length) at c.requires in
    let s = i.same_states l.p (omega arith) (omega arith) in
    record {
      same_length = c.repair_page.auto.image ∙ i.same_length;
      same_states = λ q k h. ap (λ (x : List ℕ). state g x q) (did_image d refl)
          ∙ repairs_elsewhere g l.image w l.p q (omega arith) h (λ e. omega arith)
          ∙ i.same_states q (omega arith) h;
      completes = λ o r y. i.completes o r (rw (order_next g l.p (omega arith)) (repairs_on im l.p _ s d refl y));
    }

pub returns : goal.returns
returns c =
    let g = c.args.g in
    let l = c.loop-p in
    l.invariant.completes _ _ (rw (order_last g l.p (omega arith), repairs_none g c.args.image.now) (did_none g l.budget l.image))
