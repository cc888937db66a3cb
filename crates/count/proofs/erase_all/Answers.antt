-- `count::erase_all` meets its contract: the erase is cut at a page, or goes on behind it. Assumes nothing.
use Rattle.std.proofs.Common.{refl, ◌∙◌, arith, false}
use Rattle.paper.specs.declared.Refusal.TheVariants as refusal
use Rattle.paper.specs.Refusals.{done}
use Rattle.paper.specs.Calls.{erase_all}
use Rattle.chip.proofs.Running.{did_none}
use Rattle.chip.proofs.Binding.{ran_plan}
use Rattle.chip.proofs.Limiting.{under_cut, under_done}
use Rattle.chip.proofs.Early.{handed}
use Rattle.page.proofs.Rings.{order_first, order_last}
use Rattle.count.proofs.Erases.{erases_none, erases_cut, erases_on}
use Rattle.count.proofs.erase_all.Goals as goal

pub loop-p-init : goal.loop-p-init
unfolding erase_all
loop-p-init c = record { same_length = refl; completes = λ o r x. (rw (order_first c.args.g) x) }

pub returns-in_err-erase_page : goal.returns-in_err-erase_page
unfolding erase_all
returns-in_err-erase_page c =
    let l = c.loop-p in
    rw (handed _ refusal.Cut c.from_residual.ensures.1)
    (under_cut c.args.budget _ (ran_plan done (l.invariant.completes _ _ (erases_cut l.p (omega arith) c.in_err-erase_page.ensures refl))) refl)

pub loop-p-preserved : goal.loop-p-preserved
loop-p-preserved c =
    let l = c.loop-p in
    record {
      same_length = c.erase_page.auto.image ∙ l.invariant.same_length;
      completes = λ o r y. l.invariant.completes o r (erases_on l.p (omega arith) c.in_ok-erase_page.ensures refl y);
    }

pub returns : goal.returns
unfolding erase_all
returns c =
    let g = c.args.g in
    let l = c.loop-p in
    under_done {r = record { cut = false; budget = l.budget }} c.args.budget _ (ran_plan done
    (l.invariant.completes _ _ (rw (order_last g l.p (omega arith), erases_none g) (did_none g l.budget l.image)))) refl
