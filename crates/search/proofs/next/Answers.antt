-- `search::next` meets its contract: one run, or two with a repair between them. Assumes nothing.
use Rattle.std.proofs.Common.{◌≡◌, rules, refl, Err, arith}
use Rattle.std.proofs.lemmas.Grind.{common_steps}
use Rattle.paper.specs.Search.{next_step}
use Rattle.chip.proofs.Repairing.{showed_repair_stops, showed_repair_again}
use Rattle.chip.proofs.Early.{handed}
use Rattle.search.specs.declared.Ended.TheVariants as ended
use Rattle.search.proofs.OtherCases.{not_failed}
use Rattle.search.proofs.next.Goals as goal

pub returns : goal.returns
returns c =
    let n : c.next_inner-found.result ≡ Err ended.Corrupted → ⊥ = λ e. grind (arith, common_steps) in
    not_failed (next_step c.args.g _ _ _) _ _ _ _ n c.next_inner-found.ensures

pub returns-in_err-try_general_repair : goal.returns-in_err-try_general_repair
returns-in_err-try_general_repair c =
    let e : c.next_inner-found.result ≡ Err ended.Corrupted = search rules in
    let n = rw e at c.next_inner-found.ensures in
    rw (handed _ ended.Cut c.from_residual.ensures.1)
    (record {
      shows = showed_repair_stops (next_step c.args.g _ _ _) _ n.shows _ refl refl c.in_err-try_general_repair.ensures _ refl;
      within = n.within;
    })

pub returns-then-eq : goal.returns-then-eq
returns-then-eq c =
    let e : c.next_inner-found.result ≡ Err ended.Corrupted = search rules in
    let n = rw e at c.next_inner-found.ensures in
    let again = rw c.next_inner-found.auto.buffer at c.next_inner.ensures in
    record {
      shows = showed_repair_again (next_step c.args.g _ _ _) _ n.shows _ refl refl c.in_ok-try_general_repair.ensures refl again.shows;
      within = again.within;
    }
