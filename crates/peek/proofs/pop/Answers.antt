-- `peek::pop` meets its contract: the item that the search found is stored as popped, where one was found. Assumes nothing.
use Rattle.std.proofs.Common.{◌≡◌, Ok, Err, Some, None, refl, rules}
use Rattle.paper.specs.declared.Refusal.TheVariants as refusal
use Rattle.paper.specs.Search.{popped}
use Rattle.paper.specs.Search as plans
use Rattle.chip.proofs.Early.{handed}
use Rattle.chip.proofs.Limiting.{showed_under_cut, showed_under_done}
use Rattle.peek.proofs.Popping.{refused_by, stores_nothing, pops_nothing, pops}
use Rattle.peek.proofs.pop.Goals as goal

pub returns-in_err-item : goal.returns-in_err-item
unfolding plans.pop
returns-in_err-item c =
    let f = c.in_err-item.field-0.0 in
    let e : c.search.result ≡ Err f = search rules in
    let s = rw e at c.search.ensures in
    let none = pops_nothing c.args.g c.search.new.image f in
    rw (handed _ _ c.from_residual.ensures.1) (refused_by (popped c.args.g) _ f none s.shows)

pub returns-in_default : goal.returns-in_default
unfolding plans.pop
returns-in_default c =
    let e : c.search.result ≡ Ok None = search rules in
    let s = rw e at c.search.ensures in
    stores_nothing (popped c.args.g) _ refl s.shows

pub returns-in_err-erase_data : goal.returns-in_err-erase_data
unfolding plans.pop
returns-in_err-erase_data c =
    let e : c.search.result ≡ Ok (Some c.in-Some.item) = search rules in
    let s = rw e at c.search.ensures in
    rw (handed _ refusal.Cut c.from_residual-in_err-erase_data.ensures.1)
    (showed_under_cut c.args.budget _ (pops s.shows c.in_err-erase_data.ensures) refl)

pub returns : goal.returns
unfolding plans.pop
returns c =
    let e : c.search.result ≡ Ok (Some c.in-Some.item) = search rules in
    let s = rw e at c.search.ensures in
    rw c.from.ensures (showed_under_done c.args.budget _ (pops s.shows c.in_ok-erase_data.ensures) refl)
