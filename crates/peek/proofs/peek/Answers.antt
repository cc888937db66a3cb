-- `peek::peek` meets its contract: what the search comes to is shown. Assumes nothing.
use Rattle.std.proofs.Common.{◌≡◌, [], refl, Ok, Err, rules, arith}
use Rattle.std.proofs.lemmas.Grind.{common_steps}
use Rattle.paper.specs.Search.{shown_by}
use Rattle.paper.specs.Search as plans
use Rattle.paper.specs.Refusals.{shown_as}
use Rattle.chip.proofs.Early.{handed}
use Rattle.search.specs.Meanings.{item_as}
use Rattle.peek.proofs.Popping.{refused_by, stores_nothing}
use Rattle.peek.proofs.peek.Goals as goal

pub returns-in_err-found : goal.returns-in_err-found
unfolding plans.peek
returns-in_err-found c =
    let f = c.in_err-found.field-0.0 in
    let e : c.search.result ≡ Err f = search rules in
    let s = rw e at c.search.ensures in
    rw (handed _ _ c.from_residual.ensures.1) (refused_by (λ x. []) _ f refl s.shows)

pub returns : goal.returns
unfolding plans.peek
returns c =
    let e : c.search.result ≡ Ok c.in_ok-found.found = search rules in
    let s = rw e at c.search.ensures in
    let told : shown_by (item_as c.args.g c.search.new.image c.in_ok-found.found) ≡ shown_as (Ok c.map.result) = grind (arith, common_steps) in
    rw (← told) (stores_nothing (λ x. []) _ refl s.shows)
