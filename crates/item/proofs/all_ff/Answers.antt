-- `item::all_ff` meets its contract: `blank` has the clauses of the library's test of all elements. Assumes nothing.
use Rattle.std.proofs.Common.{Bool, ◌&&◌, eqb, refl, ◌∙◌, rules, tests}
use Rattle.std.specs.List.{list_all}
use Rattle.std.proofs.lemmas.Iterator.{YieldsList-from_slice}
use Rattle.std.proofs.lemmas.Iterator.Search.{all_from_yields_List}
use Rattle.std.proofs.lemmas.List.Recursion.{same_from_clauses}
use Rattle.paper.specs.Slip.{blank}
use Rattle.item.proofs.all_ff.Goals as goal

pub returns : goal.returns
unfolding blank
returns c =
    let xs = c.args.bytes.now in
    all_from_yields_List (λ x. eqb x 0xff) _ _ _ c.all.ensures.ran (YieldsList-from_slice xs cc) (λ x b q k. search (rules, tests))
    ∙ same_from_clauses (list_all (λ x. eqb x 0xff)) blank (λ x (b : Bool). eqb x 0xff && b) refl (λ _ _. refl) (λ _ _. refl) xs
