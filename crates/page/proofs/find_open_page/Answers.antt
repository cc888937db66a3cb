-- `page::find_open_page` meets its contract. Each return goes on with what the search for a Closed page answered. Assumes nothing.
use Rattle.std.proofs.Common.{refl}
use Rattle.std.proofs.lemmas.Result.{err_from_is_err_and}
use Rattle.paper.specs.declared.PageState.TheVariants.{Open, Closed}
use Rattle.paper.specs.Pages.{all_pages, open_from}
use Rattle.page.proofs.Searching.{ok_or_as, sees_failed, sees_page, sees_by, sees_on, sees_or, sees_whole}
use Rattle.page.proofs.find_open_page.Goals as goal

pub returns-in_err-anchor : goal.returns-in_err-anchor
unfolding all_pages
returns-in_err-anchor c =
    let s = sees_whole c.args.g c.args.table Closed 0 c.requires.sized.some c.in_err-anchor.ensures in
    rw (err_from_is_err_and c.from_residual.result c.from_residual.ensures.1).1 (sees_on (open_from c.args.g) s refl sees_failed)

pub returns-in_default : goal.returns-in_default
unfolding all_pages
returns-in_default c =
    let s = sees_whole c.args.g c.args.table Closed 0 c.requires.sized.some (rw c.in_default.is at c.in_ok-anchor.ensures) in
    sees_on (open_from c.args.g) s refl (sees_page 0 c.requires.sized.some)

pub returns-in_err-find_first_page : goal.returns-in_err-find_first_page
unfolding all_pages
returns-in_err-find_first_page c =
    let s = sees_whole c.args.g c.args.table Closed 0 c.requires.sized.some (rw c.in-Some.is at c.in_ok-anchor.ensures) in
    let opened = sees_whole c.args.g c.args.table Open _ (s.within _ refl) c.in_err-find_first_page.ensures in
    let r = c.from_residual-in_err-find_first_page in
    rw (err_from_is_err_and r.result r.ensures.1).1 (sees_on (open_from c.args.g) s refl (sees_or (sees_by (λ im k. k.0) opened) sees_failed))

pub returns : goal.returns
unfolding all_pages
returns c =
    let s = sees_whole c.args.g c.args.table Closed 0 c.requires.sized.some (rw c.in-Some.is at c.in_ok-anchor.ensures) in
    let opened = sees_whole c.args.g c.args.table Open _ (s.within _ refl) c.in_ok-find_first_page.ensures in
    sees_on (open_from c.args.g) s refl (rw (c.ok_or.ensures.value, ok_or_as) (sees_or (sees_by (λ im k. k.0) opened) sees_failed))
