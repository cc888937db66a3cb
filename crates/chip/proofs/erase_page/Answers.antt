-- `chip::erase_page` meets its contract: an erase that is not paid for changes nothing, and a paid one fills the page. Assumes nothing.
use Rattle.std.proofs.Common.{◌≡◌, refl, sym, ap, ℕ, ◌∙◌, rules, ◌-◌, ◌+◌, arith, drop, length-drop, replicate}
use Rattle.std.proofs.lemmas.List.{length-replicate}
use lib.Seq.{length-take-le}
use Rattle.paper.specs.Chip.{put, erase, store_count, image_by}
use Rattle.laws.proofs.ErasePage.{erase_page_is}
use Rattle.laws.proofs.Places.{page_in}
use Rattle.chip.proofs.Early.{paid_cut}
use Rattle.chip.proofs.Running.{did_paid, did_unpaid}
use Rattle.chip.proofs.Stores.{put_part}
use Rattle.chip.proofs.erase_page.Goals as goal

pub returns-in_err-pay : goal.returns-in_err-pay
unfolding store_count
returns-in_err-pay c =
    let a = c.args in
    rw (paid_cut _ _ c.from_residual.ensures.0, erase_page_is a.g a.p.0)
    (did_unpaid a.g a.budget.now (erase a.p.0) a.image.now _ refl c.in_err-pay.ensures refl)

pub slice_bounds-fill-end : goal.slice_bounds-fill-end
slice_bounds-fill-end c = let e = page_in c.args.g c.args.p.0 c.requires.1 in let d = c.calculate_page_address-from.ensures in search rules

pub returns : goal.returns
unfolding image_by store_count
returns c =
    let a = c.args in
    let from = c.calculate_page_address-from in
    let e = page_in a.g a.p.0 c.requires.1 in
    let k : from.result.0 + a.g.page - from.result.0 ≡ a.g.page = omega arith in
    let f = c.fill.ensures.after (λ y e. e) in
    let n = length-take-le (from.result.0 + a.g.page - from.result.0) (drop from.result.0 a.image.now) (omega (arith, length-drop from.result.0 a.image.now)) in
    rw (erase_page_is a.g a.p.0)
    (did_paid a.g a.budget.now (erase a.p.0) a.image.now _ refl c.in_ok-pay.ensures _ refl
    (put_part from.result.0 _ a.image.now _ (replicate a.g.page 0xff) (rw (n, k) at f) (k ∙ sym (length-replicate a.g.page 0xff))
    ∙ ap (λ (x : ℕ). put x (replicate a.g.page 0xff) a.image.now) from.ensures))
