-- `push::spot_on` meets its contract. The run of the mark, and then that of the search on the image which it leaves. Assumes nothing.
use Rattle.std.proofs.Common.{refl}
use Rattle.paper.specs.Push.{find_spot, spot_on}
use Rattle.chip.specs.declared.Failure.TheVariants as failure
use Rattle.chip.proofs.Binding.{and_cut, and_then_lem}
use Rattle.chip.proofs.Early.{handed}
use Rattle.push.proofs.spot_on.Goals as goal

pub returns-in_err-partial_close_page : goal.returns-in_err-partial_close_page
unfolding spot_on
returns-in_err-partial_close_page c =
    let a = c.args in
    rw (handed _ failure.Cut c.from_residual.ensures.1)
    (record { ran = and_cut (find_spot a.g a.n a.over a.current.0) c.in_err-partial_close_page.ensures _ refl; holds = tt })

pub returns : goal.returns
unfolding spot_on
returns c =
    let a = c.args in
    let f = c.find_spot.ensures in
    record { ran = and_then_lem (find_spot a.g a.n a.over a.current.0) c.in_ok-partial_close_page.ensures refl f.ran; holds = f.holds }
