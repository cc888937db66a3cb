-- `push::find_spot` meets its contract. By what was found on the current page. Assumes nothing.
use Rattle.std.proofs.Common.{sym}
use Rattle.push.proofs.Spots.{found_here, found_next}
use Rattle.push.proofs.find_spot.Goals as goal

pub returns-then-is_some : goal.returns-then-is_some
returns-then-is_some c =
    let a = c.args in
    let pre = c.requires in
    found_here a.g a.budget.now a.n a.over a.current.0 a.image.now pre.0 pre.1 _ c.find_spot_in_page-spot.ensures (sym c.if-is_some.ensures)

pub returns : goal.returns
returns c =
    let a = c.args in
    let pre = c.requires in
    found_next a.g a.budget.now a.n a.over a.current.0 a.image.now pre.0 pre.1 _ c.find_spot_in_page-spot.ensures
    (sym c.if-is_some.ensures) pre.2 c.turn_page.ensures
