-- `dock::item_on_page` may look there: the address lies in the page's data, and this in the image. Assumes nothing.
use Rattle.std.proofs.Common.{◌≤◌, arith}
use Rattle.dock.proofs.Sights.{inside}
use Rattle.dock.proofs.item_on_page.Goals as goal

pub item_at-requires : goal.item_at-requires
item_at-requires c =
    let l : c.args.at.0 ≤ c.page_data_end_address-end.result.0 = grind arith in
    inside c.requires.0 c.requires.1 c.page_data_end_address-end.ensures l
