-- `dock::item_at` meets its contract: by the cases of the header that was read. Assumes nothing.
use Rattle.std.proofs.Common.{ap, ◌∙◌, arith, Ok}
use Rattle.dock.proofs.Sights.{item_room, seen_item}
use Rattle.dock.proofs.item_at.Goals as goal

pub kind_of-requires : goal.kind_of-requires
kind_of-requires c =
    let q = c.in-Ok-Some.is ∙ ap Ok c.in-Ok-Some.field-0-is in
    item_room c.args.g c.args.image.now c.args.at.0 c.args.end.0 c.read_new.ensures _ q c.requires (omega arith)

pub returns-in-Ok-Some : goal.returns-in-Ok-Some
returns-in-Ok-Some c =
    let q = c.in-Ok-Some.is ∙ ap Ok c.in-Ok-Some.field-0-is in
    rw c.from.ensures
    (seen_item c.args.g c.args.image.now c.args.at.0 c.args.end.0 c.read_new.ensures _ q c.requires c.kind_of.ensures.0)
