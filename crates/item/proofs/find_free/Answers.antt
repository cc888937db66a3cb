-- `item::find_free` meets its contract: no turn changes what the walk comes to in the end. Assumes nothing.
use Rattle.std.proofs.Common.{refl, sym, ◌∙◌, arith}
use Rattle.item.proofs.Walking.{inside_on, from_item}
use Rattle.item.proofs.find_free.Goals as goal

pub next_item_address-at-requires : goal.next_item_address-at-requires
next_item_address-at-requires c =
    let i = c.loop-at.invariant in
    let k = from_item c.args.image.now i.inside _ c.read_new.ensures _ c.in-Ok-Some.is c.in-Ok-Some.field-0-is refl in
    (i.inside.good, omega (arith, k.fits))

pub loop-at-smaller-in-Ok-Some : goal.loop-at-smaller-in-Ok-Some
loop-at-smaller-in-Ok-Some c =
    let i = c.loop-at.invariant in
    let k = from_item c.args.image.now i.inside _ c.read_new.ensures _ c.in-Ok-Some.is c.in-Ok-Some.field-0-is c.next_item_address-at.ensures in
    omega (arith, k.fits, k.past)

pub loop-at-preserved-in-Ok-Some : goal.loop-at-preserved-in-Ok-Some
loop-at-preserved-in-Ok-Some c =
    let i = c.loop-at.invariant in
    let k = from_item c.args.image.now i.inside _ c.read_new.ensures _ c.in-Ok-Some.is c.in-Ok-Some.field-0-is c.next_item_address-at.ensures in
    record { inside = inside_on i.inside k.fits; rest = sym k.rest ∙ i.rest }
