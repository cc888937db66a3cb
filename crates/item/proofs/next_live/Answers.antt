-- `item::next_live` meets its contract: no turn passes a live header. Assumes nothing.
use Rattle.std.proofs.Common.{refl, sym, ap, ◌∙◌, subst, arith}
use Rattle.item.specs.Reading.{head_at}
use Rattle.item.specs.Scanning.{lives, Reaches}
use Rattle.item.proofs.Walking.{inside_on, from_stop, from_item}
use Rattle.item.proofs.Live.{live_yes, live_no, lives_here, lives_on}
use Rattle.item.proofs.next_live.Goals as goal

pub returns-in-Ok-None : goal.returns-in-Ok-None
unfolding lives
returns-in-Ok-None c =
    let i = c.loop-header.invariant in
    let k = from_stop c.args.image.now i.inside _ c.read_new.ensures c.in-Ok-None.is c.in-Ok-None.field-0-is in
    sym i.heads ∙ ap lives k.heads

pub returns-then-header-ne0 : goal.returns-then-header-ne0
returns-then-header-ne0 c =
    let a = c.args in
    let i = c.loop-header.invariant in
    let k = from_item a.image.now i.inside _ c.read_new.ensures _ c.in-Ok-Some.is c.in-Ok-Some.field-0-is refl in
    let y = live_yes (head_at a.g a.image.now c.loop-header.address.0 c.in-Ok-Some.header) c.if-header-ne0.true in
    subst (Reaches a.g a.image.now a.end.0 a.start.0) (sym c.item.ensures)
    (record {
      whole = refl;
      order = i.order;
      fits = k.fits;
      alive = y;
      first = sym i.heads ∙ ap lives k.heads ∙ lives_here _ _ y;
    })

pub next_item_address-address-requires : goal.next_item_address-address-requires
next_item_address-address-requires c =
    let i = c.loop-header.invariant in
    let k = from_item c.args.image.now i.inside _ c.read_new.ensures _ c.in-Ok-Some.is c.in-Ok-Some.field-0-is refl in
    (i.inside.good, omega (arith, k.fits))

pub loop-header-smaller-in-Ok-Some : goal.loop-header-smaller-in-Ok-Some
loop-header-smaller-in-Ok-Some c =
    let i = c.loop-header.invariant in
    let k = from_item c.args.image.now i.inside _ c.read_new.ensures _ c.in-Ok-Some.is c.in-Ok-Some.field-0-is c.next_item_address-address.ensures in
    omega (arith, k.fits, k.past)

pub loop-header-preserved-in-Ok-Some : goal.loop-header-preserved-in-Ok-Some
loop-header-preserved-in-Ok-Some c =
    let i = c.loop-header.invariant in
    let k = from_item c.args.image.now i.inside _ c.read_new.ensures _ c.in-Ok-Some.is c.in-Ok-Some.field-0-is c.next_item_address-address.ensures in
    record {
      inside = inside_on i.inside k.fits;
      order = omega (arith, k.past);
      heads = sym (lives_on _ _ (live_no _ c.if-header-ne0.false)) ∙ sym (ap lives k.heads) ∙ i.heads;
    }
