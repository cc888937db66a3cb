-- `search::read_items` meets its contract: reading what is left from here on is reading the whole from the start. Assumes nothing.
use Rattle.std.proofs.Common.{Ok, ap, ◌∙◌, length, arith}
use Rattle.item.proofs.Live.{reaches_of, none_of_lem}
use Rattle.item.proofs.Walking.{inside_on}
use Rattle.search.proofs.ReadingItems.{none_read, small_read, present_read, torn_read, first_in, not_popped}
use Rattle.search.proofs.read_items.Goals as goal

pub returns : goal.returns
returns c =
    let a = c.args in
    let l = c.loop-item in
    record {
      shows = l.invariant.completes _ _
          (none_read a.g a.image.now _ _ _ l.buffer (none_of_lem _ _ _ _ _ c.next_live.ensures c.in_default.is));
      within = tt;
    }

pub returns-in-Ok-Present : goal.returns-in-Ok-Present
returns-in-Ok-Present c =
    let a = c.args in
    let l = c.loop-item in
    let r = reaches_of _ _ _ _ _ c.next_live.ensures _ c.in-Some.is in
    let present = c.in-Ok-Present.is ∙ ap Ok c.in-Ok-Present.field-0-is in
    record {
      shows = l.invariant.completes _ _
          (present_read a.g a.image.now _ _ _ _ r l.buffer _ l.auto.buffer _ c.read_item.ensures _ present);
      within = (first_in a.g a.image.now _ (length a.buffer.now) l.invariant.inside l.invariant.top r, omega (arith, r.order));
    }

pub returns-in-Err : goal.returns-in-Err
returns-in-Err c =
    let a = c.args in
    let l = c.loop-item in
    let r = reaches_of _ _ _ _ _ c.next_live.ensures _ c.in-Some.is in
    record {
      shows = l.invariant.completes _ _
          (small_read a.g a.image.now _ _ _ _ r l.buffer _ l.auto.buffer _ c.read_item.ensures _ c.in-Err.is);
      within = (l.invariant.order, l.invariant.inside.order);
    }

pub unreachable-requires : goal.unreachable-requires
unreachable-requires c =
    let a = c.args in
    let l = c.loop-item in
    let r = reaches_of _ _ _ _ _ c.next_live.ensures _ c.in-Some.is in
    let popped = c.in-Ok-Erased.is ∙ ap Ok c.in-Ok-Erased.field-0-is in
    not_popped a.g a.image.now _ _ _ _ r l.buffer _ l.auto.buffer _ c.read_item.ensures _ popped

pub loop-item-preserved : goal.loop-item-preserved
loop-item-preserved c =
    let a = c.args in
    let l = c.loop-item in
    let e = c.next_item_address-from.ensures in
    let r = reaches_of _ _ _ _ _ c.next_live.ensures _ c.in-Some.is in
    let torn = c.in-Ok-Corrupted.is ∙ ap Ok c.in-Ok-Corrupted.field-0-is in
    record {
      inside = inside_on l.invariant.inside (omega (arith, r.fits, e));
      top = l.invariant.top;
      order = omega (arith, l.invariant.order, r.order, e);
      completes = λ f x v. l.invariant.completes f x
          (torn_read a.g a.image.now _ _ _ _ r l.buffer _ l.auto.buffer _ c.read_item.ensures _ torn (rw e at v));
    }
