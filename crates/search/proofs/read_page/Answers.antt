-- `search::read_page` meets its contract: the items from the address on are those of what is left of its page's data. Assumes nothing.
use Rattle.std.proofs.Common.{Ok, ap, ◌∙◌, arith}
use Rattle.paper.specs.Search.{item_end, passed, long, stand_at}
use Rattle.paper.specs.Search as plans
use Rattle.search.specs.Meanings.{met_as}
use Rattle.search.proofs.ReadingItems.{page_read}
use Rattle.search.proofs.Standing.{page_before, readable, left_inside}
use Rattle.search.proofs.read_page.Goals as goal

pub read_items-requires : goal.read_items-requires
read_items-requires c =
    let p = c.calculate_page_index-p.ensures in
    left_inside c.requires.0 p.1 p.0 c.requires.1 c.page_data_end_address-end.ensures

pub stand_at-requires : goal.stand_at-requires
stand_at-requires c =
    let pre = c.requires in
    let p = c.calculate_page_index-p.ensures in
    let some = c.in-Ok-Some.is ∙ ap Ok c.in-Ok-Some.field-0-is in
    let low = page_before pre.0 pre.1.low p.0 in
    let behind = (rw some at c.read_items.ensures.within).1 in
    (pre.0.good, p.1, c.page_data_end_address-end.ensures, omega (arith, low, behind, c.next_item_address-behind.ensures))

pub returns-in-Ok-None : goal.returns-in-Ok-None
returns-in-Ok-None c =
    let a = c.args in
    let p = c.calculate_page_index-p.ensures in
    let none = c.in-Ok-None.is ∙ ap Ok c.in-Ok-None.field-0-is in
    λ b. record {
      shows = page_read a.g a.image.now a.address.0 _ passed p.0 c.page_data_end_address-end.ensures c.read_items.ensures.shows
          (ap (met_as a.g _) none) b;
      within = p.1;
    }

pub returns-in-Err : goal.returns-in-Err
returns-in-Err c =
    let a = c.args in
    let pre = c.requires in
    let p = c.calculate_page_index-p.ensures in
    let end = c.page_data_end_address-end.ensures in
    let low = page_before pre.0 pre.1.low p.0 in
    let between = rw c.in-Err.is at c.read_items.ensures.within in
    λ b. record {
      shows = page_read a.g a.image.now a.address.0 _ (long _ _) p.0 end c.read_items.ensures.shows (ap (met_as a.g _) c.in-Err.is) b;
      within = readable pre.0 p.1 (omega (arith, low, between.0)) (omega (arith, between.1, end));
    }

pub returns-in-Ok-Some : goal.returns-in-Ok-Some
unfolding item_end
returns-in-Ok-Some c =
    let a = c.args in
    let p = c.calculate_page_index-p.ensures in
    let some = c.in-Ok-Some.is ∙ ap Ok c.in-Ok-Some.field-0-is in
    let stands = c.stand_at.ensures.0 ∙ ap (stand_at a.g _) c.next_item_address-behind.ensures in
    λ b. record {
      shows = (rw stands (page_read a.g a.image.now a.address.0 _ (plans.met _) p.0 c.page_data_end_address-end.ensures
          c.read_items.ensures.shows (ap (met_as a.g _) some) b));
      within = (c.stand_at.ensures.1, (rw some at c.read_items.ensures.within).0);
    }
