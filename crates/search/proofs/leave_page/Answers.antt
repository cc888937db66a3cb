-- `search::leave_page` meets its contract: the tests are those of the plan, in their order. Assumes nothing.
use Rattle.std.proofs.Common.{sym}
use Rattle.paper.specs.declared.PageState.TheVariants.{Open, Corrupted}
use Rattle.chip.proofs.Early.{handed}
use Rattle.page.proofs.States.{told}
use Rattle.search.specs.declared.Ended.TheVariants as ended
use Rattle.search.proofs.Standing.{start_readable}
use Rattle.search.proofs.Leaving.{leave_fails, leave_open, leave_round, leave_kept, leave_erased, leave_cut}
use Rattle.search.proofs.leave_page.Goals as goal
use Rattle.search.proofs.leave_page.Goals.{then-eq-2-via-then-eq-2, then-eq-2-via-else-eq-2+then-eq-3, then-clears+in_ok-open_page, else-clears}

pub returns-then-eq : goal.returns-then-eq
returns-then-eq c =
    let a = c.args in
    let n = c.next_page-next_page.ensures.0 in
    let s = c.get_page_state-state.ensures in
    rw c.requires.2 (record {
      shows = leave_fails a.g a.budget.now a.image.now a.oldest.0 a.clears a.p.0 n s (told _ Corrupted c.if-eq.ensures);
      within = c.requires.1;
    })

pub returns-then-eq-2 : goal.returns-then-eq-2
returns-then-eq-2 c =
    let a = c.args in
    let n = c.next_page-next_page.ensures.0 in
    let s = c.get_page_state-state.ensures in
    let sound = told _ Corrupted c.if-eq.ensures in
    rw c.requires.2 (record {
      shows = elim c.then-eq-2.branch [
        | then-eq-2-via-then-eq-2 w ↦
            leave_open a.g a.budget.now a.image.now a.oldest.0 a.clears a.p.0 n s sound (told _ Open w.if-eq-2.ensures)
        | then-eq-2-via-else-eq-2+then-eq-3 w ↦
            leave_round a.g a.budget.now a.image.now a.oldest.0 a.clears a.p.0 n s sound (told _ Open w.if-eq-2.ensures) (sym w.if-eq-3.ensures)
      ];
      within = (c.requires.1, tt);
    })

pub returns-in_err-open_page : goal.returns-in_err-open_page
returns-in_err-open_page c =
    let a = c.args in
    let n = c.next_page-next_page.ensures.0 in
    let s = c.get_page_state-state.ensures in
    let sound = told _ Corrupted c.if-eq.ensures in
    let used = told _ Open c.if-eq-2.ensures in
    rw (handed _ ended.Cut c.from_residual.ensures.1, c.requires.2) (record {
      shows = leave_cut a.g a.budget.now a.image.now a.oldest.0 a.clears a.p.0 n s sound used (sym c.if-eq-3.ensures) c.if-clears.true
          c.in_err-open_page.ensures _;
      within = c.requires.1;
    })

pub returns : goal.returns
returns c =
    let a = c.args in
    let n = c.next_page-next_page.ensures in
    let s = c.get_page_state-state.ensures in
    let sound = told _ Corrupted c.if-eq.ensures in
    let used = told _ Open c.if-eq-2.ensures in
    let apart = sym c.if-eq-3.ensures in
    let address = c.page_data_start_address-address.ensures in
    record {
      shows = rw address (elim c.if-clears.branch [
        | then-clears+in_ok-open_page w ↦ rw (w.image-is, w.budget-is)
            (leave_erased a.g a.budget.now a.image.now a.oldest.0 a.clears a.p.0 n.0 s sound used apart w.if-clears.true w.in_ok-open_page.ensures)
        | else-clears w ↦ rw (w.image-is, w.budget-is)
            (leave_kept a.g a.budget.now a.image.now a.oldest.0 a.clears a.p.0 n.0 s sound used apart w.if-clears.false)
      ]);
      within = start_readable c.requires.0 n.1 address;
    }
