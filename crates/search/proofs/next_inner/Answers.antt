-- `search::next_inner` meets its contract: what the search does from here on, with the turns that are left, is what it does from the start
-- with all of them. Assumes nothing.
use Rattle.std.proofs.Common.{◌≡◌, ◌*◌, ◌-◌, ◌+◌, refl, ◌∙◌, arith}
use Rattle.paper.specs.Search.{next_step}
use Rattle.chip.proofs.Early.{handed}
use Rattle.search.specs.Meanings.{stand_as}
use Rattle.search.proofs.Turning.{turns_over, turn_ends, turn_goes}
use Rattle.search.proofs.next_inner.Goals as goal

pub returns-in_err-turn : goal.returns-in_err-turn
unfolding next_step
returns-in_err-turn c =
    let a = c.args in
    let l = c.loop in
    let t = c.in_err-turn.ensures in
    rw (handed _ _ c.from_residual.ensures.1) (record {
      shows = l.invariant.completes _ _ _ _
          (turn_ends a.oldest.0 a.clears (stand_as l.stand) t.shows _ (2 * a.g.pages - (l.counter + 1)) (omega arith) l.invariant.same_buffer _ refl);
      within = (t.within, tt);
    })

pub returns-in-Break : goal.returns-in-Break
unfolding next_step
returns-in-Break c =
    let a = c.args in
    let l = c.loop in
    let t = rw c.in-Break.is at c.in_ok-turn.ensures in
    record {
      shows = l.invariant.completes _ _ _ _
          (turn_ends a.oldest.0 a.clears (stand_as l.stand) t.shows _ (2 * a.g.pages - (l.counter + 1)) (omega arith) l.invariant.same_buffer _ refl);
      within = t.within;
    }

pub loop-preserved : goal.loop-preserved
loop-preserved c =
    let a = c.args in
    let l = c.loop in
    let t = rw c.in_default.is at c.in_ok-turn.ensures in
    record {
      same_image = c.take_turn.auto.image ∙ l.invariant.same_image;
      same_buffer = c.take_turn.auto.buffer ∙ l.invariant.same_buffer;
      stands = t.within;
      completes = λ o e r x v. l.invariant.completes o e r x
          (turn_goes a.oldest.0 a.clears (stand_as l.stand) t.shows _ _ (omega arith) l.invariant.same_buffer refl _ refl v);
    }

pub returns : goal.returns
unfolding next_step
returns c =
    let a = c.args in
    let l = c.loop in
    let z : 2 * a.g.pages - l.counter ≡ 0 = omega arith in
    record {
      shows = l.invariant.completes _ _ _ _ (rw z (turns_over a.g l.budget _ _ _ (stand_as l.stand) l.image l.buffer));
      within = (l.invariant.stands, tt);
    }
