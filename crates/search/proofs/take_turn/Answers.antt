-- `search::take_turn` meets its contract: one kind of turn for each stand. Assumes nothing.
use Rattle.search.proofs.take_turn.Goals as goal

pub returns-in-PageAfter : goal.returns-in-PageAfter
returns-in-PageAfter c = record { shows = rw c.in-PageAfter.is (c.leave_page.ensures.shows _); within = c.leave_page.ensures.within }
