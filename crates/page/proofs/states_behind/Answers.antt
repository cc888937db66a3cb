-- `page::states_behind` meets its contract: up to the youngest page the table was read before. Assumes nothing.
use Rattle.std.proofs.Common.{◌∙◌, arith}
use Rattle.paper.specs.declared.PageState.TheVariants.{PartialOpen, Closed}
use Rattle.page.proofs.Reading.{reached, known_to, all_behind, covers_round}
use Rattle.page.proofs.States.{told}
use Rattle.page.proofs.states_behind.Goals as goal

pub returns-then-eq : goal.returns-then-eq
returns-then-eq c =
    let a = c.args in
    let pre = c.requires in
    let r = c.read_states.ensures in
    let known = known_to a.g a.image.now a.table a.y.0 pre.3 (reached a.g a.image.now a.table pre.1 a.y.0 pre.2) in
    covers_round a.g a.image.now _ Closed a.y.0 pre.3 (λ q h. r.kept q (omega arith) ∙ known q h) r.reads

pub returns : goal.returns
returns c =
    let a = c.args in
    let pre = c.requires in
    all_behind a.g a.image.now a.table a.y.0 pre.3 (reached a.g a.image.now a.table pre.1 a.y.0 pre.2) Closed (told _ PartialOpen c.if-eq.ensures)
