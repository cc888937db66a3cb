-- `page::read_states` meets its contract: each state is put in, and the last is that where the search ends, or of the last page. Assumes nothing.
use Rattle.std.proofs.Common.{arith}
use Rattle.paper.specs.declared.PageState.TheVariants.{Corrupted}
use Rattle.page.proofs.States.{told}
use Rattle.page.proofs.Tables.{read_last, put_end}
use Rattle.page.proofs.read_states.Goals as goal
use Rattle.page.proofs.read_states.Goals.{then-eq-via-then-eq, then-eq-via-else-eq+then-eq-2}

pub returns-after-loop-p : goal.returns-after-loop-p
returns-after-loop-p c =
    let a = c.args in
    let l = c.loop-p in
    read_last a.g a.image.now a.table l.states a.want a.start l.p l.auto.p l.invariant.kept l.invariant.has (omega arith)

pub returns-then-eq : goal.returns-then-eq
returns-then-eq c =
    let a = c.args in
    let l = c.loop-p in
    let i = l.invariant in
    let few = c.requires.0.good.sized.few in
    let e = c.get_page_state-s.ensures in
    put_end a.g a.image.now a.table l.states a.want a.start l.p l.auto.p i.kept i.has _ (omega (arith, few)) e (omega arith)
    (λ (x, y).
    elim c.then-eq.branch [
      | then-eq-via-then-eq w ↦ let t = rw e at (told _ Corrupted w.if-eq.ensures) in cc
      | then-eq-via-else-eq+then-eq-2 w ↦ let t = rw e at (told _ a.want w.if-eq-2.ensures) in cc
    ])
