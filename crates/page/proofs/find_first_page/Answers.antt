-- `page::find_first_page` meets its contract: a page that is looked at ends the search, or it goes on from the next. Assumes nothing.
use Rattle.std.proofs.Common.{◌≡◌, ◌+◌, ◌-◌, refl, sym, ◌∙◌, arith}
use native.Mathlib.Nat.{sub-zero}
use Rattle.paper.specs.declared.PageState.TheVariants.{Corrupted}
use Rattle.paper.specs.Pages.{from}
use Rattle.page.proofs.Searching.{first_failed, first_here, first_on, first_covered}
use Rattle.page.proofs.States.{told}
use Rattle.page.proofs.find_first_page.Goals as goal

pub loop-init : goal.loop-init
unfolding from
loop-init c = record { in_ring = c.requires.1; answers = λ im m. rw sub-zero (m, refl) }

pub returns-then-eq : goal.returns-then-eq
returns-then-eq c =
    let a = c.args in
    let l = c.loop in
    let k = a.g.pages - (l.counter + 1) in
    record {
      is = λ im m.
          let i = l.invariant.answers im m in
          sym (first_failed a.g im a.table a.want _ k l.p.0 (omega arith) i.0 (told _ Corrupted c.if-eq.ensures)) ∙ i.1;
      within = λ p e. cc;
    }

pub returns-then-eq-2 : goal.returns-then-eq-2
returns-then-eq-2 c =
    let a = c.args in
    let l = c.loop in
    let k = a.g.pages - (l.counter + 1) in
    record {
      is = λ im m.
          let i = l.invariant.answers im m in
          let fine = told _ Corrupted c.if-eq.ensures in
          sym (first_here a.g im a.table a.want _ k l.p.0 (omega arith) i.0 fine (told _ a.want c.if-eq-2.ensures)) ∙ i.1;
      within = λ p e. let z : l.p.0 ≡ p = cc in omega arith;
    }

pub loop-preserved : goal.loop-preserved
loop-preserved c =
    let a = c.args in
    let l = c.loop in
    let k = a.g.pages - (l.counter + 1) in
    let e = c.next_page-p.ensures.0 in
    let fine = told _ Corrupted c.if-eq.ensures in
    let other = told _ a.want c.if-eq-2.ensures in
    record {
      in_ring = c.next_page-p.ensures.1;
      answers = λ im m.
          let i = l.invariant.answers im m in
          (rw e (
            first_covered a.g im a.table a.want _ k l.p.0 (omega arith) i.0 fine other,
            sym (first_on a.g im a.table a.want _ k l.p.0 (omega arith) i.0 fine other) ∙ i.1,
          ));
    }
