-- Every public call has one outcome. Assumes nothing.
use mathlib.Core.Path.{sym, ◌∙◌}
use mathlib.Core.List.{List}
use Prim.Native.Nat.{ℕ}
use Rattle.paper.specs.declared.Geometry.{Geometry}
use Rattle.paper.specs.declared.Shape.{Shape}
use Rattle.paper.specs.Chip.{Plan}
use Rattle.paper.specs.Refusals.{Answer}
use Rattle.chip.specs.Run.{Whole, WholeShown}
use Rattle.queue.specs.Distinct.{Injective}
use Rattle.queue.specs.Unique.{One, OneShown, Unique}
use Rattle.queue.proofs.Numbers.{distinct}

-- whatever the plan is
module _ {R : Type 0} {f : R → Answer} {g : Geometry} {p : Plan Answer} {i : List ℕ} (inj : Injective f) where
  one : One (λ o r. Whole g p i o (f r))
  one o₁ o₂ r₁ r₂ h k = (h.image ∙ sym k.image, inj r₁ r₂ (h.answer ∙ sym k.answer))

  one_shown : {d : List ℕ} → OneShown (λ o e r. WholeShown g p i o d e (f r))
  one_shown o₁ o₂ e₁ e₂ r₁ r₂ h k =
      let w = one o₁ o₂ r₁ r₂ h.whole k.whole in
      (w.0, h.buffer ∙ sym k.buffer, w.1)

pub unique : (s : Shape) (i : List ℕ) → Unique s i
unique s i = record {
  push = λ slip over. one distinct.pushed;
  peek = λ d. one_shown distinct.shown;
  pop = λ d. one_shown distinct.shown;
  find_max_fit_lem = one distinct.fit;
  space_left_lem = one distinct.space;
  erase_all_lem = one distinct.erased;
  push_limited = λ k slip over. one distinct.pushed;
  peek_limited = λ k d. one_shown distinct.shown;
  pop_limited = λ k d. one_shown distinct.shown;
  find_max_fit_limited = λ k. one distinct.fit;
  space_left_limited = λ k. one distinct.space;
  erase_all_limited = λ k. one distinct.erased;
}
