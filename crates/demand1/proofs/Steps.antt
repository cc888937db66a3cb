-- A step with repair, by what it came to: it gave something; or it failed with no event, and is run again on the repaired image. Assumes nothing.
use mathlib.Core.Path.{◌≡◌, sym, ap, ◌∙◌, subst}
use mathlib.Core.List.{List, [], ◌++◌, append-nil}
use Prim.Native.Nat.{ℕ}
use Rattle.paper.specs.declared.Geometry.{Geometry}
use Rattle.paper.specs.Chip.{Event, image_after, Plan, plan, bind, Try, fails, gives}
use Rattle.paper.specs.Pages.{repair}
use Rattle.paper.specs.Steps.{retry, with_repair}
use Rattle.demand1.specs.Rows.{repaired, Fails, failed}
use Rattle.demand1.proofs.Lists.{never}

-- ---- a step that failed

pub is_fails : {W A : Type 0} {t : Try W A} {w : W} → t ≡ fails w → Fails t
is_fails e = subst Fails (sym e) failed

pub fails_not : {W A : Type 0} {t : Try W A} {a : A} → Fails t → t ≡ gives a → ⊥
fails_not failed e = never (cc)

-- ---- with repair

module _ {W A : Type 0} (g : Geometry) (step : W → List ℕ → Plan (Try W A)) (w : W) (im : List ℕ) where
  pub steps_gives : {a : A} → (step w im).answer ≡ gives a → with_repair g step w im ≡ plan (step w im).events (gives a)
  unfolding with_repair bind retry
  steps_gives {a} e = rw e (ap (λ (es : List Event). plan es (gives a)) (append-nil (step w im).events))

  -- it failed: the image that it left is repaired
  pub steps_fails : {v : W} → (step w im).answer ≡ fails v → (let j = image_after g (step w im).events im in
      with_repair g step w im ≡ plan ((step w im).events ++ (repair g j ++ (step v (repaired g j)).events)) (step v (repaired g j)).answer)
  unfolding with_repair bind retry
  steps_fails e = rw e

  -- it failed with no event
  pub steps_again : {v : W} → step w im ≡ plan [] (fails v)
      → with_repair g step w im ≡ plan (repair g im ++ (step v (repaired g im)).events) (step v (repaired g im)).answer
  unfolding image_after
  steps_again {v} e =
      steps_fails (ap (λ (p : Plan (Try W A)). p.answer) e)
      ∙ ap (λ (p : Plan (Try W A)). let j = image_after g p.events im in
      plan (p.events ++ (repair g j ++ (step v (repaired g j)).events)) (step v (repaired g j)).answer) e
