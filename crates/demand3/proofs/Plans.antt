-- Plans put together, and steps that do not fail. Assumes nothing.
use mathlib.Core.List.{List, [], ◌++◌, append-nil}
use mathlib.Core.Path.{◌≡◌, refl, ap, ◌∙◌}
use Prim.Native.Nat.{ℕ}
use Rattle.paper.specs.declared.Geometry.{Geometry}
use Rattle.paper.specs.Chip.{Event, image_after, Plan, plan, bind, Try, gives}
use Rattle.paper.specs.Steps.{retry, with_repair}

-- after a plan that is known, what is planned on its answer
pub bind_known : {A B : Type 0} (g : Geometry) (im : List ℕ) {p : Plan A} {es : List Event} {a : A} (next : A → List ℕ → Plan B) → p ≡ plan es a
    → bind g im p next ≡ plan (es ++ (next a (image_after g es im)).events) (next a (image_after g es im)).answer
unfolding bind
bind_known g im next e = ap (λ (q : Plan _). bind g im q next) e

-- where what follows has no events
pub bind_last : {A B : Type 0} (g : Geometry) (im : List ℕ) {p : Plan A} {es : List Event} {a : A} (next : A → List ℕ → Plan B) {b : B}
    → p ≡ plan es a
    → next a (image_after g es im) ≡ plan [] b → bind g im p next ≡ plan es b
bind_last g im {es = es} next {b} e f = bind_known g im next e ∙ ap (λ (q : Plan _). plan (es ++ q.events) q.answer) f
    ∙ ap (λ (x : List Event). plan x b) (append-nil es)

-- where it comes before any event
pub bind_first : {A B : Type 0} (g : Geometry) (im : List ℕ) {p : Plan A} {a : A} (next : A → List ℕ → Plan B) → p ≡ plan [] a
    → bind g im p next ≡ next a im
unfolding image_after
bind_first g im next e = bind_known g im next e

-- a step that does not fail is not run again
pub no_repair : {W A : Type 0} (g : Geometry) (im : List ℕ) (step : W → List ℕ → Plan (Try W A)) (w : W) {es : List Event} {a : A}
    → step w im ≡ plan es (gives a)
    → with_repair g step w im ≡ plan es (gives a)
unfolding with_repair retry
no_repair g im step w {es} {a} e = bind_last g im (retry g step) e refl
