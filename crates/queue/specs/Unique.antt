-- Each public call has one outcome: one image, one buffer and one answer, in the call's own type, meet its promise. Assumes nothing.
use Rattle.std.specs.Prelude.{◌≡◌, Bool, List, ℕ}
use Rattle.paper.specs.declared.Shape.{Shape}
use Rattle.paper.specs.Refusals.{pushed_as, shown_as, fit_as, space_as, erased_as}
use Rattle.paper.specs.Calls.{pushes, peeks, pops, fits, spaces, erases_all}
use Rattle.queue.specs.Promises.{Answers, Shows, AnswersWithin, ShowsWithin}

-- at most one image and answer meet a promise
abbrev pub One : {R : Type 0} → (List ℕ → R → Type 0) → Type 0
One {R} P = (o₁ o₂ : List ℕ) (r₁ r₂ : R) → P o₁ r₁ → P o₂ r₂ → (o₁ ≡ o₂) × (r₁ ≡ r₂)

-- at most one image, buffer and answer
abbrev pub OneShown : {R : Type 0} → (List ℕ → List ℕ → R → Type 0) → Type 0
OneShown {R} P = (o₁ o₂ e₁ e₂ : List ℕ) (r₁ r₂ : R) → P o₁ e₁ r₁ → P o₂ e₂ r₂ → (o₁ ≡ o₂) × (e₁ ≡ e₂) × (r₁ ≡ r₂)

-- on the shape s and the image i
pub record Unique (s : Shape) (i : List ℕ) : Type 0 where
  pub push : (slip : List ℕ) (over : Bool) → One (λ o r. Answers s (pushes slip over) i o (pushed_as r))
  pub peek : (d : List ℕ) → OneShown (λ o e r. Shows s (peeks d) i o d e (shown_as r))
  pub pop : (d : List ℕ) → OneShown (λ o e r. Shows s (pops d) i o d e (shown_as r))
  pub find_max_fit_lem : One (λ o r. Answers s fits i o (fit_as r))
  pub space_left_lem : One (λ o r. Answers s spaces i o (space_as r))
  pub erase_all_lem : One (λ o r. Answers s erases_all i o (erased_as r))
  pub push_limited : (k : ℕ) (slip : List ℕ) (over : Bool) → One (λ o r. AnswersWithin k s (pushes slip over) i o (pushed_as r))
  pub peek_limited : (k : ℕ) (d : List ℕ) → OneShown (λ o e r. ShowsWithin k s (peeks d) i o d e (shown_as r))
  pub pop_limited : (k : ℕ) (d : List ℕ) → OneShown (λ o e r. ShowsWithin k s (pops d) i o d e (shown_as r))
  pub find_max_fit_limited : (k : ℕ) → One (λ o r. AnswersWithin k s fits i o (fit_as r))
  pub space_left_limited : (k : ℕ) → One (λ o r. AnswersWithin k s spaces i o (space_as r))
  pub erase_all_limited : (k : ℕ) → One (λ o r. AnswersWithin k s erases_all i o (erased_as r))
