-- Finding the start, with its repair: a run that gives, one whose repair is cut, and one more after the repair. Assumes nothing.
use mathlib.Core.Path.{◌≡◌, refl}
use mathlib.Core.Bool.{true, false}
use mathlib.Core.List.{List}
use Prim.Native.Nat.{ℕ}
use Rattle.paper.specs.declared.Geometry.{Geometry}
use Rattle.paper.specs.Chip.{Plan, Try, fails, gives}
use Rattle.paper.specs.Pages.{oldest, repair}
use Rattle.paper.specs.Steps.{with_repair}
use Rattle.paper.specs.Search.{start_step}
use Rattle.chip.specs.declared.Budget.{Budget}
use Rattle.chip.specs.Run.{Spent, Did}
use Rattle.chip.proofs.Repairing.{showed_repair_gives, showed_repair_stops, showed_repair_again}
use Rattle.chip.proofs.Binding.{showed_none}
use Rattle.search.specs.Searching.{Stored}

-- the step stores nothing
step_showed : (g : Geometry) (b : Budget) (im : List ℕ) {x : Try Unit ℕ} → x ≡ oldest g im
    → Stored g b (start_step g tt im) im im (record { cut = false; budget = b }) x
unfolding start_step
step_showed g b im {x} e d = rw (← e) (showed_none g b im x d)

module _ (g : Geometry) (b : Budget) (im : List ℕ) where
  abbrev start : Plan (Try Unit ℕ)
  start = with_repair g (start_step g) tt im

  pub start_gives : (p : ℕ) → gives p ≡ oldest g im → Stored g b start im im (record { cut = false; budget = b }) (gives p)
  start_gives p e d = showed_repair_gives (start_step g) tt (step_showed g b im e d) p refl refl

  -- its first run failed
  module _ (e : fails tt ≡ oldest g im) {o : List ℕ} where
    pub start_stops : {s : Spent} → Did g b (repair g im) im o s → (y : Try Unit ℕ) → s.cut ≡ true → Stored g b start im o s y
    start_stops k y t d = showed_repair_stops (start_step g) tt (step_showed g b im e d) tt refl refl k y t

    pub start_again : {c : Budget} → Did g b (repair g im) im o (record { cut = false; budget = c }) → {y : Try Unit ℕ} → y ≡ oldest g o
        → Stored g b start im o (record { cut = false; budget = c }) y
    start_again {c} k f d = showed_repair_again (start_step g) tt (step_showed g b im e d) tt refl refl k refl (step_showed g c o f d)
