-- What a step came to that is not to be run again: its answer is that of the step with repair. Assumes nothing.
use mathlib.Core.Path.{◌≡◌, refl}
use mathlib.Core.List.{List}
use Prim.Native.Nat.{ℕ}
use Rattle.std.proofs.Common.{Result, Ok, Err, Option}
use Rattle.paper.specs.declared.Geometry.{Geometry}
use Rattle.paper.specs.Chip.{Plan, Try}
use Rattle.paper.specs.Search as plans
use Rattle.paper.specs.Steps.{with_repair}
use Rattle.chip.specs.declared.Budget.{Budget}
use Rattle.chip.proofs.Repairing.{showed_repair_cut, showed_repair_gives}
use Rattle.item.specs.declared.Item.{Item}
use Rattle.search.specs.declared.NextAddress.{NextAddress}
use Rattle.search.specs.declared.Ended.{Ended}
use Rattle.search.specs.declared.Ended.TheVariants as ended
use Rattle.search.specs.Meanings.{ended_as, EndedIn}
use Rattle.search.specs.Searching.{searched, ComesTo}

-- the run of the step from w came to r, left the search at s, and left the budget c
module _ {g : Geometry} {b : Budget} {i o d e : List ℕ} (step : plans.Stand → List ℕ → Plan (Try plans.Stand plans.Ended)) (w : plans.Stand) where
  pub not_failed : (s : NextAddress) (c : Budget) (r : Result (Option Item) Ended) → (r ≡ Err ended.Corrupted → ⊥)
      → ComesTo (ended_as g s) (EndedIn g s) g b (step w i) i o d e (searched r c) r
      → ComesTo (ended_as g s) (EndedIn g s) g b (with_repair g step w i) i o d e (searched r c) r
  not_failed s c (Ok x) n h = record { shows = showed_repair_gives step w h.shows _ refl refl; within = h.within }
  not_failed s c (Err (ended.TooSmall k)) n h = record { shows = showed_repair_gives step w h.shows _ refl refl; within = h.within }
  not_failed s c (Err ended.Corrupted) n h = absurd (n refl)
  not_failed s c (Err ended.Cut) n h = record { shows = showed_repair_cut step w h.shows _ refl; within = h.within }
