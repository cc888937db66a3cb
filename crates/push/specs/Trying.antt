-- What the search for a spot answers and promises. Assumes nothing.
use Rattle.std.specs.Prelude.{List, ℕ, ◌≤◌, Result, Ok, Err, Option, Some, None}
use Rattle.paper.specs.declared.Geometry.{Geometry}
use Rattle.paper.specs.Chip.{range_end, Plan, Try, fails, gives}
use Rattle.paper.specs.Push as plans
use Rattle.chip.specs.declared.Address.{Address}
use Rattle.chip.specs.declared.Budget.{Budget}
use Rattle.chip.specs.declared.Failure.{Failure}
use Rattle.chip.specs.Run.{spent, Ran}
use Rattle.item.specs.Places.{after}

-- a spot at an address, or none where the storage is full
abbrev pub spot_of : Option Address → plans.Spot
spot_of (Some a) = plans.at a.0
spot_of None = plans.full

-- what each case of the search's answer stands for
abbrev pub spot_as : Result (Option Address) Failure → Try Unit plans.Spot
spot_as (Ok s) = gives (spot_of s)
spot_as (Err e) = fails tt

-- an item of n bytes that begins where the search ended lies in the range
abbrev pub Holds : Geometry → ℕ → Result (Option Address) Failure → Type 0
Holds g n (Ok (Some a)) = after g a.0 n ≤ range_end g
Holds g n (Ok None) = Unit {0}
Holds g n (Err e) = Unit {0}

-- the search for a spot for n bytes ran as the plan p, left the budget c, and its spot holds them
pub record Finds (g : Geometry) (b : Budget) (n : ℕ) (p : Plan (Try Unit plans.Spot)) (i o : List ℕ) (c : Budget) (r : Result (Option Address) Failure) : Type 0 where
  pub ran : Ran g b p i o (spent r c) (spot_as r)
  pub holds : Holds g n r
