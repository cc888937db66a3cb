-- What the runs of a count answer, and what a page adds to one. Assumes nothing.
use Rattle.std.specs.Prelude.{◌≡◌, Bool, true, false, not, List, ℕ, ◌<◌, Result, Ok, Err}
use Rattle.paper.specs.declared.Geometry.{Geometry}
use Rattle.paper.specs.declared.PageState.{PageState}
use Rattle.paper.specs.declared.PageState.TheVariants.{Open, PartialOpen, Closed, Corrupted}
use Rattle.paper.specs.declared.Refusal.TheVariants as refusal
use Rattle.paper.specs.Chip.{Try, fails, gives, settled}
use Rattle.paper.specs.Scan.{page_walk, any_live}
use Rattle.paper.specs.Pages.{same}
use Rattle.paper.specs.Refusals.{Answer, refused}
use Rattle.paper.specs.Counts.{space_by}
use Rattle.chip.specs.Within.{address_limit}

-- what each case of a count's answer stands for, by what its number does
abbrev pub counted_as : {N E : Type 0} → (N → Answer) → Result N E → Try Unit Answer
counted_as answer (Ok n) = gives (answer n)
counted_as answer (Err e) = fails tt

-- what a count answers that came to that
abbrev pub answered : {N E : Type 0} → (N → Answer) → Result N E → Answer
answered answer r = settled (refused refusal.Corrupted) (counted_as answer r)

-- whether all of page p may be used, by its state and, where that is Closed, by its items
unfoldable pub empty_by : Geometry → List ℕ → ℕ → PageState → Bool
empty_by g im p Open = true
empty_by g im p PartialOpen = false
empty_by g im p Closed = not (any_live (page_walk g im p).heads)
empty_by g im p Corrupted = false

-- page p in state s, which is not Corrupted, adds n
pub record SpaceIs (g : Geometry) (im : List ℕ) (p : ℕ) (s : PageState) (n : ℕ) : Type 0 where
  pub is : same s Corrupted ≡ false → space_by g im p s ≡ gives n
  pub small : n < address_limit
