-- Two states are equal by the derived comparison where the definition says that they are the same. Assumes nothing.
use mathlib.Core.Path.{◌≡◌, refl, sym, ◌∙◌}
use mathlib.Core.Bool.{Bool}
use denote.Enum.Bare.{sameb}
use Rattle.paper.specs.declared.PageState.{PageState}
use Rattle.paper.specs.declared.PageState.TheVariants.{Open, PartialOpen, Closed, Corrupted}
use Rattle.paper.specs.contracts.PageState.{the_type}
use Rattle.paper.specs.Pages.{same}

same_by : (s t : PageState) → same s t ≡ sameb the_type s t
same_by Open Open = refl
same_by Open PartialOpen = refl
same_by Open Closed = refl
same_by Open Corrupted = refl
same_by PartialOpen Open = refl
same_by PartialOpen PartialOpen = refl
same_by PartialOpen Closed = refl
same_by PartialOpen Corrupted = refl
same_by Closed Open = refl
same_by Closed PartialOpen = refl
same_by Closed Closed = refl
same_by Closed Corrupted = refl
same_by Corrupted Open = refl
same_by Corrupted PartialOpen = refl
same_by Corrupted Closed = refl
same_by Corrupted Corrupted = refl

-- what a test found
pub told : (s t : PageState) {b : Bool} → b ≡ sameb the_type s t → same s t ≡ b
told s t e = same_by s t ∙ sym e
