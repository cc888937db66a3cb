-- What the searches over a table answer and promise. Assumes nothing.
use Rattle.std.specs.Prelude.{◌≡◌, List, ℕ, ◌<◌, Option, None, Some, Result, Ok, Err}
use Rattle.paper.specs.declared.Geometry.{Geometry}
use Rattle.paper.specs.Chip.{Try, fails, gives}
use Rattle.paper.specs.Pages.{Found, failed, found, missing}
use Rattle.chip.specs.declared.Page.{Page}
use Rattle.chip.specs.declared.Corrupted.{Corrupted}

-- what each case of a search's answer stands for
abbrev pub sought_as : Result (Option Page) Corrupted → Found
sought_as (Err e) = failed
sought_as (Ok (Some p)) = found p.0
sought_as (Ok None) = missing

-- the same for the answer of a choice
abbrev pub chosen_as : Result Page Corrupted → Try Unit ℕ
chosen_as (Err e) = fails tt
chosen_as (Ok p) = gives p.0

-- the answer x, taken from a table, is what f says of every image that the table knows well enough; a page that it tells of, by `one`, lies
-- in the ring
pub record Sees {A : Type 0} (g : Geometry) (Known : List ℕ → Type 0) (one : ℕ → A) (x : A) (f : List ℕ → A) : Type 0 where
  pub is : (im : List ℕ) → Known im → x ≡ f im
  pub within : (p : ℕ) → x ≡ one p → p < g.pages
