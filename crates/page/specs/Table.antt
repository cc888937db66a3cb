-- The states of an image's pages in a table: of all pages, or of those that a search comes to. Assumes nothing.
use Rattle.std.specs.Prelude.{◌≡◌, false, List, [], ◌∷◌, ℕ, ◌-◌, ◌<◌, get_or}
use Rattle.paper.specs.declared.Geometry.{Geometry}
use Rattle.paper.specs.declared.PageState.{PageState}
use Rattle.paper.specs.declared.PageState.TheVariants.{Open, Corrupted}
use Rattle.paper.specs.Pages.{state, same, around}

-- the table t has the state of page p of the image im
abbrev pub Has : Geometry → List ℕ → List PageState → ℕ → Type 0
Has g im t p = get_or t p Open ≡ state g im p

-- the table t holds, for each page of the image im, its state
pub record Table (g : Geometry) (im : List ℕ) (t : List PageState) : Type 0 where
  pub holds : (p : ℕ) → p < g.pages → Has g im t p

-- page p is neither Corrupted nor what is sought: a search goes past it
abbrev pub Passed : Geometry → List ℕ → PageState → ℕ → Type 0
Passed g im want p = (same (state g im p) Corrupted ≡ false) × (same (state g im p) want ≡ false)

-- the table t has the state of each page that a search for `want` comes to, going along these pages
abbrev pub Covers : Geometry → List ℕ → List PageState → PageState → List ℕ → Type 0
Covers g im t want [] = Unit {0}
Covers g im t want (p ∷ ps) = Has g im t p × (Passed g im want p → Covers g im t want ps)

-- the table r is t, but from page a on it has the states that a search for `want` comes to
pub record ReadFrom (g : Geometry) (im : List ℕ) (t : List PageState) (a : ℕ) (want : PageState) (r : List PageState) : Type 0 where
  pub kept : (p : ℕ) → p < a → get_or r p Open ≡ get_or t p Open
  pub reads : Covers g im r want (around g (g.pages - a) a)
