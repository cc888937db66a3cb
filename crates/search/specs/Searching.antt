-- What the functions of the search promise: the run of a plan, and that what the answer names lies in the range. Assumes nothing.
use Rattle.std.specs.Prelude.{true, false, List, ℕ, length, Result, Ok, Err}
use Rattle.paper.specs.declared.Geometry.{Geometry}
use Rattle.paper.specs.Chip.{Plan}
use Rattle.chip.specs.declared.Budget.{Budget}
use Rattle.chip.specs.Run.{Spent, Showed}
use Rattle.search.specs.declared.Ended.{Ended}
use Rattle.search.specs.declared.Ended.TheVariants as ended

-- what a search spent that ended early, and left the budget b
abbrev pub stopped : Ended → Budget → Spent
stopped (ended.TooSmall n) b = record { cut = false; budget = b }
stopped ended.Corrupted b = record { cut = false; budget = b }
stopped ended.Cut b = record { cut = true; budget = b }

-- the same of any, by its result
abbrev pub searched : {X : Type 0} → Result X Ended → Budget → Spent
searched (Ok x) b = record { cut = false; budget = b }
searched (Err e) b = stopped e b

-- a plan that only copies: under every budget it leaves the image im, takes the buffer from d to e and answers x
abbrev pub Copied : {A : Type 0} → Geometry → Plan A → List ℕ → List ℕ → List ℕ → A → Type 0
Copied g p im d e x = (b : Budget) → Showed g b p im im d e (record { cut = false; budget = b }) x

-- a plan that copies nothing: it leaves every buffer d
abbrev pub Stored : {A : Type 0} → Geometry → Budget → Plan A → List ℕ → List ℕ → Spent → A → Type 0
Stored g b p i o s x = (d : List ℕ) → Showed g b p i o d d s x

-- Below, `means` says what the code's answer r stands for over the image that is left, and `In` that what r names lies in such an image

pub record Copies {A X : Type 0} (means : List ℕ → X → A) (In : ℕ → X → Type 0) (g : Geometry) (p : Plan A) (im d e : List ℕ) (r : X) : Type 0 where
  pub shows : Copied g p im d e (means im r)
  pub within : In (length im) r

pub record Stores {A X : Type 0} (means : List ℕ → X → A) (In : ℕ → X → Type 0) (g : Geometry) (b : Budget) (p : Plan A) (i o : List ℕ) (s : Spent) (r : X) : Type 0 where
  pub shows : Stored g b p i o s (means o r)
  pub within : In (length o) r

pub record ComesTo {A X : Type 0} (means : List ℕ → X → A) (In : ℕ → X → Type 0) (g : Geometry) (b : Budget) (p : Plan A) (i o d e : List ℕ) (s : Spent) (r : X) : Type 0 where
  pub shows : Showed g b p i o d e s (means o r)
  pub within : In (length o) r
