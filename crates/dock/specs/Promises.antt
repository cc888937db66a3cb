-- What the C face takes and what its calls promise: the queue's own promises, with the answer as one number. Assumes nothing.
use Rattle.std.specs.Prelude.{◌≡◌, Bool, not, List, ℕ, eqb, get_or}
use Rattle.paper.specs.declared.Geometry.{Geometry}
use Rattle.paper.specs.declared.Shape.{Shape}
use Rattle.paper.specs.Chip.{image_after, buffer_after, Plan}
use Rattle.paper.specs.Refusals.{Answer, geometry_of}
use Rattle.paper.specs.Calls.{Call, requested, limited}
use Rattle.codes.specs.Codes.{code_of}

-- ---- what C passes

-- a struct of four numbers
abbrev pub shape_from : List ℕ → Shape
shape_from f = record { start = get_or f 0 0; end = get_or f 1 0; page = get_or f 2 0; word = get_or f 3 0 }

-- a switch is on unless it is 0
abbrev pub is_on : ℕ → Bool
is_on flag = not (eqb flag 0)

-- ---- what the calls promise

-- the plan p takes the image from i to o, and r is its answer as a number
pub record Coded (g : Geometry) (p : Plan Answer) (i o : List ℕ) (r : ℕ) : Type 0 where
  pub image : o ≡ image_after g p.events i
  pub answer : r ≡ code_of p.answer

-- it also takes the buffer from d to e
pub record CodedShown (g : Geometry) (p : Plan Answer) (i o d e : List ℕ) (r : ℕ) : Type 0 where
  pub coded : Coded g p i o r
  pub buffer : e ≡ buffer_after g p.events i d

-- the call c on the shape s, whole and with the limit k
abbrev pub Returns : Shape → Call → List ℕ → List ℕ → ℕ → Type 0
Returns s c i o r = Coded (geometry_of s) (requested s i c) i o r

abbrev pub ReturnsWithin : ℕ → Shape → Call → List ℕ → List ℕ → ℕ → Type 0
ReturnsWithin k s c i o r = Coded (geometry_of s) (limited k (requested s i c)) i o r

abbrev pub ReturnsShown : Shape → Call → List ℕ → List ℕ → List ℕ → List ℕ → ℕ → Type 0
ReturnsShown s c i o d e r = CodedShown (geometry_of s) (requested s i c) i o d e r

abbrev pub ReturnsShownWithin : ℕ → Shape → Call → List ℕ → List ℕ → List ℕ → List ℕ → ℕ → Type 0
ReturnsShownWithin k s c i o d e r = CodedShown (geometry_of s) (limited k (requested s i c)) i o d e r
