-- What the public calls promise, on any shape and image. Assumes nothing.
use Rattle.std.specs.Prelude.{List, ℕ, Option}
use Rattle.paper.specs.declared.Shape.{Shape}
use Rattle.paper.specs.Refusals.{Answer, geometry_of}
use Rattle.paper.specs.Calls.{Call, requested, limited}
use Rattle.chip.specs.Run.{Whole, WholeShown, limited_by}

-- ---- the whole call

-- the call c on the shape s takes the image from i to o and answers x
abbrev pub Answers : Shape → Call → List ℕ → List ℕ → Answer → Type 0
Answers s c i o x = Whole (geometry_of s) (requested s i c) i o x

-- it also takes the buffer from d to e
abbrev pub Shows : Shape → Call → List ℕ → List ℕ → List ℕ → List ℕ → Answer → Type 0
Shows s c i o d e x = WholeShown (geometry_of s) (requested s i c) i o d e x

-- ---- the call with the limit k

abbrev pub AnswersWithin : ℕ → Shape → Call → List ℕ → List ℕ → Answer → Type 0
AnswersWithin k s c i o x = Whole (geometry_of s) (limited k (requested s i c)) i o x

abbrev pub ShowsWithin : ℕ → Shape → Call → List ℕ → List ℕ → List ℕ → List ℕ → Answer → Type 0
ShowsWithin k s c i o d e x = WholeShown (geometry_of s) (limited k (requested s i c)) i o d e x

-- ---- both: with a limit or without. `Answers` is `AnswersUnder None`, and `AnswersWithin k` is `AnswersUnder (Some k)`

abbrev pub AnswersUnder : Option ℕ → Shape → Call → List ℕ → List ℕ → Answer → Type 0
AnswersUnder limit s c i o x = Whole (geometry_of s) (limited_by limit (requested s i c)) i o x

abbrev pub ShowsUnder : Option ℕ → Shape → Call → List ℕ → List ℕ → List ℕ → List ℕ → Answer → Type 0
ShowsUnder limit s c i o d e x = WholeShown (geometry_of s) (limited_by limit (requested s i c)) i o d e x
