-- Histories of public calls, each whole or with a limit, by what their contracts promise about image, buffer and answer. Assumes nothing.
use Rattle.std.specs.Prelude.{◌≡◌, cond, List, [], ℕ, ltb, length, Ok}
use Rattle.paper.specs.declared.Geometry.{Geometry}
use Rattle.paper.specs.declared.Shape.{Shape}
use Rattle.paper.specs.Chip.{store_count}
use Rattle.paper.specs.Refusals.{check, Answer}
use Rattle.paper.specs.Calls.{Call, pushes, peeks, pops, fits, spaces, erases_all, requested}
use Rattle.paper.specs.Fifo.{Power, whole, cut_after, Ghost, ghost_next, Fair, Erased}
use Rattle.queue.specs.Promises.{Answers, Shows, AnswersWithin, ShowsWithin}

-- the calls that are lent a buffer
abbrev pub Lent : Call → Type 0
Lent (pushes slip over) = ⊥
Lent (peeks buf) = Unit {0}
Lent (pops buf) = Unit {0}
Lent fits = ⊥
Lent spaces = ⊥
Lent erases_all = ⊥

-- the two forms of a public call
pub data Form : Type 0 where
  unlimited : Form
  within : ℕ → Form

-- the contract of the public call c on the shape s: it takes the image from i to o, the buffer that it was lent to e, and answers x. Where
-- no buffer is lent, e has no say
abbrev pub Promised : Shape → Form → Call → List ℕ → List ℕ → List ℕ → Answer → Type 0
Promised s unlimited (pushes slip over) i o e x = Answers s (pushes slip over) i o x
Promised s unlimited (peeks buf) i o e x = Shows s (peeks buf) i o buf e x
Promised s unlimited (pops buf) i o e x = Shows s (pops buf) i o buf e x
Promised s unlimited fits i o e x = Answers s fits i o x
Promised s unlimited spaces i o e x = Answers s spaces i o x
Promised s unlimited erases_all i o e x = Answers s erases_all i o x
Promised s (within k) (pushes slip over) i o e x = AnswersWithin k s (pushes slip over) i o x
Promised s (within k) (peeks buf) i o e x = ShowsWithin k s (peeks buf) i o buf e x
Promised s (within k) (pops buf) i o e x = ShowsWithin k s (pops buf) i o buf e x
Promised s (within k) fits i o e x = AnswersWithin k s fits i o x
Promised s (within k) spaces i o e x = AnswersWithin k s spaces i o x
Promised s (within k) erases_all i o e x = AnswersWithin k s erases_all i o x

-- whether the call is whole or cut: a limit cuts it "exactly when k is less than the list's length"
unfoldable pub power_of : Shape → List ℕ → Form → Call → Power
power_of s im unlimited c = whole
power_of s im (within k) c = cond (ltb k (store_count (requested s im c).events)) (cut_after k) whole

-- the images that a history of public calls comes to, from an erased range, "with one geometry throughout"; each call is fair: what demand
-- 3 assumes of it, and no more
pub data Played (s : Shape) (g : Geometry) : List ℕ → Ghost → Type 0 where
  begins : {im : List ℕ} → check (length im) s ≡ Ok g → Erased g im → Played s g im (record { begun = []; refused_before = [] })
  goes_on : {im : List ℕ} {gh : Ghost} (f : Form) (c : Call) (o e : List ℕ) (x : Answer) → Played s g im gh → Fair g im gh c (power_of s im f c)
      → Promised s f c im o e x → Played s g o (ghost_next g im gh c (power_of s im f c))
