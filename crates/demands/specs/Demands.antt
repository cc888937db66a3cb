-- Demands 1 and 3, of the public calls. Assumes nothing.
use Rattle.std.specs.Prelude.{◌≡◌, false, List, [], ◌⊎◌, ℕ, ◌≤◌, ◌<◌, length, Ok, Err}
use Rattle.paper.specs.declared.Geometry.{Geometry}
use Rattle.paper.specs.declared.Shape.{Shape}
use Rattle.paper.specs.declared.Refusal.{Refusal}
use Rattle.paper.specs.declared.Refusal.TheVariants as refusal
use Rattle.paper.specs.Chip.{data_size, store_count, gives}
use Rattle.paper.specs.Scan.{page_walk, any_live}
use Rattle.paper.specs.Pages.{next, youngest}
use Rattle.paper.specs.Refusals.{check, Answer, done, empty, refused}
use Rattle.paper.specs.Push.{too_big}
use Rattle.paper.specs.Calls.{Call, pushes, plan_of, requested}
use Rattle.paper.specs.Waiting.{list_of, waiting}
use Rattle.paper.specs.Fifo.{Power, whole, cut_after, buffer_of, Ghost, Fair, Erased, Plain, list_after}
use Rattle.demand1.specs.Range.{Outside, Agree}
use Rattle.demand1.specs.Shapes.{Iff}
use Rattle.demands.specs.Histories.{Lent, Form, unlimited, within, Promised, power_of, Played}

-- ---- demand 1

-- whatever the shape, the image, the call and its limit are, and whatever meets its contract
pub record OfOne (s : Shape) (f : Form) (c : Call) (i o e : List ℕ) (x : Answer) : Type 0 where
  -- "touches nothing outside its range"
  pub outside : Outside s i o
  -- a shape that is refused: by its row, and nothing is stored
  pub shape : (r : Refusal) → check (length i) s ≡ Err r → (x ≡ refused r) × (o ≡ i)
  -- "cut": exactly where the limit is less than the number of the call's stores
  pub cut : Iff (x ≡ refused refusal.Cut) ((k : ℕ) × (f ≡ within k) × (k < store_count (requested s i c).events))
  -- bytes outside the range "have no say"
  pub no_say : (j p d : List ℕ) (y : Answer) → Agree s i j → Promised s f c j p d y → (x ≡ y) × Agree s o p × (Lent c → e ≡ d)

abbrev pub Demand1OfCalls : Type 0
Demand1OfCalls = (s : Shape) (f : Form) (c : Call) (i o e : List ℕ) (x : Answer) → Promised s f c i o e x → OfOne s f c i o e x

-- ---- demand 3

-- a whole call answers "as a plain first-in-first-out list does, apart from the refusals laid down"; a cut one says so, and "the list is the
-- one before that call or the one after it"
abbrev pub Keeps : Geometry → Call → Power → List ℕ → List ℕ → List ℕ → Answer → Type 0
Keeps g c whole i o e x = Plain g i c x e (waiting g i) (waiting g o)
Keeps g c (cut_after k) i o e x =
    (x ≡ refused refusal.Cut)
    × ((waiting g o ≡ waiting g i) ⊎ (waiting g o ≡ list_after c (plan_of g i c).answer (waiting g i)))

pub record Demand3OfCalls : Type 0 where
  pub starts : (s : Shape) (g : Geometry) (im : List ℕ) → check (length im) s ≡ Ok g → Erased g im → waiting g im ≡ []
  -- every image of a history has a list
  pub lists : (s : Shape) (g : Geometry) (im : List ℕ) (gh : Ghost) → Played s g im gh → list_of g im ≡ gives (waiting g im)
  pub keeps : (s : Shape) (g : Geometry) (im : List ℕ) (gh : Ghost) → Played s g im gh → (f : Form) (c : Call) → Fair g im gh c (power_of s im f c)
      → (o e : List ℕ) (x : Answer) → Promised s f c im o e x → Keeps g c (power_of s im f c) im o e x

-- ---- room

-- a push of any slip that is not too big is done
abbrev pub CallsTakeAny : Shape → Geometry → List ℕ → Type 0
CallsTakeAny s g im =
    (slip : List ℕ) → too_big g (length slip) ≡ false → (o e : List ℕ) (x : Answer) → Promised s unlimited (pushes slip false) im o e x → x ≡ done

-- of an image of a history of public calls
pub record RoomOfCalls (s : Shape) (g : Geometry) (im : List ℕ) : Type 0 where
  -- the room of popped pages is used again
  pub again : (y : ℕ) → youngest g im ≡ gives y → any_live (page_walk g im (next g y)).heads ≡ false → CallsTakeAny s g im
  -- FullStorage with an empty list ends, on two pages or more, at the next peek or pop with a buffer of a page's data
  pub says_so : (c : Call) → Lent c → waiting g im ≡ [] → data_size g ≤ length (buffer_of c) → (o e : List ℕ) (x : Answer)
      → Promised s unlimited c im o e x → x ≡ empty
  pub frees : (c : Call) → Lent c → 2 ≤ g.pages → (o e : List ℕ) (x : Answer) → Promised s unlimited c im o e x → x ≡ empty → CallsTakeAny s g o

abbrev pub RoomAgainOfCalls : Type 0
RoomAgainOfCalls = (s : Shape) (g : Geometry) (im : List ℕ) (gh : Ghost) → Played s g im gh → RoomOfCalls s g im
