-- Demand 1: where events lie, and what bytes outside the range have to do with a call. Assumes nothing.
use Rattle.std.specs.Prelude.{◌≡◌, List, ℕ, ◌+◌, ◌-◌, ◌%◌, ◌≤◌, ◌<◌, length, take, drop, Ok}
use Rattle.paper.specs.declared.Shape.{Shape}
use Rattle.paper.specs.declared.Geometry.{Geometry}
use Rattle.paper.specs.Chip.{range_end, part, Event, store, erase, copy, image_after, buffer_after}
use Rattle.paper.specs.Refusals.{geometry_of, check}
use Rattle.paper.specs.Calls.{Call, plan_of, requested, limited}
pub use Rattle.paper.specs.Ways.{Each}

-- "Each store touches one word or one page": one aligned word inside the range; one page of it; a copy reads inside the range
abbrev pub Lies : Geometry → Event → Type 0
Lies g (store a word) = (length word ≡ g.word) × (a % g.word ≡ 0) × (g.start ≤ a) × (a + g.word ≤ range_end g)
Lies g (erase p) = p < g.pages
Lies g (copy a n) = (g.start ≤ a) × (a + n ≤ range_end g)

-- "Bytes outside the stated range never change": i before, o afterwards
pub record Outside (s : Shape) (i o : List ℕ) : Type 0 where
  pub size : length o ≡ length i
  pub below : take s.start o ≡ take s.start i
  pub above : drop s.end o ≡ drop s.end i

-- two images that agree on the range, and of which the check says the same: their lengths may differ
abbrev pub Agree : Shape → List ℕ → List ℕ → Type 0
Agree s i j = (check (length i) s ≡ check (length j) s) × (part s.start (s.end - s.start) i ≡ part s.start (s.end - s.start) j)

-- the image that a call leaves, whole, and with a limit of k stores; and the buffer
abbrev pub image_left : Shape → List ℕ → Call → List ℕ
image_left s im c = image_after (geometry_of s) (requested s im c).events im

abbrev pub image_limit : ℕ → Shape → List ℕ → Call → List ℕ
image_limit k s im c = image_after (geometry_of s) (limited k (requested s im c)).events im

abbrev pub buffer_limit : ℕ → Shape → List ℕ → Call → List ℕ → List ℕ
buffer_limit k s im c buf = buffer_after (geometry_of s) (limited k (requested s im c)).events im buf

pub record InRange : Type 0 where
  pub events_lie : (g : Geometry) (im : List ℕ) (s : Shape) → check (length im) s ≡ Ok g → (c : Call) → Each (Lies g) (plan_of g im c).events
  pub outside_whole : (s : Shape) (im : List ℕ) (c : Call) → Outside s im (image_left s im c)
  pub outside_limited : (k : ℕ) (s : Shape) (im : List ℕ) (c : Call) → Outside s im (image_limit k s im c)
  -- ".. and have no say": on images that agree on the range a call has the same events and answer, leaves images that agree, and the same
  -- buffer; with a limit from the number of its stores on it is whole
  pub no_say : (s : Shape) (im jm : List ℕ) → Agree s im jm → (c : Call) → requested s im c ≡ requested s jm c
  pub no_say_image : (k : ℕ) (s : Shape) (im jm : List ℕ) → Agree s im jm → (c : Call) → Agree s (image_limit k s im c) (image_limit k s jm c)
  pub no_say_buffer : (k : ℕ) (s : Shape) (im jm : List ℕ) → Agree s im jm → (c : Call) (buf : List ℕ) → buffer_limit k s im c buf ≡ buffer_limit k s jm c buf
