-- The list of demand 3 with its addresses: the headers of the slips that wait, in order. Assumes nothing.
use Rattle.std.specs.Prelude.{◌≡◌, true, cond, ◌||◌, ℕ, ◌<◌, eqb}
use mathlib.Core.List.{List, [], ◌∷◌, ◌++◌, Memᴰ}
use Rattle.paper.specs.declared.Geometry.{Geometry}
use Rattle.paper.specs.declared.PageState.TheVariants.{Open}
use Rattle.paper.specs.Chip.{Try, fails, gives}
use Rattle.paper.specs.Scan.{Head, page_walk, present, payloads}
use Rattle.paper.specs.Pages.{state, same, next, from, youngest, oldest}
use Rattle.paper.specs.Waiting.{waiting}
use Rattle.paper.specs.Ways.{Each, Seen, Way}
use Rattle.paper.specs.Fifo.{Ghost, Reached}

-- the headers of a list whose items are present
unfoldable pub presents : List Head → List Head
presents [] = []
presents (h ∷ hs) = let later = presents hs in cond (present h) (h ∷ later) later

-- as `waiting_on` goes over pages
unfoldable pub waiting_heads_on : Geometry → List ℕ → ℕ → List ℕ → List Head
waiting_heads_on g im y [] = []
waiting_heads_on g im y (p ∷ ps) =
    let later = waiting_heads_on g im y ps in
    presents (page_walk g im p).heads ++ cond (eqb p y || same (state g im (next g p)) Open) [] later

abbrev pub waiting_heads_from : Geometry → List ℕ → Try Unit ℕ → Try Unit ℕ → List Head
waiting_heads_from g im (fails u) y = []
waiting_heads_from g im (gives o) (fails u) = []
waiting_heads_from g im (gives o) (gives y) = waiting_heads_on g im y (from g o)

unfoldable pub waiting_heads : Geometry → List ℕ → List Head
waiting_heads g im = waiting_heads_from g im (oldest g im) (youngest g im)

pub record Addressed (g : Geometry) (im : List ℕ) : Type 0 where
  -- their payloads are the list
  pub listed : payloads (waiting_heads g im) ≡ waiting g im
  -- each is present, and the scan of a page accepts it
  pub stand : Each (λ h. (present h ≡ true) × (p : ℕ) × (p < g.pages) × Memᴰ h (page_walk g im p).heads) (waiting_heads g im)

abbrev pub AlwaysAddressed : Type 0
AlwaysAddressed = (g : Geometry) (im : List ℕ) → 0 < g.pages → Addressed g im

-- on an image of a history they are the present ones on the way of a search, and what a peek or pop shows is the first of them
pub record FirstOfThem (g : Geometry) (im : List ℕ) : Type 0 where
  pub on_way : {hs : List Head} → Way g im hs → waiting_heads g im ≡ presents hs
  pub first : {hs : List Head} → Way g im hs → (n k : ℕ) (seen : Seen g n hs k) → waiting_heads g im ≡ seen.head ∷ presents seen.stops.rest

abbrev pub AlwaysFirst : Type 0
AlwaysFirst = (g : Geometry) (im : List ℕ) (gh : Ghost) → Reached g im gh → FirstOfThem g im
