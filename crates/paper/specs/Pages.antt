-- Page marks and states, the ring of pages, youngest and oldest, repair. Assumes nothing.
use Rattle.std.specs.Prelude.{Bool, true, false, cond, List, [], ◌∷◌, ◌++◌, ℕ, zero, suc, ◌+◌, ◌-◌, eqb, leb, replicate}
use Rattle.std.specs.Int.Count.{ones}
use Rattle.paper.specs.Chip.{Geometry, page_start, data_end, part, Event, store, erase_page, Try, fails, gives, on_given}
pub use Rattle.paper.specs.declared.PageState.{PageState}
pub use Rattle.paper.specs.declared.PageState.TheVariants.{Open, PartialOpen, Closed, Corrupted}

-- ---- marks

-- "ones counted in each mark byte and subtracted from eight, summed over the word"
unfoldable pub zero_bits : List ℕ → ℕ
zero_bits [] = 0
zero_bits (b ∷ bs) = 8 - ones b + zero_bits bs

-- "A mark is set when at least four of its bits are zero."
unfoldable pub is_set : List ℕ → Bool
is_set mark = leb 4 (zero_bits mark)

-- "First and last word of a page."
unfoldable pub start_mark : Geometry → List ℕ → ℕ → List ℕ
start_mark g im p = part (page_start g p) g.word im

unfoldable pub end_mark : Geometry → List ℕ → ℕ → List ℕ
end_mark g im p = part (data_end g p) g.word im

-- "Neither set: Open. First only: PartialOpen. Both: Closed. Last only: Corrupted."
abbrev pub state_by : Bool → Bool → PageState
state_by false false = Open
state_by true false = PartialOpen
state_by true true = Closed
state_by false true = Corrupted

unfoldable pub state : Geometry → List ℕ → ℕ → PageState
state g im p = state_by (is_set (start_mark g im p)) (is_set (end_mark g im p))

-- "Setting a mark stores zeros."
unfoldable pub set_start : Geometry → ℕ → Event
set_start g p = store (page_start g p) (replicate g.word 0)

unfoldable pub set_end : Geometry → ℕ → Event
set_end g p = store (data_end g p) (replicate g.word 0)

-- whether two states are the same
abbrev pub rank : PageState → ℕ
rank Open = 0
rank PartialOpen = 1
rank Closed = 2
rank Corrupted = 3

abbrev pub same : PageState → PageState → Bool
same s t = eqb (rank s) (rank t)

-- ---- the ring

-- "Next is n-1 to 0 round."
unfoldable pub next : Geometry → ℕ → ℕ
next g p = cond (eqb (suc p) g.pages) 0 (suc p)

-- k pages, going round from page p
unfoldable pub around : Geometry → ℕ → ℕ → List ℕ
around g zero p = []
around g (suc k) p = p ∷ around g k (next g p)

-- all pages, going round from page p; all pages in page order
unfoldable pub from : Geometry → ℕ → List ℕ
from g p = around g g.pages p

unfoldable pub all_pages : Geometry → List ℕ
all_pages g = from g 0

-- a search meets a Corrupted page, finds a page, or comes to its end
pub data Found : Type 0 where
  failed : Found
  found : ℕ → Found
  missing : Found

-- "Searches go page by page and stop at the page sought; the step fails when a page so reached .. is Corrupted."
unfoldable pub first : Geometry → List ℕ → PageState → List ℕ → Found
first g im want [] = missing
first g im want (p ∷ ps) =
    let later = first g im want ps in
    cond (same (state g im p) Corrupted) failed (cond (same (state g im p) want) (found p) later)

-- a page found; else as given
abbrev pub found_or : Found → Try Unit ℕ → Try Unit ℕ
found_or failed other = fails tt
found_or (found p) other = gives p
found_or missing other = other

-- "The first Open going round from the first Closed; else page 0 where no page is Closed; else Corrupted."
abbrev pub open_from : Geometry → List ℕ → Found → Try Unit ℕ
open_from g im failed = fails tt
open_from g im (found c) = found_or (first g im Open (from g c)) (fails tt)
open_from g im missing = gives 0

-- "Youngest page: first PartialOpen from page 0; else" that
unfoldable pub youngest : Geometry → List ℕ → Try Unit ℕ
youngest g im = found_or (first g im PartialOpen (all_pages g)) (open_from g im (first g im Closed (all_pages g)))

-- "Oldest: first Closed going round from the youngest, else the youngest."
unfoldable pub oldest : Geometry → List ℕ → Try Unit ℕ
oldest g im = on_given (youngest g im) (λ y. found_or (first g im Closed (from g y)) (gives y))

-- ---- repair

-- "Repair: erase every page whose state is Corrupted, in page order."
unfoldable pub repairs : Geometry → List ℕ → List ℕ → List Event
repairs g im [] = []
repairs g im (p ∷ ps) = let later = repairs g im ps in cond (same (state g im p) Corrupted) (erase_page g p ++ later) later

unfoldable pub repair : Geometry → List ℕ → List Event
repair g im = repairs g im (all_pages g)
