-- What the two functions that only look answer, as numbers: a page's state, and what the scan sees at an address. Assumes nothing.
use Rattle.std.specs.Prelude.{◌≡◌, cond, ◌&&◌, List, ℕ, ◌+◌, ◌-◌, ◌*◌, leb, ltb, length, Result, Ok, Err}
use Rattle.paper.specs.declared.Geometry.{Geometry}
use Rattle.paper.specs.declared.Shape.{Shape}
use Rattle.paper.specs.declared.Refusal.{Refusal}
use Rattle.paper.specs.Chip.{data_start, data_end, part}
use Rattle.paper.specs.Slip.{Look, stop, bad, item, look}
use Rattle.paper.specs.Scan.{Head, live, present}
use Rattle.paper.specs.Pages.{rank, state}
use Rattle.paper.specs.Refusals.{check, row}
use Rattle.codes.specs.Codes.{code, row_code}

-- for a page or an address that is not there
abbrev pub not_there : ℕ
not_there = 255

-- no refusal has this number, and nothing that is there
pub record Free : Type 0 where
  pub refusals : (x : Refusal) → row_code (row x) ≡ not_there → ⊥
  pub values : (v : ℕ) → code 0 v ≡ not_there → ⊥

-- a look at page p: the shape's refusal, then that there is no such page
abbrev pub on_page : Result Geometry Refusal → ℕ → (Geometry → ℕ) → ℕ
on_page (Err r) p own = row_code (row r)
on_page (Ok g) p own = cond (ltb p g.pages) (own g) not_there

unfoldable pub state_code : Shape → List ℕ → ℕ → ℕ
state_code s im p = on_page (check (length im) s) p (λ g. code 0 (rank (state g im p)))

-- 2 for an item that waits, 3 for one that was popped, 4 for a torn one
unfoldable pub kind : Head → ℕ
kind h = cond (live h) (cond (present h) 2 4) 3

-- what stands at address a: nothing more, no header, or an item by its kind and its length
abbrev pub seen : ℕ → Look → ℕ
seen a stop = 0
seen a bad = 1
seen a (item crc len body) = kind (record { place = a; crc = crc; len = len; body = body }) + 8 * len

-- the same for an address in a page's data, its end included
unfoldable pub sight : Geometry → List ℕ → ℕ → ℕ → ℕ
sight g im p a =
    let d = part a (data_end g p - a) im in
    cond (leb (data_start g p) a && leb a (data_end g p)) (code 0 (seen a (look g d))) not_there

unfoldable pub item_code : Shape → List ℕ → ℕ → ℕ → ℕ
item_code s im p a = on_page (check (length im) s) p (λ g. sight g im p a)
