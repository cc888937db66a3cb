-- A search may stand between a page's start and its data's end; there it reads on to that end. Assumes nothing.
use mathlib.Core.Path.{◌≡◌, refl}
use Prim.Native.Nat.{ℕ, ◌≤◌, ◌<◌}
use native.Mathlib.Omega.{arith}
use borrow.Author.Tests.{lt-ltb, le-ltb}
use Rattle.paper.specs.declared.Geometry.{Geometry}
use Rattle.paper.specs.Chip.{page_start, data_start, data_end, page_of}
use Rattle.paper.specs.Search.{from_address, after_page, stand_at}
use Rattle.laws.specs.Readable.{ReadableFrom}
use Rattle.laws.proofs.Standing.{page_of_low, between_readable}
use Rattle.chip.specs.Within.{Good, Within}
use Rattle.chip.proofs.Geometry.{data_in}
use Rattle.item.specs.Places.{Inside}

-- every page has more than a word
inner : {g : Geometry} → Good g → g.word < g.page
inner good = omega (arith, good.sized.room, good.sized.low)

pub readable : {g : Geometry} {n p a : ℕ} → Within g n → p < g.pages → page_start g p ≤ a → a ≤ data_end g p → ReadableFrom g a
readable {g} {n} {p} {a} w h l u = between_readable g (inner w.good) w.good.sized.low p a h l u

pub start_readable : {g : Geometry} {n p a : ℕ} → Within g n → p < g.pages → a ≡ data_start g p → ReadableFrom g a
start_readable {g} {n} {p} w h e =
    let d = data_in g p n w h in
    readable w h (omega arith) (omega (arith, w.good.sized.room))

-- the page of an address does not begin behind it
pub page_before : {g : Geometry} {n p a : ℕ} → Within g n → g.start ≤ a → p ≡ page_of g a → page_start g p ≤ a
page_before {g} {n} {p} {a} w l q = rw q (page_of_low g (inner w.good) a l)

-- come to address a of page p, the search stands there, or leaves p where its data has ended
pub stands_before : (g : Geometry) {p a : ℕ} → Good g → p < g.pages → page_start g p ≤ a → a < data_end g p
    → (from_address a ≡ stand_at g p a) × ReadableFrom g a
unfolding stand_at
stands_before g {p} {a} good h l t =
    ((rw (lt-ltb a (data_end g p) t) refl), between_readable g (inner good) good.sized.low p a h l (omega arith))

pub stands_behind : (g : Geometry) (p a : ℕ) → data_end g p ≤ a → after_page p ≡ stand_at g p a
unfolding stand_at
stands_behind g p a t = rw (le-ltb a (data_end g p) t) refl

pub left_inside : {g : Geometry} {n p a e : ℕ} → Within g n → p < g.pages → p ≡ page_of g a → ReadableFrom g a → e ≡ data_end g p → Inside g n a e
left_inside {g} {n} {p} w h q f e =
    let d = data_in g p n w h in
    record { good = w.good; order = (rw (e, q) f.ends); ends = omega arith }
