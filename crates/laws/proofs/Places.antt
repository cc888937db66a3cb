-- Where pages lie, and that their data are whole words. Assumes nothing.
use mathlib.Core.Path.{◌≡◌}
use Prim.Native.Nat.{ℕ, suc, ◌+◌, ◌≤◌, ◌<◌, ◌∣◌}
use native.Mathlib.Nat.{mul-le-mul_right, suc-mul, div-mul_cancel, dvd-sub, dvd-mul_left}
use native.Mathlib.Omega.{arith}
use Rattle.paper.specs.declared.Geometry.{Geometry}
use Rattle.paper.specs.Chip.{round_down, page_start, range_end, data_size}

-- a page ends before every later one begins
pub page_below : (g : Geometry) (p q : ℕ) → p < q → page_start g p + g.page ≤ page_start g q
unfolding page_start
page_below g p q h = omega (arith, mul-le-mul_right {m = suc p} {n = q} g.page h, suc-mul p g.page)

-- and within the range
pub page_in : (g : Geometry) (p : ℕ) → p < g.pages → page_start g p + g.page ≤ range_end g
unfolding page_start range_end
page_in g p h = page_below g p g.pages h

pub data_divides : (g : Geometry) → g.word ∣ g.page → g.word ∣ data_size g
unfolding data_size
data_divides g h = dvd-sub g.word h (dvd-mul_left g.word 2)

pub data_whole : (g : Geometry) → g.word ∣ g.page → round_down g.word (data_size g) ≡ data_size g
unfolding round_down
data_whole g h = div-mul_cancel g.word (data_divides g h)
