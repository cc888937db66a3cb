-- Where the pages of a good geometry lie, and what fits into their data. Assumes nothing.
use mathlib.Core.Path.{◌≡◌, refl}
use Prim.Native.Nat.{ℕ, ◌+◌, ◌*◌, ◌≤◌, ◌<◌}
use native.Mathlib.Omega.{arith}
use Rattle.paper.specs.declared.Geometry.{Geometry}
use Rattle.paper.specs.Chip.{round_up, round_down, header_size, page_start, data_start, data_size, data_end}
use Rattle.laws.proofs.Places.{page_in}
use Rattle.laws.proofs.Rounding.{round_up_behind}
use Rattle.chip.specs.Within.{address_limit, Good, Within}

-- where a page and its data begin and end, in an image of n bytes
pub record DataIn (g : Geometry) (p n : ℕ) : Type 0 where
  pub starts : data_start g p ≡ page_start g p + g.word
  pub ends : data_end g p + g.word ≡ page_start g p + g.page
  pub sizes : data_end g p ≡ data_start g p + data_size g
  pub size : data_size g + 2 * g.word ≡ g.page
  pub within : page_start g p + g.page ≤ n
  pub top : page_start g p + g.page < address_limit

pub data_in : (g : Geometry) (p n : ℕ) → Within g n → p < g.pages → DataIn g p n
unfolding data_start data_end data_size
data_in g p n w h =
    let q = page_in g p h in
    let r = w.good.sized.room in
    let t = w.good.top in
    let e = w.ends in
    record { starts = refl; ends = omega arith; sizes = refl; size = omega arith; within = omega arith; top = omega arith }

-- what fits into whole words behind a header fits there rounded up
pub item_fits : (g : Geometry) (n r : ℕ) → Good g → header_size g + n ≤ round_down g.word r → header_size g + round_up g.word n ≤ round_down g.word r
unfolding header_size
item_fits g n r h l = round_up_behind g.word 8 n r h.sized.low l
