-- What is not too big: its length fits the header, and its item a fresh page. Assumes nothing.
use mathlib.Core.Path.{◌≡◌}
use mathlib.Core.Bool.{false}
use Prim.Native.Nat.{ℕ, ◌+◌, ◌≤◌, ◌<◌}
use native.Mathlib.Omega.{arith}
use Rattle.std.proofs.lemmas.Bool.Decides.{nat_tests}
use Rattle.paper.specs.declared.Geometry.{Geometry}
use Rattle.paper.specs.Chip.{header_size, range_end, data_start, data_size}
use Rattle.paper.specs.Refusals.{length_limit}
use Rattle.paper.specs.Push.{too_big}
use Rattle.laws.proofs.Places.{page_in, data_whole}
use Rattle.chip.specs.Within.{Within}
use Rattle.chip.proofs.Geometry.{data_in, item_fits}
use Rattle.item.specs.Places.{after}

module _ (g : Geometry) (n : ℕ) (e : too_big g n ≡ false) where
  pub small_length : n ≤ length_limit
  unfolding too_big
  small_length = grind (arith, nat_tests)

  small_data : header_size g + n ≤ data_size g
  unfolding too_big
  small_data = grind (arith, nat_tests)

  -- on a fresh page it lies in the range
  pub fresh_in : {m p : ℕ} → Within g m → p < g.pages → after g (data_start g p) n ≤ range_end g
  fresh_in {m} {p} w h =
      let d = data_in g p m w h in
      let q = data_whole g w.good.sized.whole in
      let f = item_fits g n (data_size g) w.good (omega (arith, small_data)) in
      omega (arith, page_in g p h)
