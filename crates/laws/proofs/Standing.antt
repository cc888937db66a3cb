-- Where a search may stand, and in which page; at the first address of a page's data it reads that page. Assumes nothing.
use mathlib.Core.Bool.{Bool}
use mathlib.Core.List.{List}
use mathlib.Core.Path.{◌≡◌}
use Prim.Native.Nat.{ℕ, suc, ◌+◌, ◌-◌, ◌≤◌, ◌<◌}
use native.Mathlib.Nat.{div-eq_of_lt-le, div-lt_iff_lt-mul, div-mul-le_self}
use native.Mathlib.Omega.{arith}
use Rattle.paper.specs.declared.Geometry.{Geometry}
use Rattle.paper.specs.Chip.{page_start, range_end, data_start, data_size, data_end, page_of, page_data, bind}
use Rattle.paper.specs.Scan.{page_walk, walk_on}
use Rattle.paper.specs.Search.{read_heads, from_address, after_page, on_met, read_page, next_item}
use Rattle.laws.specs.Readable.{ReadableFrom}
use Rattle.laws.proofs.Places.{page_in}

module _ (g : Geometry) (inner : g.word < g.page) where
  -- an address between a page's start and its end is of that page
  pub page_of_between : (p a : ℕ) → page_start g p ≤ a → a < page_start g p + g.page → page_of g a ≡ p
  unfolding page_of page_start
  page_of_between p a l u = div-eq_of_lt-le {k = p} g.page (omega arith) (omega arith)

  pub page_of_start : (p : ℕ) → page_of g (data_start g p) ≡ p
  unfolding data_start
  page_of_start p = page_of_between p (data_start g p) (omega arith) (omega arith)

  -- an address of the range lies in one of its pages, and not before it
  module _ (a : ℕ) (low : g.start ≤ a) where
    pub page_of_in : a < range_end g → page_of g a < g.pages
    unfolding page_of range_end
    page_of_in high = (div-lt_iff_lt-mul {k = g.page} (omega arith)).1 (omega arith)

    pub page_of_low : page_start g (page_of g a) ≤ a
    unfolding page_of page_start
    page_of_low = omega (arith, div-mul-le_self (a - g.start) g.page)

  -- a search may stand between a page's start and its data's end
  pub between_readable : 0 < g.word → (p a : ℕ) → p < g.pages → page_start g p ≤ a → a ≤ data_end g p → ReadableFrom g a
  unfolding data_end data_start data_size page_start
  between_readable w p a h l u =
      let e = page_of_between p a l (omega arith) in
      record { low = omega arith; high = omega (arith, page_in g p h); ends = (rw e u) }

  pub start_readable : 0 < g.word → (p : ℕ) → p < g.pages → ReadableFrom g (data_start g p)
  unfolding data_end data_start
  start_readable w p h = between_readable w p (data_start g p) h (omega arith) (omega arith)

  pub walk_on_start : (im : List ℕ) (p : ℕ) → walk_on g im (data_start g p) ≡ page_walk g im p
  unfolding walk_on page_walk page_data data_end
  walk_on_start im p =
      let z : data_start g p + data_size g - data_start g p ≡ data_size g = omega arith in
      rw (page_of_start p, z)

  pub read_start : (n old : ℕ) (clears : Bool) (k p : ℕ) (im : List ℕ)
      → next_item g n old clears (suc k) (from_address (data_start g p)) im
      ≡ bind g im (read_heads g n (data_start g p) (page_walk g im p).heads im) (on_met g p (next_item g n old clears k (after_page p)))
  unfolding next_item read_page
  read_start n old clears k p im = rw (page_of_start p, walk_on_start im p)
