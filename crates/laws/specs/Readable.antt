-- From which addresses a search may read on. Assumes nothing.
use Rattle.std.specs.Prelude.{ℕ, ◌≤◌, ◌<◌}
use Rattle.paper.specs.declared.Geometry.{Geometry}
use Rattle.paper.specs.Chip.{range_end, data_end, page_of}

-- address a lies in the range, and not behind the data of its page
pub record ReadableFrom (g : Geometry) (a : ℕ) : Type 0 where
  pub low : g.start ≤ a
  pub high : a < range_end g
  pub ends : a ≤ data_end g (page_of g a)
