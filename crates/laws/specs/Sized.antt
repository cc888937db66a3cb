-- The sizes of a geometry that passed the check. Assumes nothing.
use Rattle.std.specs.Prelude.{◌+◌, ◌*◌, ◌≤◌, ◌<◌}
use Rattle.std.specs.Int.{◌∣◌}
use Rattle.paper.specs.declared.Geometry.{Geometry}
use Rattle.paper.specs.Chip.{header_size}
use Rattle.paper.specs.Refusals.{word_limit, page_limit, page_count_limit}

-- a word of any size from 1 to 32, whole words in a page, room for marks, a header and a word of data, and no page too large or too many
pub record Sized (g : Geometry) : Type 0 where
  pub low : 0 < g.word
  pub high : g.word ≤ word_limit
  pub whole : g.word ∣ g.page
  pub room : 3 * g.word + header_size g ≤ g.page
  pub small : g.page ≤ page_limit
  pub some : 0 < g.pages
  pub few : g.pages ≤ page_count_limit
