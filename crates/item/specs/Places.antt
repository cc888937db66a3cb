-- Where items stand: what the functions that read and write them require. Assumes nothing.
use Rattle.std.specs.Prelude.{ℕ, ◌+◌, ◌≤◌, ◌<◌}
use Rattle.paper.specs.declared.Geometry.{Geometry}
use Rattle.paper.specs.Chip.{round_up, header_size}
use Rattle.chip.specs.Within.{address_limit, Good}

-- the address behind an item of len bytes at address a
abbrev pub after : Geometry → ℕ → ℕ → ℕ
after g a len = a + header_size g + round_up g.word len

-- address a lies in data that ends at e, in an image of n bytes
pub record Inside (g : Geometry) (n a e : ℕ) : Type 0 where
  pub good : Good g
  pub order : a ≤ e
  pub ends : e ≤ n

-- an item of len bytes at address a lies in an image of n bytes
pub record Room (g : Geometry) (n a len : ℕ) : Type 0 where
  pub good : Good g
  pub fits : after g a len ≤ n
  pub top : after g a len < address_limit
