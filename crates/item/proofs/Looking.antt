-- What a look tells of the bytes: they have room for a bad header, and for an accepted one with its payload. Assumes nothing.
use mathlib.Core.Path.{◌≡◌}
use mathlib.Core.List.{List}
use Prim.Native.Nat.{ℕ, ◌+◌, ◌≤◌}
use lib.ListN.{length}
use Rattle.paper.specs.declared.Geometry.{Geometry}
use Rattle.paper.specs.Chip.{round_up, header_size}
use Rattle.paper.specs.Slip.{bad, item, look}
use Rattle.laws.proofs.Looking.{look_bad, look_item}

module _ (g : Geometry) (d : List ℕ) where
  pub bad_in : look g d ≡ bad → header_size g ≤ length d
  bad_in e = (look_bad g d e).room

  pub item_in : (crc len : ℕ) (body : List ℕ) → look g d ≡ item crc len body → header_size g + round_up g.word len ≤ length d
  item_in crc len body e = (look_item g d e).room
