-- A header's size: 8 bytes at least, a word at least; its bytes have that size, and fill whole words. Assumes nothing.
use mathlib.Core.Path.{◌≡◌, ap, ◌∙◌}
use Prim.Native.Nat.{ℕ, ◌+◌, ◌≤◌, ◌<◌}
use native.Mathlib.Omega.{arith}
use lib.ListN.{length, length-replicate}
use Rattle.paper.specs.declared.Geometry.{Geometry}
use Rattle.paper.specs.Chip.{round_up, round_down, header_size}
use Rattle.paper.specs.Slip.{bytes_of, encode}
use Rattle.laws.proofs.Rounding.{round_up_ge, round_up_step, round_up_again, round_up_behind}

module _ (g : Geometry) (low : 0 < g.word) where
  pub header_ge : 8 ≤ header_size g
  unfolding header_size
  header_ge = round_up_ge g.word 8 low

  pub header_word : g.word ≤ header_size g
  unfolding header_size
  header_word = omega (arith, round_up_step g.word 8 low (omega arith))

  -- what serves a length serves it rounded up
  pub header_behind : (r n : ℕ) → header_size g + n ≤ round_down g.word r → header_size g + round_up g.word n ≤ round_down g.word r
  unfolding header_size
  header_behind r n k = round_up_behind g.word 8 n r low k

  pub length_encode : (crc len : ℕ) → length (encode g crc len) ≡ header_size g
  unfolding encode bytes_of
  length_encode crc len = simp length-replicate (omega (arith, header_ge))

  pub encode_whole : (crc len : ℕ) → round_up g.word (length (encode g crc len)) ≡ header_size g
  unfolding header_size
  encode_whole crc len = ap (round_up g.word) (length_encode crc len) ∙ round_up_again g.word 8 low
