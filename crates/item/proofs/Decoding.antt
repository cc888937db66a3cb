-- What the paper's `decode` of some bytes comes to, by the tests that the code makes. Assumes nothing.
use mathlib.Core.Path.{◌≡◌}
use mathlib.Core.List.{List, [], ◌∷◌}
use Prim.Native.Nat.{ℕ, suc, ◌+◌, ◌≤◌, ◌<◌}
use borrow.Author.Tests.{eq-eqb, ne_eqb, le-leb, lt-leb}
use native.Mathlib.Omega.{arith}
use lib.ListN.{length, get_or, take}
use Rattle.std.specs.Int.{w16, w32, from_le_bytes}
use Rattle.paper.specs.declared.Geometry.{Geometry}
use Rattle.paper.specs.Checksum.{length_crc}
use Rattle.paper.specs.Chip.{round_up, header_size, part}
use Rattle.paper.specs.Slip.{number_of, bad, item, decode}
use Rattle.item.proofs.Parts.{part_two, take_four}

-- ---- the library's number of two bytes, and of the first four, is the paper's

module _ (d : List ℕ) where
  pub two_at : (a : ℕ) → a + 2 ≤ length d → from_le_bytes w16 (get_or d a 0 ∷ get_or d (suc a) 0 ∷ []) ≡ number_of (part a 2 d)
  unfolding number_of
  two_at a h = rw (part_two d a h) (omega arith)

  pub first_four : 4 ≤ length d
      → from_le_bytes w32 (get_or d 0 0 ∷ get_or d 1 0 ∷ get_or d 2 0 ∷ get_or d 3 0 ∷ []) ≡ number_of (take 4 d)
  unfolding number_of
  first_four h = rw (take_four d h) (omega arith)

-- ---- by the code's tests

module _ (g : Geometry) (d : List ℕ) where
  pub decode_unequal : (length_crc (part 4 2 d) ≡ number_of (part 6 2 d) → ⊥) → bad ≡ decode g d
  unfolding decode
  decode_unequal n = rw (ne_eqb _ _ n)

  module _ (e : length_crc (part 4 2 d) ≡ number_of (part 6 2 d)) where
    pub decode_long : length d < header_size g + round_up g.word (number_of (part 4 2 d)) → bad ≡ decode g d
    unfolding decode
    decode_long l = rw (eq-eqb _ _ e, lt-leb _ _ l)

    pub decode_item : header_size g + round_up g.word (number_of (part 4 2 d)) ≤ length d
        → item (number_of (take 4 d)) (number_of (part 4 2 d)) (part (header_size g) (number_of (part 4 2 d)) d) ≡ decode g d
    unfolding decode
    decode_item l = rw (eq-eqb _ _ e, le-leb _ _ l)
