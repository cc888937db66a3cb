-- When a new item's header reads whole: not before the first word, and once it does, it stays so. Assumes nothing.
use mathlib.Core.List.{List}
use mathlib.Core.Logic.{◌⊎◌, inl, inr}
use Prim.Native.Nat.{ℕ, suc, ◌*◌, ◌/◌, ◌≤◌, ◌<◌}
use native.Mathlib.Nat.{suc-mul, zero-mul}
use native.Mathlib.Omega.{arith}
use lib.ListN.{length}
use Rattle.paper.specs.declared.Geometry.{Geometry}
use Rattle.paper.specs.Checksum.{length_crc}
use Rattle.paper.specs.Chip.{header_size}
use Rattle.paper.specs.Slip.{bytes_of}
use Rattle.laws.proofs.Sides.{Side, below, above, side, Apart, is, differs, apart}
use Rattle.demand3.proofs.Sizes.{below_header}
use Rattle.demand3.proofs.FreeSpot.{Site}
use Rattle.demand3.proofs.Item.{item_words}
use Rattle.demand3.proofs.BegunHeader.{LastTells}
use Rattle.demand3.proofs.Written.{Writable, with_words, HeaderReads, written_reads, seven_reads, begun_no_header}

module _ {g : Geometry} {im : List ℕ} {S : Site g im} {slip : List ℕ} (F : Writable S slip) where
  abbrev Reads : ℕ → Type 0
  Reads j = HeaderReads S slip (with_words S slip j)

  pos : 0 < g.word
  pos = S.inv.good.sized.low

  pub none_read : HeaderReads S slip (with_words S slip 0) → ⊥
  none_read = begun_no_header F 0 (omega arith) (omega (arith, zero-mul g.word)) (λ q. absurd (omega (arith, zero-mul g.word)))

  module _ (j : ℕ) (hj : j ≤ item_words g slip) where
    pub read_or_not : HeaderReads S slip (with_words S slip j) ⊎ (HeaderReads S slip (with_words S slip j) → ⊥)
    read_or_not = by (side (j * g.word) (header_size g))
      where
        last : j * g.word < 8 → Apart (j * g.word) 7 → Apart (length_crc (bytes_of 2 (length slip)) / 256) 255 → Reads j ⊎ (Reads j → ⊥)
        last l (is e) (is f) = inl (seven_reads F j hj l e f)
        last l (is e) (differs f) = inr (begun_no_header F j hj l (λ q. f))
        last l (differs e) f = inr (begun_no_header F j hj l (λ q. absurd (e q)))

        by : Side (j * g.word) (header_size g) → Reads j ⊎ (Reads j → ⊥)
        by (above h) = inl (written_reads F j hj h)
        by (below h) = last (below_header g pos j h) (apart (j * g.word) 7) (apart (length_crc (bytes_of 2 (length slip)) / 256) 255)

    -- where it does not, fewer than 8 bytes are written, and a missing last one tells
    module _ (n : HeaderReads S slip (with_words S slip j) → ⊥) where
      pub unread_few : j * g.word < 8
      unread_few = by (side (j * g.word) (header_size g))
        where
          by : Side (j * g.word) (header_size g) → j * g.word < 8
          by (above h) = absurd (n (written_reads F j hj h))
          by (below h) = below_header g pos j h

      pub unread_tells : LastTells (j * g.word) (length slip)
      unread_tells e f = n (seven_reads F j hj unread_few e f)

  pub stays_read : (j : ℕ) → suc j ≤ item_words g slip → HeaderReads S slip (with_words S slip j) → HeaderReads S slip (with_words S slip (suc j))
  stays_read j hj r = by (side (suc j * g.word) (header_size g))
    where
      by : Side (suc j * g.word) (header_size g) → Reads (suc j)
      by (above h) = written_reads F (suc j) hj h
      by (below h) =
          let l : j * g.word < 7 = omega (arith, below_header g pos (suc j) h, suc-mul j g.word) in
          absurd (begun_no_header F j (omega arith) (omega arith) (λ q. let z : ⊥ = omega arith in absurd z) r)
