-- The premise of the cut payload by counting stores: on the images of a history it says what the one that reads the header says. Assumes nothing.
use Rattle.std.specs.Prelude.{◌≡◌, ℕ, ◌+◌, ◌-◌, length}
use mathlib.Core.List.{List, Memᴰ}
use Rattle.paper.specs.declared.Geometry.{Geometry}
use Rattle.paper.specs.Checksum.{data_crc}
use Rattle.paper.specs.Chip.{header_size, words_for, part}
use Rattle.paper.specs.Calls.{Call}
use Rattle.paper.specs.Fifo.{Power, whole, cut_after, Counted, slip_of, image_next, header_at, Ghost, Bytes, NoPassing, Reached}

-- once a cut push has made all stores of its header: what then stands in the payload's place passes only where it is the slip
abbrev pub PassingCounted : Geometry → List ℕ → Call → Power → Type 0
PassingCounted g im c whole = Unit {0}
PassingCounted g im c (cut_after k) =
    (a : ℕ) → Memᴰ a (header_at g im c (cut_after k) (words_for g.word (header_size g) - 1))
    → let stored = part (a + header_size g) (length (slip_of c)) (image_next g im c (cut_after k)) in
    data_crc stored ≡ data_crc (slip_of c) → stored ≡ slip_of c

-- of every call of a history
abbrev pub SameCounted : Type 0
SameCounted =
    (g : Geometry) (im : List ℕ) (gh : Ghost) → Reached g im gh → (c : Call) (w : Power) → Counted c w → Bytes (slip_of c)
    → (NoPassing g im c w → PassingCounted g im c w) × (PassingCounted g im c w → NoPassing g im c w)
