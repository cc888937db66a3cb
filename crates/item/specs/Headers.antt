-- What the functions on headers answer. Assumes nothing.
use Rattle.std.specs.Prelude.{◌≡◌, cond, List, Option, Some, None, Result, Ok, Err, ℕ, ◌-◌, ltb}
use Rattle.paper.specs.declared.Geometry.{Geometry}
use Rattle.paper.specs.Chip.{round_down, header_size, part}
use Rattle.paper.specs.Slip.{Look, stop, bad, item, look}
use Rattle.paper.specs.Refusals.{Answer, number, none}
use Rattle.chip.specs.declared.Corrupted.{Corrupted}
use Rattle.item.specs.declared.ItemHeader.{ItemHeader}

-- what `read_new` answers, as the paper's look at the bytes d that stand from the address to the end of the data
abbrev pub look_as : Geometry → List ℕ → Result (Option ItemHeader) Corrupted → Look
look_as g d (Ok None) = stop
look_as g d (Err e) = bad
look_as g d (Ok (Some h)) = item h.crc h.length (part (header_size g) h.length d)

-- r is what the paper's look finds at the front of the bytes d
abbrev pub HeaderIs : Geometry → List ℕ → Result (Option ItemHeader) Corrupted → Type 0
HeaderIs g d r = look_as g d r ≡ look g d

-- the payload that n bytes have room for: n rounded down to a word, less the header
unfoldable pub available : Geometry → ℕ → Option ℕ
available g n =
    let end = round_down g.word n in
    cond (ltb end (header_size g)) None (Some (end - header_size g))

-- the same as an answer of the paper
abbrev pub available_as : Option ℕ → Answer
available_as (Some n) = number n
available_as None = none
