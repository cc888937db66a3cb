-- A slip on flash: header and payload, and what stands at an address. Assumes nothing.
use Rattle.std.specs.Prelude.{Bool, true, cond, ◌||◌, ◌&&◌, List, [], ◌∷◌, ◌++◌, ℕ, zero, suc, ◌+◌, ◌-◌, ◌*◌, ◌/◌, ◌%◌, eqb, leb, ltb, length, take, replicate}
use Rattle.paper.specs.Checksum.{length_crc}
use Rattle.paper.specs.Chip.{Geometry, round_up, header_size, part}

-- a number in k bytes, "little-endian", and back
unfoldable pub bytes_of : ℕ → ℕ → List ℕ
bytes_of zero n = []
bytes_of (suc k) n = n % 256 ∷ bytes_of k (n / 256)

unfoldable pub number_of : List ℕ → ℕ
number_of [] = 0
number_of (b ∷ bs) = b + 256 * number_of bs

-- "Header: data CRC 4 bytes, length 2, length CRC 2, all little-endian; padded with FF up to a word."
unfoldable pub encode : Geometry → ℕ → ℕ → List ℕ
encode g crc len = bytes_of 4 crc ++ (bytes_of 2 len ++ (bytes_of 2 (length_crc (bytes_of 2 len)) ++ replicate (header_size g - 8) 0xff))

-- all bytes are FF
unfoldable pub blank : List ℕ → Bool
blank [] = true
blank (b ∷ bs) = eqb b 0xff && blank bs

-- what stands at an address of a page's data: nothing more; no header; or an item, with its stored CRC, its length and its payload
pub data Look : Type 0 where
  stop : Look
  bad : Look
  item : ℕ → ℕ → List ℕ → Look

-- "If the length CRC is wrong, or the item would pass the end": bad. d is what stands from an address to the end of the page's data
unfoldable pub decode : Geometry → List ℕ → Look
decode g d =
    let len = number_of (part 4 2 d) in
    cond (eqb (length_crc (part 4 2 d)) (number_of (part 6 2 d)) && leb (header_size g + round_up g.word len) (length d))
    (item (number_of (take 4 d)) len (part (header_size g) len d))
    bad

-- "If the header would pass the end, or all its bytes (padding included) are FF, stop."
unfoldable pub look : Geometry → List ℕ → Look
look g d = cond (ltb (length d) (header_size g) || blank (take (header_size g) d)) stop (decode g d)
