-- The scan of a page's data: accepted headers, refused addresses, and what is left at the free spot. Assumes nothing.
use Rattle.std.specs.Prelude.{Bool, false, cond, ◌||◌, ◌&&◌, not, List, [], ◌∷◌, ℕ, zero, suc, ◌+◌, ◌-◌, eqb, leb, length}
use Rattle.paper.specs.Checksum.{data_crc}
use Rattle.paper.specs.Chip.{Geometry, round_up, round_down, header_size, data_start, data_end, page_of, part, page_data}
use Rattle.paper.specs.Slip.{Look, stop, bad, item, look}

-- an accepted header: its address, stored CRC and length; and the payload's part of the image
pub record Head : Type 0 where
  pub place : ℕ
  pub crc : ℕ
  pub len : ℕ
  pub body : List ℕ

-- what a walk comes to; it ends at the free spot, and rest is what stands from there to the end of the data
pub record Walk : Type 0 where
  pub heads : List Head
  pub refused : List ℕ
  pub rest : List ℕ

-- at address a: "stop"; "go on one word"; "step past the item". `skip n` is the walk from n bytes further on
unfoldable pub onward : Geometry → ℕ → List ℕ → Look → (ℕ → Walk) → Walk
onward g a d stop skip = record { heads = []; refused = []; rest = d }
onward g a d bad skip =
    let w = skip g.word in
    record { heads = w.heads; refused = a ∷ w.refused; rest = w.rest }
onward g a d (item crc len body) skip =
    let w = skip (header_size g + round_up g.word len) in
    record { heads = record { place = a; crc = crc; len = len; body = body } ∷ w.heads; refused = w.refused; rest = w.rest }

-- the walk over the bytes from address a on, after the first k of them
unfoldable pub walk : Geometry → ℕ → ℕ → List ℕ → Walk
walk g k a [] = record { heads = []; refused = []; rest = [] }
walk g (suc k) a (b ∷ bs) = walk g k (suc a) bs
walk g zero a (b ∷ bs) = onward g a (b ∷ bs) (look g (b ∷ bs)) (λ n. walk g (n - 1) (suc a) bs)

unfoldable pub page_walk : Geometry → List ℕ → ℕ → Walk
page_walk g im p = walk g 0 (data_start g p) (page_data g im p)

-- from address a on, in the page that it lies in
unfoldable pub walk_on : Geometry → List ℕ → ℕ → Walk
walk_on g im a = walk g 0 a (part a (data_end g (page_of g a) - a) im)

-- "So the walk ends with the address of the free spot."
unfoldable pub free_spot : Geometry → List ℕ → ℕ → ℕ
free_spot g im p = data_end g p - length (page_walk g im p).rest

-- "A spot serves when end - spot, rounded down to a word, less the header, is at least the length."
unfoldable pub serves : Geometry → List ℕ → ℕ → Bool
serves g rest n = leb (header_size g + n) (round_down g.word (length rest))

-- "A live header is one the scan accepts with CRC not 0, torn or not."
unfoldable pub live : Head → Bool
live h = not (eqb h.crc 0)

unfoldable pub any_live : List Head → Bool
any_live [] = false
any_live (h ∷ hs) = live h || any_live hs

-- an item is present where it is live and its payload has the stored CRC; a live item that is not present is torn
unfoldable pub present : Head → Bool
present h = live h && eqb (data_crc h.body) h.crc

-- "payloads of present items", in order
unfoldable pub payloads : List Head → List (List ℕ)
payloads [] = []
payloads (h ∷ hs) = let later = payloads hs in cond (present h) (h.body ∷ later) later
