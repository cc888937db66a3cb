-- What reading an item does and answers. Assumes nothing.
use Rattle.std.specs.Prelude.{◌≡◌, cond, not, ◌&&◌, List, [], ◌∷◌, Result, Ok, Err, ℕ, ◌+◌, leb, ltb, length}
use Rattle.paper.specs.declared.Geometry.{Geometry}
use Rattle.paper.specs.Chip.{Event, copy, round_up, header_size, part, buffer_after}
use Rattle.paper.specs.Scan.{Head, live, present}
use Rattle.chip.specs.declared.Address.{Address}
use Rattle.item.specs.declared.ItemHeader.{ItemHeader}
use Rattle.item.specs.declared.Item.{Item}
use Rattle.item.specs.declared.MaybeItem.{MaybeItem}
use Rattle.item.specs.declared.MaybeItem.TheVariants as maybe
use Rattle.item.specs.declared.TooSmall.{TooSmall}

-- an accepted header h at address a, as the paper has it
abbrev pub head_at : Geometry → List ℕ → ℕ → ItemHeader → Head
head_at g im a h = record { place = a; crc = h.crc; len = h.length; body = part (a + header_size g) h.length im }

-- the same as an item
abbrev pub item_of : Geometry → Address → ItemHeader → Item
item_of g a h = record { header = h; address = a; size = round_up g.word h.length }

-- what reading it copies to the front of a buffer of n bytes: the rounded payload of a live header, where it fits
unfoldable pub copies : Geometry → ℕ → Head → List Event
copies g n h =
    let size = round_up g.word h.len in
    cond (live h && leb size n) (copy (h.place + header_size g) size ∷ []) []

-- what reading it answers: popped; too long for the buffer; waiting; or torn
unfoldable pub read_as : ℕ → Head → Item → Result MaybeItem TooSmall
read_as n h x =
    cond (not (live h)) (Ok (maybe.Erased x))
    (cond (ltb n x.size) (Err (record { 0 = x.size }))
    (cond (present h) (Ok (maybe.Present x)) (Ok (maybe.Corrupted x))))

-- reading the item of header h at address a takes the buffer from d to e and answers r
pub record ReadIs (g : Geometry) (im : List ℕ) (a : Address) (h : ItemHeader) (d e : List ℕ) (r : Result MaybeItem TooSmall) : Type 0 where
  pub answer : r ≡ read_as (length d) (head_at g im a.0 h) (item_of g a h)
  pub buffer : e ≡ buffer_after g (copies g (length d) (head_at g im a.0 h)) im d
