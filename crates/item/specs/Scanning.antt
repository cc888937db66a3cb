-- What the two forms of the scan, and the searches by them, come to. Assumes nothing.
use Rattle.std.specs.Prelude.{◌≡◌, true, false, cond, List, [], ◌∷◌, Option, Some, None, ℕ, ◌+◌, ◌-◌, ◌≤◌, length}
use Rattle.paper.specs.declared.Geometry.{Geometry}
use Rattle.paper.specs.Chip.{data_end, part}
use Rattle.paper.specs.Scan.{Head, Walk, walk, page_walk, free_spot, serves, live}
use Rattle.chip.specs.declared.Address.{Address}
use Rattle.item.specs.declared.Item.{Item}
use Rattle.item.specs.declared.Free.{Free}
use Rattle.item.specs.Places.{after}
use Rattle.item.specs.Reading.{head_at, item_of}

-- the walk from address a on, in data that ends at e
abbrev pub walk_from : Geometry → List ℕ → ℕ → ℕ → Walk
walk_from g im e a = walk g 0 a (part a (e - a) im)

-- ---- the scan that stops at live headers

-- the live ones of a list of headers
unfoldable pub lives : List Head → List Head
lives [] = []
lives (h ∷ hs) = let later = lives hs in cond (live h) (h ∷ later) later

-- the first live header from address a on is that of item x; the others come behind x
pub record Reaches (g : Geometry) (im : List ℕ) (e a : ℕ) (x : Item) : Type 0 where
  pub whole : x ≡ item_of g x.address x.header
  pub order : a ≤ x.address.0
  pub fits : after g x.address.0 x.header.length ≤ e
  pub alive : live (head_at g im x.address.0 x.header) ≡ true
  pub first : lives (walk_from g im e a).heads
      ≡ head_at g im x.address.0 x.header ∷ lives (walk_from g im e (after g x.address.0 x.header.length)).heads

-- r is the first live header from address a on, or there is none
abbrev pub NextIs : Geometry → List ℕ → ℕ → ℕ → Option Item → Type 0
NextIs g im e a (Some x) = Reaches g im e a x
NextIs g im e a None = lives (walk_from g im e a).heads ≡ []

-- ---- the scan that never stops

-- r is the free spot of the walk w, in data that ends at e
pub record FreeIs (w : Walk) (e : ℕ) (r : Free) : Type 0 where
  pub left : r.left ≡ length w.rest
  pub ends : r.address.0 + r.left ≡ e

-- r is the free spot of page p
pub record PageFree (g : Geometry) (im : List ℕ) (p : ℕ) (r : Free) : Type 0 where
  pub is : FreeIs (page_walk g im p) (data_end g p) r
  pub spot : r.address.0 ≡ free_spot g im p

-- the free spot of the walk w is at address a, and serves n bytes
pub record Served (g : Geometry) (w : Walk) (e n : ℕ) (a : Address) : Type 0 where
  pub enough : serves g w.rest n ≡ true
  pub ends : a.0 + length w.rest ≡ e

-- r is the free spot where it serves n bytes
abbrev pub SpotIs : Geometry → Walk → ℕ → ℕ → Option Address → Type 0
SpotIs g w e n (Some a) = Served g w e n a
SpotIs g w e n None = serves g w.rest n ≡ false
