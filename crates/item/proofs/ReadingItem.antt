-- What reading an item comes to, by the tests that the code makes. Assumes nothing.
use mathlib.Core.Path.{◌≡◌, ap₂}
use mathlib.Core.List.{List, ◌++◌}
use Prim.Native.Nat.{ℕ, ◌+◌, ◌-◌, ◌≤◌}
use native.Mathlib.Omega.{arith}
use lib.ListN.{length, take, drop}
use Rattle.std.proofs.lemmas.Bool.Decides.{nat_tests}
use Rattle.std.proofs.lemmas.Grind.{common_steps}
use Rattle.std.specs.Prelude.{Ok}
use Rattle.paper.specs.declared.Geometry.{Geometry}
use Rattle.paper.specs.Checksum.{data_crc}
use Rattle.paper.specs.Chip.{round_up, header_size, part, put, buffer_by, buffer_after}
use Rattle.paper.specs.Scan.{live, present}
use Rattle.chip.specs.declared.Address.{Address}
use Rattle.laws.proofs.Rounding.{round_up_ge}
use Rattle.item.specs.declared.ItemHeader.{ItemHeader}
use Rattle.item.specs.declared.Item.{Item}
use Rattle.item.specs.declared.MaybeItem.TheVariants as maybe
use Rattle.item.specs.Places.{Room}
use Rattle.item.specs.Reading.{head_at, item_of, copies, read_as, ReadIs}

-- the payload lies in the image with its padding, by the code's own numbers
pub payload_in : {g : Geometry} {n a len start size : ℕ} → Room g n a len → start ≡ a + header_size g → size ≡ round_up g.word len
    → (start + size ≤ n) × (len ≤ size)
payload_in {g} {n} {a} {len} h e f = let o = h.good in (omega (arith, h.fits), omega (arith, round_up_ge g.word len (omega arith)))

-- a part of the image that is lent, likewise
pub lent : (im : List ℕ) {b c n m : ℕ} → b ≡ c → n ≡ m → take (b + n - b) (drop b im) ≡ part c m im
lent im {b} {c} {n} {m} e f =
    let z : b + n - b ≡ m = omega arith in
    ap₂ (λ (x y : ℕ). take x (drop y im)) z e

-- the item y, live and not longer than the buffer d, is read there: x is what was copied
module _ (g : Geometry) (im d : List ℕ) (a : Address) (h : ItemHeader) {y : Item} (is : y ≡ item_of g a h) (n : h.crc ≡ 0 → ⊥)
    (l : y.size ≤ length d) (x : List ℕ) (b : x ≡ part (a.0 + header_size g) (round_up g.word h.length) im)
    (e : length x ≡ length (take y.size d)) where
  copied : x ++ drop y.size d ≡ buffer_after g (copies g (length d) (head_at g im a.0 h)) im d
  unfolding copies buffer_after buffer_by put live
  copied = grind (arith, common_steps)

  pub read_present : data_crc (part (a.0 + header_size g) h.length im) ≡ h.crc → ReadIs g im a h d (x ++ drop y.size d) (Ok (maybe.Present y))
  unfolding read_as present live
  read_present q = record { answer = grind (arith, nat_tests); buffer = copied }

  pub read_torn : (data_crc (part (a.0 + header_size g) h.length im) ≡ h.crc → ⊥)
      → ReadIs g im a h d (x ++ drop y.size d) (Ok (maybe.Corrupted y))
  unfolding read_as present live
  read_torn q = record { answer = grind (arith, nat_tests); buffer = copied }
