-- What a header that was written looks like to the scan. Assumes nothing.
use mathlib.Core.Bool.{false}
use mathlib.Core.List.{List, ◌∷◌, ◌++◌}
use mathlib.Core.Path.{◌≡◌, sym, ap}
use Prim.Native.Nat.{ℕ, zero, suc, ◌-◌, ◌%◌, ◌^◌, ◌≤◌, ◌<◌}
use native.Mathlib.Omega.{arith}
use borrow.Author.Tests.{ne_eqb}
use lib.Dec.{lit<}
use lib.ListN.{length, take, length-append}
use lib.Seq.{drop_at}
use Rattle.paper.specs.declared.Geometry.{Geometry}
use Rattle.paper.specs.Checksum.{length_crc}
use Rattle.paper.specs.Chip.{round_up, header_size}
use Rattle.paper.specs.Slip.{item, look, blank, bytes_of, encode}
use Rattle.paper.specs.Fifo.{Bytes}
use Rattle.checksum.proofs.Adjusted.{length_lt}
use Rattle.laws.proofs.Headers.{header_ge, length_encode}
use Rattle.laws.proofs.Looking.{Taken, item_look}
use Rattle.demand3.proofs.Bytes.{bytes_append, number_bytes, bytes_bytes, bytes_replicate}

-- a first byte that is not FF
pub first_used : (k b : ℕ) (bs : List ℕ) → 0 < k → (b ≡ 255 → ⊥) → blank (take k (b ∷ bs)) ≡ false
unfolding blank
first_used zero b bs h n = let z : ⊥ = omega arith in absurd z
first_used (suc k) b bs h n = rw (ne_eqb b 255 n)

module _ (g : Geometry) (pos : 0 < g.word) where
  pub bytes_encode : (c n : ℕ) → Bytes (encode g c n)
  unfolding encode
  bytes_encode c n = bytes_append (bytes_of 4 c) _ (bytes_bytes 4 c) (bytes_append (bytes_of 2 n) _ (bytes_bytes 2 n)
      (bytes_append (bytes_of 2 (length_crc (bytes_of 2 n))) _ (bytes_bytes 2 (length_crc (bytes_of 2 n))) (bytes_replicate (header_size g - 8) 255 (lit< tt))))

  -- a header and enough behind it
  module _ (c n : ℕ) (rest : List ℕ) (hc : c < 2 ^ 32) (hn : n < 65536) (low : c % 256 ≡ 255 → ⊥) (room : round_up g.word n ≤ length rest) where
    pub encoded : Taken g (encode g c n ++ rest) c n (take n rest)
    unfolding encode bytes_of
    encoded = record {
      room = omega (arith, length-append (encode g c n) rest, length_encode g pos c n);
      used = first_used (header_size g) (c % 256) _ (omega (arith, header_ge g pos)) low;
      check = sym (number_bytes 2 (length_crc (bytes_of 2 n)) (length_lt (bytes_of 2 n)));
      crc_is = number_bytes 4 c hc;
      len_is = number_bytes 2 n hn;
      body_is = ap (λ (l : List ℕ). take n l) (drop_at (encode g c n) rest (header_size g) (length_encode g pos c n));
    }

    pub look_encoded : look g (encode g c n ++ rest) ≡ item c n (take n rest)
    look_encoded = item_look g (encode g c n ++ rest) encoded
