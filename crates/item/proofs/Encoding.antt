-- A header's bytes, as the code makes them and as they are written. Assumes nothing.
use mathlib.Core.Path.{◌≡◌, ap, ap₂, ◌∙◌}
use mathlib.Core.List.{List, [], ◌∷◌, ◌++◌}
use Prim.Native.Nat.{ℕ, ◌+◌, ◌-◌, ◌/◌, ◌%◌}
use native.Mathlib.Omega.{arith}
use lib.ListN.{take, replicate}
use lib.Seq.{take-append-add}
use borrow.Rule.Slice.PartMut.{put_mid}
use Rattle.std.specs.Int.{w16, w32, to_le_bytes}
use Rattle.paper.specs.declared.Geometry.{Geometry}
use Rattle.paper.specs.Checksum.{length_crc}
use Rattle.paper.specs.Chip.{header_size}
use Rattle.paper.specs.Slip.{bytes_of, encode}
use Rattle.laws.proofs.Parts.{take_replicate}
use Rattle.chip.specs.Within.{Good}

-- ---- the library's bytes of a number are the paper's

two_bytes : (n : ℕ) → to_le_bytes w16 n ≡ bytes_of 2 n
unfolding bytes_of
two_bytes n = ap (λ (b : ℕ). n % 256 ∷ b ∷ []) (omega arith)

four_bytes : (n : ℕ) → to_le_bytes w32 n ≡ bytes_of 4 n
unfolding bytes_of
four_bytes n =
    let x : n / 65536 % 256 ≡ n / 256 / 256 % 256 = omega arith in
    let y : n / 16777216 % 256 ≡ n / 256 / 256 / 256 % 256 = omega arith in
    ap₂ (λ (b c : ℕ). n % 256 ∷ n / 256 % 256 ∷ b ∷ c ∷ []) x y

-- ---- a header

module _ (g : Geometry) (good : Good g) (crc len : ℕ) where
  -- bytes a of the CRC, b of the length and c of its checksum s, over FF
  pub encode_is : (a b c : List ℕ) (s : ℕ) → a ≡ to_le_bytes w32 crc → b ≡ to_le_bytes w16 len → s ≡ length_crc b → c ≡ to_le_bytes w16 s
      → take (header_size g) (put_mid 6 2 (put_mid 4 2 (put_mid 0 4 (replicate 32 0xff) a) b) c) ≡ encode g crc len
  unfolding encode
  encode_is a b c s ea eb es ec =
      let front : List ℕ = to_le_bytes w32 crc ++ (to_le_bytes w16 len ++ to_le_bytes w16 s) in
      let k : ℕ = header_size g - 8 in
      let z : header_size g ≡ 8 + (header_size g - 8) = omega arith in
      rw (ea, eb, ec) (
      ap (λ (n : ℕ). take n (front ++ replicate 24 0xff)) z
      ∙ take-append-add front (replicate 24 0xff) k
      ∙ ap (λ (x : List ℕ). front ++ x) (take_replicate k 24 0xff (omega arith))
      ∙ rw (← two_bytes len, ← four_bytes crc, ← two_bytes, ← eb, ← es))
