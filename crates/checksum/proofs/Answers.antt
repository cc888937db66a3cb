-- The promise of each checksum has one answer, which a definition computes. Assumes nothing.
use mathlib.Core.Path.{◌≡◌, refl, sym, ap, ◌∙◌}
use mathlib.Core.List.{List}
use Prim.Native.Nat.{ℕ}
use Rattle.paper.specs.Checksum.{LengthCrc, DataCrc, length_poly, data_poly, length_adjusted, data_adjusted, length_crc, data_crc}
use Rattle.checksum.proofs.Constants.{length_degree, data_degree}
use Rattle.checksum.proofs.LongDivision.{crc_computed, crc_is}

pub length_computed : (bytes : List ℕ) → LengthCrc bytes (length_crc bytes)
unfolding length_crc
length_computed bytes = record { plain = _; crc = crc_computed 16 length_poly length_degree 0xffff bytes; answer = refl }

pub length_is : {bytes : List ℕ} {r : ℕ} → LengthCrc bytes r → r ≡ length_crc bytes
unfolding length_crc
length_is h = h.answer ∙ ap length_adjusted (crc_is 16 length_poly length_degree h.crc)

pub length_unique : {bytes : List ℕ} {a b : ℕ} → LengthCrc bytes a → LengthCrc bytes b → a ≡ b
length_unique x y = length_is x ∙ sym (length_is y)

pub data_computed : (bytes : List ℕ) → DataCrc bytes (data_crc bytes)
unfolding data_crc
data_computed bytes = record { plain = _; crc = crc_computed 32 data_poly data_degree 0xeeee_eeee bytes; answer = refl }

pub data_is : {bytes : List ℕ} {r : ℕ} → DataCrc bytes r → r ≡ data_crc bytes
unfolding data_crc
data_is h = h.answer ∙ ap data_adjusted (crc_is 32 data_poly data_degree h.crc)

pub data_unique : {bytes : List ℕ} {a b : ℕ} → DataCrc bytes a → DataCrc bytes b → a ≡ b
data_unique x y = data_is x ∙ sym (data_is y)
