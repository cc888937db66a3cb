-- The two checksums of a slip, as division of polynomials. Assumes nothing.
use Rattle.std.specs.Prelude.{◌≡◌, cond, ◌||◌, List, [], ◌∷◌, ℕ, zero, suc, ◌+◌, ◌-◌, ◌*◌, ◌/◌, ◌%◌, ◌^◌, ◌<◌, eqb, length}
use Rattle.paper.specs.Poly.{◌⊕◌, Remainder, modulo}

-- the polynomial of a register of d bits: bit i stands at x^(d-1-i)
unfoldable pub mirror : ℕ → ℕ → ℕ
mirror zero n = 0
mirror (suc d) n = n % 2 * 2 ^ d + mirror d (n / 2)

-- the input's bits, low bit of each byte first, as coefficients from the highest power down
unfoldable pub message : List ℕ → ℕ
message [] = 0
message (b ∷ bs) = mirror 8 b * 2 ^ (8 * length bs) + message bs

-- the input times x^d, plus the start times x^(number of input bits)
unfoldable pub dividend : ℕ → ℕ → List ℕ → ℕ
dividend d start bytes = message bytes * 2 ^ d ⊕ mirror d start * 2 ^ (8 * length bytes)

-- n is the plain checksum: the remainder's register, inverted
pub record Crc (d : ℕ) (es : List ℕ) (start : ℕ) (bytes : List ℕ) (n : ℕ) : Type 0 where
  pub raw : ℕ
  pub fits : raw < 2 ^ d
  pub division : Remainder d es (dividend d start bytes) (mirror d raw)
  pub inverted : n ≡ 2 ^ d - 1 - raw

-- x^16 + x^14 + x^13 + x^12 + x^10 + x^6 + x^4 + x^3
unfoldable pub length_poly : List ℕ
length_poly = 14 ∷ 13 ∷ 12 ∷ 10 ∷ 6 ∷ 4 ∷ 3 ∷ []

-- x^32 + x^28 + x^27 + .. + x^6 + 1
unfoldable pub data_poly : List ℕ
data_poly = 28 ∷ 27 ∷ 26 ∷ 25 ∷ 23 ∷ 22 ∷ 20 ∷ 19 ∷ 18 ∷ 14 ∷ 13 ∷ 11 ∷ 10 ∷ 9 ∷ 8 ∷ 6 ∷ 0 ∷ []

-- 0xFFFF becomes 0xFFFE
unfoldable pub length_adjusted : ℕ → ℕ
length_adjusted n = cond (eqb n 0xffff) 0xfffe n

-- 0 becomes 1; otherwise a low byte of 0 or 0xFF is XORed with 1
unfoldable pub data_adjusted : ℕ → ℕ
data_adjusted n = cond (eqb n 0) 1 (cond (eqb (n % 256) 0 || eqb (n % 256) 0xff) (n ⊕ 1) n)

-- the length CRC: start 0xFFFF
pub record LengthCrc (bytes : List ℕ) (r : ℕ) : Type 0 where
  pub plain : ℕ
  pub crc : Crc 16 length_poly 0xffff bytes plain
  pub answer : r ≡ length_adjusted plain

-- the data CRC: start 0xEEEEEEEE
pub record DataCrc (bytes : List ℕ) (r : ℕ) : Type 0 where
  pub plain : ℕ
  pub crc : Crc 32 data_poly 0xeeee_eeee bytes plain
  pub answer : r ≡ data_adjusted plain

-- the checksums as functions, by long division, for definitions that compute
unfoldable pub crc_of : ℕ → List ℕ → ℕ → List ℕ → ℕ
crc_of d es start bytes = 2 ^ d - 1 - mirror d (modulo d es (8 * length bytes) (dividend d start bytes))

unfoldable pub length_crc : List ℕ → ℕ
length_crc bytes = length_adjusted (crc_of 16 length_poly 0xffff bytes)

unfoldable pub data_crc : List ℕ → ℕ
data_crc bytes = data_adjusted (crc_of 32 data_poly 0xeeee_eeee bytes)
