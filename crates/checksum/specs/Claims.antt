-- What is proved of the checksums beside the functions' own promises. Assumes nothing.
use Rattle.std.specs.Prelude.{◌≡◌, List, [], ◌∷◌, ℕ, ◌+◌, ◌/◌, ◌%◌, ◌^◌, ◌<◌}
use Rattle.paper.specs.Poly.{◌⊕◌, times, Remainder, modulo}
use Rattle.paper.specs.Checksum.{mirror, Crc, LengthCrc, DataCrc, length_poly, data_poly, crc_of, length_crc, data_crc}
use Rattle.checksum.specs.Register.{Shifted}
use Rattle.checksum.specs.Table.{entry}

-- each exponent of the list is below d, so that x^d + x^e₁ + x^e₂ + .. has the degree d
abbrev pub Below : ℕ → List ℕ → Type 0
Below d [] = Unit {0}
Below d (e ∷ es) = (e < d) × Below d es

-- of the division by x^d + x^e₁ + x^e₂ + ..
pub record Divided (d : ℕ) (es : List ℕ) : Type 0 where
  -- it has one remainder
  pub remainder : {p r s : ℕ} → Remainder d es p r → Remainder d es p s → r ≡ s
  -- and one quotient
  pub quotient : {p r s : ℕ} (m : Remainder d es p r) (n : Remainder d es p s) → m.quotient ≡ n.quotient
  -- long division finds the remainder
  pub found : (n p : ℕ) → p < 2 ^ (d + n) → Remainder d es p (modulo d es n p)
  -- the plain checksum of some bytes is one number
  pub crc_unique : {start a b : ℕ} {bytes : List ℕ} → Crc d es start bytes a → Crc d es start bytes b → a ≡ b
  -- `crc_of` computes it
  pub crc_computed : (start : ℕ) (bytes : List ℕ) → Crc d es start bytes (crc_of d es start bytes)
  -- so what meets the promise is what `crc_of` computes
  pub crc_is : {start n : ℕ} {bytes : List ℕ} → Crc d es start bytes n → n ≡ crc_of d es start bytes

-- of the length CRC
pub record OfLength : Type 0 where
  -- its divisor has the degree 16
  pub degree : Below 16 length_poly
  -- the code's constant is the rest of the divisor: bit i of 0x1a2e stands at x^(15-i)
  pub constant : mirror 16 0x1a2e ≡ times 1 length_poly
  -- the length CRC of some bytes is one number
  pub unique : {bytes : List ℕ} {a b : ℕ} → LengthCrc bytes a → LengthCrc bytes b → a ≡ b
  -- `length_crc` computes it
  pub computed : (bytes : List ℕ) → LengthCrc bytes (length_crc bytes)
  -- so what meets the promise is what `length_crc` computes
  pub is_computed : {bytes : List ℕ} {r : ℕ} → LengthCrc bytes r → r ≡ length_crc bytes
  -- it fits two bytes
  pub fits : {bytes : List ℕ} {r : ℕ} → LengthCrc bytes r → r < 2 ^ 16
  -- it is never 0xFFFF, which erased flash shows
  pub not_ones : {bytes : List ℕ} {r : ℕ} → LengthCrc bytes r → r ≡ 0xffff → ⊥

-- of the data CRC
pub record OfData : Type 0 where
  -- its divisor has the degree 32
  pub degree : Below 32 data_poly
  -- the constant of the table's rule is the rest of the divisor: bit i of 0x82f63b78 stands at x^(31-i)
  pub constant : mirror 32 0x82f6_3b78 ≡ times 1 data_poly
  -- the table has, for each byte, what is left of that byte as a register, times x^8
  pub table : (k : ℕ) → k < 256 → Shifted 32 data_poly k (entry k)
  -- three of its numbers, as they are published for CRC-32C
  pub numbers : (entry 1 ≡ 0xf26b_8303) × (entry 128 ≡ 0x82f6_3b78) × (entry 255 ≡ 0xad7d_5351)
  -- the data CRC of some bytes is one number
  pub unique : {bytes : List ℕ} {a b : ℕ} → DataCrc bytes a → DataCrc bytes b → a ≡ b
  -- `data_crc` computes it
  pub computed : (bytes : List ℕ) → DataCrc bytes (data_crc bytes)
  -- so what meets the promise is what `data_crc` computes
  pub is_computed : {bytes : List ℕ} {r : ℕ} → DataCrc bytes r → r ≡ data_crc bytes
  -- it fits four bytes
  pub fits : {bytes : List ℕ} {r : ℕ} → DataCrc bytes r → r < 2 ^ 32
  -- its low byte is never 0
  pub low_not_zero : {bytes : List ℕ} {r : ℕ} → DataCrc bytes r → r % 256 ≡ 0 → ⊥
  -- its low byte is never 0xFF
  pub low_not_ones : {bytes : List ℕ} {r : ℕ} → DataCrc bytes r → r % 256 ≡ 0xff → ⊥
  -- so it is never 0, which means popped
  pub not_zero : {bytes : List ℕ} {r : ℕ} → DataCrc bytes r → r ≡ 0 → ⊥

pub record Claims : Type 0 where
  -- a sum of polynomials adds the coefficients of each x^k without carry
  pub sum : (k a b : ℕ) → (a ⊕ b) / 2 ^ k % 2 ≡ (a / 2 ^ k + b / 2 ^ k) % 2
  -- a register is known by its polynomial
  pub register : (d : ℕ) {a b : ℕ} → a < 2 ^ d → b < 2 ^ d → mirror d a ≡ mirror d b → a ≡ b
  -- division by any divisor, of any degree
  pub division : (d : ℕ) (es : List ℕ) → Below d es → Divided d es
  pub of_length : OfLength
  pub of_data : OfData
