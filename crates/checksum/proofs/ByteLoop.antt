-- The byte loop: a register that is fed byte by byte comes to hold the remainder. Assumes nothing.
use mathlib.Core.Path.{refl, subst⁻¹}
use mathlib.Core.List.{List, [], ◌∷◌}
use Prim.Native.Nat.{ℕ, ◌+◌, ◌-◌, ◌*◌, ◌^◌, ◌≤◌, ◌<◌}
use native.Mathlib.Numerals.{add-one}
use lib.Seq.{drop-cons}
use lib.ListN.{length, drop, get_or, drop_of_length-le}
use lib.Bits.{bit_xor}
use Rattle.paper.specs.Poly.{◌⊕◌}
use Rattle.paper.specs.Checksum.{mirror, message, dividend, Crc}
use Rattle.checksum.specs.Register.{Shifted}
use Rattle.checksum.proofs.Sums.{sum_comm, sum_ones}
use Rattle.checksum.proofs.Registers.{mirror_lt}
use Rattle.checksum.proofs.Division.{rem_of, rem_self, rem_then}
use Rattle.checksum.proofs.Dividends.{dividend_nil, dividend_cons}

-- with no byte left, the register is the remainder
crc_nil : (d : ℕ) (es : List ℕ) {c : ℕ} → c < 2 ^ d → Crc d es c [] (2 ^ d - 1 - c)
crc_nil d es {c} h =
    record { raw = c; fits = h; division = rem_of d es (dividend_nil d c) (rem_self d es (mirror_lt d c)); inverted = refl }

-- a register that has taken a byte in and shifted it out starts the division of the others
crc_cons : (k : ℕ) (es : List ℕ) {c b r n : ℕ} {bs : List ℕ} → b < 256
    → Shifted (8 + k) es (c ⊕ b) r → Crc (8 + k) es r bs n → Crc (8 + k) es c (b ∷ bs) n
unfolding dividend
crc_cons k es {c} {b} {r} {n} {bs} h s x =
    let d : ℕ = 8 + k in
    let rest : ℕ = message bs * 2 ^ d in
    record {
      raw = x.raw;
      fits = x.fits;
      division =
          rem_of d es (dividend_cons k c bs h)
          (rem_then d es (8 * length bs) rest s (rem_of d es (sum_comm (mirror d r * 2 ^ (8 * length bs)) rest) x.division));
      inverted = x.inverted;
    }

-- the register crc stands for the first i bytes: what goes on from it with the others is the checksum of all
pub record Fed (d : ℕ) (es : List ℕ) (start : ℕ) (bytes : List ℕ) (crc i : ℕ) : Type 0 where
  pub fits : crc < 2 ^ d
  pub rest : {n : ℕ} → Crc d es crc (drop i bytes) n → Crc d es start bytes n

pub fed_none : {d : ℕ} {es : List ℕ} {start : ℕ} {bytes : List ℕ} → start < 2 ^ d → Fed d es start bytes start 0
fed_none h = record { fits = h; rest = λ x. x }

pub fed_more : (k : ℕ) (es : List ℕ) {start crc i r : ℕ} {bytes : List ℕ} → Fed (8 + k) es start bytes crc i → i < length bytes
    → get_or bytes i 0 < 256 → Shifted (8 + k) es (bit_xor crc (get_or bytes i 0)) r → r < 2 ^ (8 + k)
    → Fed (8 + k) es start bytes r (i + 1)
unfolding ◌⊕◌
fed_more k es {start} {crc} {i} {r} {bytes} a l h s f =
    record { fits = f; rest = λ x. a.rest (rw (drop-cons bytes i 0 l) (crc_cons k es h s (rw add-one at x))) }

pub fed_all : (d : ℕ) (es : List ℕ) {start crc i : ℕ} {bytes : List ℕ} → Fed d es start bytes crc i → length bytes ≤ i
    → Crc d es start bytes (2 ^ d - 1 - crc)
fed_all d es {start} {crc} {i} {bytes} a l = a.rest (rw (drop_of_length-le bytes l) (crc_nil d es a.fits))

-- the same, where the code inverts by adding all ones
pub fed_ones : (d : ℕ) (es : List ℕ) {start crc i : ℕ} {bytes : List ℕ} → Fed d es start bytes crc i → length bytes ≤ i
    → Crc d es start bytes (bit_xor crc (2 ^ d - 1))
unfolding ◌⊕◌
fed_ones d es {start} {crc} {i} {bytes} a l = subst⁻¹ (Crc d es start bytes) (sum_ones d a.fits) (fed_all d es a l)
