-- What the adjustments shut out, and that each computed checksum fits its field. Assumes nothing.
use mathlib.Core.Path.{◌≡◌, refl, ap, ◌∙◌}
use mathlib.Core.Bool.{Bool, true, false, cond, ◌||◌}
use mathlib.Core.List.{List}
use Prim.Native.Nat.{ℕ, ◌%◌, ◌^◌, ◌<◌}
use native.Mathlib.Omega.{arith}
use lib.Dec.{eqb, lit<}
use Rattle.std.proofs.lemmas.Bool.Decides.{nat_tests}
use lib.Pow.{pow_pos}
use Rattle.paper.specs.Poly.{◌⊕◌}
use Rattle.paper.specs.Checksum.{length_poly, data_poly, length_adjusted, data_adjusted, crc_of, length_crc, data_crc}
use Rattle.checksum.proofs.Sums.{sum_mod, sum_lt}

-- ---- what is shut out

not_ones : (n : ℕ) → length_adjusted n ≡ 0xffff → ⊥
unfolding length_adjusted
not_ones n h = grind (arith, nat_tests)

pub length_not_ones : (bytes : List ℕ) → length_crc bytes ≡ 0xffff → ⊥
unfolding length_crc
length_not_ones bytes = not_ones (crc_of 16 length_poly 0xffff bytes)

flipped : (n : ℕ) {k : ℕ} → n % 256 ≡ k → (n ⊕ 1) % 256 ≡ k ⊕ 1
flipped n e = sum_mod 8 n 1 ∙ ap (λ (x : ℕ). x ⊕ 1) e

pub low_byte : (n : ℕ) → (data_adjusted n % 256 ≡ 0 → ⊥) × (data_adjusted n % 256 ≡ 0xff → ⊥)
unfolding data_adjusted ◌⊕◌
low_byte n =
    let flip : (n ⊕ 1) % 256 ≡ n % 256 ⊕ 1 = flipped n refl in
    (λ h. grind (arith, nat_tests), λ h. grind (arith, nat_tests))

pub data_low : (bytes : List ℕ) → (data_crc bytes % 256 ≡ 0 → ⊥) × (data_crc bytes % 256 ≡ 0xff → ⊥)
unfolding data_crc
data_low bytes = low_byte (crc_of 32 data_poly 0xeeee_eeee bytes)

-- ---- what fits

cond_lt : (t : Bool) {a b k : ℕ} → a < k → b < k → cond t a b < k
cond_lt true h l = h
cond_lt false h l = l

crc_lt : (d : ℕ) (es : List ℕ) (start : ℕ) (bytes : List ℕ) → crc_of d es start bytes < 2 ^ d
unfolding crc_of
crc_lt d es start bytes = omega (arith, pow_pos d)

pub length_lt : (bytes : List ℕ) → length_crc bytes < 2 ^ 16
unfolding length_crc length_adjusted
length_lt bytes = fits (crc_lt 16 length_poly 0xffff bytes)
  where
    fits : {n : ℕ} → n < 2 ^ 16 → length_adjusted n < 2 ^ 16
    fits {n} h = cond_lt (eqb n 0xffff) (lit< tt) h

pub data_lt : (bytes : List ℕ) → data_crc bytes < 2 ^ 32
unfolding data_crc data_adjusted
data_lt bytes = fits (crc_lt 32 data_poly 0xeeee_eeee bytes)
  where
    fits : {n : ℕ} → n < 2 ^ 32 → data_adjusted n < 2 ^ 32
    fits {n} h = cond_lt (eqb n 0) (lit< tt) (cond_lt (eqb (n % 256) 0 || eqb (n % 256) 0xff) (sum_lt 32 h (lit< tt)) h)
