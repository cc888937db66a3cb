-- Long division gives the remainder, so a plain checksum is what `crc_of` computes. Assumes nothing.
use mathlib.Core.Path.{◌≡◌, refl, sym, ◌∙◌, subst⁻¹}
use mathlib.Core.List.{List, ◌∷◌}
use Prim.Native.Nat.{ℕ, zero, suc, ◌+◌, ◌*◌, ◌/◌, ◌%◌, ◌^◌, ◌<◌}
use native.Mathlib.Nat.{mul_assoc, add_comm, add-zero, mod-lt, add-suc}
use native.Mathlib.Numerals.{one-add}
use lib.ListN.{length}
use lib.Pow.{pow_pos, pow-add, split, shr_lt, shl_lt}
use Rattle.paper.specs.Poly.{◌⊕◌, times, Remainder, modulo}
use Rattle.paper.specs.Checksum.{mirror, dividend, Crc, crc_of}
use Rattle.checksum.specs.Claims.{Below}
use Rattle.checksum.proofs.Sums.{sum_cancel, sum_lt, join}
use Rattle.checksum.proofs.Registers.{mirror_lt, mirror_mirror}
use Rattle.checksum.proofs.Division.{rem_self, rem_plus}
use Rattle.checksum.proofs.Dividends.{dividend_lt}
use Rattle.checksum.proofs.Unique.{lower, crc_unique}

module _ (d : ℕ) (es : List ℕ) (b : Below d es) where
  -- the top coefficient goes
  cleared : (n p : ℕ) → p < 2 ^ (d + suc n) → p ⊕ times (p / 2 ^ (d + n) * 2 ^ n) (d ∷ es) < 2 ^ (d + n)
  unfolding times
  cleared n p h =
      let t : ℕ = p / 2 ^ (d + n) in
      let low : p % 2 ^ (d + n) < 2 ^ (d + n) = mod-lt p (pow_pos (d + n)) in
      let one : t < 2 = shr_lt 1 (d + n) (rw (add-suc, ← one-add (d + n)) at h) in
      let u : t * 2 ^ n < 2 ^ suc n = rw one-add at (shl_lt 1 n one) in
      let parts : p ≡ t * 2 ^ n * 2 ^ d ⊕ p % 2 ^ (d + n) =
      sym (split p (d + n)) ∙ join (d + n) t low ∙ rw (add_comm d n, pow-add, ← mul_assoc) in
      subst⁻¹ (λ (x : ℕ). x ⊕ times (t * 2 ^ n) (d ∷ es) < 2 ^ (d + n)) parts
      (rw sum_cancel (sum_lt (d + n) low (rw (add_comm n d) at (lower n d es b u))))

  pub modulo_is : (n p : ℕ) → p < 2 ^ (d + n) → Remainder d es p (modulo d es n p)
  unfolding modulo
  modulo_is zero p h = rem_self d es (rw add-zero at h)
  modulo_is (suc n) p h =
      let u : ℕ = p / 2 ^ (d + n) * 2 ^ n in
      rem_plus d es u (modulo_is n (p ⊕ times u (d ∷ es)) (cleared n p h))

  pub crc_computed : (start : ℕ) (bytes : List ℕ) → Crc d es start bytes (crc_of d es start bytes)
  unfolding crc_of
  crc_computed start bytes =
      let p : ℕ = dividend d start bytes in
      let r : ℕ = modulo d es (8 * length bytes) p in
      let m : Remainder d es p r = modulo_is (8 * length bytes) p (dividend_lt d start bytes) in
      record {
        raw = mirror d r;
        fits = mirror_lt d r;
        division = subst⁻¹ (λ (x : ℕ). Remainder d es p x) (mirror_mirror d m.low) m;
        inverted = refl;
      }

  -- so the promise says that the answer is what is computed
  pub crc_is : {start n : ℕ} {bytes : List ℕ} → Crc d es start bytes n → n ≡ crc_of d es start bytes
  crc_is {start} {n} {bytes} h = crc_unique d es b h (crc_computed start bytes)
