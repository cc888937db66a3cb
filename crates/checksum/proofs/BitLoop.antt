-- The bit loop: eight turns leave of a register what is left of its polynomial times x^8. Assumes nothing.
use mathlib.Core.Path.{◌≡◌, sym, ◌∙◌, subst}
use mathlib.Core.List.{List}
use Prim.Native.Nat.{ℕ, ◌+◌, ◌*◌, ◌/◌, ◌%◌, ◌^◌, ◌≤◌, ◌<◌}
use native.Mathlib.Nat.{mul-one, mul_assoc}
use native.Mathlib.Omega.{arith}
use lib.Bits.{bit_xor}
use lib.Pow.{pow-add}
use Rattle.paper.specs.Poly.{◌⊕◌, times, Remainder}
use Rattle.paper.specs.Checksum.{mirror}
use Rattle.checksum.specs.Register.{Shifted}
use Rattle.checksum.proofs.Sums.{sum_zero, sum_cancel, sum_lt, times_zero}
use Rattle.checksum.proofs.Registers.{mirror_lt, mirror_sum, mirror_out}
use Rattle.checksum.proofs.Division.{rem_of, rem_self, rem_plus, rem_then}

-- after i turns the register c holds what is left of the register crc, times x^i
pub record Remains (d : ℕ) (es : List ℕ) (crc c i : ℕ) : Type 0 where
  pub upto : i ≤ 8
  pub fits : c < 2 ^ d
  pub left : Remainder d es (mirror d crc * 2 ^ i) (mirror d c)

module _ (d : ℕ) (es : List ℕ) where
  pub held_none : {crc : ℕ} → crc < 2 ^ d → Remains d es crc crc 0
  held_none {crc} h = record { upto = omega arith; fits = h; left = rw mul-one (rem_self d es (mirror_lt d crc)) }

  -- times x once: the bit that goes out takes as many times the divisor along
  out : (n : ℕ) {c : ℕ} → c < 2 ^ d → mirror d n ≡ mirror d (c / 2) ⊕ times (c % 2) es
      → Remainder d es (mirror d c * 2) (mirror d n)
  unfolding times
  out n {c} h e = rem_plus d es (c % 2) (rem_of d es (rw (mirror_out d h, sum_cancel) (sym e)) (rem_self d es (mirror_lt d n)))

  turn : {crc c i n : ℕ} → Remains d es crc c i → i < 8 → n < 2 ^ d
      → mirror d n ≡ mirror d (c / 2) ⊕ times (c % 2) es → Remains d es crc n (i + 1)
  turn {crc} {c} {i} {n} h l f e =
      let more : mirror d crc * 2 ^ (i + 1) ≡ mirror d crc * 2 ^ i * 2 ⊕ 0 = rw (sum_zero, mul_assoc, pow-add) in
      record {
        upto = omega arith;
        fits = f;
        left = rem_of d es more (rem_then d es 1 0 h.left (rem_of d es (sum_zero (mirror d c * 2)) (out n h.fits e)));
      }

  pub turn_even : {crc c i : ℕ} → Remains d es crc c i → i < 8 → c % 2 ≡ 0 → Remains d es crc (c / 2) (i + 1)
  turn_even {crc} {c} {i} h l e = turn h l (omega (arith, h.fits)) (rw (e, times_zero, sum_zero))

  pub turn_odd : (poly : ℕ) → poly < 2 ^ d → mirror d poly ≡ times 1 es
      → {crc c i : ℕ} → Remains d es crc c i → i < 8 → c % 2 ≡ 1 → Remains d es crc (bit_xor (c / 2) poly) (i + 1)
  unfolding ◌⊕◌
  turn_odd poly small same {crc} {c} {i} h l e =
      turn h l (sum_lt d {a = c / 2} (omega (arith, h.fits)) small) (mirror_sum d (c / 2) poly ∙ rw (e, same))

  pub held_all : {crc c i : ℕ} → Remains d es crc c i → 8 ≤ i → Shifted d es crc c
  held_all {crc} {c} {i} h l =
      let e : i ≡ 8 = omega arith in
      subst (λ (x : ℕ). Remainder d es (mirror d crc * 2 ^ x) (mirror d c)) e h.left
