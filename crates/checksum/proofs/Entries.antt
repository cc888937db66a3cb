-- The table's rule, computed turn by turn, is a division: the entry of k is what is left of the register k, times x^8. Assumes nothing.
use mathlib.Core.Path.{◌≡◌, refl}
use mathlib.Core.List.{List}
use Prim.Native.Nat.{ℕ, zero, suc, ◌+◌, ◌*◌, ◌/◌, ◌%◌, ◌^◌, ◌≤◌, ◌<◌}
use native.Mathlib.Nat.{add-zero, zero-mul, one-mul, mod-lt, zero-lt-suc}
use native.Mathlib.Omega.{arith}
use lib.Dec.{lit<, lit≤}
use Rattle.paper.specs.Poly.{◌⊕◌, times}
use Rattle.paper.specs.Checksum.{mirror, data_poly}
use Rattle.checksum.specs.Register.{Shifted}
use Rattle.checksum.specs.Table.{turns, entry}
use Rattle.checksum.proofs.Sums.{sum_zero}
use Rattle.checksum.proofs.BitLoop.{Remains, held_none, turn_even, turn_odd, held_all}
use Rattle.checksum.proofs.Constants.{data_constant}

-- a bit is 0 or 1
bit : {X : Type 0} (b : ℕ) → b < 2 → (b ≡ 0 → X) → (b ≡ 1 → X) → X
bit zero h even odd = even refl
bit (suc zero) h even odd = odd refl
bit (suc (suc n)) h even odd = absurd (omega arith)

module _ (d : ℕ) (es : List ℕ) (poly : ℕ) (small : poly < 2 ^ d) (same : mirror d poly ≡ times 1 es) where
  -- the turns are those of the bit loop
  turns_remain : (n : ℕ) {crc c i : ℕ} → Remains d es crc c i → i + n ≤ 8 → Remains d es crc (turns poly n c) (i + n)
  unfolding turns ◌⊕◌
  turns_remain zero h l = rw add-zero h
  turns_remain (suc n) {crc} {c} {i} h l =
      let even : c % 2 ≡ 0 → Remains d es crc (c / 2 ⊕ c % 2 * poly) (i + 1) =
      λ e. rw (e, zero-mul, sum_zero) (turn_even d es h (omega arith) e) in
      let odd : c % 2 ≡ 1 → Remains d es crc (c / 2 ⊕ c % 2 * poly) (i + 1) =
      λ e. rw (e, one-mul) (turn_odd d es poly small same h (omega arith) e) in
      let more : i + suc n ≡ i + 1 + n = omega arith in
      rw more (turns_remain n (bit (c % 2) (mod-lt c (zero-lt-suc 1)) even odd) (omega arith))

  -- eight of them
  turns_all : {c : ℕ} → c < 2 ^ d → Remains d es c (turns poly 8 c) 8
  turns_all h = turns_remain 8 (held_none d es h) (lit≤ tt)

-- what the eight turns leave of a byte
entry_remains : (k : ℕ) → k < 256 → Remains 32 data_poly k (entry k) 8
unfolding entry
entry_remains k h = turns_all 32 data_poly 0x82f6_3b78 (lit< tt) data_constant (omega arith)

pub entry_shifted : (k : ℕ) → k < 256 → Shifted 32 data_poly k (entry k)
entry_shifted k h = held_all 32 data_poly (entry_remains k h) (lit≤ tt)

pub entry_fits : (k : ℕ) → k < 256 → entry k < 2 ^ 32
entry_fits k h = (entry_remains k h).fits

-- three of the numbers, as they are published for CRC-32C
pub entry_numbers : (entry 1 ≡ 0xf26b_8303) × (entry 128 ≡ 0x82f6_3b78) × (entry 255 ≡ 0xad7d_5351)
unfolding entry turns ◌⊕◌
entry_numbers = (refl, refl, refl)
