-- A step for a byte: what is left of a register, times x^8, is what is left of its low byte, plus the others moved down.
-- Assumes nothing.
use mathlib.Core.Path.{◌≡◌, sym, ◌∙◌, subst}
use mathlib.Core.List.{List}
use Prim.Native.Nat.{ℕ, ◌+◌, ◌*◌, ◌/◌, ◌%◌, ◌^◌, ◌<◌}
use native.Mathlib.Nat.{add_comm, mod-lt}
use lib.Bits.{bit_xor}
use lib.Pow.{pow_pos, split, shr_lt}
use Rattle.paper.specs.Poly.{◌⊕◌}
use Rattle.checksum.specs.Register.{Shifted}
use Rattle.checksum.proofs.Sums.{sum_shl, join}
use Rattle.checksum.proofs.Registers.{mirror_lt, mirror_sum, mirror_down}
use Rattle.checksum.proofs.Division.{rem_of, rem_self, rem_sum}

-- registers may be shifted apart and added afterwards
shifted_sum : (d : ℕ) (es : List ℕ) (a b r s : ℕ) → Shifted d es a r → Shifted d es b s → Shifted d es (a ⊕ b) (r ⊕ s)
shifted_sum d es a b r s m n = rw (mirror_sum d a b, mirror_sum d r s, sum_shl) (rem_sum d es m n)

-- without a low byte, no multiple of the divisor is taken off
shifted_down : (k : ℕ) (es : List ℕ) {n : ℕ} → n < 2 ^ k → Shifted (8 + k) es (n * 2 ^ 8) n
shifted_down k es {n} h = rem_of (8 + k) es (mirror_down 8 k h) (rem_self (8 + k) es (mirror_lt (8 + k) n))

-- so what is left of the low byte, plus the other bytes moved down, is what is left of all
pub bytewise : (k : ℕ) (es : List ℕ) {c : ℕ} → c < 2 ^ (8 + k) → (t : ℕ) → Shifted (8 + k) es (c % 256) t
    → Shifted (8 + k) es c (bit_xor (c / 256) t)
unfolding ◌⊕◌
bytewise k es {c} h t s =
    let d : ℕ = 8 + k in
    let high : c / 2 ^ 8 < 2 ^ k = shr_lt k 8 (rw (add_comm 8 k) at h) in
    let parts : c / 2 ^ 8 * 2 ^ 8 ⊕ c % 2 ^ 8 ≡ c = sym (join 8 (c / 2 ^ 8) (mod-lt c (pow_pos 8))) ∙ split c 8 in
    subst (λ (x : ℕ). Shifted d es x (c / 2 ^ 8 ⊕ t)) parts
    (shifted_sum d es (c / 2 ^ 8 * 2 ^ 8) (c % 2 ^ 8) (c / 2 ^ 8) t (shifted_down k es high) s)
