-- What a checksum divides: its degree, with no byte, and with a byte in front. Assumes nothing.
use mathlib.Core.Path.{◌≡◌, sym, ◌∙◌}
use mathlib.Core.List.{List, [], ◌∷◌}
use Prim.Native.Nat.{ℕ, suc, ◌+◌, ◌*◌, ◌^◌, ◌<◌}
use native.Mathlib.Nat.{add_comm, zero-mul, mul-one, mul_assoc, mul_right_comm, zero-lt-suc}
use native.Mathlib.Omega.{arith}
use lib.ListN.{length}
use lib.Arith.{digits_lt}
use lib.Pow.{pow-add, shl_lt}
use Rattle.paper.specs.Poly.{◌⊕◌}
use Rattle.paper.specs.Checksum.{mirror, message, dividend}
use Rattle.checksum.proofs.Sums.{zero_sum, sum_assoc, sum_comm, sum_shl, sum_lt, join}
use Rattle.checksum.proofs.Registers.{mirror_lt, mirror_sum, mirror_wide}

-- times x^8 for a byte more
byte_more : (n : ℕ) → 2 ^ (8 * suc n) ≡ 2 ^ 8 * 2 ^ (8 * n)
byte_more n = let e : 8 * suc n ≡ 8 + 8 * n = omega arith in rw (e, pow-add)

message_lt : (bytes : List ℕ) → message bytes < 2 ^ (8 * length bytes)
unfolding message
message_lt [] = zero-lt-suc 0
message_lt (b ∷ bs) = rw (byte_more (length bs)) (digits_lt (mirror_lt 8 b) (message_lt bs))

pub dividend_lt : (d start : ℕ) (bytes : List ℕ) → dividend d start bytes < 2 ^ (d + 8 * length bytes)
unfolding dividend
dividend_lt d start bytes =
    let n : ℕ = 8 * length bytes in
    sum_lt (d + n) (rw (add_comm n d) at (shl_lt n d (message_lt bytes))) (shl_lt d n (mirror_lt d start))

pub dividend_nil : (d start : ℕ) → dividend d start [] ≡ mirror d start
unfolding dividend message
dividend_nil d start = simp (zero-mul, mul-one, zero_sum)

-- a byte is added to the low end of the register, which is the top of its polynomial
byte_in : (k c : ℕ) {b : ℕ} → b < 256 → mirror (8 + k) (c ⊕ b) * 2 ^ 8 ≡ mirror (8 + k) c * 2 ^ 8 ⊕ mirror 8 b * 2 ^ (8 + k)
byte_in k c {b} h =
    let m : ℕ = mirror 8 b in
    rw (mirror_sum, mirror_wide 8 k h, sum_shl, pow-add 2 8 k, mul_right_comm m (2 ^ k) (2 ^ 8), mul_assoc m (2 ^ 8) (2 ^ k))

pub dividend_cons : (k start : ℕ) {b : ℕ} (bs : List ℕ) → b < 256
    → dividend (8 + k) start (b ∷ bs) ≡ mirror (8 + k) (start ⊕ b) * 2 ^ 8 * 2 ^ (8 * length bs) ⊕ message bs * 2 ^ (8 + k)
unfolding dividend message
dividend_cons k start {b} bs h =
    let d : ℕ = 8 + k in
    let n : ℕ = 2 ^ (8 * length bs) in
    let low : (mirror 8 b * n + message bs) * 2 ^ d ≡ mirror 8 b * 2 ^ d * n ⊕ message bs * 2 ^ d =
    rw (join (8 * length bs) (mirror 8 b) (message_lt bs), sum_shl, mul_right_comm (mirror 8 b) n (2 ^ d)) in
    let high : mirror d start * 2 ^ (8 * suc (length bs)) ≡ mirror d start * 2 ^ 8 * n = rw (byte_more (length bs), ← mul_assoc) in
    rw (low, high, byte_in k start h, sum_shl) (sum_comm _ (mirror d start * 2 ^ 8 * n) ∙ sym (sum_assoc _ _ _))
