-- The polynomial of a register, over every width: its degree, sums, the bit that leaves, and that no two share one. Assumes nothing.
use mathlib.Core.Path.{◌≡◌, refl, sym, ap, ◌∙◌}
use Prim.Native.Nat.{ℕ, zero, suc, ◌+◌, ◌*◌, ◌/◌, ◌%◌, ◌^◌, ◌<◌}
use native.Mathlib.Nat.{add_comm, add-zero, zero-add, suc-add, zero-mul, mul-div_left, div-one, div-eq_of_lt, mod-lt, pow-suc, zero-lt-suc}
use native.Mathlib.Numerals.{add-one, one-add}
use native.Mathlib.Omega.{arith}
use lib.Arith.{digits_lt, digits_div}
use lib.Pow.{pow_pos, pow-add, shr-shr}
use lib.Bits.{block_half, block_odd}
use Rattle.paper.specs.Poly.{◌⊕◌}
use Rattle.paper.specs.Checksum.{mirror}
use Rattle.checksum.proofs.Sums.{sum_mod, sum_half, sum_block, join, zero_sum}

mirror_suc : (d n : ℕ) → mirror (suc d) n ≡ n % 2 * 2 ^ d + mirror d (n / 2)
unfolding mirror
mirror_suc d n = refl

pub mirror_lt : (d n : ℕ) → mirror d n < 2 ^ d
unfolding mirror
mirror_lt zero n = zero-lt-suc 0
mirror_lt (suc d) n =
    let h : n % 2 * 2 ^ d + mirror d (n / 2) < 2 * 2 ^ d = digits_lt (mod-lt n (zero-lt-suc 1)) (mirror_lt d (n / 2)) in
    omega (arith, pow-suc 2 d)

pub mirror_sum : (d a b : ℕ) → mirror d (a ⊕ b) ≡ mirror d a ⊕ mirror d b
unfolding mirror
mirror_sum zero a b = sym (zero_sum 0)
mirror_sum (suc d) a b =
    rw (sum_mod 1 a b, sum_half a b, mirror_sum d (a / 2) (b / 2))
    (sym (sum_block d (a % 2) (b % 2) (mirror_lt d (a / 2)) (mirror_lt d (b / 2))))

-- the j low bits of a register stand above the others
mirror_add : (j k n : ℕ) → mirror (j + k) n ≡ mirror j n * 2 ^ k + mirror k (n / 2 ^ j)
unfolding mirror
mirror_add zero k n = simp (zero-add, zero-mul, div-one)
mirror_add (suc j) k n =
    let e : n / 2 / 2 ^ j ≡ n / 2 ^ suc j = shr-shr n 1 j ∙ ap (λ (x : ℕ). n / 2 ^ x) (one-add j) in
    rw (suc-add j k, pow-add 2 j k, mirror_add j k (n / 2), e) (omega arith)

mirror_zero : (d : ℕ) → mirror d 0 ≡ 0
unfolding mirror
mirror_zero zero = refl
mirror_zero (suc d) = simp (zero-mul, mirror_zero d)

-- a number of j bits, in a register of j + k
pub mirror_wide : (j k : ℕ) {n : ℕ} → n < 2 ^ j → mirror (j + k) n ≡ mirror j n * 2 ^ k
mirror_wide j k {n} h = mirror_add j k n ∙ simp (div-eq_of_lt h, mirror_zero, add-zero)

-- times x: the low bit goes out at the top, and the others move up
pub mirror_out : (d : ℕ) {n : ℕ} → n < 2 ^ d → mirror d n * 2 ≡ n % 2 * 2 ^ d ⊕ mirror d (n / 2)
mirror_out d {n} h = sym (mirror_wide d 1 h) ∙ rw (add-one, mirror_suc) (join d (n % 2) (mirror_lt d (n / 2)))

-- what stands past a register's width is not in its polynomial
mirror_low : (d a n : ℕ) → mirror d (a * 2 ^ d + n) ≡ mirror d n
unfolding mirror
mirror_low zero a n = refl
mirror_low (suc d) a n = rw (block_odd a d n, block_half a d n, mirror_low d a (n / 2))

-- times x^j, a register whose j low bits are 0 is itself, moved down by them
pub mirror_down : (j k : ℕ) {n : ℕ} → n < 2 ^ k → mirror (j + k) (n * 2 ^ j) * 2 ^ j ≡ mirror (j + k) n
mirror_down j k {n} h =
    ap (λ (x : ℕ). x * 2 ^ j) (mirror_add j k (n * 2 ^ j))
    ∙ rw (mul-div_left n (pow_pos j), sym (add-zero (n * 2 ^ j)), mirror_low j n 0, mirror_zero, zero-mul, zero-add)
    (sym (mirror_wide k j h) ∙ ap (λ (x : ℕ). mirror x n) (add_comm k j))

-- the mirror of the mirror
pub mirror_mirror : (d : ℕ) {n : ℕ} → n < 2 ^ d → mirror d (mirror d n) ≡ n
unfolding mirror
mirror_mirror zero {n} h = omega arith
mirror_mirror (suc d) {n} h =
    let half : n / 2 < 2 ^ d = omega (arith, pow-suc 2 d) in
    let m : ℕ = n % 2 * 2 ^ d + mirror d (n / 2) in
    ap (λ (k : ℕ). mirror k m) (sym (add-one d))
    ∙ mirror_add d 1 m
    ∙ rw (mirror_low d (n % 2) (mirror d (n / 2)), mirror_mirror d half, digits_div (n % 2) (mirror_lt d (n / 2))) (omega arith)

-- two registers with one polynomial are one
pub mirror_inj : (d : ℕ) {a b : ℕ} → a < 2 ^ d → b < 2 ^ d → mirror d a ≡ mirror d b → a ≡ b
mirror_inj d ha hb e = sym (mirror_mirror d ha) ∙ ap (mirror d) e ∙ mirror_mirror d hb
