-- The sum of polynomials is a group in which each is its own inverse, and the product with a divisor is linear. Assumes nothing.
use mathlib.Core.Path.{◌≡◌, refl, sym, ap, ◌∙◌}
use mathlib.Core.List.{List, [], ◌∷◌}
use Prim.Native.Nat.{ℕ, ◌+◌, ◌-◌, ◌*◌, ◌/◌, ◌%◌, ◌^◌, ◌<◌}
use native.Mathlib.Nat.{add-zero, zero-mul, mul_right_comm, mod-eq_of_lt}
use native.Mathlib.Omega.{arith}
use lib.Arith.{bin_ind}
use lib.Pow.{pow_pos}
use lib.Bits.{xor_comm, xor_self, xor_zero_r, xor_lt, xor_shr, xor_mod, xor_block, xor_shifted, xor_add_and, and_mask}
use Rattle.paper.specs.Poly.{◌⊕◌, times}

-- ---- a sum, coefficient by coefficient

sum_shr : (k a b : ℕ) → (a ⊕ b) / 2 ^ k ≡ a / 2 ^ k ⊕ b / 2 ^ k
unfolding ◌⊕◌
sum_shr k a b = xor_shr a b k

pub sum_mod : (k a b : ℕ) → (a ⊕ b) % 2 ^ k ≡ a % 2 ^ k ⊕ b % 2 ^ k
unfolding ◌⊕◌
sum_mod k a b = xor_mod a b k

pub sum_half : (a b : ℕ) → (a ⊕ b) / 2 ≡ a / 2 ⊕ b / 2
sum_half = sum_shr 1

sum_odd : (a b : ℕ) → (a ⊕ b) % 2 ≡ (a + b) % 2
unfolding ◌⊕◌
sum_odd a b = omega (arith, xor_add_and a b)

-- the coefficients of x^k are added without carry
pub sum_coefficient : (k a b : ℕ) → (a ⊕ b) / 2 ^ k % 2 ≡ (a / 2 ^ k + b / 2 ^ k) % 2
sum_coefficient k a b = rw sum_shr (sum_odd (a / 2 ^ k) (b / 2 ^ k))

-- ---- the group

pub sum_comm : (a b : ℕ) → a ⊕ b ≡ b ⊕ a
unfolding ◌⊕◌
sum_comm = xor_comm

pub zero_sum : (a : ℕ) → 0 ⊕ a ≡ a
unfolding ◌⊕◌
zero_sum a = refl

pub sum_zero : (a : ℕ) → a ⊕ 0 ≡ a
unfolding ◌⊕◌
sum_zero = xor_zero_r

pub sum_self : (a : ℕ) → a ⊕ a ≡ 0
unfolding ◌⊕◌
sum_self = xor_self

-- two numbers with one half and one low digit are one
halves_equal : (m n : ℕ) → m / 2 ≡ n / 2 → m % 2 ≡ n % 2 → m ≡ n
halves_equal m n h l = omega arith

pub sum_assoc : (a b c : ℕ) → a ⊕ b ⊕ c ≡ a ⊕ (b ⊕ c)
sum_assoc =
    bin_ind (λ (n : ℕ). (b c : ℕ) → n ⊕ b ⊕ c ≡ n ⊕ (b ⊕ c)) (λ b c. simp zero_sum)
    (λ n ih b c.
    let halves : (n ⊕ b ⊕ c) / 2 ≡ (n ⊕ (b ⊕ c)) / 2 = simp sum_half (ih (b / 2) (c / 2)) in
    let left : (n ⊕ b ⊕ c) % 2 ≡ (n + b + c) % 2 = omega (arith, sum_odd (n ⊕ b) c, sum_odd n b) in
    let right : (n ⊕ (b ⊕ c)) % 2 ≡ (n + b + c) % 2 = omega (arith, sum_odd n (b ⊕ c), sum_odd b c) in
    halves_equal (n ⊕ b ⊕ c) (n ⊕ (b ⊕ c)) halves (left ∙ sym right))

pub sum_exchange : (a b c d : ℕ) → (a ⊕ b) ⊕ (c ⊕ d) ≡ (a ⊕ c) ⊕ (b ⊕ d)
sum_exchange a b c d = cc (sum_assoc a b (c ⊕ d), sum_assoc b c d, sum_comm b c, sum_assoc c b d, sum_assoc a c (b ⊕ d))

-- adding twice changes nothing
pub sum_twice : (a b : ℕ) → a ⊕ (a ⊕ b) ≡ b
sum_twice a b = rw (← sum_assoc, sum_self, zero_sum)

pub sum_cancel : (a b c : ℕ) → (a ⊕ b) ⊕ (a ⊕ c) ≡ b ⊕ c
sum_cancel a b c = sum_exchange a b a c ∙ rw (sum_self, zero_sum)

-- what adds up to 0 is equal
pub equal : (a b : ℕ) → a ⊕ b ≡ 0 → a ≡ b
equal a b e = sym (sum_zero a) ∙ ap (◌⊕◌ a) (sym e) ∙ sum_twice a b

-- ---- degrees, and times x^k

-- to add all ones is to invert
pub sum_ones : (k : ℕ) {a : ℕ} → a < 2 ^ k → a ⊕ (2 ^ k - 1) ≡ 2 ^ k - 1 - a
unfolding ◌⊕◌
sum_ones k {a} h = omega (arith, xor_add_and a (2 ^ k - 1), and_mask a k ∙ mod-eq_of_lt h)

pub sum_lt : (k : ℕ) {a b : ℕ} → a < 2 ^ k → b < 2 ^ k → a ⊕ b < 2 ^ k
unfolding ◌⊕◌
sum_lt k {a} {b} = xor_lt k a b

-- the high and the low coefficients are added apart
pub sum_block : (k a b : ℕ) {r s : ℕ} → r < 2 ^ k → s < 2 ^ k → (a * 2 ^ k + r) ⊕ (b * 2 ^ k + s) ≡ (a ⊕ b) * 2 ^ k + (r ⊕ s)
unfolding ◌⊕◌
sum_block k a b {r} {s} = xor_block k a b r s

-- what stands above x^k and what stands below are joined by either sum
pub join : (k a : ℕ) {b : ℕ} → b < 2 ^ k → a * 2 ^ k + b ≡ a * 2 ^ k ⊕ b
unfolding ◌⊕◌
join k a {b} h = sym (xor_shifted a k b h)

pub sum_shl : (k a b : ℕ) → (a ⊕ b) * 2 ^ k ≡ a * 2 ^ k ⊕ b * 2 ^ k
sum_shl k a b = sym (simp (add-zero, sum_self) at (sum_block k a b (pow_pos k) (pow_pos k)))

-- ---- the product

pub times_sum : (q p : ℕ) (es : List ℕ) → times (q ⊕ p) es ≡ times q es ⊕ times p es
unfolding times
times_sum q p [] = sym (zero_sum 0)
times_sum q p (e ∷ es) = rw (sum_shl, times_sum q p es) (sum_exchange (q * 2 ^ e) (p * 2 ^ e) (times q es) (times p es))

pub times_shl : (k q : ℕ) (es : List ℕ) → times (q * 2 ^ k) es ≡ times q es * 2 ^ k
unfolding times
times_shl k q [] = sym (zero-mul (2 ^ k))
times_shl k q (e ∷ es) = rw (mul_right_comm q (2 ^ k) (2 ^ e), times_shl k q es, ← sum_shl)

pub times_zero : (es : List ℕ) → times 0 es ≡ 0
unfolding times
times_zero [] = refl
times_zero (e ∷ es) = simp (zero-mul, times_zero es, zero_sum)
