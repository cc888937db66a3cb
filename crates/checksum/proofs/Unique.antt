-- A division has one remainder and one quotient, so a plain checksum is one number. Assumes nothing.
use mathlib.Core.Path.{◌≡◌, sym, ap, ap₂, ◌∙◌}
use mathlib.Core.List.{List, [], ◌∷◌}
use Prim.Native.Nat.{ℕ, zero, suc, ◌+◌, ◌-◌, ◌*◌, ◌^◌, ◌<◌}
use native.Mathlib.Nat.{lt_of_mul-lt-mul_right, lt_of_lt_of_le, pow-suc, zero-lt-suc}
use native.Mathlib.Omega.{arith}
use lib.Pow.{pow_pos, pow-add, pow_mono, shl_lt}
use Rattle.paper.specs.Poly.{◌⊕◌, times, Remainder}
use Rattle.paper.specs.Checksum.{Crc}
use Rattle.checksum.specs.Claims.{Below}
use Rattle.checksum.proofs.Sums.{sum_comm, sum_self, sum_twice, sum_lt, sum_exchange, equal, times_sum, times_zero}
use Rattle.checksum.proofs.Registers.{mirror_inj}

-- the divisor's lower terms raise a degree by less than d
pub lower : (k d : ℕ) {u : ℕ} (es : List ℕ) → Below d es → u < 2 ^ suc k → times u es < 2 ^ (k + d)
unfolding times
lower k d [] b h = pow_pos (k + d)
lower k d (e ∷ es) b h =
    sum_lt (k + d) (lt_of_lt_of_le (shl_lt (suc k) e h) (pow_mono (omega (arith, b.0)))) (lower k d es b.1 h)

-- a multiple of the divisor has a degree of at least d, or is 0
small : (k d u : ℕ) (es : List ℕ) → Below d es → u < 2 ^ k → times u (d ∷ es) < 2 ^ d → u ≡ 0
unfolding times
small zero d u es b h l = omega arith
small (suc k) d u es b h l =
    let t : ℕ = times u es in
    let s : t ⊕ (u * 2 ^ d ⊕ t) < 2 ^ (k + d) = sum_lt (k + d) (lower k d es b h) (lt_of_lt_of_le l (pow_mono (omega arith))) in
    let f : u * 2 ^ d < 2 ^ k * 2 ^ d = rw (sum_comm (u * 2 ^ d) t, sum_twice, pow-add) at s in
    small k d u es b (lt_of_mul-lt-mul_right (2 ^ d) f) l

below_pow : (n : ℕ) → n < 2 ^ n
below_pow zero = zero-lt-suc 0
below_pow (suc n) = let h : n < 2 ^ n = below_pow n in omega (arith, pow-suc 2 n)

module _ (d : ℕ) (es : List ℕ) (b : Below d es) {p r s : ℕ} (m : Remainder d es p r) (n : Remainder d es p s) where
  -- the two quotients differ by what the two remainders differ by
  differ : times (m.quotient ⊕ n.quotient) (d ∷ es) ≡ r ⊕ s
  differ =
      let x : ℕ = times m.quotient (d ∷ es) in
      let y : ℕ = times n.quotient (d ∷ es) in
      times_sum m.quotient n.quotient (d ∷ es)
      ∙ equal (x ⊕ y) (r ⊕ s) (sum_exchange x y r s ∙ sym (ap₂ ◌⊕◌ m.divides n.divides) ∙ sum_self p)

  no_quotient : m.quotient ⊕ n.quotient ≡ 0
  no_quotient =
      let u : ℕ = m.quotient ⊕ n.quotient in
      small u d u es b (below_pow u) (rw differ (sum_lt d m.low n.low))

  pub rem_unique : r ≡ s
  rem_unique = equal r s (sym differ ∙ rw (no_quotient, times_zero))

  pub quotient_unique : m.quotient ≡ n.quotient
  quotient_unique = equal m.quotient n.quotient no_quotient

pub crc_unique : (d : ℕ) (es : List ℕ) → Below d es → {start a b : ℕ} {bytes : List ℕ}
    → Crc d es start bytes a → Crc d es start bytes b → a ≡ b
crc_unique d es l x y =
    x.inverted
    ∙ ap (λ (n : ℕ). 2 ^ d - 1 - n) (mirror_inj d x.fits y.fits (rem_unique d es l x.division y.division))
    ∙ sym y.inverted
