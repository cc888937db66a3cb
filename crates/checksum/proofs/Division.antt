-- Division with remainder: its two rules, and what is left of a dividend that is extended. Assumes nothing.
use mathlib.Core.Path.{◌≡◌, sym, ap, ◌∙◌, subst⁻¹}
use mathlib.Core.List.{List, ◌∷◌}
use Prim.Native.Nat.{ℕ, ◌*◌, ◌^◌, ◌<◌}
use Rattle.paper.specs.Poly.{◌⊕◌, times, Remainder}
use Rattle.checksum.proofs.Sums.{zero_sum, sum_assoc, sum_comm, sum_exchange, sum_twice, sum_lt, sum_shl, times_sum, times_shl, times_zero}

module _ (d : ℕ) (es : List ℕ) where
  -- equal dividends have the same remainder
  pub rem_of : {p q r : ℕ} → p ≡ q → Remainder d es q r → Remainder d es p r
  rem_of {p} {q} {r} = subst⁻¹ (λ (x : ℕ). Remainder d es x r)

  -- what has a degree below d is its own remainder
  pub rem_self : {r : ℕ} → r < 2 ^ d → Remainder d es r r
  rem_self {r} h = record { quotient = 0; divides = sym (rw (times_zero, zero_sum)); low = h }

  -- a multiple of the divisor may be added
  pub rem_plus : (u : ℕ) {p r : ℕ} → Remainder d es (p ⊕ times u (d ∷ es)) r → Remainder d es p r
  rem_plus u {p} {r} m =
      let v : ℕ = times u (d ∷ es) in
      record {
        quotient = u ⊕ m.quotient;
        divides = sym (sum_twice v p) ∙ ap (◌⊕◌ v) (sum_comm v p ∙ m.divides) ∙ rw (← sum_assoc, ← times_sum);
        low = m.low;
      }

  -- a sum leaves the sum of what its two parts leave
  pub rem_sum : {p q r s : ℕ} → Remainder d es p r → Remainder d es q s → Remainder d es (p ⊕ q) (r ⊕ s)
  rem_sum {p} {q} {r} {s} m n =
      let u : ℕ = times m.quotient (d ∷ es) in
      let v : ℕ = times n.quotient (d ∷ es) in
      record {
        quotient = m.quotient ⊕ n.quotient;
        divides = rw (m.divides, n.divides, times_sum) (sum_exchange u r v s);
        low = sum_lt d m.low n.low;
      }

  -- what is left of p stands for p: times x^k, plus s, and divided again
  pub rem_then : (k s : ℕ) {p r t : ℕ} → Remainder d es p r → Remainder d es (r * 2 ^ k ⊕ s) t → Remainder d es (p * 2 ^ k ⊕ s) t
  rem_then k s {p} {r} m n =
      let u : ℕ = m.quotient * 2 ^ k in
      let v : ℕ = times u (d ∷ es) in
      let parts : p * 2 ^ k ≡ v ⊕ r * 2 ^ k = ap (λ (x : ℕ). x * 2 ^ k) m.divides ∙ rw (sum_shl, ← times_shl) in
      let e : p * 2 ^ k ⊕ s ⊕ v ≡ r * 2 ^ k ⊕ s =
      sum_comm (p * 2 ^ k ⊕ s) v ∙ rw (parts, sum_assoc) (sum_twice v (r * 2 ^ k ⊕ s)) in
      rem_plus u (rem_of e n)
