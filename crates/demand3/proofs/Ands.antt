-- Bytes ANDed onto FF and with themselves. Assumes nothing.
use mathlib.Core.Bool.{true}
use mathlib.Core.List.{List, [], ◌∷◌, ◌++◌}
use mathlib.Core.Path.{◌≡◌, refl, ap, ap₂, ◌∙◌, subst}
use Prim.Native.Nat.{ℕ, zero, suc, ◌+◌, ◌≤◌}
use native.Mathlib.Nat.{mod-eq_of_lt}
use native.Mathlib.Omega.{arith}
use borrow.Author.Tests.{eqb-true}
use lib.Bits.{bit_and, and_mask, and_comm, and_self}
use lib.Dec.{eqb}
use lib.ListN.{length, take, replicate}
use Rattle.paper.specs.Chip.{ands}
use Rattle.paper.specs.Slip.{blank}
use Rattle.paper.specs.Fifo.{Bytes}
use Rattle.laws.proofs.Ands.{ands_nil}
use Rattle.demand3.proofs.Blank.{and_true}

pub ands_blank : (xs bs : List ℕ) → blank (take (length bs) xs) ≡ true → length bs ≤ length xs → Bytes bs → ands xs bs ≡ bs
unfolding ands blank
ands_blank [] [] e h k = refl
ands_blank [] (b ∷ bs) e h k = let z : ⊥ = omega arith in absurd z
ands_blank (x ∷ xs) [] e h k = refl
ands_blank (x ∷ xs) (b ∷ bs) e h k =
    let p = and_true (eqb x 255) (blank (take (length bs) xs)) e in
    let q : bit_and x b ≡ b = ap (λ (y : ℕ). bit_and y b) (eqb-true x 255 p.0) ∙ and_comm 255 b ∙ and_mask b 8 ∙ mod-eq_of_lt k.0 in
    ap₂ ◌∷◌ q (ands_blank xs bs p.1 (omega arith) k.1)

-- bytes ANDed with themselves, and then with FF
pub ands_kept : (y : List ℕ) (i r k : ℕ) → k ≤ i + r → i + r ≤ length y → Bytes (take (i + r) y)
    → ands y (take k (take i y ++ replicate r 255)) ≡ take k y
unfolding ands
ands_kept y i r zero h l b = ands_nil y
ands_kept [] i r (suc k) h l b = let z : ⊥ = omega arith in absurd z
ands_kept (x ∷ y) zero zero (suc k) h l b = let z : ⊥ = omega arith in absurd z
ands_kept (x ∷ y) zero (suc r) (suc k) h l b =
    let z : 0 + suc r ≡ suc (0 + r) = omega arith in
    let b₁ : Bytes (take (suc (0 + r)) (x ∷ y)) = subst (λ (m : ℕ). Bytes (take m (x ∷ y))) z b in
    ap₂ ◌∷◌ (and_mask x 8 ∙ mod-eq_of_lt b₁.0) (ands_kept y zero r k (omega arith) (omega arith) b₁.1)
ands_kept (x ∷ y) (suc i) r (suc k) h l b =
    let z : suc i + r ≡ suc (i + r) = omega arith in
    let b₁ : Bytes (take (suc (i + r)) (x ∷ y)) = subst (λ (m : ℕ). Bytes (take m (x ∷ y))) z b in
    ap₂ ◌∷◌ (and_self x) (ands_kept y i r k (omega arith) (omega arith) b₁.1)
