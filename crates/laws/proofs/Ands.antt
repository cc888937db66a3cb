-- Bytes ANDed onto others: how many, two lists in a row, zeros. Assumes nothing.
use mathlib.Core.List.{List, [], ◌∷◌, ◌++◌}
use mathlib.Core.Path.{◌≡◌, refl, ap, ap₂}
use Prim.Native.Nat.{ℕ, zero, suc, ◌≤◌}
use native.Mathlib.Omega.{arith}
use lib.Bits.{bit_and, and_zero_r}
use lib.ListN.{length, take, drop, replicate}
use Rattle.paper.specs.Chip.{ands}

pub ands_nil : (xs : List ℕ) → ands xs [] ≡ []
unfolding ands
ands_nil [] = refl
ands_nil (x ∷ xs) = refl

pub ands_length : (xs bs : List ℕ) → length bs ≤ length xs → length (ands xs bs) ≡ length bs
unfolding ands
ands_length [] [] h = refl
ands_length [] (b ∷ bs) h = absurd (omega arith)
ands_length (x ∷ xs) [] h = refl
ands_length (x ∷ xs) (b ∷ bs) h = ap suc (ands_length xs bs (omega arith))

-- as far as the word goes
pub ands_take : (xs bs : List ℕ) → ands (take (length bs) xs) bs ≡ ands xs bs
unfolding ands
ands_take [] [] = refl
ands_take [] (b ∷ bs) = refl
ands_take (x ∷ xs) [] = refl
ands_take (x ∷ xs) (b ∷ bs) = ap (λ (r : List ℕ). bit_and x b ∷ r) (ands_take xs bs)

pub ands_append : (xs bs cs : List ℕ) → length bs ≤ length xs → ands xs (bs ++ cs) ≡ ands xs bs ++ ands (drop (length bs) xs) cs
unfolding ands
ands_append [] [] cs h = refl
ands_append (x ∷ xs) [] cs h = refl
ands_append [] (b ∷ bs) cs h = absurd (omega arith)
ands_append (x ∷ xs) (b ∷ bs) cs h = ap (λ (l : List ℕ). bit_and x b ∷ l) (ands_append xs bs cs (omega arith))

pub ands_zeros : (xs : List ℕ) (n : ℕ) → n ≤ length xs → ands xs (replicate n 0) ≡ replicate n 0
unfolding ands
ands_zeros [] zero h = refl
ands_zeros (x ∷ xs) zero h = refl
ands_zeros [] (suc n) h = absurd (omega arith)
ands_zeros (x ∷ xs) (suc n) h = ap₂ ◌∷◌ (and_zero_r x) (ands_zeros xs n (omega arith))
