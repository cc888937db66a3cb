-- Bytes that are all FF. Assumes nothing.
use mathlib.Core.Bool.{Bool, true, false, ◌&&◌}
use mathlib.Core.List.{List, [], ◌∷◌, ◌++◌}
use mathlib.Core.Path.{◌≡◌, refl, ap, ap₂, ◌∙◌}
use Prim.Native.Nat.{ℕ, zero, suc, ◌-◌, ◌≤◌}
use native.Mathlib.Omega.{arith}
use borrow.Author.Tests.{eqb-true}
use lib.Dec.{eqb}
use lib.ListN.{length, take, drop, replicate}
use Rattle.paper.specs.Slip.{blank}
use Rattle.laws.proofs.Parts.{take_append}

pub and_true : (a b : Bool) → (a && b) ≡ true → (a ≡ true) × (b ≡ true)
and_true true true e = (refl, refl)
and_true true false e = (refl, e)
and_true false b e = let z : false ≡ true = e in (e, cc)

pub blank_append : (a b : List ℕ) → blank (a ++ b) ≡ (blank a && blank b)
unfolding blank
blank_append [] b = refl
blank_append (x ∷ a) b = by (eqb x 255) (blank_append a b)
  where
    by : (t : Bool) → blank (a ++ b) ≡ (blank a && blank b) → (t && blank (a ++ b)) ≡ (t && blank a && blank b)
    by true e = e
    by false e = refl

pub blank_take : (k : ℕ) (a : List ℕ) → blank a ≡ true → blank (take k a) ≡ true
unfolding blank
blank_take zero a e = refl
blank_take (suc k) [] e = refl
blank_take (suc k) (x ∷ a) e = let p = and_true (eqb x 255) (blank a) e in rw p.0 (blank_take k a p.1)

pub blank_drop : (k : ℕ) (a : List ℕ) → blank a ≡ true → blank (drop k a) ≡ true
unfolding blank
blank_drop zero a e = e
blank_drop (suc k) [] e = refl
blank_drop (suc k) (x ∷ a) e = blank_drop k a (and_true (eqb x 255) (blank a) e).1

pub blank_is : (k : ℕ) (a : List ℕ) → blank a ≡ true → k ≤ length a → take k a ≡ replicate k 255
unfolding blank
blank_is zero a e h = refl
blank_is (suc k) [] e h = let z : ⊥ = omega arith in absurd z
blank_is (suc k) (x ∷ a) e h = let p = and_true (eqb x 255) (blank a) e in ap₂ ◌∷◌ (eqb-true x 255 p.0) (blank_is k a p.1 (omega arith))

pub blank_replicate : (k : ℕ) → blank (replicate k 255) ≡ true
unfolding blank
blank_replicate zero = refl
blank_replicate (suc k) = blank_replicate k

-- where t is FF only as far as r is, so it is behind the same front
pub blank_front : (k : ℕ) (f r t : List ℕ) → ((k : ℕ) → blank (take k t) ≡ true → blank (take k r) ≡ true)
    → blank (take k (f ++ r)) ≡ false → blank (take k (f ++ t)) ≡ false
blank_front k f r t h e = by (blank (take k f)) (blank (take (k - length f) t)) refl refl
  where
    n : ℕ
    n = k - length f

    is : (q : List ℕ) → blank (take k (f ++ q)) ≡ (blank (take k f) && blank (take n q))
    is q = ap blank (take_append k f q) ∙ blank_append (take k f) (take n q)

    by : (s t' : Bool) → blank (take k f) ≡ s → blank (take n t) ≡ t' → blank (take k (f ++ t)) ≡ false
    by true true u v = let w : blank (take k (f ++ r)) ≡ true = is r ∙ rw (u, h n v) in let z : ◌≡◌ {A = ℕ} 0 1 = cc in absurd (omega arith)
    by true false u v = is t ∙ rw (u, v)
    by false t' u v = is t ∙ rw u
