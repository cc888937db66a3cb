-- Tests and what they tell: a Bool beside the statement that it decides. Assumes nothing.
use mathlib.Core.Path.{◌≡◌, refl}
use mathlib.Core.Bool.{Bool, true, false, not, ◌||◌}
use mathlib.Core.Logic.{◌⊎◌, inl, inr}
use Prim.Native.Nat.{ℕ, ◌<◌}
use native.Mathlib.Omega.{arith}
use borrow.Author.Tests.{ltb-true, ltb-false, eqb-true, eqb-false}
use lib.Dec.{eqb, ltb}
use Rattle.demand1.proofs.Lists.{never}

pub data Tells (P : Type 0) : Bool → Type 0 where
  yes : P → Tells P true
  no : (P → ⊥) → Tells P false

pub tells_eq : (a b : ℕ) → Tells (a ≡ b) (eqb a b)
tells_eq a b = by (eqb a b) refl
  where
    by : (t : Bool) → eqb a b ≡ t → Tells (a ≡ b) t
    by true e = yes (eqb-true a b e)
    by false e = no (eqb-false a b e)

pub tells_lt : (a b : ℕ) → Tells (a < b) (ltb a b)
tells_lt a b = by (ltb a b) refl
  where
    by : (t : Bool) → ltb a b ≡ t → Tells (a < b) t
    by true e = yes (ltb-true a b e)
    by false e = no (λ h. let z : ⊥ = omega (arith, ltb-false a b e) in z)

pub tells_or : {P Q : Type 0} {s t : Bool} → Tells P s → Tells Q t → Tells (P ⊎ Q) (s || t)
tells_or (yes p) q = yes (inl p)
tells_or (no n) (yes q) = yes (inr q)
tells_or {P} {Q} (no n) (no m) = no by
  where
    by : P ⊎ Q → ⊥
    by (inl p) = n p
    by (inr q) = m q

pub tells_not : {P : Type 0} {t : Bool} → Tells P t → Tells (P → ⊥) (not t)
tells_not (yes p) = no (λ f. f p)
tells_not (no n) = yes n

pub tells_same : {P Q : Type 0} {t : Bool} → (P → Q) → (Q → P) → Tells P t → Tells Q t
tells_same f g (yes p) = yes (f p)
tells_same f g (no n) = no (λ q. n (g q))

pub told_yes : {P : Type 0} {t : Bool} → Tells P t → t ≡ true → P
told_yes (yes p) e = p
told_yes (no n) e = never (cc)

pub told_no : {P : Type 0} {t : Bool} → Tells P t → t ≡ false → P → ⊥
told_no (yes p) e = never (cc)
told_no (no n) e = n
