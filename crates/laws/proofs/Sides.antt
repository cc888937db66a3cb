-- A number beside another: below it or not, the same or not. Assumes nothing.
use mathlib.Core.Bool.{Bool, true, false}
use mathlib.Core.Path.{◌≡◌, refl}
use Prim.Native.Nat.{ℕ, ◌≤◌, ◌<◌}
use borrow.Author.Tests.{ltb-true, ltb-false, eqb-true, eqb-false}
use lib.Dec.{ltb, eqb}

pub data Side (a b : ℕ) : Type 0 where
  below : a < b → Side a b
  above : b ≤ a → Side a b

pub side : (a b : ℕ) → Side a b
side a b = by (ltb a b) refl
  where
    by : (t : Bool) → ltb a b ≡ t → Side a b
    by true e = below (ltb-true a b e)
    by false e = above (ltb-false a b e)

pub data Apart (a b : ℕ) : Type 0 where
  is : a ≡ b → Apart a b
  differs : (a ≡ b → ⊥) → Apart a b

pub apart : (a b : ℕ) → Apart a b
apart a b = by (eqb a b) refl
  where
    by : (t : Bool) → eqb a b ≡ t → Apart a b
    by true e = is (eqb-true a b e)
    by false e = differs (eqb-false a b e)
