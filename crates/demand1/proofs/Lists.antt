-- What holds of every one of a list: appended lists, weaker statements, the first stores of a list of events. Assumes nothing.
use mathlib.Core.Path.{◌≡◌}
use mathlib.Core.List.{List, [], ◌∷◌, ◌++◌}
use Prim.Native.Nat.{ℕ, zero, suc}
use native.Mathlib.Omega.{arith}
use Rattle.paper.specs.Chip.{Event, store, erase, copy, before}
use Rattle.demand1.specs.Range.{Each}

pub each_append : {A : Type 0} (P : A → Type 0) (xs ys : List A) → Each P xs → Each P ys → Each P (xs ++ ys)
each_append P [] ys e f = f
each_append P (x ∷ xs) ys e f = (e.0, each_append P xs ys e.1 f)

pub each_weaker : {A : Type 0} (P Q : A → Type 0) → ((x : A) → P x → Q x) → (xs : List A) → Each P xs → Each Q xs
each_weaker P Q f [] e = tt
each_weaker P Q f (x ∷ xs) e = (f x e.0, each_weaker P Q f xs e.1)

pub each_before : (P : Event → Type 0) (k : ℕ) (es : List Event) → Each P es → Each P (before k es)
unfolding before
each_before P k [] e = tt
each_before P k (copy a n ∷ es) e = (e.0, each_before P k es e.1)
each_before P zero (store a bs ∷ es) e = tt
each_before P zero (erase p ∷ es) e = tt
each_before P (suc k) (store a bs ∷ es) e = (e.0, each_before P k es e.1)
each_before P (suc k) (erase p ∷ es) e = (e.0, each_before P k es e.1)

pub each_any : {A : Type 0} (xs : List A) → Each (λ x. Unit {0}) xs
each_any [] = tt
each_any (x ∷ xs) = (tt, each_any xs)

-- from two different values that are equal
pub never : {A : Type 0} → ◌≡◌ {A = ℕ} 0 1 → A
never e = absurd (omega arith)
