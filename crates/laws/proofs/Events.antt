-- Events in a row: what they do to image and buffer, how many are stores, and those before a store. Assumes nothing.
use mathlib.Core.List.{List, [], ◌∷◌, ◌++◌, append-nil}
use mathlib.Core.Path.{◌≡◌, refl, sym, ap, ◌∙◌}
use Prim.Native.Nat.{ℕ, zero, suc, ◌+◌, ◌-◌, ◌≤◌, ◌<◌}
use native.Mathlib.Nat.{suc-sub-suc, sub-zero}
use native.Mathlib.Omega.{arith}
use Rattle.paper.specs.declared.Geometry.{Geometry}
use Rattle.paper.specs.Chip.{Event, store, erase, copy, image_by, image_after, store_count, before, buffer_by, buffer_after}
use Rattle.paper.specs.Ways.{Each}

pub image_append : (g : Geometry) (xs ys : List Event) (im : List ℕ) → image_after g (xs ++ ys) im ≡ image_after g ys (image_after g xs im)
unfolding image_after
image_append g [] ys im = refl
image_append g (x ∷ xs) ys im = image_append g xs ys (image_by g x im)

pub buffer_append : (g : Geometry) (xs ys : List Event) (im buf : List ℕ)
    → buffer_after g (xs ++ ys) im buf ≡ buffer_after g ys (image_after g xs im) (buffer_after g xs im buf)
unfolding buffer_after image_after
buffer_append g [] ys im buf = refl
buffer_append g (x ∷ xs) ys im buf = buffer_append g xs ys (image_by g x im) (buffer_by x im buf)

pub count_append : (xs ys : List Event) → store_count (xs ++ ys) ≡ store_count xs + store_count ys
unfolding store_count
count_append [] ys = omega arith
count_append (store a bs ∷ xs) ys = omega (arith, count_append xs ys)
count_append (erase p ∷ xs) ys = omega (arith, count_append xs ys)
count_append (copy a n ∷ xs) ys = count_append xs ys

-- ---- copies alone

abbrev pub IsCopy : Event → Type 0
IsCopy (store a bs) = ⊥
IsCopy (erase p) = ⊥
IsCopy (copy a n) = Unit {0}

-- they leave the image
pub copies_image : (g : Geometry) (es : List Event) (im : List ℕ) → Each IsCopy es → image_after g es im ≡ im
unfolding image_after image_by
copies_image g [] im c = refl
copies_image g (store a bs ∷ es) im c = absurd c.0
copies_image g (erase p ∷ es) im c = absurd c.0
copies_image g (copy a n ∷ es) im c = copies_image g es im c.1

-- events without a store are copies
pub storeless : (es : List Event) → store_count es ≡ 0 → Each IsCopy es
unfolding store_count
storeless [] e = tt
storeless (store a bs ∷ es) e = absurd (omega arith)
storeless (erase p ∷ es) e = absurd (omega arith)
storeless (copy a n ∷ es) e = (tt, storeless es e)

-- ---- the events before store k

pub before_less : (k : ℕ) (xs ys : List Event) → k < store_count xs → before k (xs ++ ys) ≡ before k xs
unfolding before store_count
before_less k [] ys h = absurd (omega arith)
before_less k (copy a n ∷ xs) ys h = ap (λ (l : List Event). copy a n ∷ l) (before_less k xs ys h)
before_less zero (store a bs ∷ xs) ys h = refl
before_less zero (erase p ∷ xs) ys h = refl
before_less (suc k) (store a bs ∷ xs) ys h = ap (λ (l : List Event). store a bs ∷ l) (before_less k xs ys (omega arith))
before_less (suc k) (erase p ∷ xs) ys h = ap (λ (l : List Event). erase p ∷ l) (before_less k xs ys (omega arith))

pub before_more : (k : ℕ) (xs ys : List Event) → store_count xs ≤ k → before k (xs ++ ys) ≡ xs ++ before (k - store_count xs) ys
unfolding before store_count
before_more k [] ys h = rw sub-zero
before_more k (copy a n ∷ xs) ys h = ap (λ (l : List Event). copy a n ∷ l) (before_more k xs ys h)
before_more zero (store a bs ∷ xs) ys h = absurd (omega arith)
before_more zero (erase p ∷ xs) ys h = absurd (omega arith)
before_more (suc k) (store a bs ∷ xs) ys h = rw suc-sub-suc (ap (λ (l : List Event). store a bs ∷ l) (before_more k xs ys (omega arith)))
before_more (suc k) (erase p ∷ xs) ys h = rw suc-sub-suc (ap (λ (l : List Event). erase p ∷ l) (before_more k xs ys (omega arith)))

pub before_all : (k : ℕ) (xs : List Event) → store_count xs ≤ k → before k xs ≡ xs
unfolding before
before_all k xs h = ap (before k) (sym (append-nil xs)) ∙ before_more k xs [] h ∙ append-nil xs
