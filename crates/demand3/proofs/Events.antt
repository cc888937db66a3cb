-- One event, and events that do not erase a page. Assumes nothing.
use mathlib.Core.List.{List, [], ◌∷◌, ◌++◌}
use mathlib.Core.Path.{◌≡◌, refl}
use Prim.Native.Nat.{ℕ, zero, suc}
use Rattle.paper.specs.declared.Geometry.{Geometry}
use Rattle.paper.specs.Chip.{Event, store, erase, copy, image_by, image_after, before}

pub one_event : (g : Geometry) (jm : List ℕ) (ev : Event) → image_after g (ev ∷ []) jm ≡ image_by g ev jm
unfolding image_after
one_event g jm ev = refl

-- no erase of page q
abbrev pub Avoids : ℕ → List Event → Type 0
Avoids q [] = Unit {0}
Avoids q (store a bs ∷ es) = Avoids q es
Avoids q (erase p ∷ es) = (p ≡ q → ⊥) × Avoids q es
Avoids q (copy a n ∷ es) = Avoids q es

pub avoid_append : (q : ℕ) (es fs : List Event) → Avoids q es → Avoids q fs → Avoids q (es ++ fs)
avoid_append q [] fs a b = b
avoid_append q (store x bs ∷ es) fs a b = avoid_append q es fs a b
avoid_append q (erase p ∷ es) fs a b = (a.0, avoid_append q es fs a.1 b)
avoid_append q (copy x n ∷ es) fs a b = avoid_append q es fs a b

pub avoid_before : (q k : ℕ) (es : List Event) → Avoids q es → Avoids q (before k es)
unfolding before
avoid_before q k [] a = tt
avoid_before q k (copy x n ∷ es) a = avoid_before q k es a
avoid_before q zero (store x bs ∷ es) a = tt
avoid_before q zero (erase p ∷ es) a = tt
avoid_before q (suc k) (store x bs ∷ es) a = avoid_before q k es a
avoid_before q (suc k) (erase p ∷ es) a = (a.0, avoid_before q k es a.1)
