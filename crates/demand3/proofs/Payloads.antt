-- Present items among heads. Assumes nothing.
use mathlib.Core.Bool.{Bool, true, false, cond, ◌||◌, ◌&&◌}
use mathlib.Core.List.{List, [], ◌∷◌, ◌++◌}
use mathlib.Core.Path.{◌≡◌, refl, ap}
use Prim.Native.Nat.{ℕ}
use native.Mathlib.Omega.{arith}
use lib.Dec.{eqb}
use Rattle.paper.specs.Checksum.{data_crc}
use Rattle.paper.specs.Scan.{Head, payloads, present, live, any_live}

pub payloads_append : (a b : List Head) → payloads (a ++ b) ≡ payloads a ++ payloads b
unfolding payloads
payloads_append [] b = refl
payloads_append (h ∷ a) b = by (present h) (payloads_append a b)
  where
    by : (t : Bool) → payloads (a ++ b) ≡ payloads a ++ payloads b
        → cond t (h.body ∷ payloads (a ++ b)) (payloads (a ++ b)) ≡ cond t (h.body ∷ payloads a) (payloads a) ++ payloads b
    by true e = ap (λ (l : List (List ℕ)). h.body ∷ l) e
    by false e = e

pub no_live : (hs : List Head) → any_live hs ≡ false → payloads hs ≡ []
unfolding any_live payloads present
no_live [] e = refl
no_live (h ∷ hs) e = by (live h) refl e (no_live hs)
  where
    by : (t : Bool) → live h ≡ t → (t || any_live hs) ≡ false → (any_live hs ≡ false → payloads hs ≡ [])
        → cond (live h && eqb (data_crc h.body) h.crc) (h.body ∷ payloads hs) (payloads hs) ≡ []
    by true q f k = let z : ◌≡◌ {A = ℕ} 0 1 = cc in absurd (omega arith)
    by false q f k = rw q (k f)

pub not_present : (h : Head) → live h ≡ false → present h ≡ false
unfolding present
not_present h q = rw q
