-- Copies of at most m bytes leave the buffer from its m-th byte on. Assumes nothing.
use mathlib.Core.Path.{◌≡◌, refl, ◌∙◌}
use mathlib.Core.List.{List, [], ◌∷◌}
use Prim.Native.Nat.{ℕ, ◌≤◌}
use native.Mathlib.Omega.{arith}
use lib.ListN.{length, drop, length-take}
use Rattle.paper.specs.declared.Geometry.{Geometry}
use Rattle.paper.specs.Chip.{part, Event, store, erase, copy, image_by, buffer_by, buffer_after}
use Rattle.laws.proofs.Puts.{length_put, drop_after}
use Rattle.demand1.specs.Range.{Each}
use Rattle.demand1.specs.Buffers.{CopiesAtMost}

pub tail_stays : (g : Geometry) (im buf : List ℕ) (es : List Event) (m : ℕ) → Each (CopiesAtMost m) es → m ≤ length buf
    → (length (buffer_after g es im buf) ≡ length buf) × (drop m (buffer_after g es im buf) ≡ drop m buf)
unfolding buffer_after buffer_by
tail_stays g im buf [] m h l = (refl, refl)
tail_stays g im buf (store a word ∷ es) m h l = tail_stays g (image_by g (store a word) im) buf es m h.1 l
tail_stays g im buf (erase p ∷ es) m h l = tail_stays g (image_by g (erase p) im) buf es m h.1 l
tail_stays g im buf (copy a n ∷ es) m h l =
    let x : List ℕ = part a n im in
    let k : length x ≤ n = omega (arith, length-take n (drop a im)) in
    let s = length_put 0 x buf (omega (arith, h.0)) in
    let r = tail_stays g (image_by g (copy a n) im) (buffer_by (copy a n) im buf) es m h.1 (omega arith) in
    (r.0 ∙ s, r.1 ∙ drop_after 0 x buf (omega (arith, h.0)) m (omega (arith, h.0)))
