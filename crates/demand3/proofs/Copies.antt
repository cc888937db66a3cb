-- Copies to the buffer, and what reading a page's heads comes to. Assumes nothing.
use mathlib.Core.Bool.{Bool, true, false, cond, not}
use mathlib.Core.List.{List, [], ◌∷◌, ◌++◌}
use mathlib.Core.Path.{◌≡◌, refl, ap, ◌∙◌}
use Prim.Native.Nat.{ℕ, ◌+◌, ◌≤◌}
use lib.Dec.{ltb}
use lib.ListN.{length, take, drop}
use lib.Seq.{take-append-le, take-take}
use Rattle.paper.specs.declared.Geometry.{Geometry}
use Rattle.paper.specs.Chip.{round_up, header_size, part, put, Event, store, erase, copy, image_by, image_after, buffer_by, buffer_after, Plan, plan, bind}
use Rattle.paper.specs.Scan.{Head, payloads, present, live}
use Rattle.paper.specs.Search.{Met, passed, long, met, item_end, read_heads}
use Rattle.paper.specs.Ways.{Each}
use Rattle.laws.proofs.Events.{image_append, buffer_append, IsCopy}
use Rattle.demand3.proofs.Events.{Avoids}
use Rattle.demand3.proofs.Payloads.{not_present}
use Rattle.demand3.proofs.Steady.{HoldsList, Steady, rests, goes, copied}

-- ---- events that are copies

pub copies_steady : {g : Geometry} {q : List (List ℕ)} {im : List ℕ} (es : List Event) → HoldsList g q im → Each IsCopy es → Steady g q im es
unfolding image_by
copies_steady [] K c = rests K
copies_steady (store a bs ∷ es) K c = absurd c.0
copies_steady (erase p ∷ es) K c = absurd c.0
copies_steady (copy a n ∷ es) K c = goes K (copied a n) (copies_steady es K c.1)

pub copies_avoid : (q : ℕ) (es : List Event) → Each IsCopy es → Avoids q es
copies_avoid q [] c = tt
copies_avoid q (store a bs ∷ es) c = absurd c.0
copies_avoid q (erase p ∷ es) c = absurd c.0
copies_avoid q (copy a n ∷ es) c = copies_avoid q es c.1

-- copies, an erase, and more
pub image_on : (g : Geometry) (es : List Event) (p : ℕ) (fs : List Event) (im : List ℕ) → image_after g es im ≡ im
    → image_after g (es ++ (erase p ∷ fs)) im ≡ image_after g fs (image_by g (erase p) im)
unfolding image_after
image_on g es p fs im e = image_append g es (erase p ∷ fs) im ∙ ap (λ (x : List ℕ). image_after g fs (image_by g (erase p) x)) e

pub buffer_on : (g : Geometry) (es : List Event) (p : ℕ) (fs : List Event) (im buf : List ℕ) → image_after g es im ≡ im
    → buffer_after g (es ++ (erase p ∷ fs)) im buf ≡ buffer_after g fs (image_by g (erase p) im) (buffer_after g es im buf)
unfolding buffer_after buffer_by
buffer_on g es p fs im buf e =
    buffer_append g es (erase p ∷ fs) im buf ∙ ap (λ (x : List ℕ). buffer_after g fs (image_by g (erase p) x) (buffer_after g es im buf)) e

-- the last copy stands at the buffer's front
pub last_copy : (g : Geometry) (a m n : ℕ) (im buf : List ℕ) → n ≤ m → n ≤ length (part a m im)
    → take n (buffer_after g (copy a m ∷ []) im buf) ≡ part a n im
unfolding buffer_after buffer_by put
last_copy g a m n im buf h k = take-append-le n (part a m im) (drop (0 + length (part a m im)) buf) k ∙ take-take n m (drop a im) h

-- ---- a page's heads

-- the copy that reads an item
abbrev pub reads : Geometry → Head → List Event
reads g h = copy (h.place + header_size g) (round_up g.word h.len) ∷ []

pub data HeadsRead (g : Geometry) (n : ℕ) (hs : List Head) (m : Plan Met) : Type 0 where
  all_passed : (es : List Event) → m ≡ plan es passed → Each IsCopy es → payloads hs ≡ [] → HeadsRead g n hs m
  too_small : (a k : ℕ) (es : List Event) → m ≡ plan es (long a k) → Each IsCopy es → HeadsRead g n hs m
  got_it : (h : Head) (es : List Event) → m ≡ plan (es ++ reads g h) (met h) → Each IsCopy es
      → (pre post : List Head) → hs ≡ pre ++ (h ∷ post) → payloads pre ≡ [] → present h ≡ true → HeadsRead g n hs m

pub heads_read : (g : Geometry) (n a : ℕ) (hs : List Head) (im : List ℕ) → HeadsRead g n hs (read_heads g n a hs im)
unfolding read_heads payloads bind image_after image_by
heads_read g n a [] im = all_passed [] refl tt refl
heads_read g n a (h ∷ hs) im = by (live h) (ltb n size) (present h) refl refl refl (λ a. heads_read g n a hs im)
  where
    size : ℕ
    size = round_up g.word h.len

    c : Event
    c = copy (h.place + header_size g) size

    r : ℕ → Plan Met
    r a = read_heads g n a hs im

    after : Plan Met → Plan Met
    after p = plan (c ∷ p.events) p.answer

    -- it is not live
    dead : {r : Plan Met} → present h ≡ false → HeadsRead g n hs r → HeadsRead g n (h ∷ hs) r
    dead q (all_passed es e x z) = all_passed es e x (rw q z)
    dead q (too_small a k es e x) = too_small a k es e x
    dead q (got_it h₁ es e x pre post y i p) = got_it h₁ es e x (h ∷ pre) post (ap (λ (l : List Head). h ∷ l) y) (rw q i) p

    -- it is torn
    torn : {r : Plan Met} → present h ≡ false → HeadsRead g n hs r → HeadsRead g n (h ∷ hs) (after r)
    torn q (all_passed es e x z) = all_passed (c ∷ es) (ap after e) (tt, x) (rw q z)
    torn q (too_small a k es e x) = too_small a k (c ∷ es) (ap after e) (tt, x)
    torn q (got_it h₁ es e x pre post y i p) = got_it h₁ (c ∷ es) (ap after e) (tt, x) (h ∷ pre) post (ap (λ (l : List Head). h ∷ l) y) (rw q i) p

    by : (l s p : Bool) → live h ≡ l → ltb n size ≡ s → present h ≡ p → ((a : ℕ) → HeadsRead g n hs (r a))
        → HeadsRead g n (h ∷ hs)
        (cond (not (live h)) (r a) (cond (ltb n size) (plan [] (long a size)) (cond (present h) (plan (c ∷ []) (met h)) (after (r (item_end g h))))))
    by false s p ql qs qp R = rw ql (dead (not_present h ql) (R a))
    by true true p ql qs qp R = rw (ql, qs) (too_small a size [] refl tt)
    by true false true ql qs qp R = rw (ql, qs, qp) (got_it h [] refl tt [] hs refl refl qp)
    by true false false ql qs qp R = rw (ql, qs, qp) (torn qp (R (item_end g h)))
