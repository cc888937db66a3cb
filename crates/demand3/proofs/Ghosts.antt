-- Which addresses the ghosts of a history keep, and that nothing refused is accepted later. Assumes nothing.
use mathlib.Core.Bool.{Bool, true, false, cond, ◌&&◌}
use mathlib.Core.List.{List, [], ◌∷◌, ◌++◌, Memᴰ}
use mathlib.Core.Logic.{◌⊎◌, inl, inr}
use mathlib.Core.Path.{◌≡◌, refl, ap, subst}
use Prim.Native.Nat.{ℕ, ◌+◌, ◌≤◌, ◌<◌}
use native.Mathlib.Omega.{arith}
use borrow.Author.Tests.{leb-true, ltb-true}
use lib.Dec.{leb, ltb}
use lib.ListN.{length, drop, length-drop}
use Rattle.paper.specs.declared.Geometry.{Geometry}
use Rattle.paper.specs.Chip.{Event, store, erase, copy, image_after, page_start, data_start, data_size, page_data}
use Rattle.paper.specs.Scan.{Head, Walk, page_walk}
use Rattle.paper.specs.Pages.{all_pages}
use Rattle.paper.specs.Fifo.{Ghost, kept, outside, refusals, Accepts}
use Rattle.laws.proofs.Accepted.{Laid}
use Rattle.laws.proofs.Places.{page_below}
use Rattle.laws.proofs.Ring.{all_pages_lem}
use Rattle.laws.proofs.Sides.{Side, below, above, side}
use Rattle.laws.proofs.Headers.{header_word, header_ge}
use Rattle.laws.proofs.Looking.{look_bad, look_item}
use Rattle.demand3.proofs.Sizes.{item_size}
use Rattle.demand3.proofs.Events.{Avoids, avoid_append}
use Rattle.demand3.proofs.Courses.{Course, here, past, over, course_of}
use Rattle.demand3.proofs.Replaced.{NoneAccepted}
use Rattle.demand3.proofs.Views.{inner_low, inner_high, inner_length}
use Rattle.demand3.proofs.Invariant.{Inv, quiet_walk}

-- ---- what a scan comes to lies in its page

-- the scan comes to address x: it accepts or refuses it
pub data Comes (x : ℕ) (w : Walk) : Type 0 where
  refused_at : Memᴰ x w.refused → Comes x w
  accepted_at : (h : Head) → Memᴰ h w.heads → h.place ≡ x → Comes x w

abbrev Met : ℕ → List Head → List ℕ → Type 0
Met x hs rs = Memᴰ x rs ⊎ ((h : Head) × Memᴰ h hs × (h.place ≡ x))

-- from a on, n bytes
abbrev Within : ℕ → ℕ → ℕ → Type 0
Within a n x = (a ≤ x) × (x < a + n)

course_range : (g : Geometry) → 0 < g.word → {a : ℕ} {d : List ℕ} {hs : List Head} {rs r : List ℕ} → Course g a d hs rs r → (x : ℕ) → Met x hs rs
    → Within a (length d) x
course_range g pos here x (inl m) = absurd (mathlib.Core.List.Memᴰ.not-nil m)
course_range g pos here x (inr m) = absurd (mathlib.Core.List.Memᴰ.not-nil m.1)
course_range g pos {a} {d} {hs} (past {rs = rs'} l w) x c = by c (λ k. course_range g pos w x k)
  where
    later : Within (a + g.word) (length (drop g.word d)) x → Within a (length d) x
    later r = (omega (arith, r.0), omega (arith, r.1, length-drop g.word d, header_word g pos, (look_bad g d l).room))

    at : (Met x hs rs' → Within (a + g.word) (length (drop g.word d)) x) → (x ≡ a) ⊎ Memᴰ x rs' → Within a (length d) x
    at f (inl e) = (omega arith, omega (arith, (look_bad g d l).room, header_ge g pos))
    at f (inr k) = later (f (inl k))

    by : Met x hs (a ∷ rs') → (Met x hs rs' → Within (a + g.word) (length (drop g.word d)) x) → Within a (length d) x
    by (inr m) f = later (f (inr m))
    by (inl m) f = at f (mathlib.Core.List.Memᴰ.cases_cons m)
course_range g pos {a} {d} {rs = rs} (over {c = c} {n = n} {body = body} {hs = hs'} l w) x k = by k (λ q. course_range g pos w x q)
  where
    m : ℕ
    m = item_size g n

    hd : Head
    hd = record { place = a; crc = c; len = n; body = body }

    later : Within (a + m) (length (drop m d)) x → Within a (length d) x
    later r = (omega (arith, r.0), omega (arith, r.1, length-drop m d, (look_item g d l).room))

    at : (Met x hs' rs → Within (a + m) (length (drop m d)) x) → (h : Head) → h.place ≡ x → (h ≡ hd) ⊎ Memᴰ h hs' → Within a (length d) x
    at f h e (inl z) =
        let y : h.place ≡ a = ap (λ (y : Head). y.place) z in
        (omega arith, omega (arith, (look_item g d l).room, header_ge g pos))
    at f h e (inr z) = later (f (inr (h, z, e)))

    by : Met x (hd ∷ hs') rs → (Met x hs' rs → Within (a + m) (length (drop m d)) x) → Within a (length d) x
    by (inl q) f = later (f (inl q))
    by (inr q) f = at f q.0 q.2 (mathlib.Core.List.Memᴰ.cases_cons q.1)

page_range : {g : Geometry} (im : List ℕ) → Laid g (length im) → (p : ℕ) → p < g.pages → (x : ℕ) → Comes x (page_walk g im p)
    → Within (page_start g p) g.page x
unfolding page_walk
page_range {g} im G p hp x c =
    let pos = G.sized.low in
    let l = inner_length im G p hp in
    let r = course_range g pos (course_of g pos (data_start g p) (page_data g im p)) x (met c) in
    (omega (arith, r.0, inner_low g p 0), omega (arith, r.1, inner_high G p 0 (data_size g) (omega arith)))
  where
    met : {w : Walk} → Comes x w → Met x w.heads w.refused
    met (refused_at m) = inl m
    met (accepted_at h m e) = inr (h, m, e)

-- ---- what is kept

outside_keeps : (g : Geometry) (p x : ℕ) (l : List ℕ) → (page_start g p ≤ x → x < page_start g p + g.page → ⊥) → Memᴰ x l
    → Memᴰ x (outside g p l)
unfolding outside
outside_keeps g p x [] h m = absurd (mathlib.Core.List.Memᴰ.not-nil m)
outside_keeps g p x (a ∷ l) h m =
    by (leb (page_start g p) a) (ltb a (page_start g p + g.page)) refl refl (mathlib.Core.List.Memᴰ.cases_cons m) (outside_keeps g p x l h)
  where
    by : (s t : Bool) → leb (page_start g p) a ≡ s → ltb a (page_start g p + g.page) ≡ t → (x ≡ a) ⊎ Memᴰ x l
        → (Memᴰ x l → Memᴰ x (outside g p l))
        → Memᴰ x (cond (s && t) (outside g p l) (a ∷ outside g p l))
    by true true u v (inl e) f = absurd (h (omega (arith, leb-true (page_start g p) a u)) (omega (arith, ltb-true a (page_start g p + g.page) v)))
    by true true u v (inr k) f = f k
    by true false u v (inl e) f = mathlib.Core.List.Memᴰ.head e
    by true false u v (inr k) f = mathlib.Core.List.Memᴰ.tail (f k)
    by false t u v (inl e) f = mathlib.Core.List.Memᴰ.head e
    by false t u v (inr k) f = mathlib.Core.List.Memᴰ.tail (f k)

kept_range : (g : Geometry) (p x : ℕ) → Within (page_start g p) g.page x → (es : List Event) (l : List ℕ) → Avoids p es → Memᴰ x l
    → Memᴰ x (kept g es l)
unfolding kept
kept_range g p x r [] l a m = m
kept_range g p x r (store y bs ∷ es) l a m = kept_range g p x r es l a m
kept_range g p x r (copy y n ∷ es) l a m = kept_range g p x r es l a m
kept_range g p x r (erase q ∷ es) l a m = kept_range g p x r es (outside g q l) a.1 (outside_keeps g q x l (by (side q p) (side p q)) m)
  where
    by : Side q p → Side p q → page_start g q ≤ x → x < page_start g q + g.page → ⊥
    by (below h) s u v = omega (arith, page_below g q p h)
    by (above h) (below k) u v = omega (arith, page_below g p q k)
    by (above h) (above k) u v = a.0 (omega arith)

-- an address that the scan of page p comes to is kept while p is not erased
pub kept_in : {g : Geometry} (im : List ℕ) → Laid g (length im) → (p : ℕ) → p < g.pages → (x : ℕ) → Comes x (page_walk g im p)
    → (es : List Event) (l : List ℕ) → Avoids p es → Memᴰ x l → Memᴰ x (kept g es l)
kept_in {g} im G p hp x c = kept_range g p x (page_range im G p hp x c)

refusals_in : (g : Geometry) (im ps : List ℕ) (p x : ℕ) → Memᴰ p ps → Memᴰ x (page_walk g im p).refused → Memᴰ x (refusals g im ps)
unfolding refusals
refusals_in g im [] p x h m = absurd (mathlib.Core.List.Memᴰ.not-nil h)
refusals_in g im (q ∷ ps) p x h m = by (mathlib.Core.List.Memᴰ.cases_cons h) (λ k. refusals_in g im ps p x k m)
  where
    by : (p ≡ q) ⊎ Memᴰ p ps → (Memᴰ p ps → Memᴰ x (refusals g im ps)) → Memᴰ x ((page_walk g im q).refused ++ refusals g im ps)
    by (inl e) f = mathlib.Core.List.Memᴰ.append_left (refusals g im ps) (subst (λ (y : ℕ). Memᴰ x (page_walk g im y).refused) e m)
    by (inr k) f = mathlib.Core.List.Memᴰ.append_right (page_walk g im q).refused (f k)

-- ---- nothing refused is accepted

-- after the events es page p refuses nothing; or it is scanned as before, and was not erased
abbrev pub FromBefore : Geometry → List ℕ → ℕ → List Event → Type 0
FromBefore g im p es = ((page_walk g (image_after g es im) p).refused ≡ []) ⊎ (Avoids p es × (page_walk g (image_after g es im) p ≡ page_walk g im p))

-- words below 8: no address that was refused is accepted after the events es
abbrev pub StayRefused : Geometry → List ℕ → Ghost → List Event → Type 0
StayRefused g im gh es = g.word < 8 → Accepts g (image_after g es im) (λ a. Memᴰ a (kept g es (refusals g im (all_pages g) ++ gh.refused_before)) → ⊥)

-- then page p, as it is after es, has refused nothing that is accepted after es and fs
pub unmet : {g : Geometry} (im : List ℕ) → Laid g (length im) → (gh : Ghost) (es : List Event) {o b : ℕ} → Inv g (image_after g es im) o b
    → (fs : List Event) (p : ℕ) → p < g.pages
    → FromBefore g im p es → Avoids p fs → StayRefused g im gh (es ++ fs)
    → NoneAccepted (page_walk g (image_after g es im) p).refused (page_walk g (image_after g (es ++ fs) im) p).heads
unmet {g} im G gh es I fs p hp O A F h m k = by (side g.word 8) O
  where
    nil : (page_walk g (image_after g es im) p).refused ≡ [] → ⊥
    nil q = mathlib.Core.List.Memᴰ.not-nil (subst (λ (l : List ℕ). Memᴰ h.place l) q k)

    by : Side g.word 8 → FromBefore g im p es → ⊥
    by (above q) O = nil (quiet_walk I p hp q)
    by (below q) (inl r) = nil r
    by (below q) (inr r) =
        let k₁ : Memᴰ h.place (page_walk g im p).refused = subst (λ (w : Walk). Memᴰ h.place w.refused) r.1 k in
        let k₂ = mathlib.Core.List.Memᴰ.append_left gh.refused_before (refusals_in g im (all_pages g) p h.place (all_pages_lem g p hp) k₁) in
        F q p hp h m (kept_in im G p hp h.place (refused_at k₁) (es ++ fs) _ (avoid_append p es fs r.0 A) k₂)
