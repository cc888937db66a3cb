-- Events that keep the invariant and the list, however far they come, and bring no header to light. Assumes nothing.
use mathlib.Core.Bool.{Bool, true, false}
use mathlib.Core.List.Memᴰ
use mathlib.Core.List.{List, [], ◌∷◌, ◌++◌, Memᴰ}
use mathlib.Core.Path.{◌≡◌, refl, sym, subst}
use Prim.Native.Nat.{ℕ, zero, suc, ◌<◌}
use borrow.Author.Tests.{eqb-true, eqb-false}
use lib.Dec.{eqb}
use lib.ListN.{length}
use Rattle.paper.specs.declared.Geometry.{Geometry}
use Rattle.paper.specs.Chip.{Event, store, erase, copy, image_by, image_after, before}
use Rattle.paper.specs.Scan.{Head, Walk, page_walk}
use Rattle.paper.specs.Pages.{set_start, set_end}
use Rattle.paper.specs.Waiting.{waiting}
use Rattle.laws.proofs.Accepted.{Laid}
use Rattle.demand3.proofs.Events.{Avoids}
use Rattle.demand3.proofs.Changed.{walk_other, walks_same, start_changed, end_changed, erase_changed, erased_walk}
use Rattle.demand3.proofs.Invariant.{Inv}

-- an image with the invariant, whose list is q
pub record HoldsList (g : Geometry) (q : List (List ℕ)) (im : List ℕ) : Type 0 where
  pub old : ℕ
  pub runs : ℕ
  pub inv : Inv g im old runs
  pub list : waiting g im ≡ q

-- marks, erases and copies
pub data AddsNoHead (g : Geometry) : Event → Type 0 where
  start_marked : (p : ℕ) → p < g.pages → AddsNoHead g (set_start g p)
  end_marked : (p : ℕ) → p < g.pages → AddsNoHead g (set_end g p)
  erased : (p : ℕ) → p < g.pages → AddsNoHead g (erase p)
  copied : (a n : ℕ) → AddsNoHead g (copy a n)

-- the list is q before, between and after such events
pub data Steady (g : Geometry) (q : List (List ℕ)) : List ℕ → List Event → Type 0 where
  rests : {im : List ℕ} → HoldsList g q im → Steady g q im []
  goes : {im : List ℕ} {e : Event} {es : List Event} → HoldsList g q im → AddsNoHead g e → Steady g q (image_by g e im) es → Steady g q im (e ∷ es)

pub steady_after : {g : Geometry} {q : List (List ℕ)} {im : List ℕ} {es : List Event} → Steady g q im es → HoldsList g q (image_after g es im)
unfolding image_after
steady_after (rests K) = K
steady_after (goes K A S) = steady_after S

pub steady_append : {g : Geometry} {q : List (List ℕ)} {im : List ℕ} {es fs : List Event} → Steady g q im es → Steady g q (image_after g es im) fs
    → Steady g q im (es ++ fs)
unfolding image_after
steady_append (rests K) T = T
steady_append (goes K A S) T = goes K A (steady_append S T)

pub steady_before : {g : Geometry} {q : List (List ℕ)} {im : List ℕ} {es : List Event} (k : ℕ) → Steady g q im es → Steady g q im (before k es)
unfolding before
steady_before k (rests K) = rests K
steady_before k (goes {e = copy a n} K A S) = goes K A (steady_before k S)
steady_before zero (goes {e = store a bs} K A S) = rests K
steady_before zero (goes {e = erase p} K A S) = rests K
steady_before (suc k) (goes {e = store a bs} K A S) = goes K A (steady_before k S)
steady_before (suc k) (goes {e = erase p} K A S) = goes K A (steady_before k S)

-- ---- a head that is there afterwards was there, and its page was not erased

abbrev HeadOf : Geometry → List ℕ → ℕ → Head → Type 0
HeadOf g im p h = Memᴰ h (page_walk g im p).heads

same_heads : {v w : Walk} {h : Head} → v ≡ w → Memᴰ h v.heads → Memᴰ h w.heads
same_heads {h = h} e m = subst (λ (x : Walk). Memᴰ h x.heads) e m

pub was_before : {g : Geometry} (im : List ℕ) → Laid g (length im) → {e : Event} → AddsNoHead g e → (p : ℕ) → p < g.pages → (h : Head)
    → HeadOf g (image_by g e im) p h
    → (es : List Event) → Avoids p es → HeadOf g im p h × Avoids p (e ∷ es)
unfolding set_start set_end image_by
was_before im G (start_marked q hq) p hp h m es a = (same_heads (walks_same (start_changed im G q hq) refl p hp) m, a)
was_before im G (end_marked q hq) p hp h m es a = (same_heads (walks_same (end_changed im G q hq) refl p hp) m, a)
was_before im G (copied x n) p hp h m es a = (m, a)
was_before {g} im G (erased q hq) p hp h m es a = by (eqb p q) refl
  where
    by : (t : Bool) → eqb p q ≡ t → HeadOf g im p h × ((q ≡ p → ⊥) × Avoids p es)
    by true k =
        let n = subst (λ (x : ℕ). HeadOf g (image_by g (erase q) im) x h) (eqb-true p q k) m in
        absurd (Memᴰ.not-nil (subst (λ (w : Walk). Memᴰ h w.heads) (erased_walk im G q hq) n))
    by false k = let ne = eqb-false p q k in (same_heads (walk_other (erase_changed im G q hq) p hp ne) m, ((λ e. ne (sym e)), a))

pub was_there : {g : Geometry} {q : List (List ℕ)} {im : List ℕ} {es : List Event} → Steady g q im es → (p : ℕ) → p < g.pages → (h : Head)
    → HeadOf g (image_after g es im) p h → HeadOf g im p h × Avoids p es
unfolding image_after
was_there (rests K) p hp h m = (m, tt)
was_there {im = im} (goes {es = es} K A S) p hp h m =
    let R = was_there S p hp h m in
    was_before im K.inv.good A p hp h R.0 es R.1
