-- One call of a history: what is shown of it, and of a call that leaves the list alone. Assumes nothing.
use mathlib.Core.List.{List, Memᴰ}
use mathlib.Core.Logic.{◌⊎◌, inl, inr}
use mathlib.Core.Path.{◌≡◌, refl}
use Prim.Native.Nat.{ℕ, ◌<◌}
use Rattle.paper.specs.declared.Geometry.{Geometry}
use Rattle.paper.specs.Chip.{Event, image_after, buffer_after, before, plan}
use Rattle.paper.specs.Scan.{Head, page_walk}
use Rattle.paper.specs.Refusals.{Answer}
use Rattle.paper.specs.Calls.{Call, plan_of}
use Rattle.paper.specs.Waiting.{waiting}
use Rattle.paper.specs.Fifo.{Power, whole, cut_after, events_of, image_next, header_at, Plain, Behaves, buffer_of, list_after}
use Rattle.demand3.proofs.Events.{Avoids}
use Rattle.demand3.proofs.Invariant.{Inv}
use Rattle.demand3.proofs.Steady.{Steady, steady_before, steady_after, was_there}

-- address a was accepted in page p, which the events es do not erase
pub record Was (g : Geometry) (im : List ℕ) (p a : ℕ) (es : List Event) : Type 0 where
  pub head : Head
  pub there : Memᴰ head (page_walk g im p).heads
  pub at : head.place ≡ a
  pub unerased : Avoids p es

-- each address that is accepted after the events es was accepted before, or the call began a header there
abbrev pub Traced : Geometry → List ℕ → Call → Power → List Event → Type 0
Traced g im c w es =
    (p : ℕ) → p < g.pages → (h : Head) → Memᴰ h (page_walk g (image_after g es im) p).heads
    → Memᴰ h.place (header_at g im c w 0) ⊎ Was g im p h.place es

pub steady_traced : {g : Geometry} {q : List (List ℕ)} {im : List ℕ} {es : List Event} → Steady g q im es → (c : Call) (w : Power)
    → Traced g im c w es
steady_traced T c w p hp h m =
    let r = was_there T p hp h m in
    inr (record { head = h; there = r.0; at = refl; unerased = r.1 })

-- a call of a history: the invariant afterwards, the claim, and where accepted addresses come from
pub record Step (g : Geometry) (im : List ℕ) (c : Call) (w : Power) : Type 0 where
  pub old : ℕ
  pub runs : ℕ
  pub inv : Inv g (image_next g im c w) old runs
  pub claim : Behaves g im c w
  pub traced : Traced g im c w (events_of g im c w)

module _ {g : Geometry} (im : List ℕ) (c : Call) {es : List Event} {a : Answer} (pl : plan_of g im c ≡ plan es a) where
  pub whole_step : {o b : ℕ} → Inv g (image_after g es im) o b
      → Plain g im c a (buffer_after g es im (buffer_of c)) (waiting g im) (waiting g (image_after g es im)) → Traced g im c whole es → Step g im c whole
  unfolding image_next events_of
  whole_step {o} {b} I f t = record { old = o; runs = b; inv = rw pl I; claim = rw pl f; traced = rw pl t }

  pub cut_step : (k : ℕ) {o b : ℕ} → Inv g (image_after g (before k es) im) o b
      → (waiting g (image_after g (before k es) im) ≡ waiting g im) ⊎ (waiting g (image_after g (before k es) im) ≡ list_after c a (waiting g im))
      → Traced g im c (cut_after k) (before k es) → Step g im c (cut_after k)
  unfolding image_next events_of
  cut_step k {o} {b} I f t = record { old = o; runs = b; inv = rw pl I; claim = rw pl f; traced = rw pl t }

  -- a cut among events that leave the list alone
  pub early_step : (k : ℕ) {fs : List Event} → before k es ≡ fs → Steady g (waiting g im) im fs → Step g im c (cut_after k)
  early_step k e T =
      let K = steady_after T in
      let J₁ : Inv g (image_after g (before k es) im) K.old K.runs = rw e K.inv in
      cut_step k J₁ (inl (rw e K.list)) (rw e (steady_traced T c (cut_after k)))

  -- a call whose events leave the list alone
  pub steady_step : Steady g (waiting g im) im es → Plain g im c a (buffer_after g es im (buffer_of c)) (waiting g im) (waiting g im) → (w : Power)
      → Step g im c w
  steady_step T f whole = let K = steady_after T in whole_step K.inv (rw K.list f) (steady_traced T c whole)
  steady_step T f (cut_after k) = early_step k refl (steady_before k T)
