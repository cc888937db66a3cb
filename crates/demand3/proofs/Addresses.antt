-- The headers of the slips that wait: their payloads are the list, and each is present in a page. Assumes nothing.
use mathlib.Core.Bool.{Bool, true, false, cond, ◌||◌}
use mathlib.Core.List.{List, [], ◌∷◌, ◌++◌, Memᴰ}
use mathlib.Core.Path.{◌≡◌, refl, ap, ap₂, ◌∙◌}
use Prim.Native.Nat.{ℕ, ◌<◌}
use lib.Dec.{eqb}
use Rattle.paper.specs.declared.Geometry.{Geometry}
use Rattle.paper.specs.declared.PageState.TheVariants.{Open}
use Rattle.paper.specs.Chip.{Try, fails, gives, on_given, settled}
use Rattle.paper.specs.Scan.{Head, page_walk, present, payloads}
use Rattle.paper.specs.Pages.{state, same, next, from, youngest, oldest}
use Rattle.paper.specs.Waiting.{waiting_on, list_of, waiting}
use Rattle.paper.specs.Ways.{Each}
use Rattle.demand1.proofs.Lists.{each_append, each_weaker}
use Rattle.demand1.proofs.Pages.{from_in}
use Rattle.demand1.proofs.EachEvent.{Tried, Any}
use Rattle.demand1.proofs.Searches.{oldest_in}
use Rattle.demand3.specs.Addresses.{presents, waiting_heads_on, waiting_heads_from, waiting_heads, AlwaysAddressed}
use Rattle.demand3.proofs.Payloads.{payloads_append}

-- ---- the payloads

pub presents_append : (a b : List Head) → presents (a ++ b) ≡ presents a ++ presents b
unfolding presents
presents_append [] b = refl
presents_append (h ∷ a) b = by (present h) (presents_append a b)
  where
    by : (t : Bool) → presents (a ++ b) ≡ presents a ++ presents b
        → cond t (h ∷ presents (a ++ b)) (presents (a ++ b)) ≡ cond t (h ∷ presents a) (presents a) ++ presents b
    by true e = ap (λ (l : List Head). h ∷ l) e
    by false e = e

pub payloads_present : (hs : List Head) → payloads (presents hs) ≡ payloads hs
unfolding payloads presents
payloads_present [] = refl
payloads_present (h ∷ hs) = by (present h) refl (payloads_present hs)
  where
    by : (t : Bool) → present h ≡ t → payloads (presents hs) ≡ payloads hs
        → payloads (cond t (h ∷ presents hs) (presents hs)) ≡ cond t (h.body ∷ payloads hs) (payloads hs)
    by true q e = rw q (ap (λ (l : List (List ℕ)). h.body ∷ l) e)
    by false q e = e

payloads_on : (g : Geometry) (im : List ℕ) (y : ℕ) (ps : List ℕ) → payloads (waiting_heads_on g im y ps) ≡ waiting_on g im y ps
unfolding waiting_heads_on waiting_on payloads
payloads_on g im y [] = refl
payloads_on g im y (p ∷ ps) =
    let t : Bool = eqb p y || same (state g im (next g p)) Open in
    payloads_append (presents hs) (cond t [] (waiting_heads_on g im y ps))
    ∙ ap₂ (λ (a b : List (List ℕ)). a ++ b) (payloads_present hs) (by t (payloads_on g im y ps))
  where
    hs : List Head
    hs = (page_walk g im p).heads

    by : (t : Bool) → payloads (waiting_heads_on g im y ps) ≡ waiting_on g im y ps
        → payloads (cond t [] (waiting_heads_on g im y ps)) ≡ cond t [] (waiting_on g im y ps)
    by true e = refl
    by false e = e

payloads_from : (g : Geometry) (im : List ℕ) (o y : Try Unit ℕ)
    → payloads (waiting_heads_from g im o y) ≡ settled [] (on_given o (λ p. on_given y (λ q. gives (waiting_on g im q (from g p)))))
unfolding payloads
payloads_from g im (fails u) y = refl
payloads_from g im (gives o) (fails u) = refl
payloads_from g im (gives o) (gives y) = payloads_on g im y (from g o)

pub payloads_waiting : (g : Geometry) (im : List ℕ) → payloads (waiting_heads g im) ≡ waiting g im
unfolding waiting_heads waiting list_of
payloads_waiting g im = payloads_from g im (oldest g im) (youngest g im)

-- ---- each is present in a page

abbrev Stands : Geometry → List ℕ → Head → Type 0
Stands g im h = (present h ≡ true) × (p : ℕ) × (p < g.pages) × Memᴰ h (page_walk g im p).heads

-- the present ones of some, which are all in a list
presents_in : (all hs : List Head) → ((h : Head) → Memᴰ h hs → Memᴰ h all)
    → Each (λ h. (present h ≡ true) × Memᴰ h all) (presents hs)
unfolding presents
presents_in all [] f = tt
presents_in all (h ∷ hs) f = by (present h) refl (presents_in all hs (λ x m. f x (Memᴰ.tail m)))
  where
    by : (t : Bool) → present h ≡ t → Each (λ h. (present h ≡ true) × Memᴰ h all) (presents hs)
        → Each (λ h. (present h ≡ true) × Memᴰ h all) (cond t (h ∷ presents hs) (presents hs))
    by true q e = ((q, f h (Memᴰ.head refl)), e)
    by false q e = e

module _ (g : Geometry) (im : List ℕ) where
  stand_on : (y : ℕ) (ps : List ℕ) → Each (λ p. p < g.pages) ps → Each (Stands g im) (waiting_heads_on g im y ps)
  unfolding waiting_heads_on
  stand_on y [] h = tt
  stand_on y (p ∷ ps) h =
      each_append (Stands g im) (presents hs) _
      (each_weaker (λ x. (present x ≡ true) × Memᴰ x hs) (Stands g im) (λ x e. (e.0, p, h.0, e.1)) (presents hs) (presents_in hs hs (λ x m. m)))
      (by (eqb p y || same (state g im (next g p)) Open) (stand_on y ps h.1))
    where
      hs : List Head
      hs = (page_walk g im p).heads

      by : (t : Bool) → Each (Stands g im) (waiting_heads_on g im y ps) → Each (Stands g im) (cond t [] (waiting_heads_on g im y ps))
      by true e = tt
      by false e = e

  stand_from : (o y : Try Unit ℕ) → Tried Any (λ p. p < g.pages) o → Each (Stands g im) (waiting_heads_from g im o y)
  stand_from (fails u) y h = tt
  stand_from (gives o) (fails u) h = tt
  stand_from (gives o) (gives y) h = stand_on y (from g o) (from_in g o h)

pub always_addressed : AlwaysAddressed
unfolding waiting_heads
always_addressed g im some = record {
  listed = payloads_waiting g im;
  stand = stand_from g im (oldest g im) (youngest g im) (oldest_in g im some);
}
