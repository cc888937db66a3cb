-- Demand 3 of the public calls: a history of them is one of the plans, and what is claimed of those is claimed of them. Assumes nothing.
use mathlib.Core.Path.{◌≡◌, refl, sym, ap, subst, ◌∙◌}
use mathlib.Core.List.{List}
use Prim.Native.Nat.{ℕ}
use lib.ListN.{length, take}
use Rattle.std.specs.Prelude.{Ok}
use Rattle.paper.specs.declared.Geometry.{Geometry}
use Rattle.paper.specs.declared.Shape.{Shape}
use Rattle.paper.specs.Chip.{buffer_after, before, Plan}
use Rattle.paper.specs.Refusals.{check, Answer}
use Rattle.paper.specs.Calls.{Call, plan_of, requested}
use Rattle.paper.specs.Waiting.{waiting}
use Rattle.paper.specs.Fifo.{Power, whole, cut_after, performed, events_of, image_next, Ghost, ghost_next, Fair, Reached, fresh, further, buffer_of, Plain, added, big, no_room, shows_none, shows_not, shows, takes_none, takes_not, takes, fitted, measured, cleared, Behaves}
use Rattle.laws.proofs.Accepted.{accepted_is}
use Rattle.demand3.proofs.Demand3.{demand3}
use Rattle.demands.specs.Histories.{Lent, Form, Promised, power_of, Played, begins, goes_on}
use Rattle.demands.specs.Demands.{Keeps, Demand3OfCalls}
use Rattle.demands.proofs.Contracts.{formed, whole_of, buffer_of_lem, accepted_as, formed_whole, formed_cut}
use Rattle.demands.proofs.Demand1.{outside_of}

-- ---- one call on an accepted shape

module _ (s : Shape) (g : Geometry) (im : List ℕ) (a : check (length im) s ≡ Ok g) (f : Form) (c : Call) where
  -- its form makes the events that its power lets through
  events_of_lem : (formed f (requested s im c)).events ≡ events_of g im c (power_of s im f c)
  unfolding events_of
  events_of_lem = by (power_of s im f c) refl
    where
      by : (w : Power) → power_of s im f c ≡ w → (formed f (requested s im c)).events ≡ performed w (plan_of g im c).events
      by whole q = ap (λ (p : Plan Answer). p.events) (formed_whole s im c f q ∙ accepted_as s im c g a)
      by (cut_after j) q =
          ap (λ (p : Plan Answer). p.events) (formed_cut s im c f j q)
          ∙ ap (λ (p : Plan Answer). before j p.events) (accepted_as s im c g a)

  module _ (o e : List ℕ) (x : Answer) (h : Promised s f c im o e x) where
    pub image_of_lem : o ≡ image_next g im c (power_of s im f c)
    unfolding image_next
    image_of_lem = (whole_of s im o e x f c h).image ∙ rw (accepted_is (length im) s g a, events_of_lem)

-- ---- a history of public calls is a history of plans

pub record AsPlans (s : Shape) (g : Geometry) (im : List ℕ) (gh : Ghost) : Type 0 where
  pub reached : Reached g im gh
  pub accepted : check (length im) s ≡ Ok g

pub comes : {s : Shape} {g : Geometry} {im : List ℕ} {gh : Ghost} → Played s g im gh → AsPlans s g im gh
comes {s} (begins a e) = record { reached = fresh s a e; accepted = a }
comes {s} {g} (goes_on {im = im} {gh = gh} f c o e x P F h) =
    let C = comes P in
    let w = power_of s im f c in
    let q : image_next g im c w ≡ o = sym (image_of_lem s g im C.accepted f c o e x h) in
    record {
      reached = subst (λ (l : List ℕ). Reached g l (ghost_next g im gh c w)) q (further c w C.reached F);
      accepted = ap (λ (n : ℕ). check n s) (outside_of s im o e x f c h).size ∙ C.accepted;
    }

-- ---- the claim

-- a call that is lent no buffer claims nothing of one
module _ {g : Geometry} {im : List ℕ} where
  buffered : {c : Call} {x : Answer} {b e : List ℕ} {q r : List (List ℕ)} → Plain g im c x b q r → (Lent c → e ≡ b) → Plain g im c x e q r
  buffered (added t n l) h = added t n l
  buffered (big t) h = big t
  buffered (no_room t l) h = no_room t l
  buffered (shows_none w p) h = shows_none w p
  buffered (shows_not w t) h = shows_not w t
  buffered (shows {s = s} w v t) h = shows {s = s} w v (ap (take (length s)) (h tt) ∙ t)
  buffered (takes_none w p) h = takes_none w p
  buffered (takes_not w t) h = takes_not w t
  buffered (takes {s = s} w v t) h = takes {s = s} w v (ap (take (length s)) (h tt) ∙ t)
  buffered fitted h = fitted
  buffered measured h = measured
  buffered cleared h = cleared

keeps : (s : Shape) (g : Geometry) (im : List ℕ) (gh : Ghost) → Played s g im gh → (f : Form) (c : Call) → Fair g im gh c (power_of s im f c)
    → (o e : List ℕ) (x : Answer) → Promised s f c im o e x → Keeps g c (power_of s im f c) im o e x
keeps s g im gh P f c F o e x h = by (power_of s im f c) refl (demand3.behaves g im gh C.reached c (power_of s im f c) F)
  where
    C : AsPlans s g im gh
    C = comes P

    by : (w : Power) → power_of s im f c ≡ w → Behaves g im c w → Keeps g c w im o e x
    by whole q B =
        let a = C.accepted in
        let p : formed f (requested s im c) ≡ plan_of g im c = formed_whole s im c f q ∙ accepted_as s im c g a in
        let y : x ≡ (plan_of g im c).answer = (whole_of s im o e x f c h).answer ∙ ap (λ (r : Plan Answer). r.answer) p in
        let i : o ≡ image_next g im c whole = rw q at (image_of_lem s g im a f c o e x h) in
        let D : Plain g im c x (buffer_after g (plan_of g im c).events im (buffer_of c)) (waiting g im) (waiting g o) = rw (y, i) B in
        buffered D (λ l. buffer_of_lem s im o e x f c h l ∙ rw (accepted_is (length im) s g a, p))
    by (cut_after k) q B =
        let y = (whole_of s im o e x f c h).answer ∙ ap (λ (r : Plan Answer). r.answer) (formed_cut s im c f k q) in
        let i : o ≡ image_next g im c (cut_after k) = rw q at (image_of_lem s g im C.accepted f c o e x h) in
        (y, rw i B)

pub demand3_of_calls : Demand3OfCalls
demand3_of_calls = record { starts = λ s g im a e. demand3.starts g im s a e; lists = λ s g im gh P. demand3.lists g im gh (comes P).reached; keeps = keeps }
