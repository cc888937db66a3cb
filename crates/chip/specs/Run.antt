-- What storing functions promise: the events of a list or of a plan, as far as a budget of stores lets them through. Assumes nothing.
use Rattle.std.specs.Prelude.{◌≡◌, Bool, true, false, cond, List, ℕ, ◌-◌, ltb, Option, Some, None, Result, Ok, Err}
use Rattle.paper.specs.declared.Geometry.{Geometry}
use Rattle.paper.specs.Chip.{Event, image_after, buffer_after, store_count, before, Plan}
use Rattle.paper.specs.declared.Refusal.{Refusal}
use Rattle.paper.specs.declared.Refusal.TheVariants as refusal
use Rattle.paper.specs.Refusals.{Answer, refused}
use Rattle.paper.specs.Calls.{limited}
use Rattle.chip.specs.declared.Budget.{Budget}
use Rattle.chip.specs.declared.Cut.{Cut}
use Rattle.chip.specs.declared.Failure.{Failure}
use Rattle.chip.specs.declared.Failure.TheVariants as failure

-- ---- the budget

-- the events that a budget lets through: without a limit all
abbrev pub allowed : Option ℕ → List Event → List Event
allowed (Some k) es = before k es
allowed None es = es

unfoldable pub made : Budget → List Event → List Event
made b es = allowed b.0 es

-- whether n stores are more than a limit lets be made, and what is then left of it
abbrev pub exceeds : Option ℕ → ℕ → Bool
exceeds (Some k) n = ltb k n
exceeds None n = false

abbrev pub less : Option ℕ → ℕ → Option ℕ
less (Some k) n = Some (k - n)
less None n = None

-- what stores come to: whether they were too many for the budget, and what is left of it
pub record Spent : Type 0 where
  pub cut : Bool
  pub budget : Budget

-- a budget after n stores were wanted of it
unfoldable pub spend : Budget → ℕ → Spent
spend b n = record { cut = exceeds b.0 n; budget = record { 0 = less b.0 n } }

-- what a function came to that only stores, by its result and by the budget that it left
abbrev pub paid : {X : Type 0} → Result X Cut → Budget → Spent
paid (Ok x) b = record { cut = false; budget = b }
paid (Err e) b = record { cut = true; budget = b }

-- the same of a step that may also fail
abbrev pub spent : {X : Type 0} → Result X Failure → Budget → Spent
spent (Ok x) b = record { cut = false; budget = b }
spent (Err failure.Corrupted) b = record { cut = false; budget = b }
spent (Err failure.Cut) b = record { cut = true; budget = b }

-- what a call is refused with where a step of it ended early
abbrev pub refusal_of : Failure → Refusal
refusal_of failure.Corrupted = refusal.Corrupted
refusal_of failure.Cut = refusal.Cut

-- ---- under a budget

-- Did: the events es, under the budget b, take the image from i to o and spend r
pub record Did (g : Geometry) (b : Budget) (es : List Event) (i o : List ℕ) (r : Spent) : Type 0 where
  pub image : o ≡ image_after g (made b es) i
  pub answer : r ≡ spend b (store_count es)

-- Acted: they also take the buffer from d to e
pub record Acted (g : Geometry) (b : Budget) (es : List Event) (i o d e : List ℕ) (r : Spent) : Type 0 where
  pub did : Did g b es i o r
  pub buffer : e ≡ buffer_after g (made b es) i d

-- Ran: the plan p, under the budget b, takes the image from i to o, spends r and, where it is not cut, answers x
pub record Ran {A : Type 0} (g : Geometry) (b : Budget) (p : Plan A) (i o : List ℕ) (r : Spent) (x : A) : Type 0 where
  pub did : Did g b p.events i o r
  pub says : r.cut ≡ false → x ≡ p.answer

-- Showed: it also takes the buffer from d to e
pub record Showed {A : Type 0} (g : Geometry) (b : Budget) (p : Plan A) (i o d e : List ℕ) (r : Spent) (x : A) : Type 0 where
  pub acted : Acted g b p.events i o d e r
  pub says : r.cut ≡ false → x ≡ p.answer

-- ---- whole

-- Whole: all of the plan p takes the image from i to o and answers x
pub record Whole {A : Type 0} (g : Geometry) (p : Plan A) (i o : List ℕ) (x : A) : Type 0 where
  pub image : o ≡ image_after g p.events i
  pub answer : x ≡ p.answer

-- WholeShown: it also takes the buffer from d to e
pub record WholeShown {A : Type 0} (g : Geometry) (p : Plan A) (i o d e : List ℕ) (x : A) : Type 0 where
  pub whole : Whole g p i o x
  pub buffer : e ≡ buffer_after g p.events i d

-- ---- the whole call or the limited one, by a budget

-- what a call whose plan is p does with a limit, where it may be cut, or without
abbrev pub limited_by : Option ℕ → Plan Answer → Plan Answer
limited_by (Some k) p = limited k p
limited_by None p = p

-- the same under the budget b
abbrev pub under : Budget → Plan Answer → Plan Answer
under b p = limited_by b.0 p

-- what it answers where it spent r and came to x
abbrev pub unless_cut : Spent → Answer → Answer
unless_cut r x = cond r.cut (refused refusal.Cut) x
