-- The room of popped pages is used again, of the public calls. Assumes nothing.
use mathlib.Core.Path.{◌≡◌, sym, ap, subst, ◌∙◌}
use mathlib.Core.List.{List, []}
use Prim.Native.Nat.{ℕ, ◌≤◌}
use lib.ListN.{length}
use Rattle.std.specs.Prelude.{Ok}
use Rattle.paper.specs.declared.Geometry.{Geometry}
use Rattle.paper.specs.declared.Shape.{Shape}
use Rattle.paper.specs.Chip.{data_size, Plan}
use Rattle.paper.specs.Refusals.{check, Answer, empty}
use Rattle.paper.specs.Calls.{Call, pushes, peeks, pops, fits, spaces, erases_all, plan_of}
use Rattle.paper.specs.Waiting.{waiting}
use Rattle.paper.specs.Fifo.{whole, image_next, buffer_of, Ghost}
use Rattle.demand3.specs.Claims.{TakesAny, RoomOfPlans}
use Rattle.demand3.proofs.RoomAgain.{room_again}
use Rattle.demands.specs.Histories.{Lent, unlimited, Promised, power_of}
use Rattle.demands.specs.Demands.{CallsTakeAny, RoomAgainOfCalls}
use Rattle.demands.proofs.Contracts.{whole_of, accepted_as}
use Rattle.demands.proofs.Demand1.{outside_of}
use Rattle.demands.proofs.Demand3.{image_of_lem, AsPlans, comes}

module _ (s : Shape) (g : Geometry) (im : List ℕ) (a : check (length im) s ≡ Ok g) where
  -- a whole call answers as its plan does
  answer_of : (c : Call) (o e : List ℕ) (x : Answer) → Promised s unlimited c im o e x → x ≡ (plan_of g im c).answer
  answer_of c o e x h = (whole_of s im o e x unlimited c h).answer ∙ ap (λ (p : Plan Answer). p.answer) (accepted_as s im c g a)

  takes_any : TakesAny g im → CallsTakeAny s g im
  takes_any f slip t o e x h = answer_of (pushes slip _) o e x h ∙ f slip t

-- what a whole call left is accepted too
accepted_then : (s : Shape) (g : Geometry) (im : List ℕ) → check (length im) s ≡ Ok g → (c : Call) (o e : List ℕ) (x : Answer)
    → Promised s unlimited c im o e x → check (length o) s ≡ Ok g
accepted_then s g im a c o e x h = ap (λ (n : ℕ). check n s) (outside_of s im o e x unlimited c h).size ∙ a

module _ (s : Shape) (g : Geometry) (im : List ℕ) (gh : Ghost) (C : AsPlans s g im gh) where
  R : RoomOfPlans g im
  R = room_again g im gh C.reached

  says_so : (c : Call) → Lent c → waiting g im ≡ [] → data_size g ≤ length (buffer_of c) → (plan_of g im c).answer ≡ empty
  says_so (peeks b) l z k = R.peek_says_so z b k
  says_so (pops b) l z k = R.pop_says_so z b k
  says_so (pushes slip over) l z k = absurd l
  says_so fits l z k = absurd l
  says_so spaces l z k = absurd l
  says_so erases_all l z k = absurd l

  frees : (c : Call) → Lent c → 2 ≤ g.pages → (plan_of g im c).answer ≡ empty → TakesAny g (image_next g im c whole)
  frees (peeks b) l two e = R.peek_frees two b e
  frees (pops b) l two e = R.pop_frees two b e
  frees (pushes slip over) l two e = absurd l
  frees fits l two e = absurd l
  frees spaces l two e = absurd l
  frees erases_all l two e = absurd l

  freed : (c : Call) → Lent c → 2 ≤ g.pages → (o e : List ℕ) (x : Answer) → Promised s unlimited c im o e x → x ≡ empty → CallsTakeAny s g o
  unfolding power_of
  freed c l two o e x h q =
      let i : o ≡ image_next g im c whole = image_of_lem s g im C.accepted unlimited c o e x h in
      takes_any s g o (accepted_then s g im C.accepted c o e x h)
      (subst (TakesAny g) (sym i) (frees c l two (sym (answer_of s g im C.accepted c o e x h) ∙ q)))

pub room_again_of_calls : RoomAgainOfCalls
room_again_of_calls s g im gh P =
    let C = comes P in
    record {
      again = λ y e n. takes_any s g im C.accepted ((R s g im gh C).again y e n);
      says_so = λ c l z k o e x h. answer_of s g im C.accepted c o e x h ∙ says_so s g im gh C c l z k;
      frees = freed s g im gh C;
    }
