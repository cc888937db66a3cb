-- A call on any shape, under a budget: refused with the shape, or what the call on the accepted geometry promises. Assumes nothing.
use mathlib.Core.Path.{◌≡◌, refl, sym}
use mathlib.Core.List.{List, []}
use Prim.Native.Nat.{ℕ}
use lib.ListN.{length}
use Rattle.std.specs.Prelude.{Option, Ok, Err}
use Rattle.paper.specs.declared.Geometry.{Geometry}
use Rattle.paper.specs.declared.Shape.{Shape}
use Rattle.paper.specs.declared.Refusal.{Refusal}
use Rattle.paper.specs.Chip.{plan}
use Rattle.paper.specs.Refusals.{Answer, refused, geometry_of}
use Rattle.paper.specs.Calls.{Call, call, plan_of, requested}
use Rattle.laws.proofs.Accepted.{accepted_is}
use Rattle.chip.specs.declared.Budget.{Budget}
use Rattle.chip.specs.Within.{Checks}
use Rattle.chip.specs.Run.{Whole, WholeShown, under}
use Rattle.chip.proofs.Binding.{showed_none}
use Rattle.chip.proofs.Limiting.{showed_under_done}
use Rattle.queue.specs.Promises.{AnswersUnder, ShowsUnder}

abbrev budget : Option ℕ → Budget
budget l = record { 0 = l }

-- on the shape s, with the limit l or without, which takes the image from im to o, and answers x
module _ (s : Shape) (im : List ℕ) (c : Call) (l : Option ℕ) where
  module _ {r : Refusal} (h : Checks (length im) s (Err r)) where
    refused_is : requested s im c ≡ plan [] (refused r)
    unfolding requested call
    refused_is = rw (sym h.answer)

    pub shows_refused : (d : List ℕ) (x : Answer) → x ≡ refused r → ShowsUnder l s c im im d d x
    shows_refused d x e = rw (e, refused_is) (showed_under_done (budget l) (plan [] (refused r)) (showed_none (geometry_of s) (budget l) im (refused r) d) refl)

    pub answers_refused : (x : Answer) → x ≡ refused r → AnswersUnder l s c im im x
    answers_refused x e = (shows_refused [] x e).whole

  module _ {g : Geometry} (h : Checks (length im) s (Ok g)) where
    accepted_as : requested s im c ≡ plan_of g im c
    unfolding requested call
    accepted_as = rw (sym h.answer)

    pub shows_accepted : {o d e : List ℕ} {x : Answer} → WholeShown g (under (budget l) (plan_of g im c)) im o d e x → ShowsUnder l s c im o d e x
    shows_accepted v = rw (accepted_as, accepted_is (length im) s g (sym h.answer)) v

    pub answers_accepted : {o : List ℕ} {x : Answer} → Whole g (under (budget l) (plan_of g im c)) im o x → AnswersUnder l s c im o x
    answers_accepted v = rw (accepted_as, accepted_is (length im) s g (sym h.answer)) v
