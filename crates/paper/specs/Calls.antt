-- The calls: erase_all, the limited form, the check before the call, and any call as a plan. Assumes nothing.
use Rattle.std.specs.Prelude.{Bool, cond, List, [], ◌∷◌, ◌++◌, ℕ, ltb, length, Result, Ok, Err}
use Rattle.paper.specs.declared.Shape.{Shape}
use Rattle.paper.specs.declared.Refusal.{Refusal}
use Rattle.paper.specs.declared.Refusal.TheVariants as refusal
use Rattle.paper.specs.Chip.{Geometry, Event, store_count, before, erase_page, Plan, plan}
use Rattle.paper.specs.Pages.{all_pages}
use Rattle.paper.specs.Refusals.{check, Answer, done, refused}
use Rattle.paper.specs.Push.{push}
use Rattle.paper.specs.Search.{peek, pop}
use Rattle.paper.specs.Counts.{find_max_fit, space_left}

-- ---- erase_all

-- "(page order)"
unfoldable pub erases : Geometry → List ℕ → List Event
erases g [] = []
erases g (p ∷ ps) = erase_page g p ++ erases g ps

unfoldable pub erase_all : Geometry → Plan Answer
erase_all g = plan (erases g (all_pages g)) done

-- ---- any call

-- the limited form: "answers "cut" exactly when k is less than the list's length"
unfoldable pub limited : ℕ → Plan Answer → Plan Answer
limited k p = cond (ltb k (store_count p.events)) (plan (before k p.events) (refused refusal.Cut)) p

-- a call on any shape, over an image of n bytes: the shape's refusal, "then the call's own"
abbrev pub planned : Result Geometry Refusal → (Geometry → Plan Answer) → Plan Answer
planned (Ok g) own = own g
planned (Err r) own = plan [] (refused r)

unfoldable pub call : ℕ → Shape → (Geometry → Plan Answer) → Plan Answer
call n s own = planned (check n s) own

-- the six calls, each with what it is given: a slip and whether overwriting is on; a lent buffer
pub data Call : Type 0 where
  pushes : List ℕ → Bool → Call
  peeks : List ℕ → Call
  pops : List ℕ → Call
  fits : Call
  spaces : Call
  erases_all : Call

-- what a call does on a geometry that the check accepted, and what it answers
unfoldable pub plan_of : Geometry → List ℕ → Call → Plan Answer
plan_of g im (pushes slip over) = push g im slip over
plan_of g im (peeks buf) = peek g im (length buf)
plan_of g im (pops buf) = pop g im (length buf)
plan_of g im fits = find_max_fit g im
plan_of g im spaces = space_left g im
plan_of g im erases_all = erase_all g

-- a public call: any call, on any shape and image
unfoldable pub requested : Shape → List ℕ → Call → Plan Answer
requested s im c = call (length im) s (λ g. plan_of g im c)
