-- A function that ends early by an error, its own or one that `?` hands on: what it came to. Assumes nothing.
use mathlib.Core.Path.{◌≡◌, refl, ap}
use mathlib.Core.Bool.{true, false≢true, true≢false}
use mathlib.Core.List.{List, ◌++◌}
use Prim.Native.Nat.{ℕ}
use Rattle.std.proofs.Common.{Result, Ok, Err}
use Rattle.std.specs.Result.{IsErr, IsErrAnd}
use Rattle.paper.specs.declared.Geometry.{Geometry}
use Rattle.paper.specs.declared.Refusal.TheVariants as refusal
use Rattle.paper.specs.Chip.{Event, Plan}
use Rattle.paper.specs.Refusals.{Answer, refused}
use Rattle.chip.specs.declared.Budget.{Budget}
use Rattle.chip.specs.declared.Cut.{Cut}
use Rattle.chip.specs.declared.Failure.{Failure}
use Rattle.chip.specs.declared.Failure.TheVariants as failure
use Rattle.chip.specs.Run.{paid, spent, refusal_of, Did, Ran, Whole, under}
use Rattle.chip.proofs.Running.{did_cut}
use Rattle.chip.proofs.Limiting.{under_cut, under_done}

-- the error that `?` hands on
pub handed : {X E : Type 0} (r : Result X E) (e : E) → IsErrAnd r (λ x. x ≡ e) → r ≡ Err e
handed (Ok x) e h = absurd h
handed (Err y) e h = ap Err h

-- a store that was cut passes that on
pub paid_cut : {X : Type 0} (r : Result X Cut) (b : Budget) → IsErr r → paid r b ≡ record { cut = true; budget = b }
paid_cut (Ok x) b e = absurd (false≢true e)
paid_cut (Err e) b f = refl

module _ {g : Geometry} {b c : Budget} {i o : List ℕ} where
  -- so nothing is done of what would come after it
  pub did_ends : {X : Type 0} {xs : List Event} (r : Result X Cut) → IsErr r → Did g b xs i o (record { cut = true; budget = c }) → (ys : List Event)
      → Did g b (xs ++ ys) i o (paid r c)
  did_ends r e h ys = rw (paid_cut r c e) (did_cut h ys refl)

  -- and a plan is cut with its events, whatever is answered
  pub ran_ends : {A : Type 0} {p : Plan A} → Did g b p.events i o (record { cut = true; budget = c }) → (x : A) → Ran g b p i o (record {
    cut = true;
    budget = c;
  }) x
  ran_ends h x = record { did = h; says = λ f. absurd (true≢false f) }

-- a call whose plan ended early is refused, with Corrupted or because it was cut
pub refused_by : (X : Type 0) {g : Geometry} {b : Budget} (c : Budget) {p : Plan Answer} {i o : List ℕ} (f : Failure)
    → Ran g b p i o (spent {X = X} (Err f) c) (refused refusal.Corrupted) → Whole g (under b p) i o (refused (refusal_of f))
refused_by X {g} {b} c failure.Corrupted r = under_done b _ r refl
refused_by X {g} {b} c failure.Cut r = under_cut b _ r refl
