-- A count with its repair: a run that gives, one whose repair is cut, and one more after the repair. Assumes nothing.
use mathlib.Core.Path.{◌≡◌, refl}
use mathlib.Core.Bool.{true, false}
use mathlib.Core.List.{List, []}
use Prim.Native.Nat.{ℕ}
use Rattle.paper.specs.declared.Geometry.{Geometry}
use Rattle.paper.specs.declared.Refusal.TheVariants as refusal
use Rattle.paper.specs.Chip.{Plan, plan, Try, fails, gives, settled}
use Rattle.paper.specs.Pages.{repair}
use Rattle.paper.specs.Refusals.{Answer, refused}
use Rattle.paper.specs.Counts.{counted}
use Rattle.chip.specs.declared.Budget.{Budget}
use Rattle.chip.specs.Run.{Spent, Did, Ran}
use Rattle.chip.proofs.Binding.{ran_none, uncut, bind_cut, bind_then}
use Rattle.chip.proofs.Repairing.{repair_gives, repair_stops, repair_again}

-- what a count answers that came to t
abbrev answered : Try Unit Answer → Answer
answered t = settled (refused refusal.Corrupted) t

abbrev next : Try Unit Answer → List ℕ → Plan Answer
next t im = plan [] (answered t)

module _ (g : Geometry) (b : Budget) (im : List ℕ) (count : List ℕ → Try Unit Answer) where
  abbrev step : Unit {0} → List ℕ → Plan (Try Unit Answer)
  step u i = plan [] (count i)

  first : Ran g b (step tt im) im im (record { cut = false; budget = b }) (count im)
  first = ran_none g b im (count im)

  pub count_gives : (a : Answer) → count im ≡ gives a → Ran g b (counted g im count) im im (record { cut = false; budget = b }) a
  unfolding counted
  count_gives a e = bind_then next (repair_gives step tt first a e refl) refl (ran_none g b im a)

  module _ (e : count im ≡ fails tt) {o : List ℕ} {s : Spent} (d : Did g b (repair g im) im o s) where
    pub count_cut : (y : Answer) → s.cut ≡ true → Ran g b (counted g im count) im o s y
    unfolding counted
    count_cut y t = bind_cut next (repair_stops step tt first tt e refl d (fails tt) t) y t

    -- t is what the second run came to
    pub count_again : s.cut ≡ false → (t : Try Unit Answer) → t ≡ count o → Ran g b (counted g im count) im o s (answered t)
    unfolding counted
    count_again u t q =
        let again = repair_again step tt first tt e refl d u (ran_none g s.budget o (count o)) in
        rw (q, ← uncut s u) (bind_then next again refl (ran_none g s.budget o (answered (count o))))
