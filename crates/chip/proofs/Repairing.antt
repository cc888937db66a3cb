-- A step with repair: it is run, and where it failed, once more after a repair, from where it stood. Assumes nothing.
use mathlib.Core.Path.{◌≡◌, sym, ap}
use mathlib.Core.Bool.{Bool, true, false}
use mathlib.Core.List.{List, []}
use Prim.Native.Nat.{ℕ}
use Rattle.paper.specs.declared.Geometry.{Geometry}
use Rattle.paper.specs.Chip.{Plan, Try, fails, gives}
use Rattle.paper.specs.Pages.{repair}
use Rattle.paper.specs.Steps.{retry, with_repair}
use Rattle.chip.specs.declared.Budget.{Budget}
use Rattle.chip.specs.Run.{Spent, Did, Ran, Showed}
use Rattle.chip.proofs.Quiet.{acted_quiet, repair_quiet}
use Rattle.chip.proofs.Binding.{ran_of, showed_of, showed_none, showed_bind_cut, showed_bind_then, showed_and_cut, showed_and_then}

-- x is what the first run of the step, from w, came to
module _ {W A : Type 0} {g : Geometry} {b : Budget} {i o d e : List ℕ} {r : Spent} {x : Try W A} (step : W → List ℕ → Plan (Try W A))
    (w : W) (h : Showed g b (step w i) i o d e r x) where
  pub showed_repair_cut : (y : Try W A) → r.cut ≡ true → Showed g b (with_repair g step w i) i o d e r y
  unfolding with_repair
  showed_repair_cut y t = showed_bind_cut (retry g step) h y t

  pub showed_repair_gives : (a : A) → x ≡ gives a → r.cut ≡ false → Showed g b (with_repair g step w i) i o d e r (gives a)
  unfolding with_repair retry
  showed_repair_gives a q t =
      let z : record { cut = false; budget = r.budget } ≡ r = ap (λ (c : Bool). record { cut = c; budget = r.budget }) (sym t) in
      rw (← z) (showed_bind_then (retry g step) h t (rw q (showed_none g r.budget o (gives a) e)))

  -- it failed, from v on, and its repair is a run k
  module _ (v : W) (q : x ≡ fails v) (t : r.cut ≡ false) {m : List ℕ} {s : Spent} (k : Did g r.budget (repair g o) o m s) where
    pub showed_repair_stops : (y : Try W A) → s.cut ≡ true → Showed g b (with_repair g step w i) i m d e s y
    unfolding with_repair retry
    showed_repair_stops y u = showed_bind_then (retry g step) h t (rw q (showed_and_cut (step v) (acted_quiet e (repair_quiet g o) k) y u))

    pub showed_repair_again : {n f : List ℕ} {z : Spent} {y : Try W A} → s.cut ≡ false → Showed g s.budget (step v m) m n e f z y
        → Showed g b (with_repair g step w i) i n d f z y
    unfolding with_repair retry
    showed_repair_again u l = showed_bind_then (retry g step) h t (rw q (showed_and_then (step v) (acted_quiet e (repair_quiet g o) k) u l))

-- the same where nothing is said of a buffer
module _ {W A : Type 0} {g : Geometry} {b : Budget} {i o : List ℕ} {r : Spent} {x : Try W A} (step : W → List ℕ → Plan (Try W A)) (w : W)
    (h : Ran g b (step w i) i o r x) where
  pub repair_cut : (y : Try W A) → r.cut ≡ true → Ran g b (with_repair g step w i) i o r y
  repair_cut y t = ran_of (showed_repair_cut step w (showed_of [] h) y t)

  pub repair_gives : (a : A) → x ≡ gives a → r.cut ≡ false → Ran g b (with_repair g step w i) i o r (gives a)
  repair_gives a q t = ran_of (showed_repair_gives step w (showed_of [] h) a q t)

  module _ (v : W) (q : x ≡ fails v) (t : r.cut ≡ false) {m : List ℕ} {s : Spent} (k : Did g r.budget (repair g o) o m s) where
    pub repair_stops : (y : Try W A) → s.cut ≡ true → Ran g b (with_repair g step w i) i m s y
    repair_stops y u = ran_of (showed_repair_stops step w (showed_of [] h) v q t k y u)

    pub repair_again : {n : List ℕ} {z : Spent} {y : Try W A} → s.cut ≡ false → Ran g s.budget (step v m) m n z y → Ran g b (with_repair g step w i) i n z y
    repair_again u l = ran_of (showed_repair_again step w (showed_of [] h) v q t k u (showed_of _ l))
