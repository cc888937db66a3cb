-- Plans in a row: a run of a plan, and then of what is planned on its answer and image, is a run of the two bound. Assumes nothing.
use mathlib.Core.Path.{◌≡◌, refl, sym, ap, ◌∙◌}
use mathlib.Core.Bool.{Bool, true, false, false≢true}
use mathlib.Core.List.{List, [], append-nil}
use Prim.Native.Nat.{ℕ}
use Rattle.paper.specs.declared.Geometry.{Geometry}
use Rattle.paper.specs.Chip.{Event, image_after, buffer_after, Plan, plan, bind, and_then}
use Rattle.chip.specs.declared.Budget.{Budget}
use Rattle.chip.specs.Run.{Spent, made, Did, Acted, Ran, Showed}
use Rattle.chip.proofs.Running.{did_image, acted_then, acted_cut, acted_none, did_none}

-- ---- with a buffer and without

module _ {A : Type 0} {g : Geometry} {b : Budget} {p : Plan A} {i o : List ℕ} {r : Spent} {x : A} where
  pub ran_of : {d e : List ℕ} → Showed g b p i o d e r x → Ran g b p i o r x
  ran_of h = record { did = h.acted.did; says = h.says }

  -- some buffer goes with every run
  pub showed_of : (d : List ℕ) → Ran g b p i o r x → Showed g b p i o d (buffer_after g (made b p.events) i d) r x
  showed_of d h = record { acted = record { did = h.did; buffer = refl }; says = h.says }

-- ---- events and an answer

module _ {A : Type 0} {g : Geometry} {b : Budget} {es : List Event} {i o : List ℕ} {r : Spent} (x : A) where
  pub ran_plan : Did g b es i o r → Ran g b (plan es x) i o r x
  ran_plan h = record { did = h; says = λ e. refl }

  pub showed_plan : {d e : List ℕ} → Acted g b es i o d e r → Showed g b (plan es x) i o d e r x
  showed_plan h = record { acted = h; says = λ e. refl }

module _ {A : Type 0} (g : Geometry) (b : Budget) (i : List ℕ) (x : A) where
  pub showed_none : (d : List ℕ) → Showed g b (plan [] x) i i d d (record { cut = false; budget = b }) x
  showed_none d = showed_plan x (acted_none g b i d)

  pub ran_none : Ran g b (plan [] x) i i (record { cut = false; budget = b }) x
  ran_none = ran_plan x (did_none g b i)

-- a run that spent r was not cut
pub uncut : (r : Spent) → r.cut ≡ false → record { cut = false; budget = r.budget } ≡ r
uncut r t = ap (λ (c : Bool). record { cut = c; budget = r.budget }) (sym t)

-- so nothing is done after it
pub showed_kept : {A : Type 0} (g : Geometry) (r : Spent) (i d : List ℕ) (x : A) → r.cut ≡ false → Showed g r.budget (plan [] x) i i d d r x
showed_kept g r i d x t = rw (← uncut r t) (showed_none g r.budget i x d)

-- ---- bind

module _ {A B : Type 0} {g : Geometry} {b : Budget} {p : Plan A} {i o d e : List ℕ} {r : Spent} {x : A} (next : A → List ℕ → Plan B)
    (h : Showed g b p i o d e r x) where
  pub showed_bind_cut : (y : B) → r.cut ≡ true → Showed g b (bind g i p next) i o d e r y
  unfolding bind
  showed_bind_cut y t = record { acted = acted_cut h.acted _ t; says = λ f. absurd (false≢true (sym f ∙ t)) }

  pub showed_bind_then : {m f : List ℕ} {s : Spent} {y : B} → r.cut ≡ false → Showed g r.budget (next x o) o m e f s y
      → Showed g b (bind g i p next) i m d f s y
  unfolding bind
  showed_bind_then {m} {f} {s} {y} t v =
      let u : Showed g r.budget (next p.answer (image_after g p.events i)) o m e f s y = rw (← did_image h.acted.did t, ← h.says t) v in
      record { acted = acted_then h.acted t u.acted; says = u.says }

module _ {A B : Type 0} {g : Geometry} {b : Budget} {p : Plan A} {i o : List ℕ} {r : Spent} {x : A} (next : A → List ℕ → Plan B) (h : Ran g b p i o r x) where
  pub bind_cut : (y : B) → r.cut ≡ true → Ran g b (bind g i p next) i o r y
  bind_cut y t = ran_of (showed_bind_cut next (showed_of [] h) y t)

  pub bind_then : {m : List ℕ} {s : Spent} {y : B} → r.cut ≡ false → Ran g r.budget (next x o) o m s y → Ran g b (bind g i p next) i m s y
  bind_then t v = ran_of (showed_bind_then next (showed_of [] h) t (showed_of _ v))

  -- nothing more is done
  pub bind_ends : r.cut ≡ false → (y : B) → next x o ≡ plan [] y → Ran g b (bind g i p next) i o r y
  bind_ends t y e = rw (← uncut r t) (bind_then t (rw e (ran_none g r.budget o y)))

-- ---- an answer turned into another one, by f

pub bind_turned : {A B C : Type 0} (g : Geometry) (im : List ℕ) (p : Plan A) (f : A → B) (next : B → List ℕ → Plan C)
    → bind g im (bind g im p (λ a im₁. plan [] (f a))) next ≡ bind g im p (λ a. next (f a))
unfolding bind
bind_turned g im p f next = rw append-nil

pub showed_turned : {A B : Type 0} {g : Geometry} {b : Budget} {p : Plan A} {i o d e : List ℕ} {r : Spent} {x : A} (f : A → B) → Showed g b p i o d e r x
    → Showed g b (bind g i p (λ a im. plan [] (f a))) i o d e r (f x)
unfolding bind
showed_turned f h = rw append-nil (record { acted = h.acted; says = λ t. ap f (h.says t) })

-- ---- and_then

module _ {B : Type 0} {g : Geometry} {b : Budget} {es : List Event} {i o d e : List ℕ} {r : Spent} (next : List ℕ → Plan B) (h : Acted g b es i o d e r) where
  pub showed_and_cut : (y : B) → r.cut ≡ true → Showed g b (and_then g i es next) i o d e r y
  showed_and_cut y t = showed_bind_cut {A = Unit {0}} (λ u. next) (showed_plan tt h) y t

  pub showed_and_then : {m f : List ℕ} {s : Spent} {y : B} → r.cut ≡ false → Showed g r.budget (next o) o m e f s y
      → Showed g b (and_then g i es next) i m d f s y
  showed_and_then t v = showed_bind_then {A = Unit {0}} (λ u. next) (showed_plan tt h) t v

module _ {B : Type 0} {g : Geometry} {b : Budget} {es : List Event} {i o : List ℕ} {r : Spent} (next : List ℕ → Plan B) (h : Did g b es i o r) where
  pub and_cut : (y : B) → r.cut ≡ true → Ran g b (and_then g i es next) i o r y
  and_cut y t = bind_cut {A = Unit {0}} (λ u. next) (ran_plan tt h) y t

  pub and_then_lem : {m : List ℕ} {s : Spent} {y : B} → r.cut ≡ false → Ran g r.budget (next o) o m s y → Ran g b (and_then g i es next) i m s y
  and_then_lem t v = bind_then {A = Unit {0}} (λ u. next) (ran_plan tt h) t v
