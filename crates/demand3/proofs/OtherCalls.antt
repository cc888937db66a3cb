-- The calls that only count, and erase_all, in a history. Assumes nothing.
use mathlib.Core.Bool.{false}
use mathlib.Core.List.{List, [], ◌∷◌, ◌++◌, Memᴰ}
use mathlib.Core.Path.{◌≡◌, refl, ap}
use Prim.Native.Nat.{ℕ, ◌<◌}
use lib.ListN.{length}
use Rattle.paper.specs.declared.Geometry.{Geometry}
use Rattle.paper.specs.declared.PageState.TheVariants.{Corrupted}
use Rattle.paper.specs.Chip.{Event, image_after, Plan, plan, bind, Try, fails, gives}
use Rattle.paper.specs.Pages.{all_pages, state, same, repairs, repair}
use Rattle.paper.specs.Refusals.{Answer, done}
use Rattle.paper.specs.Steps.{retry, with_repair}
use Rattle.paper.specs.Counts.{counted, fit, find_max_fit, space, space_left}
use Rattle.paper.specs.Calls.{erases, erase_all, fits, spaces, erases_all, plan_of}
use Rattle.paper.specs.Waiting.{waiting}
use Rattle.paper.specs.Fifo.{Power, whole, fitted, measured, cleared}
use Rattle.laws.proofs.Accepted.{Laid}
use Rattle.laws.proofs.Marks.{not_same}
use Rattle.laws.proofs.Ring.{all_pages_lem, pages_only}
use Rattle.demand3.proofs.Views.{view, erased_view}
use Rattle.demand3.proofs.RingShape.{sound}
use Rattle.demand3.proofs.Invariant.{Inv}
use Rattle.demand3.proofs.ErasedRange.{fresh_inv, fresh_list, fresh_heads, erases_wipe}
use Rattle.demand3.proofs.Steady.{Steady, rests}
use Rattle.demand3.proofs.Step.{Step, whole_step, steady_step}

repairs_none : (g : Geometry) (im ps : List ℕ) → ((q : ℕ) → Memᴰ q ps → same (state g im q) Corrupted ≡ false) → repairs g im ps ≡ []
unfolding repairs
repairs_none g im [] f = refl
repairs_none g im (p ∷ ps) f = rw (f p (Memᴰ.head refl)) (repairs_none g im ps (λ q m. f q (Memᴰ.tail m)))

module _ {g : Geometry} {im : List ℕ} {o b : ℕ} (I : Inv g im o b) where
  only : (q : ℕ) → Memᴰ q (all_pages g) → q < g.pages
  only q = pages_only g q I.good.sized.some

  pub no_repairs : repair g im ≡ []
  unfolding repair
  no_repairs = repairs_none g im (all_pages g) (λ q m. not_same (state g im q) Corrupted (sound g im o b I.shape q (only q m)))

  -- ---- find_max_fit and space_left

  no_stores : (f : List ℕ → Try Unit Answer) → (counted g im f).events ≡ []
  unfolding counted bind with_repair retry image_after
  no_stores f = by (f im)
    where
      step : Unit {0} → List ℕ → Plan (Try Unit Answer)
      step u jm = plan [] (f jm)

      by : (t : Try Unit Answer) → ((retry g step t im).events ++ []) ≡ []
      by (gives a) = refl
      by (fails u) = rw no_repairs

  pub idle : Steady g (waiting g im) im []
  idle = rests (record { old = o; runs = b; inv = I; list = refl })

  pub fit_plan : plan_of g im fits ≡ plan [] (plan_of g im fits).answer
  unfolding plan_of find_max_fit
  fit_plan = ap (λ (es : List Event). plan es (find_max_fit g im).answer) (no_stores (fit g))

  pub fit_step : (w : Power) → Step g im fits w
  fit_step w = steady_step im fits fit_plan idle fitted w

  pub space_plan : plan_of g im spaces ≡ plan [] (plan_of g im spaces).answer
  unfolding plan_of space_left
  space_plan = ap (λ (es : List Event). plan es (space_left g im).answer) (no_stores (space g))

  pub space_step : (w : Power) → Step g im spaces w
  space_step w = steady_step im spaces space_plan idle measured w

  -- ---- erase_all

  erase_plan : plan_of g im erases_all ≡ plan (erases g (all_pages g)) done
  unfolding plan_of erase_all
  erase_plan = refl

  pub erase_step : Step g im erases_all whole
  erase_step =
      let jm : List ℕ = image_after g (erases g (all_pages g)) im in
      let R = erases_wipe g (all_pages g) im I.good only in
      let G : Laid g (length jm) = rw R.long I.good in
      let E : (p : ℕ) → p < g.pages → view g jm p ≡ erased_view g = λ p h. R.these p h (all_pages_lem g p h) in
      whole_step im erases_all erase_plan (fresh_inv jm G E) (rw (fresh_list jm G E) cleared) (λ p hp h m. absurd (fresh_heads jm G E p hp h m))
