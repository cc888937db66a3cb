-- Erasing page after page: cut at a page, or gone on behind it. Assumes nothing.
use mathlib.Core.Path.{◌≡◌, refl}
use mathlib.Core.Bool.{true, false}
use mathlib.Core.List.{List, []}
use Prim.Native.Nat.{ℕ, ◌+◌, ◌-◌, ◌<◌}
use Rattle.paper.specs.declared.Geometry.{Geometry}
use Rattle.paper.specs.Chip.{erase_page}
use Rattle.paper.specs.Pages.{around}
use Rattle.paper.specs.Calls.{erases}
use Rattle.chip.specs.declared.Budget.{Budget}
use Rattle.chip.specs.Run.{Spent, Did}
use Rattle.chip.proofs.Running.{did_then, did_cut}
use Rattle.page.proofs.Rings.{order_next}

pub erases_none : (g : Geometry) → erases g [] ≡ []
unfolding erases
erases_none g = refl

module _ {g : Geometry} {b : Budget} {i o : List ℕ} {r : Spent} (p : ℕ) (h : p < g.pages) (d : Did g b (erase_page g p) i o r) where
  pub erases_cut : r.cut ≡ true → Did g b (erases g (around g (g.pages - p) p)) i o r
  unfolding erases
  erases_cut t = rw (order_next g p h) (did_cut d (erases g (around g (g.pages - (p + 1)) (p + 1))) t)

  pub erases_on : {m : List ℕ} {q : Spent} → r.cut ≡ false → Did g r.budget (erases g (around g (g.pages - (p + 1)) (p + 1))) o m q
      → Did g b (erases g (around g (g.pages - p) p)) i m q
  unfolding erases
  erases_on t f = rw (order_next g p h) (did_then d t f)
