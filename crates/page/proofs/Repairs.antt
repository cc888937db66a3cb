-- Repair, page by page: a page's turn changes no other page's state, so that its events go by the image that the repair began with. Assumes nothing.
use mathlib.Core.Path.{◌≡◌, refl}
use mathlib.Core.Bool.{Bool, true, false}
use mathlib.Core.List.{List, [], ◌∷◌, ◌++◌, append-nil}
use Prim.Native.Nat.{ℕ, ◌*◌, ◌≤◌, ◌<◌}
use native.Mathlib.Omega.{arith}
use Rattle.std.proofs.lemmas.Bool.Decides.{nat_tests}
use lib.ListN.{length}
use Rattle.paper.specs.declared.Geometry.{Geometry}
use Rattle.paper.specs.declared.PageState.{PageState}
use Rattle.paper.specs.declared.PageState.TheVariants.{Corrupted}
use Rattle.paper.specs.Chip.{erase_page, image_after}
use Rattle.paper.specs.Pages.{state, same, repairs}
use Rattle.laws.proofs.ErasePage.{erase_others}
use Rattle.laws.proofs.PageBytes.{state_same}
use Rattle.chip.specs.declared.Budget.{Budget}
use Rattle.chip.specs.Within.{Within}
use Rattle.chip.specs.Run.{Spent, Did}
use Rattle.chip.proofs.Running.{did_then, did_cut}

pub repairs_none : (g : Geometry) (im : List ℕ) → repairs g im [] ≡ []
unfolding repairs
repairs_none g im = refl

-- ---- a page's turn, whose state is s

module _ (g : Geometry) (im : List ℕ) (p : ℕ) (s : PageState) (e : s ≡ state g im p) where
  pub repairs_page : same s Corrupted ≡ true → repairs g im (p ∷ []) ≡ erase_page g p
  unfolding repairs
  repairs_page t = rw (← e, t) (append-nil (erase_page g p))

  pub repairs_pass : same s Corrupted ≡ false → repairs g im (p ∷ []) ≡ []
  unfolding repairs
  repairs_pass t = rw (← e, t)

repairs_cons : (g : Geometry) (im : List ℕ) (p : ℕ) (ps : List ℕ) → repairs g im (p ∷ ps) ≡ repairs g im (p ∷ []) ++ repairs g im ps
unfolding repairs
repairs_cons g im p ps = grind (arith, nat_tests, append-nil)

repairs_same : (g : Geometry) (i im : List ℕ) (p : ℕ) → state g i p ≡ state g im p → repairs g i (p ∷ []) ≡ repairs g im (p ∷ [])
unfolding repairs
repairs_same g i im p e = rw e

-- im is the image that the repair began with, and i the one at this page's turn
module _ {g : Geometry} {b : Budget} {i o : List ℕ} {r : Spent} (im : List ℕ) (p : ℕ) (ps : List ℕ)
    (e : state g i p ≡ state g im p) (d : Did g b (repairs g i (p ∷ [])) i o r) where
  pub repairs_cut : r.cut ≡ true → Did g b (repairs g im (p ∷ ps)) i o r
  repairs_cut t = rw (repairs_cons g im p ps, ← repairs_same g i im p e) (did_cut d (repairs g im ps) t)

  pub repairs_on : {m : List ℕ} {q : Spent} → r.cut ≡ false → Did g r.budget (repairs g im ps) o m q → Did g b (repairs g im (p ∷ ps)) i m q
  repairs_on t f = rw (repairs_cons g im p ps, ← repairs_same g i im p e) (did_then d t f)

-- ---- another page's turn

erase_elsewhere : (g : Geometry) (im : List ℕ) → Within g (length im) → (p q : ℕ) → p < g.pages → q < g.pages → (q ≡ p → ⊥)
    → state g (image_after g (erase_page g p) im) q ≡ state g im q
erase_elsewhere g im w p q hp hq n =
    let marks : 2 * g.word ≤ g.page = omega (arith, w.good.sized.room) in
    state_same g marks (image_after g (erase_page g p) im) im q (erase_others g p im w.ends hp q hq n)

pub repairs_elsewhere : (g : Geometry) (im : List ℕ) → Within g (length im) → (p q : ℕ) → p < g.pages → q < g.pages → (q ≡ p → ⊥)
    → state g (image_after g (repairs g im (p ∷ [])) im) q ≡ state g im q
unfolding image_after
repairs_elsewhere g im w p q hp hq n = go (same (state g im p) Corrupted) refl
  where
    go : (t : Bool) → same (state g im p) Corrupted ≡ t → state g (image_after g (repairs g im (p ∷ [])) im) q ≡ state g im q
    go true t = rw (repairs_page g im p (state g im p) refl t) (erase_elsewhere g im w p q hp hq n)
    go false t = rw (repairs_pass g im p (state g im p) refl t)
