-- Going round the ring page by page: a loop that counts from page 0 goes over all pages. Assumes nothing.
use mathlib.Core.Path.{◌≡◌, refl, sym, ap, ◌∙◌}
use mathlib.Core.List.{List, [], ◌∷◌}
use Prim.Native.Nat.{ℕ, suc, ◌+◌, ◌-◌, ◌≤◌, ◌<◌}
use native.Mathlib.Nat.{sub-zero}
use native.Mathlib.Omega.{arith}
use Rattle.paper.specs.declared.Geometry.{Geometry}
use Rattle.paper.specs.Pages.{next, around, from, all_pages}
use Rattle.laws.proofs.Ring.{next_on}
use Rattle.laws.proofs.Sides.{Apart, is, differs, apart}

module _ (g : Geometry) where
  -- ---- going round

  pub around_none : (p : ℕ) → around g 0 p ≡ []
  unfolding around
  around_none p = refl

  pub around_next : (n k p : ℕ) → n ≡ suc k → around g n p ≡ p ∷ around g k (next g p)
  unfolding around
  around_next n k p e = rw e

  -- ---- all pages, in page order

  pub order_first : all_pages g ≡ around g (g.pages - 0) 0
  unfolding all_pages from
  order_first = rw sub-zero

  pub order_last : (p : ℕ) → g.pages ≤ p → around g (g.pages - p) p ≡ []
  order_last p h = let e : g.pages - p ≡ 0 = omega arith in rw e (around_none p)

  pub order_next : (p : ℕ) → p < g.pages → around g (g.pages - p) p ≡ p ∷ around g (g.pages - (p + 1)) (p + 1)
  order_next p h =
      around_next (g.pages - p) (g.pages - (p + 1)) p (omega arith) ∙ ap (λ (l : List ℕ). p ∷ l) (by (apart (p + 1) g.pages))
    where
      by : Apart (p + 1) g.pages → around g (g.pages - (p + 1)) (next g p) ≡ around g (g.pages - (p + 1)) (p + 1)
      by (is e) = let z : g.pages - (p + 1) ≡ 0 = omega arith in rw z (around_none (next g p) ∙ sym (around_none (p + 1)))
      by (differs n) = rw (next_on g p n)
