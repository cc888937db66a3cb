-- The space that is left: what a page adds, and the sum, page by page. Assumes nothing.
use mathlib.Core.Path.{◌≡◌, refl, ap}
use mathlib.Core.Bool.{true, false, cond}
use mathlib.Core.List.{List}
use Prim.Native.Nat.{ℕ, ◌+◌, ◌-◌, ◌≤◌, ◌<◌}
use native.Mathlib.Omega.{arith}
use lib.ListN.{length}
use Rattle.std.proofs.lemmas.Bool.Decides.{nat_tests}
use Rattle.std.specs.Option.{is_some}
use Rattle.paper.specs.declared.Geometry.{Geometry}
use Rattle.paper.specs.declared.PageState.{PageState}
use Rattle.paper.specs.declared.PageState.TheVariants.{Open, PartialOpen, Closed, Corrupted}
use Rattle.paper.specs.Chip.{Try, fails, gives, on_given, data_size}
use Rattle.paper.specs.Scan.{serves}
use Rattle.paper.specs.Pages.{state, same, around, all_pages}
use Rattle.paper.specs.Counts.{space_by, space_of}
use Rattle.chip.specs.Within.{Within}
use Rattle.chip.proofs.Geometry.{data_in}
use Rattle.item.specs.declared.Free.{Free}
use Rattle.item.specs.Headers.{available}
use Rattle.item.specs.Scanning.{PageFree}
use Rattle.page.proofs.Rings.{order_first, order_next, order_last}
use Rattle.count.specs.Counts.{empty_by, SpaceIs}

-- ---- what page p adds

module _ (g : Geometry) (im : List ℕ) (p : ℕ) where
  pub space_in : (s : PageState) → same s Corrupted ≡ false
      → space_by g im p s ≡ cond (empty_by g im p s) (gives (data_size g)) (cond (same s Closed) (gives 0) (space_by g im p PartialOpen))
  unfolding space_by empty_by
  space_in Open e = refl
  space_in PartialOpen e = refl
  space_in Closed e = grind (arith, nat_tests)
  space_in Corrupted e = cc

  space_fails : (s : PageState) → same s Corrupted ≡ true → space_by g im p s ≡ fails tt
  unfolding space_by
  space_fails Open e = cc
  space_fails PartialOpen e = cc
  space_fails Closed e = cc
  space_fails Corrupted e = refl

-- a PartialOpen page, whose free spot is r
pub space_spot : {g : Geometry} {im : List ℕ} {p n : ℕ} {r : Free} → Within g (length im) → p < g.pages → PageFree g im p r
    → n ≡ cond (is_some (available g r.left)) r.left (cond (empty_by g im p Closed) (data_size g) r.left) → SpaceIs g im p PartialOpen n
unfolding space_by empty_by serves available
space_spot {g} {im} {p} w h f e =
    let d = data_in g p (length im) w h in
    record { is = λ q. rw (e, f.is.left) (grind (arith, nat_tests)); small = grind (arith, nat_tests, d, f.is.ends) }

-- ---- the sum

-- n more than what is given
abbrev pub plus : ℕ → Try Unit ℕ → Try Unit ℕ
plus n t = on_given t (λ k. gives (n + k))

module _ (g : Geometry) (im : List ℕ) where
  pub sum_first : space_of g im (all_pages g) ≡ plus 0 (space_of g im (around g (g.pages - 0) 0))
  sum_first = rw (← order_first g) (go (space_of g im (all_pages g)))
    where
      go : (t : Try Unit ℕ) → t ≡ plus 0 t
      go (fails u) = refl
      go (gives k) = ap gives (omega arith)

  module _ (n p : ℕ) where
    pub sum_next : (a : ℕ) → p < g.pages → space_by g im p (state g im p) ≡ gives a
        → plus n (space_of g im (around g (g.pages - p) p)) ≡ plus (n + a) (space_of g im (around g (g.pages - (p + 1)) (p + 1)))
    unfolding space_of
    sum_next a h e = rw (order_next g p h, e) (go (space_of g im (around g (g.pages - (p + 1)) (p + 1))))
      where
        go : (t : Try Unit ℕ) → plus n (plus a t) ≡ plus (n + a) t
        go (fails u) = refl
        go (gives k) = ap gives (omega arith)

    pub sum_fails : p < g.pages → same (state g im p) Corrupted ≡ true → plus n (space_of g im (around g (g.pages - p) p)) ≡ fails tt
    unfolding space_of
    sum_fails h e = rw (order_next g p h, space_fails g im p (state g im p) e)

    pub sum_last : g.pages ≤ p → plus n (space_of g im (around g (g.pages - p) p)) ≡ gives n
    unfolding space_of
    sum_last h = rw (order_last g p h) (ap gives (omega arith))

-- the sum at the loop's start, at a page, at a Corrupted one, and at its end
pub ruleset sums = (sum_first, sum_next, sum_fails, sum_last)
