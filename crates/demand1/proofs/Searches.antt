-- Searches find pages of the range, and a repair erases such. Assumes nothing.
use mathlib.Core.Bool.{Bool, true, false, cond}
use mathlib.Core.List.{List, [], ◌∷◌}
use Prim.Native.Nat.{ℕ, ◌<◌}
use Rattle.paper.specs.declared.Geometry.{Geometry}
use Rattle.paper.specs.declared.PageState.{PageState}
use Rattle.paper.specs.declared.PageState.TheVariants.{Open, PartialOpen, Closed, Corrupted}
use Rattle.paper.specs.Chip.{Try, fails, gives, on_given}
use Rattle.paper.specs.Pages.{same, state, Found, failed, found, missing, first, found_or, open_from, from, all_pages, youngest, oldest, repair}
use Rattle.demand1.specs.Range.{Lies, Each}
use Rattle.demand1.proofs.EachEvent.{Tried, Any, repair_does}
use Rattle.demand1.proofs.Pages.{from_in, all_in}

abbrev pub PageFoundIn : Geometry → Found → Type 0
PageFoundIn g failed = Unit {0}
PageFoundIn g (found p) = p < g.pages
PageFoundIn g missing = Unit {0}

module _ (g : Geometry) (im : List ℕ) where
  pub first_in : (want : PageState) (ps : List ℕ) → Each (λ p. p < g.pages) ps → PageFoundIn g (first g im want ps)
  unfolding first
  first_in want [] h = tt
  first_in want (p ∷ ps) h = by (same (state g im p) Corrupted) (same (state g im p) want) (first_in want ps h.1)
    where
      by : (s t : Bool) → PageFoundIn g (first g im want ps) → PageFoundIn g (cond s failed (cond t (found p) (first g im want ps)))
      by true t f = tt
      by false true f = h.0
      by false false f = f

  or_in : (x : Found) (t : Try Unit ℕ) → PageFoundIn g x → Tried Any (λ p. p < g.pages) t → Tried Any (λ p. p < g.pages) (found_or x t)
  or_in failed t f h = tt
  or_in (found p) t f h = f
  or_in missing t f h = h

  open_in : (x : Found) → 0 < g.pages → PageFoundIn g x → Tried Any (λ p. p < g.pages) (open_from g im x)
  open_in failed s h = tt
  open_in (found c) s h = or_in (first g im Open (from g c)) (fails tt) (first_in Open (from g c) (from_in g c h)) tt
  open_in missing s h = s

  pub youngest_in : 0 < g.pages → Tried Any (λ p. p < g.pages) (youngest g im)
  unfolding youngest
  youngest_in s =
      or_in (first g im PartialOpen (all_pages g)) (open_from g im (first g im Closed (all_pages g))) (first_in PartialOpen (all_pages g) (all_in g s))
      (open_in (first g im Closed (all_pages g)) s (first_in Closed (all_pages g) (all_in g s)))

  pub oldest_in : 0 < g.pages → Tried Any (λ p. p < g.pages) (oldest g im)
  unfolding oldest
  oldest_in s = on (youngest g im) (youngest_in s)
    where
      on : (t : Try Unit ℕ) → Tried Any (λ p. p < g.pages) t
          → Tried Any (λ p. p < g.pages) (on_given t (λ y. found_or (first g im Closed (from g y)) (gives y)))
      on (fails u) h = tt
      on (gives y) h = or_in (first g im Closed (from g y)) (gives y) (first_in Closed (from g y) (from_in g y h)) h

  -- a repair erases pages of the range
  pub repair_lies : 0 < g.pages → Each (Lies g) (repair g im)
  repair_lies s = repair_does g im (Lies g) s (λ p h e. h)
