-- How a push looks for its spot: its plan, by the state of the current page and of the next one. Assumes nothing.
use mathlib.Core.Bool.{Bool, true, false, cond, not, ◌&&◌}
use mathlib.Core.List.{List, [], ◌∷◌}
use mathlib.Core.Path.{◌≡◌, refl}
use Prim.Native.Nat.{ℕ}
use borrow.Author.Tests.{eq-eqb}
use lib.Dec.{eqb}
use Rattle.paper.specs.declared.Geometry.{Geometry}
use Rattle.paper.specs.declared.PageState.TheVariants.{Open, PartialOpen}
use Rattle.paper.specs.Chip.{data_start, Event, erase, image_by, image_after, Plan, plan, bind, Try, gives}
use Rattle.paper.specs.Scan.{page_walk, free_spot, serves, any_live}
use Rattle.paper.specs.Pages.{next, state, set_start, set_end}
use Rattle.paper.specs.Push.{Spot, full, at, take_page, turn_page, find_spot, spot_on}
use Rattle.laws.proofs.ErasePage.{erase_page_is}
use Rattle.demand3.proofs.Plans.{bind_first}

and_false : (t : Bool) → (t && false) ≡ false
and_false true = refl
and_false false = refl

-- page x is used again, if overwriting is on or no header is live there
abbrev pub reused : Geometry → List ℕ → Bool → ℕ → List Event → Plan (Try Unit Spot)
reused g im over x es = cond (not over && any_live (page_walk g im x).heads) (plan [] (gives full)) (plan (erase x ∷ es) (gives (at (data_start g x))))

module _ (g : Geometry) (im : List ℕ) (over : Bool) where
  pub reused_not : (x : ℕ) (es : List Event) → over ≡ false → any_live (page_walk g im x).heads ≡ true → reused g im over x es ≡ plan [] (gives full)
  reused_not x es v e = rw (v, e)

  pub reused_free : (x : ℕ) (es : List Event) → any_live (page_walk g im x).heads ≡ false
      → reused g im over x es ≡ plan (erase x ∷ es) (gives (at (data_start g x)))
  reused_free x es e = rw (e, and_false (not over))

  pub reused_over : (x : ℕ) (es : List Event) → over ≡ true → reused g im over x es ≡ plan (erase x ∷ es) (gives (at (data_start g x)))
  reused_over x es v = rw v

  pub take_is : (y x : ℕ) → eqb x y ≡ false → take_page g over y x im ≡ reused g im over x (set_end g y ∷ set_start g x ∷ [])
  unfolding take_page
  take_is y x e = rw (e, erase_page_is g x)

  pub sole_is : (x : ℕ) → turn_page g over x x PartialOpen im ≡ reused g im over x (set_start g x ∷ [])
  unfolding turn_page take_page
  sole_is x = rw (eq-eqb x x refl, erase_page_is g x)

  module _ (n y : ℕ) where
    pub open_is : state g im y ≡ Open → serves g (page_walk g (image_by g (set_start g y) im) y).rest n ≡ true
        → spot_on g n over (gives y) im ≡ plan (set_start g y ∷ []) (gives (at (free_spot g (image_by g (set_start g y) im) y)))
    unfolding spot_on find_spot bind image_after
    open_is e s = rw (e, s)

    pub partly_is : state g im y ≡ PartialOpen → spot_on g n over (gives y) im ≡ find_spot g n over y im
    unfolding spot_on
    partly_is e = bind_first g im (λ u. find_spot g n over y) (rw e)

    pub here_is : serves g (page_walk g im y).rest n ≡ true → find_spot g n over y im ≡ plan [] (gives (at (free_spot g im y)))
    unfolding find_spot
    here_is s = rw s

    pub turn_is : serves g (page_walk g im y).rest n ≡ false → find_spot g n over y im ≡ turn_page g over y (next g y) (state g im (next g y)) im
    unfolding find_spot
    turn_is s = rw s
