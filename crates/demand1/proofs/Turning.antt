-- Where a push finds no spot in the current page: when the next page fails it, and when the storage is full. Assumes nothing.
use mathlib.Core.Path.{◌≡◌, refl, ap, ◌∙◌}
use mathlib.Core.Bool.{Bool, true, false, cond, not, ◌&&◌}
use mathlib.Core.List.{List, []}
use mathlib.Core.Logic.{◌⊎◌, inl, inr}
use Prim.Native.Nat.{ℕ}
use borrow.Author.Tests.{eqb-true, eqb-false, eq-eqb}
use lib.Dec.{eqb}
use Rattle.paper.specs.declared.Geometry.{Geometry}
use Rattle.paper.specs.declared.PageState.{PageState}
use Rattle.paper.specs.declared.PageState.TheVariants.{Open, PartialOpen, Closed, Corrupted}
use Rattle.paper.specs.Chip.{Event, Plan, plan, Try, fails, gives}
use Rattle.paper.specs.Scan.{page_walk, free_spot, serves, any_live}
use Rattle.paper.specs.Pages.{state, next}
use Rattle.paper.specs.Push.{Spot, full, at, take_page, turn_page, find_spot}
use Rattle.demand1.proofs.Lists.{never}

-- ---- the next page

-- a page that may be used again: o whether overwriting is on, t whether an item is live there
abbrev used : Bool → Bool → List Event → ℕ → Plan (Try Unit Spot)
used o t es a = cond (not o && t) (plan [] (gives full)) (plan es (gives (at a)))

used_full : (o t : Bool) (es : List Event) (a : ℕ) → (used o t es a).answer ≡ gives full → (o ≡ false) × (t ≡ true) × ((used o t es a).events ≡ [])
used_full true t es a e = never (cc)
used_full false true es a e = (refl, refl, refl)
used_full false false es a e = never (cc)

used_gives : (o t : Bool) (es : List Event) (a : ℕ) {u : Unit {0}} → (used o t es a).answer ≡ fails u → ⊥
used_gives true t es a e = never (cc)
used_gives false true es a e = never (cc)
used_gives false false es a e = never (cc)

-- x is the next page, y the current one, s the state of x in the image im
module _ (g : Geometry) (over : Bool) (y x : ℕ) (im : List ℕ) where
  -- the next page has a live item, and may not be used again
  record Turned (s : PageState) (p : Plan (Try Unit Spot)) : Type 0 where
    pub off : over ≡ false
    pub alive : any_live (page_walk g im x).heads ≡ true
    pub none : p.events ≡ []
    pub again : (s ≡ Closed) ⊎ (x ≡ y)

  turn_full : (s : PageState) → (turn_page g over y x s im).answer ≡ gives full → Turned s (turn_page g over y x s im)
  unfolding turn_page take_page
  turn_full Open e = never (cc)
  turn_full PartialOpen e = by (eqb x y) refl e
    where
      by : (t : Bool) → eqb x y ≡ t → (cond t (take_page g over y x im) (plan [] (fails tt))).answer ≡ gives full
          → Turned PartialOpen (cond t (take_page g over y x im) (plan [] (fails tt)))
      by true q e = let k = used_full over (any_live (page_walk g im x).heads) _ _ e in record {
        off = k.0;
        alive = k.1;
        none = k.2;
        again = inr (eqb-true x y q);
      }
      by false q e = never (cc)
  turn_full Closed e = let k = used_full over (any_live (page_walk g im x).heads) _ _ e in record { off = k.0; alive = k.1; none = k.2; again = inl refl }
  turn_full Corrupted e = never (cc)

  pub record Stuck (s : PageState) (p : Plan (Try Unit Spot)) : Type 0 where
    pub none : p.events ≡ []
    pub because : (s ≡ Corrupted) ⊎ ((s ≡ PartialOpen) × (x ≡ y → ⊥))

  turn_fails : (s : PageState) {u : Unit {0}} → (turn_page g over y x s im).answer ≡ fails u → Stuck s (turn_page g over y x s im)
  unfolding turn_page take_page
  turn_fails Open e = never (cc)
  turn_fails PartialOpen {u} e = by (eqb x y) refl e
    where
      by : (t : Bool) → eqb x y ≡ t → (cond t (take_page g over y x im) (plan [] (fails tt))).answer ≡ fails u
          → Stuck PartialOpen (cond t (take_page g over y x im) (plan [] (fails tt)))
      by true q e = absurd (used_gives over (any_live (page_walk g im x).heads) _ _ e)
      by false q e = record { none = refl; because = inr (refl, eqb-false x y q) }
  turn_fails Closed e = absurd (used_gives over (any_live (page_walk g im x).heads) _ _ e)
  turn_fails Corrupted e = record { none = refl; because = inl refl }

-- ---- the current page

-- where no spot serves m bytes in page y, and the next page may not be used again
pub record NoRoom (g : Geometry) (m y : ℕ) (im : List ℕ) : Type 0 where
  pub no_spot : serves g (page_walk g im y).rest m ≡ false
  pub alive : any_live (page_walk g im (next g y)).heads ≡ true
  pub again : (state g im (next g y) ≡ Closed) ⊎ (next g y ≡ y)

module _ (g : Geometry) (m : ℕ) (over : Bool) (y : ℕ) (im : List ℕ) where
  pub find_full : (find_spot g m over y im).answer ≡ gives full → (over ≡ false) × NoRoom g m y im × ((find_spot g m over y im).events ≡ [])
  unfolding find_spot
  find_full = by (serves g (page_walk g im y).rest m) refl
    where
      turned : Plan (Try Unit Spot)
      turned = turn_page g over y (next g y) (state g im (next g y)) im

      by : (t : Bool) → serves g (page_walk g im y).rest m ≡ t → (cond t (plan [] (gives (at (free_spot g im y)))) turned).answer ≡ gives full
          → (over ≡ false) × NoRoom g m y im × ((cond t (plan [] (gives (at (free_spot g im y)))) turned).events ≡ [])
      by true q e = never (cc)
      by false q e =
          let T = turn_full g over y (next g y) im (state g im (next g y)) e in
          (T.off, record { no_spot = q; alive = T.alive; again = T.again }, T.none)

  pub find_fails : {u : Unit {0}} → (find_spot g m over y im).answer ≡ fails u → Stuck g over y (next g y) im (state g im (next g y)) (find_spot g m over y im)
  unfolding find_spot
  find_fails {u} = by (serves g (page_walk g im y).rest m)
    where
      turned : Plan (Try Unit Spot)
      turned = turn_page g over y (next g y) (state g im (next g y)) im

      by : (t : Bool) → (cond t (plan [] (gives (at (free_spot g im y)))) turned).answer ≡ fails u
          → Stuck g over y (next g y) im (state g im (next g y)) (cond t (plan [] (gives (at (free_spot g im y)))) turned)
      by true e = never (cc)
      by false e = turn_fails g over y (next g y) im (state g im (next g y)) e

-- without overwriting it is full; a next page that is the current one is no Open one
pub find_no_room : (g : Geometry) (m y : ℕ) (im : List ℕ) → NoRoom g m y im → (state g im y ≡ PartialOpen) → (find_spot g m false y im).answer ≡ gives full
unfolding find_spot turn_page take_page
find_no_room g m y im N s = by N.again
  where
    by : (state g im (next g y) ≡ Closed) ⊎ (next g y ≡ y) → (find_spot g m false y im).answer ≡ gives full
    by (inl e) = rw (N.no_spot, e, N.alive)
    by (inr e) =
        let q : state g im (next g y) ≡ PartialOpen = ap (state g im) e ∙ s in
        rw (N.no_spot, q, eq-eqb (next g y) y e, N.alive)
