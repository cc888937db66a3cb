-- Push on images that are alike: the same plan, and its events lie in the range. Assumes nothing.
use mathlib.Core.Path.{◌≡◌, refl}
use mathlib.Core.Bool.{Bool, true, false, cond, not, ◌&&◌}
use mathlib.Core.List.{List, [], ◌∷◌, ◌++◌}
use Prim.Native.Nat.{ℕ, ◌+◌, ◌≤◌, ◌<◌}
use native.Mathlib.Nat.{div-mul_cancel}
use native.Mathlib.Omega.{arith}
use borrow.Author.Tests.{ltb-false}
use lib.Dec.{eqb, ltb}
use lib.ListN.{length}
use Rattle.paper.specs.declared.Geometry.{Geometry}
use Rattle.paper.specs.declared.PageState.{PageState}
use Rattle.paper.specs.declared.PageState.TheVariants.{Open, PartialOpen, Closed, Corrupted}
use Rattle.paper.specs.Chip.{round_up, round_down, header_size, data_size, Event, erase_page, Try, fails, gives}
use Rattle.paper.specs.Scan.{page_walk, free_spot, serves, any_live}
use Rattle.paper.specs.Pages.{state, same, set_start, set_end, next, youngest}
use Rattle.paper.specs.Refusals.{length_limit}
use Rattle.paper.specs.Push.{Spot, full, at, too_big, take_page, turn_page, find_spot, spot_on, spot_step, spot_for, push_at, push}
use Rattle.laws.proofs.Accepted.{neither, Laid}
use Rattle.laws.proofs.ErasePage.{erase_each}
use Rattle.laws.proofs.Ring.{next_in}
use Rattle.demand1.specs.Range.{Lies, Each}
use Rattle.demand1.proofs.Lists.{each_append}
use Rattle.demand1.proofs.Pages.{layout}
use Rattle.laws.proofs.Headers.{header_behind}
use Rattle.demand1.proofs.Walks.{ItemInRange, spot_room, page_room}
use Rattle.demand1.proofs.Lying.{Alike}
use Rattle.demand1.proofs.EachEvent.{Tried, Any}
use Rattle.demand1.proofs.Searches.{youngest_in}
use Rattle.demand1.proofs.AlikePlans.{Both, both_cond, both_bind, both_then, both_steps, states, walks, youngest_same}
use Rattle.demand1.proofs.Writes.{start_lies, end_lies, item_lies}

-- a spot has room for an item of m bytes
abbrev SpotFits : Geometry → ℕ → Spot → Type 0
SpotFits g m full = Unit {0}
SpotFits g m (at a) = ItemInRange g a m

abbrev SpotFine : Geometry → ℕ → Try Unit Spot → Type 0
SpotFine g m = Tried Any (SpotFits g m)

module _ {g : Geometry} {n : ℕ} (S : Laid g n) (m : ℕ) (small : too_big g m ≡ false) where
  -- what is not too big fits an empty page
  fits : header_size g + round_up g.word m ≤ data_size g
  unfolding too_big round_down
  fits =
      let w : ℕ = g.word in
      let k : header_size g + m ≤ data_size g =
      ltb-false (data_size g) (header_size g + m) (neither (ltb length_limit m) (ltb (data_size g) (header_size g + m)) small).1 in
      let d : round_down w (data_size g) ≡ data_size g = div-mul_cancel w {m = data_size g} (layout S 0).size_whole in
      omega (arith, header_behind g S.sized.low (data_size g) m (omega arith))

  module _ {im jm : List ℕ} (L : Alike g n im jm) (over : Bool) (y x : ℕ) (hy : y < g.pages) (hx : x < g.pages) where
    both_take : Both g (SpotFine g m) (take_page g over y x im) (take_page g over y x jm)
    unfolding take_page
    both_take = rw (← walks S L x hx) (both_cond (not over && any_live (page_walk g im x).heads) (λ e. record { one = refl; lies = tt; fine = tt })
        (λ e. record { one = refl; lies = lie; fine = page_room S im L.long x hx m fits }))
      where
        then : Bool → List Event
        then t = cond t [] (set_end g y ∷ []) ++ (set_start g x ∷ [])

        by : (t : Bool) → Each (Lies g) (then t)
        by true = (start_lies S x hx, tt)
        by false = (end_lies S y hy, (start_lies S x hx, tt))

        lie : Each (Lies g) (erase_page g x ++ then (eqb x y))
        lie = each_append (Lies g) (erase_page g x) (then (eqb x y)) (erase_each g x (Lies g) hx) (by (eqb x y))

    both_turn : (s : PageState) → Both g (SpotFine g m) (turn_page g over y x s im) (turn_page g over y x s jm)
    unfolding turn_page
    both_turn Open = record { one = refl; lies = (end_lies S y hy, (start_lies S x hx, tt)); fine = page_room S im L.long x hx m fits }
    both_turn PartialOpen = both_cond (eqb x y) (λ e. both_take) (λ e. record { one = refl; lies = tt; fine = tt })
    both_turn Closed = both_take
    both_turn Corrupted = record { one = refl; lies = tt; fine = tt }

  both_find : (over : Bool) (y : ℕ) → y < g.pages → (im jm : List ℕ) → Alike g n im jm
      → Both g (SpotFine g m) (find_spot g m over y im) (find_spot g m over y jm)
  unfolding find_spot free_spot
  both_find over y h im jm L =
      let k = next_in g y h in
      rw (← walks S L y h, ← states S L (next g y) k)
      (both_cond (serves g (page_walk g im y).rest m) (λ e. record { one = refl; lies = tt; fine = spot_room S im L.long y h m e })
      (λ e. both_turn L over y (next g y) h k (state g im (next g y))))

  both_spot : (over : Bool) (t : Try Unit ℕ) → Tried Any (λ p. p < g.pages) t → (im jm : List ℕ) → Alike g n im jm
      → Both g (SpotFine g m) (spot_on g m over t im) (spot_on g m over t jm)
  unfolding spot_on
  both_spot over (fails u) h im jm L = record { one = refl; lies = tt; fine = tt }
  both_spot over (gives y) h im jm L =
      let t : Bool = same (state g im y) Open in
      rw (← states S L y h) (both_then S im jm (cond t (set_start g y ∷ []) []) (find_spot g m over y) L (by t) (both_find over y h))
    where
      by : (t : Bool) → Each (Lies g) (cond t (set_start g y ∷ []) [])
      by true = (start_lies S y h, tt)
      by false = tt

  both_spot_for : (over : Bool) (im jm : List ℕ) → Alike g n im jm → Both g (SpotFine g m) (spot_for g im m over) (spot_for g jm m over)
  unfolding spot_for spot_step
  both_spot_for over im jm L = both_steps S Any (SpotFits g m) (spot_step g m over)
      (λ w v im jm L. rw (← youngest_same S L) (both_spot over (youngest g im) (youngest_in g im S.sized.some) im jm L)) tt tt im jm L

module _ {g : Geometry} {n : ℕ} (S : Laid g n) (slip : List ℕ) where
  both_item : (t : Try Unit Spot) → SpotFine g (length slip) t → (im jm : List ℕ) → Alike g n im jm → Both g Any (push_at g slip t im) (push_at g slip t jm)
  unfolding push_at
  both_item (fails u) h im jm L = record { one = refl; lies = tt; fine = tt }
  both_item (gives full) h im jm L = record { one = refl; lies = tt; fine = tt }
  both_item (gives (at a)) h im jm L = record { one = refl; lies = item_lies S a slip h; fine = tt }

  pub both_push : (over : Bool) (im jm : List ℕ) → Alike g n im jm → Both g Any (push g im slip over) (push g jm slip over)
  unfolding push
  both_push over im jm L = both_cond (too_big g (length slip)) (λ e. record { one = refl; lies = tt; fine = tt })
      (λ e. both_bind S (SpotFine g (length slip)) im jm (push_at g slip) L (both_spot_for S (length slip) e over im jm L) both_item)
