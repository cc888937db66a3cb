-- What the search for a spot finds, on the current page and on the next: an item that begins there lies in the range. Assumes nothing.
use mathlib.Core.Path.{◌≡◌, refl, sym}
use mathlib.Core.Bool.{Bool, true, false, false≢true, true≢false}
use mathlib.Core.List.{List}
use Prim.Native.Nat.{ℕ, ◌≤◌, ◌<◌}
use native.Mathlib.Omega.{arith}
use lib.ListN.{length}
use Rattle.std.proofs.Common.{Result, Ok, Err, Option, Some, None}
use Rattle.std.specs.Option.{is_some}
use Rattle.std.proofs.lemmas.Bool.Decides.{nat_tests}
use Rattle.paper.specs.declared.Geometry.{Geometry}
use Rattle.paper.specs.declared.PageState.{PageState}
use Rattle.paper.specs.declared.PageState.TheVariants.{Open, PartialOpen, Closed, Corrupted}
use Rattle.paper.specs.Chip.{range_end, data_start, data_end, Plan, Try, gives}
use Rattle.paper.specs.Scan.{page_walk, free_spot}
use Rattle.paper.specs.Pages.{state, next}
use Rattle.paper.specs.Push.{Spot, at, too_big, take_page, turn_page, find_spot}
use Rattle.laws.proofs.Places.{page_in}
use Rattle.chip.specs.declared.Address.{Address}
use Rattle.chip.specs.declared.Budget.{Budget}
use Rattle.chip.specs.declared.Failure.{Failure}
use Rattle.chip.specs.Run.{spent, Ran}
use Rattle.chip.specs.Within.{Within}
use Rattle.chip.proofs.Geometry.{data_in}
use Rattle.chip.proofs.Binding.{ran_none}
use Rattle.item.specs.Places.{after, Room}
use Rattle.item.specs.Scanning.{SpotIs}
use Rattle.item.proofs.Serving.{served_inside}
use Rattle.laws.proofs.Ring.{next_in}
use Rattle.push.specs.Trying.{spot_as, Holds, Finds}
use Rattle.push.proofs.Sizes.{fresh_in}

-- ---- the next page gives the start of its data, or no spot

-- where a plan gives a spot a, that is d
abbrev OnlyAt : ℕ → ℕ → Plan (Try Unit Spot) → Type 0
OnlyAt d a p = p.answer ≡ gives (at a) → a ≡ d

module _ (g : Geometry) (over : Bool) (y x : ℕ) (im : List ℕ) (a : ℕ) where
  take_only : OnlyAt (data_start g x) a (take_page g over y x im)
  unfolding take_page
  take_only e = grind (arith, nat_tests)

  turn_only : (s : PageState) → OnlyAt (data_start g x) a (turn_page g over y x s im)
  unfolding turn_page
  turn_only Open e = cc
  turn_only PartialOpen e = grind (arith, nat_tests, take_only)
  turn_only Closed e = take_only e
  turn_only Corrupted e = cc

turn_holds : (g : Geometry) (over : Bool) (y x : ℕ) (im : List ℕ) (s : PageState) (n : ℕ) (r : Result (Option Address) Failure) (c : Budget)
    → after g (data_start g x) n ≤ range_end g → ((spent r c).cut ≡ false → spot_as r ≡ (turn_page g over y x s im).answer) → Holds g n r
turn_holds g over y x im s n (Err e) c l h = tt
turn_holds g over y x im s n (Ok None) c l h = tt
turn_holds g over y x im s n (Ok (Some a)) c l h = rw (turn_only g over y x im a.0 s (sym (h refl))) l

-- ---- the search, by what was found on the current page

module _ (g : Geometry) (b : Budget) (n : ℕ) (over : Bool) (y : ℕ) (im : List ℕ) (w : Within g (length im)) (h : y < g.pages)
    (s : Option Address) (is : SpotIs g (page_walk g im y) (data_end g y) n s) where
  pub found_here : is_some s ≡ true → Finds g b n (find_spot g n over y im) im im b (Ok s)
  unfolding find_spot free_spot
  found_here e = by s is e
    where
      by : (s : Option Address) → SpotIs g (page_walk g im y) (data_end g y) n s → is_some s ≡ true → Finds g b n (find_spot g n over y im) im im b (Ok s)
      by None is e = absurd (false≢true e)
      by (Some a) is e =
          let d = data_in g y (length im) w h in
          let f : free_spot g im y ≡ a.0 = omega (arith, is.ends) in
          record { ran = (rw (is.enough, f) (ran_none g b im (gives (at a.0)))); holds = omega (arith, served_inside w.good is, page_in g y h) }

  pub found_next : is_some s ≡ false → too_big g n ≡ false → {o : List ℕ} {c : Budget} {r : Result (Option Address) Failure}
      → Ran g b (turn_page g over y (next g y) (state g im (next g y)) im) im o (spent r c) (spot_as r) → Finds g b n (find_spot g n over y im) im o c r
  unfolding find_spot
  found_next e small {o} {c} {r} t = by s is e
    where
      by : (s : Option Address) → SpotIs g (page_walk g im y) (data_end g y) n s → is_some s ≡ false → Finds g b n (find_spot g n over y im) im o c r
      by (Some a) is e = absurd (true≢false e)
      by None is e = record {
        ran = rw is t;
        holds = turn_holds g over y (next g y) im _ n r c (fresh_in g n small w (next_in g y h)) t.says;
      }

-- ---- where it ended

pub holds_room : {g : Geometry} {n m : ℕ} {a : Address} → Within g m → Holds g n (Ok (Some a)) → Room g m a.0 n
holds_room w l = record { good = w.good; fits = omega (arith, w.ends); top = omega (arith, w.good.top) }
