-- A push has come to its spot, by events that keep the invariant and, unless they overwrite, the list. Assumes nothing.
use mathlib.Core.Bool.{Bool, false}
use mathlib.Core.List.{List, [], ◌∷◌, ◌++◌}
use mathlib.Core.Logic.{inl}
use mathlib.Core.Path.{◌≡◌, refl, sym, ap, ◌∙◌}
use Prim.Native.Nat.{ℕ, ◌+◌, ◌≤◌}
use native.Mathlib.Omega.{arith}
use lib.ListN.{length}
use Rattle.paper.specs.declared.Geometry.{Geometry}
use Rattle.paper.specs.declared.PageState.TheVariants.{Open}
use Rattle.paper.specs.Chip.{header_size, data_start, data_size, data_end, page_data, Event, image_by, image_after}
use Rattle.paper.specs.Scan.{Walk, page_walk, free_spot}
use Rattle.paper.specs.Pages.{state, set_start}
use Rattle.paper.specs.Waiting.{waiting}
use Rattle.laws.proofs.Events.{image_append}
use Rattle.laws.proofs.Places.{data_whole}
use Rattle.laws.proofs.Ring.{turn}
use Rattle.demand3.proofs.Sizes.{item_size, serves_room}
use Rattle.demand3.proofs.Events.{one_event}
use Rattle.demand3.proofs.Views.{inner_length}
use Rattle.demand3.proofs.Invariant.{Inv, current_in, open_walk}
use Rattle.demand3.proofs.Marking.{mark_inv, mark_list, mark_state, mark_walks}
use Rattle.demand3.proofs.FreeSpot.{Site, current, scanned, spot_of}
use Rattle.demand3.proofs.Steady.{Steady, rests, goes, start_marked}
use Rattle.demand3.proofs.ListOnWay.{ListOnWay, way_stays, way_append}
use Rattle.demand3.proofs.Ghosts.{FromBefore}

-- a push of n bytes has come to its spot a by the events es; over: whether overwriting is on
pub record SpotReady (g : Geometry) (im : List ℕ) (n : ℕ) (over : Bool) (es : List Event) (a : ℕ) : Type 0 where
  pub way : ListOnWay g im over es
  pub site : Site g (image_after g es im)
  pub at_spot : a ≡ spot_of site
  pub room : item_size g n ≤ length (scanned site).rest
  pub origin : FromBefore g im (current site) es

-- without overwriting the list stays
pub ready_steady : {g : Geometry} {im : List ℕ} {n : ℕ} {es : List Event} {a : ℕ} → SpotReady g im n false es a → Steady g (waiting g im) im es
ready_steady R = way_stays refl R.way

pub free_start : (g : Geometry) (im : List ℕ) (p : ℕ) → length (page_walk g im p).rest ≡ data_size g → free_spot g im p ≡ data_start g p
unfolding free_spot data_end
free_start g im p e = omega arith

-- the events es have come to an Open current page, which is now start-marked
pub ready_mark : {g : Geometry} (im : List ℕ) (n : ℕ) → header_size g + n ≤ data_size g → (over : Bool) (es : List Event) → ListOnWay g im over es
    → {o b : ℕ} (I : Inv g (image_after g es im) o b) → state g (image_after g es im) (turn g o b) ≡ Open
    → SpotReady g im n over (es ++ (set_start g (turn g o b) ∷ [])) (data_start g (turn g o b))
ready_mark {g} im n fits over es T {o} {b} I e =
    let G = (mark_inv I e).good in
    record {
      way = way_append T (λ q l. goes (record { old = o; runs = b; inv = I; list = l }) (start_marked c (current_in I))
          (rests (record { old = o; runs = b; inv = mark_inv I e; list = mark_list I e ∙ l })));
      site = record { old = o; runs = b; inv = rw after (mark_inv I e); partly_now = rw after (mark_state I e) };
      at_spot = rw after (sym (free_start g km c all));
      room = rw (after, all) (serves_room g (data_size g) n G.sized.low (rw (data_whole g G.sized.whole) fits));
      origin = inl (rw (after, scan));
    }
  where
    c : ℕ
    c = turn g o b

    jm : List ℕ
    jm = image_after g es im

    km : List ℕ
    km = image_by g (set_start g c) jm

    after : image_after g (es ++ (set_start g c ∷ [])) im ≡ km
    after = image_append g es (set_start g c ∷ []) im ∙ one_event g jm (set_start g c)

    scan : page_walk g km c ≡ record { heads = []; refused = []; rest = page_data g jm c }
    scan = mark_walks I e c (current_in I) ∙ open_walk I c (current_in I) e

    all : length (page_walk g km c).rest ≡ data_size g
    all = ap (λ (w : Walk). length w.rest) scan ∙ inner_length jm I.good c (current_in I)
