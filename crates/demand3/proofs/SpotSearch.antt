-- A push finds its spot; or overwriting is off, and the storage is full as row 3 says. Assumes nothing.
use mathlib.Core.Bool.{Bool, true, false, true≢false}
use mathlib.Core.List.{List, [], ◌∷◌}
use mathlib.Core.Logic.{◌⊎◌, inl, inr}
use mathlib.Core.Path.{◌≡◌, refl, sym, ap, ◌∙◌, subst}
use Prim.Native.Nat.{ℕ, suc, ◌+◌, ◌-◌, ◌≤◌, ◌<◌}
use native.Mathlib.Omega.{arith}
use borrow.Author.Tests.{leb-true, le-leb, ne_eqb}
use lib.ListN.{length}
use Rattle.paper.specs.declared.Geometry.{Geometry}
use Rattle.paper.specs.declared.PageState.{PageState}
use Rattle.paper.specs.declared.PageState.TheVariants.{Open, PartialOpen, Closed}
use Rattle.paper.specs.Chip.{round_down, header_size, data_start, data_size, Event, erase, image_by, image_after, Plan, plan, Try, gives}
use Rattle.paper.specs.Scan.{Walk, page_walk, free_spot, serves, any_live}
use Rattle.paper.specs.Pages.{next, state, set_start, set_end, youngest, oldest}
use Rattle.paper.specs.Push.{Spot, full, at, turn_page, spot_on, spot_step, spot_for, Full}
use Rattle.paper.specs.Waiting.{waiting}
use Rattle.laws.proofs.Accepted.{Laid}
use Rattle.laws.proofs.Places.{data_whole}
use Rattle.laws.proofs.Ring.{turn, turn_zero, turn_suc, turn_full, turn_apart, turn_once, next_turn}
use Rattle.laws.proofs.Sides.{Side, below, above, side}
use Rattle.demand3.proofs.Sizes.{serves_room}
use Rattle.demand3.proofs.Plans.{no_repair}
use Rattle.demand3.proofs.Payloads.{no_live}
use Rattle.demand3.proofs.Views.{inner_length}
use Rattle.demand3.proofs.RingShape.{Now, partly, open_after, open_all, RingShape, youngest_is, oldest_is}
use Rattle.demand3.proofs.Listed.{run}
use Rattle.demand3.proofs.Changed.{state_other, erase_changed}
use Rattle.demand3.proofs.Invariant.{Inv, current_in, open_walk}
use Rattle.demand3.proofs.Marking.{mark_walks, close_inv, close_open, close_list}
use Rattle.demand3.proofs.Erasing.{list_parted, erase_inv, erase_drops, erase_list, sole_inv, sole_drops, sole_list, sole_open}
use Rattle.demand3.proofs.Steady.{HoldsList, Steady, rests, goes, end_marked, erased}
use Rattle.demand3.proofs.ListOnWay.{ListOnWay, stays, drops}
use Rattle.demand3.proofs.SpotPlan.{reused, reused_not, reused_free, reused_over, take_is, sole_is, open_is, partly_is, here_is, turn_is}
use Rattle.demand3.proofs.SpotReady.{SpotReady, free_start, ready_mark}

-- what a search for a spot comes to: without overwriting a refusal, else the spot after some events
pub data Spotted (g : Geometry) (im : List ℕ) (n : ℕ) (over : Bool) (p : Plan (Try Unit Spot)) : Type 0 where
  is_full : over ≡ false → p ≡ plan [] (gives full) → Full g im n → Spotted g im n over p
  is_at : (es : List Event) (a : ℕ) → p ≡ plan es (gives (at a)) → SpotReady g im n over es a → (over ≡ false → Full g im n → ⊥) → Spotted g im n over p

-- what row 3 says, at the current page
pub not_full : (g : Geometry) (im : List ℕ) (n y : ℕ) → youngest g im ≡ gives y
    → (serves g (page_walk g im y).rest n ≡ false → (state g im (next g y) ≡ Closed) ⊎ (next g y ≡ y) → any_live (page_walk g im (next g y)).heads ≡ true → ⊥)
    → Full g im n → ⊥
not_full g im n y e f F =
    let c = F.current in
    let z : F.page ≡ y = cc in
    f (subst (λ (x : ℕ). serves g (page_walk g im x).rest n ≡ false) z F.no_spot)
    (subst (λ (x : ℕ). (state g im (next g x) ≡ Closed) ⊎ (next g x ≡ x)) z F.again)
    (subst (λ (x : ℕ). any_live (page_walk g im (next g x)).heads ≡ true) z F.live)

serves_le : (g : Geometry) (r : List ℕ) (n : ℕ) → serves g r n ≡ true → header_size g + n ≤ round_down g.word (length r)
unfolding serves
serves_le g r n e = leb-true (header_size g + n) (round_down g.word (length r)) e

pub serves_all : {g : Geometry} {m : ℕ} → Laid g m → (r : List ℕ) (n : ℕ) → length r ≡ data_size g → header_size g + n ≤ data_size g → serves g r n ≡ true
unfolding serves
serves_all {g} G r n l fits = rw (l, data_whole g G.sized.whole) (le-leb (header_size g + n) (data_size g) fits)

-- ---- the cases

module _ {g : Geometry} {im : List ℕ} {o b : ℕ} (I : Inv g im o b) (n : ℕ) (fits : header_size g + n ≤ data_size g) (over : Bool) where
  abbrev c : ℕ
  c = turn g o b

  abbrev S : RingShape g im o b
  S = I.shape

  abbrev Goal : Type 0
  Goal = Spotted g im n over (spot_on g n over (gives (turn g o b)) im)

  young : youngest g im ≡ gives (turn g o b)
  young = youngest_is g im o b S

  nx : next g (turn g o b) ≡ turn g o (suc b)
  nx = next_turn g o b S.old_in S.run_in

  K : HoldsList g (waiting g im) im
  K = record { old = o; runs = b; inv = I; list = refl }

  old : oldest g im ≡ gives o
  old = oldest_is g im o b S

  -- with overwriting on there is nothing to say of row 3
  off : over ≡ true → over ≡ false → Full g im n → ⊥
  off w v F = absurd (true≢false (sym w ∙ v))

  -- a page that serves is not full
  served : serves g (page_walk g im (turn g o b)).rest n ≡ true → Full g im n → ⊥
  served s = not_full g im n c young (λ f r l. let z : ◌≡◌ {A = ℕ} 0 1 = cc in omega arith)

  -- the current page is Open: it is start-marked, and serves
  case_open : state g im (turn g o b) ≡ Open → Goal
  unfolding image_after
  case_open e =
      let km : List ℕ = image_by g (set_start g c) im in
      let r = ap (λ (w : Walk). length w.rest) (open_walk I c (current_in I) e) ∙ inner_length im I.good c (current_in I) in
      let same : (page_walk g km c).rest ≡ (page_walk g im c).rest = ap (λ (w : Walk). w.rest) (mark_walks I e c (current_in I)) in
      let s = serves_all I.good (page_walk g im c).rest n r fits in
      is_at (set_start g c ∷ []) (data_start g c)
      (open_is g im over n c e (rw same s) ∙ ap (λ (x : ℕ). plan (set_start g c ∷ []) (gives (at x))) (free_start g km c (ap length same ∙ r)))
      (ready_mark im n fits over [] (stays (rests K)) I e) (λ v. served s)

  module _ (e : state g im (turn g o b) ≡ PartialOpen) where
    -- it has room
    case_here : serves g (page_walk g im (turn g o b)).rest n ≡ true → Goal
    unfolding image_after
    case_here s = is_at [] (free_spot g im c) (partly_is g im over n c e ∙ here_is g im over n c s) (record {
      way = stays (rests K);
      site = record { old = o; runs = b; inv = I; partly_now = e };
      at_spot = refl;
      room = serves_room g (length (page_walk g im c).rest) n I.good.sized.low (serves_le g (page_walk g im c).rest n s);
      origin = inr (tt, refl);
    }) (λ v. served s)

    -- it has none
    module _ (s : serves g (page_walk g im (turn g o b)).rest n ≡ false) where
      abbrev x : ℕ
      x = turn g o (suc b)

      turned : spot_on g n over (gives (turn g o b)) im ≡ turn_page g over (turn g o b) x (state g im x) im
      turned = partly_is g im over n c e ∙ turn_is g im over n c s ∙ ap (λ (y : ℕ). turn_page g over c y (state g im y) im) nx

      -- the next page is Open
      case_next : suc b < g.pages → Goal
      unfolding turn_page image_after
      case_next h =
          is_at (set_end g c ∷ set_start g x ∷ []) (data_start g x) (turned ∙ rw op)
          (ready_mark im n fits over (set_end g c ∷ []) (stays (goes K (end_marked c (current_in I)) (rests K₁))) J₁ (close_open I e h))
          (λ v. not_full g im n c young (λ f r l. again (rw nx at r)))
        where
          op : state g im x ≡ Open
          op = S.opens (suc b) (omega arith) h

          J₁ : Inv g (image_by g (set_end g c) im) o (suc b)
          J₁ = close_inv I e h

          K₁ : HoldsList g (waiting g im) (image_by g (set_end g c) im)
          K₁ = record { old = o; runs = suc b; inv = J₁; list = close_list I e h }

          again : (state g im x ≡ Closed) ⊎ (x ≡ c) → ⊥
          again (inl q) = let y = op in let z : ◌≡◌ {A = ℕ} 0 1 = cc in omega arith
          again (inr q) = let z : suc b ≡ b = turn_once g o (suc b) b S.old_in h S.run_in q in omega arith

      -- the ring is full: the next page is the oldest
      module _ (h : suc b ≡ g.pages) where
        round : turn g o (suc b) ≡ o
        round = ap (turn g o) h ∙ turn_full g o S.old_in

        again_full : (state g im o ≡ Closed) ⊎ (o ≡ turn g o b) → any_live (page_walk g im o).heads ≡ true → Full g im n
        again_full r l = record { page = c; current = young; no_spot = s; again = rw (nx ∙ round) r; live = rw (nx ∙ round) l }

        again_free : any_live (page_walk g im o).heads ≡ false → Full g im n → ⊥
        again_free q = not_full g im n c young (λ f r l. let k = rw (nx ∙ round) at l in let z : ◌≡◌ {A = ℕ} 0 1 = cc in omega arith)

        -- one page
        case_sole : b ≡ 0 → Goal
        unfolding image_after
        case_sole z = by over (any_live (page_walk g im o).heads) refl refl
          where
            y : turn g o b ≡ o
            y = ap (turn g o) z ∙ turn_zero g o S.old_in

            is : spot_on g n over (gives (turn g o b)) im ≡ reused g im over o (set_start g o ∷ [])
            is = turned ∙ rw (round, y) (ap (λ (t : PageState). turn_page g over o o t im) (subst (λ (p : ℕ). state g im p ≡ PartialOpen) y e)
                ∙ sole_is g im over o)

            one : g.pages ≡ 1
            one = omega arith

            erases : List Event
            erases = erase o ∷ set_start g o ∷ []

            J₁ : Inv g (image_by g (erase o) im) o 0
            J₁ = sole_inv I one

            ready : ListOnWay g im over (erase o ∷ []) → SpotReady g im n over (erase o ∷ set_start g o ∷ []) (data_start g o)
            ready T = rw (turn_zero g o S.old_in) at (ready_mark im n fits over (erase o ∷ []) T J₁ (sole_open I one))

            after : (q : List (List ℕ)) → waiting g (image_by g (erase o) im) ≡ q → Steady g q (image_by g (erase o) im) []
            after q l = rests (record { old = o; runs = 0; inv = J₁; list = l })

            by : (v t : Bool) → over ≡ v → any_live (page_walk g im o).heads ≡ t → Goal
            by v false w q = is_at erases (data_start g o) (is ∙ reused_free g im over o (set_start g o ∷ []) q)
                (ready (stays (goes K (erased o S.old_in) (after (waiting g im) (sole_list I one (no_live (page_walk g im o).heads q))))))
                (λ w. again_free q)
            by false true w q = is_full w (is ∙ reused_not g im over o (set_start g o ∷ []) w q) (again_full (inr (sym y)) q)
            by true true w q = is_at erases (data_start g o) (is ∙ reused_over g im over o (set_start g o ∷ []) w)
                (ready (drops w K old S.old_in (list_parted I) (after (run g im o 1 b) (sole_drops I one)))) (off w)

        -- more pages
        module _ (hb : 0 < b) where
          so : state g im o ≡ Closed
          so = subst (λ (p : ℕ). state g im p ≡ Closed) (turn_zero g o S.old_in) (S.closed 0 hb)

          apart : o ≡ turn g o b → ⊥
          apart q = turn_apart g o b S.old_in hb S.run_in (sym q)

          take_again : spot_on g n over (gives (turn g o b)) im ≡ reused g im over o (set_end g (turn g o b) ∷ set_start g o ∷ [])
          unfolding turn_page
          take_again = turned ∙ ap (λ (p : ℕ). turn_page g over c p (state g im p) im) round ∙ ap (λ (t : PageState). turn_page g over c o t im) so
              ∙ take_is g im over c o (ne_eqb o c apart)

          not_open : Side 1 b → state g im (turn g o 1) ≡ Open → ⊥
          not_open (below l) q = let r = S.closed 1 l in let z : ◌≡◌ {A = ℕ} 0 1 = cc in omega arith
          not_open (above l) q =
              let z : b ≡ 1 = omega arith in
              let r : state g im (turn g o 1) ≡ PartialOpen = subst (λ (p : ℕ). state g im (turn g o p) ≡ PartialOpen) z e in
              let y : ◌≡◌ {A = ℕ} 0 1 = cc in omega arith

          case_take : Goal
          unfolding image_after
          case_take = by over (any_live (page_walk g im o).heads) refl refl
            where
              o₁ : ℕ
              o₁ = turn g o 1

              same : turn g o₁ (b - 1) ≡ c
              same = turn_suc g o (b - 1) S.old_in (omega arith) ∙ (let z : suc (b - 1) ≡ b = omega arith in ap (turn g o) z)

              last : turn g o₁ (suc (b - 1)) ≡ o
              last = turn_suc g o (suc (b - 1)) S.old_in (omega arith) ∙ (let z : suc (suc (b - 1)) ≡ suc b = omega arith in ap (turn g o) z)
                  ∙ round

              nop : state g im (turn g o 1) ≡ Open → ⊥
              nop = not_open (side 1 b)

              J₁ : Inv g (image_by g (erase o) im) (turn g o 1) (b - 1)
              J₁ = erase_inv I hb nop

              e₁ : state g (image_by g (erase o) im) (turn g o₁ (b - 1)) ≡ PartialOpen
              e₁ = rw same (state_other (erase_changed im I.good o S.old_in) c (current_in I) (λ z. apart (sym z)) ∙ e)

              more : suc (b - 1) < g.pages
              more = omega arith

              after : (q : List (List ℕ)) → waiting g (image_by g (erase o) im) ≡ q
                  → Steady g q (image_by g (erase o) im) (set_end g (turn g o₁ (b - 1)) ∷ [])
              after q l = goes (record { old = o₁; runs = b - 1; inv = J₁; list = l }) (end_marked (turn g o₁ (b - 1)) (current_in J₁))
                  (rests (record { old = o₁; runs = suc (b - 1); inv = close_inv J₁ e₁ more; list = close_list J₁ e₁ more ∙ l }))

              ready : ListOnWay g im over (erase o ∷ set_end g (turn g o₁ (b - 1)) ∷ [])
                  → SpotReady g im n over (erase o ∷ set_end g c ∷ set_start g o ∷ []) (data_start g o)
              ready T =
                  let R = ready_mark im n fits over (erase o ∷ set_end g (turn g o₁ (b - 1)) ∷ []) T (close_inv J₁ e₁ more) (close_open J₁ e₁ more) in
                  rw (same, last) at R

              marks : List Event
              marks = set_end g c ∷ set_start g o ∷ []

              by : (v t : Bool) → over ≡ v → any_live (page_walk g im o).heads ≡ t → Goal
              by v false w q = is_at (erase o ∷ marks) (data_start g o) (take_again ∙ reused_free g im over o marks q)
                  (ready (stays (goes K (erased o S.old_in) (after (waiting g im) (erase_list I hb nop (no_live (page_walk g im o).heads q))))))
                  (λ w. again_free q)
              by false true w q = is_full w (take_again ∙ reused_not g im over o marks w q) (again_full (inl so) q)
              by true true w q = is_at (erase o ∷ marks) (data_start g o) (take_again ∙ reused_over g im over o marks w)
                  (ready (drops w K old S.old_in (list_parted I) (after (run g im o 1 b) (erase_drops I hb nop)))) (off w)

  spotted : Goal
  spotted = by S.now
    where
      more : state g im c ≡ PartialOpen → serves g (page_walk g im c).rest n ≡ false → Side (suc b) g.pages → Side 0 b → Goal
      more e s (below l) t = case_next e s l
      more e s (above l) (below k) = case_take e s (omega (arith, S.run_in)) k
      more e s (above l) (above k) = case_sole e s (omega (arith, S.run_in)) (omega arith)

      on : state g im c ≡ PartialOpen → (t : Bool) → serves g (page_walk g im c).rest n ≡ t → Goal
      on e true s = case_here e s
      on e false s = more e s (side (suc b) g.pages) (side 0 b)

      by : Now (state g im c) o b → Goal
      by (partly e) = on e (serves g (page_walk g im c).rest n) refl
      by (open_after e h) = case_open e
      by (open_all e h k) = case_open e

  pub spotted_for : Spotted g im n over (spot_for g im n over)
  unfolding spot_for spot_step
  spotted_for = by spotted
    where
      y : spot_step g n over tt im ≡ spot_on g n over (gives c) im
      y = ap (λ (t : Try Unit ℕ). spot_on g n over t im) young

      by : Goal → Spotted g im n over (spot_for g im n over)
      by (is_full v q F) = is_full v (no_repair g im (spot_step g n over) tt (y ∙ q)) F
      by (is_at es a q R N) = is_at es a (no_repair g im (spot_step g n over) tt (y ∙ q)) R N

-- with overwriting on the storage is never full
pub overwriting_finds : {g : Geometry} {im : List ℕ} {o b : ℕ} → Inv g im o b → (n : ℕ) → header_size g + n ≤ data_size g
    → (es : List Event) × (a : ℕ) × (spot_for g im n true ≡ plan es (gives (at a))) × SpotReady g im n true es a
overwriting_finds {g} {im} I n fits = by (spotted_for I n fits true)
  where
    by : Spotted g im n true (spot_for g im n true)
        → (es : List Event) × (a : ℕ) × (spot_for g im n true ≡ plan es (gives (at a))) × SpotReady g im n true es a
    by (is_full v q F) = absurd (true≢false v)
    by (is_at es a q R N) = (es, a, q, R)
