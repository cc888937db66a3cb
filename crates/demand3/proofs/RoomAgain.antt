-- A push finds room: where nothing is live on the page after the current one, and after a peek or pop that answers empty. Assumes nothing.
use mathlib.Core.Bool.{false}
use mathlib.Core.List.{List, []}
use mathlib.Core.Logic.{◌⊎◌, inl, inr}
use mathlib.Core.Path.{◌≡◌, refl, sym, ap, ◌∙◌, subst}
use Prim.Native.Nat.{ℕ, suc, ◌≤◌}
use native.Mathlib.Omega.{arith}
use lib.ListN.{length}
use Rattle.paper.specs.declared.Geometry.{Geometry}
use Rattle.paper.specs.declared.Refusal.TheVariants as refusal
use Rattle.paper.specs.declared.PageState.TheVariants.{Closed}
use Rattle.paper.specs.Chip.{data_size, image_after, Plan, gives}
use Rattle.paper.specs.Scan.{Walk, page_walk, any_live}
use Rattle.paper.specs.Pages.{next, state, youngest, from}
use Rattle.paper.specs.Refusals.{Answer, done, empty, refused}
use Rattle.paper.specs.Push.{too_big, spot_for, Full}
use Rattle.paper.specs.Search.{nothing, shown_by, popped}
use Rattle.paper.specs.Calls.{Call, pushes, peeks, pops, plan_of}
use Rattle.paper.specs.Waiting.{waiting}
use Rattle.paper.specs.Ways.{on_the_way, TooLong, Way, direct}
use Rattle.paper.specs.Fifo.{whole, events_of, image_next}
use Rattle.laws.proofs.Ring.{turn, turn_once, next_turn}
use Rattle.demand1.proofs.SearchRows.{of_peek, of_pop}
use Rattle.demand3.specs.Claims.{TakesAny, RoomAgain}
use Rattle.demand3.proofs.Views.{inner_length}
use Rattle.demand3.proofs.RingShape.{RingShape, youngest_is, oldest_is}
use Rattle.demand3.proofs.Invariant.{Inv, current_in, open_walk}
use Rattle.demand3.proofs.Steady.{steady_after}
use Rattle.demand3.proofs.SpotSearch.{Spotted, is_full, is_at, spotted_for, not_full, serves_all}
use Rattle.demand3.proofs.NextPage.{Roomy}
use Rattle.demand3.proofs.Popping.{first_listed}
use Rattle.demand3.proofs.Search.{Rested, Result, is_nothing, is_short, is_this}
use Rattle.demand3.proofs.Push.{small_enough, plan_at}
use Rattle.demand3.proofs.PeekPop.{sought, peek_plan, idle_plan, pop_plan}
use Rattle.demand3.proofs.HeadsFit.{never_too_long}
use Rattle.demand3.proofs.Demand3.{held}

module _ {g : Geometry} {im : List ℕ} {o b : ℕ} (I : Inv g im o b) where
  abbrev S : RingShape g im o b
  S = I.shape

  young : youngest g im ≡ gives (turn g o b)
  young = youngest_is g im o b I.shape

  -- ---- a push

  not_refused : (slip : List ℕ) → too_big g (length slip) ≡ false → (Full g im (length slip) → ⊥) → (plan_of g im (pushes slip false)).answer ≡ done
  not_refused slip t n = by (spotted_for I (length slip) (small_enough g (length slip) t).1 false)
    where
      by : Spotted g im (length slip) false (spot_for g im (length slip) false) → (plan_of g im (pushes slip false)).answer ≡ done
      by (is_full v q F) = absurd (n F)
      by (is_at es a q R N) = ap (λ (p : Plan Answer). p.answer) (plan_at g im slip t es a q)

  again : (y : ℕ) → youngest g im ≡ gives y → any_live (page_walk g im (next g y)).heads ≡ false → TakesAny g im
  again y e q slip t = not_refused slip t (not_full g im (length slip) y e (λ f r l. let z : ◌≡◌ {A = ℕ} 0 1 = cc in omega arith))

  -- the current page is Open, or the next one is
  roomy : 2 ≤ g.pages → Roomy g im o b → TakesAny g im
  roomy two (inl z) slip t = not_refused slip t (not_full g im (length slip) (turn g o b) young (λ f r l. by (rw nx at r)))
    where
      nx : next g (turn g o b) ≡ turn g o (suc b)
      nx = next_turn g o b S.old_in S.run_in

      by : (state g im (turn g o (suc b)) ≡ Closed) ⊎ (turn g o (suc b) ≡ turn g o b) → ⊥
      by (inl q) = let y = S.opens (suc b) (omega arith) (omega arith) in let w : ◌≡◌ {A = ℕ} 0 1 = cc in omega arith
      by (inr q) = let y : suc b ≡ b = turn_once g o (suc b) b S.old_in (omega arith) S.run_in q in omega arith
  roomy two (inr e) slip t =
      let c : ℕ = turn g o b in
      let r = ap (λ (w : Walk). length w.rest) (open_walk I c (current_in I) e) ∙ inner_length im I.good c (current_in I) in
      let s = serves_all I.good (page_walk g im c).rest (length slip) r (small_enough g (length slip) t).1 in
      not_refused slip t (not_full g im (length slip) c young (λ f a l. let w : ◌≡◌ {A = ℕ} 0 1 = cc in omega arith))

-- ---- a peek or pop

module _ {g : Geometry} {im : List ℕ} {o b : ℕ} (I : Inv g im o b) (buf : List ℕ) where
  the_way : Way g im (on_the_way g im o (from g o))
  the_way = direct (oldest_is g im o b I.shape)

  -- what a call is that does what the search did, and answers by it
  module _ (c : Call) (short : (k : ℕ) → (plan_of g im c).answer ≡ refused (refusal.BufferTooSmall k) → TooLong g (length buf) (on_the_way g im o (from g o)) k)
      (says : (plan_of g im c).answer ≡ shown_by (sought I buf).out) where
    says_so : waiting g im ≡ [] → data_size g ≤ length buf → (plan_of g im c).answer ≡ empty
    says_so z l = by (sought I buf).result
      where
        by : Result g (waiting g im) im (length buf) (sought I buf).events (sought I buf).out → (plan_of g im c).answer ≡ empty
        by (is_nothing a q r) = says ∙ ap shown_by a
        by (is_short k a) = absurd (never_too_long the_way (length buf) k l (short k (says ∙ ap shown_by a)))
        by (is_this h a X) =
            let q = sym z ∙ sym (steady_after (sought I buf).steady).list ∙ first_listed X.first in
            let w : ◌≡◌ {A = ℕ} 0 1 = cc in absurd (omega arith)

    -- what it leaves, where it answers empty
    leaves : ((sought I buf).out ≡ nothing → image_next g im c whole ≡ image_after g (sought I buf).events im)
        → (plan_of g im c).answer ≡ empty → Rested g im (image_next g im c whole)
    leaves left e = by (sought I buf).result
      where
        f : shown_by (sought I buf).out ≡ empty
        f = sym says ∙ e

        by : Result g (waiting g im) im (length buf) (sought I buf).events (sought I buf).out → Rested g im (image_next g im c whole)
        by (is_nothing a q R) = subst (Rested g im) (sym (left a)) R
        by (is_short k a) = let q = sym (ap shown_by a) ∙ f in let w : ◌≡◌ {A = ℕ} 0 1 = cc in absurd (omega arith)
        by (is_this h a X) = let q = sym (ap shown_by a) ∙ f in let w : ◌≡◌ {A = ℕ} 0 1 = cc in absurd (omega arith)

  -- ---- each of the two

  peek_says : (plan_of g im (peeks buf)).answer ≡ shown_by (sought I buf).out
  peek_says = ap (λ (p : Plan Answer). p.answer) (peek_plan I buf)

  pop_says : (plan_of g im (pops buf)).answer ≡ shown_by (sought I buf).out
  pop_says = ap (λ (p : Plan Answer). p.answer) (pop_plan I buf)

  peek_short : (k : ℕ) → (plan_of g im (peeks buf)).answer ≡ refused (refusal.BufferTooSmall k) → TooLong g (length buf) (on_the_way g im o (from g o)) k
  unfolding plan_of
  peek_short k = ((of_peek I.good im refl (length buf)).short the_way k).0

  pop_short : (k : ℕ) → (plan_of g im (pops buf)).answer ≡ refused (refusal.BufferTooSmall k) → TooLong g (length buf) (on_the_way g im o (from g o)) k
  unfolding plan_of
  pop_short k = ((of_pop I.good im refl (length buf)).short the_way k).0

  peek_left : image_next g im (peeks buf) whole ≡ image_after g (sought I buf).events im
  unfolding image_next events_of
  peek_left = rw (peek_plan I buf)

  pop_left : (sought I buf).out ≡ nothing → image_next g im (pops buf) whole ≡ image_after g (sought I buf).events im
  unfolding image_next events_of
  pop_left a = rw (idle_plan I buf empty (ap (popped g) a) (ap shown_by a))

  peek_rests : (plan_of g im (peeks buf)).answer ≡ empty → Rested g im (image_next g im (peeks buf) whole)
  peek_rests = leaves (peeks buf) peek_short peek_says (λ a. peek_left)

  pop_rests : (plan_of g im (pops buf)).answer ≡ empty → Rested g im (image_next g im (pops buf) whole)
  pop_rests = leaves (pops buf) pop_short pop_says pop_left

pub room_again : RoomAgain
room_again g im gh r =
    let I = (held r).inv in
    record {
      again = again I;
      peek_says_so = λ z b l. says_so I b (peeks b) (peek_short I b) (peek_says I b) z l;
      pop_says_so = λ z b l. says_so I b (pops b) (pop_short I b) (pop_says I b) z l;
      peek_frees = λ two b e. let R = peek_rests I b e in roomy R.inv two R.roomy;
      pop_frees = λ two b e. let R = pop_rests I b e in roomy R.inv two R.roomy;
      peek_keeps = λ one b e. (peek_rests I b e).sole one;
      pop_keeps = λ one b e. (pop_rests I b e).sole one;
    }
