-- Every image of a history is sound: nothing is Corrupted, and what refuses or counts stores nothing. Assumes nothing.
use mathlib.Core.Bool.{Bool, true, false}
use mathlib.Core.List.{List, [], ◌∷◌, Memᴰ}
use mathlib.Core.Path.{◌≡◌, refl, ap, ◌∙◌, sym}
use Prim.Native.Nat.{ℕ, ◌+◌, ◌<◌}
use native.Mathlib.Omega.{arith}
use lib.ListN.{length}
use Rattle.paper.specs.declared.Geometry.{Geometry}
use Rattle.paper.specs.declared.Refusal.{Refusal}
use Rattle.paper.specs.declared.Refusal.TheVariants as refusal
use Rattle.paper.specs.declared.PageState.{PageState}
use Rattle.paper.specs.declared.PageState.TheVariants.{Open, PartialOpen, Closed, Corrupted}
use Rattle.paper.specs.Chip.{Event, Plan, plan, Try, gives, settled}
use Rattle.paper.specs.Pages.{all_pages, state}
use Rattle.paper.specs.Refusals.{Answer, done, number, refused}
use Rattle.paper.specs.Push.{too_big, spot_for}
use Rattle.paper.specs.Search.{shown_by, Outcome}
use Rattle.paper.specs.Counts.{counted, space_by, space_of, space, space_left}
use Rattle.paper.specs.Calls.{erase_all, Call, pushes, peeks, pops, fits, spaces, erases_all, plan_of}
use Rattle.laws.proofs.Ring.{pages_only}
use Rattle.paper.specs.Fifo.{whole, Counted}
use Rattle.demand3.specs.Claims.{Sound, AlwaysSound}
use Rattle.demand3.proofs.Plans.{bind_last, no_repair}
use Rattle.demand3.proofs.RingShape.{sound}
use Rattle.demand3.proofs.Invariant.{Inv}
use Rattle.demand3.proofs.SpotSearch.{Spotted, is_full, is_at, spotted_for}
use Rattle.demand3.proofs.Search.{Result, is_nothing, is_short, is_this}
use Rattle.demand3.proofs.Push.{small_enough, plan_big, plan_full, plan_at}
use Rattle.demand3.proofs.PeekPop.{sought, peek_plan, pop_plan}
use Rattle.demand3.proofs.OtherCalls.{no_repairs, fit_plan, space_plan}
use Rattle.demand3.proofs.Demand3.{held}

-- what a push comes to
data Pushed (p : Plan Answer) : Type 0 where
  too_long : p ≡ plan [] (refused refusal.ItemTooBig) → Pushed p
  no_room_left : p ≡ plan [] (refused refusal.FullStorage) → Pushed p
  made : (es : List Event) → p ≡ plan es done → Pushed p

module _ {g : Geometry} {im : List ℕ} {o b : ℕ} (I : Inv g im o b) where
  pushed : (slip : List ℕ) → Pushed (plan_of g im (pushes slip false))
  pushed slip = by (too_big g (length slip)) refl
    where
      on : too_big g (length slip) ≡ false → Spotted g im (length slip) false (spot_for g im (length slip) false) → Pushed (plan_of g im (pushes slip false))
      on t (is_full v q F) = no_room_left (plan_full g im slip t q)
      on t (is_at es a q R N) = made _ (plan_at g im slip t es a q)

      by : (t : Bool) → too_big g (length slip) ≡ t → Pushed (plan_of g im (pushes slip false))
      by true t = too_long (plan_big g im slip t)
      by false t = on t (spotted_for I (length slip) (small_enough g (length slip) t).1 false)

  not_corrupted : (p : Plan Answer) → Pushed p → p.answer ≡ refused refusal.Corrupted → ⊥
  not_corrupted p (too_long e) a = let f = ap (λ (x : Plan Answer). x.answer) e in let z : ◌≡◌ {A = ℕ} 0 1 = cc in omega arith
  not_corrupted p (no_room_left e) a = let f = ap (λ (x : Plan Answer). x.answer) e in let z : ◌≡◌ {A = ℕ} 0 1 = cc in omega arith
  not_corrupted p (made es e) a = let f = ap (λ (x : Plan Answer). x.answer) e in let z : ◌≡◌ {A = ℕ} 0 1 = cc in omega arith

  no_events : (p : Plan Answer) → Pushed p → (r : Refusal) → p.answer ≡ refused r → p.events ≡ []
  no_events p (too_long e) r a = ap (λ (x : Plan Answer). x.events) e
  no_events p (no_room_left e) r a = ap (λ (x : Plan Answer). x.events) e
  no_events p (made es e) r a = let f = ap (λ (x : Plan Answer). x.answer) e in let z : ◌≡◌ {A = ℕ} 0 1 = cc in absurd (omega arith)

  -- ---- peek and pop

  shown_not : (n : ℕ) {q : List (List ℕ)} {es : List Event} {out : Outcome} → Result g q im n es out → shown_by out ≡ refused refusal.Corrupted → ⊥
  shown_not n (is_nothing a x r) e = let f = ap shown_by a in let z : ◌≡◌ {A = ℕ} 0 1 = cc in omega arith
  shown_not n (is_short k a) e = let f = ap shown_by a in let z : ◌≡◌ {A = ℕ} 0 1 = cc in omega arith
  shown_not n (is_this h a x) e = let f = ap shown_by a in let z : ◌≡◌ {A = ℕ} 0 1 = cc in omega arith

  -- ---- space_left

  page_counts : (p : ℕ) (s : PageState) → (s ≡ Corrupted → ⊥) → (n : ℕ) × (space_by g im p s ≡ gives n)
  unfolding space_by
  page_counts p Open n = (_, refl)
  page_counts p PartialOpen n = (_, refl)
  page_counts p Closed n = (_, refl)
  page_counts p Corrupted n = absurd (n refl)

  pages_count : (ps : List ℕ) → ((p : ℕ) → Memᴰ p ps → p < g.pages) → (n : ℕ) × (space_of g im ps ≡ gives n)
  unfolding space_of
  pages_count [] f = (0, refl)
  pages_count (p ∷ ps) f =
      let a = page_counts p (state g im p) (sound g im o b I.shape p (f p (Memᴰ.head refl))) in
      let r = pages_count ps (λ q m. f q (Memᴰ.tail m)) in
      (a.0 + r.0, rw (a.1, r.1))

  space_is : (n : ℕ) → space_of g im (all_pages g) ≡ gives n → space g im ≡ gives (number n)
  unfolding space
  space_is n e = rw e

  space_counts : (n : ℕ) × (plan_of g im spaces ≡ plan [] (number n))
  unfolding plan_of space_left counted
  space_counts =
      let r = pages_count (all_pages g) (λ p m. pages_only g p I.good.sized.some m) in
      let e : plan [] (space g im) ≡ plan [] (gives (number r.0)) = ap (λ (t : Try Unit Answer). plan [] t) (space_is r.0 r.1) in
      (r.0, bind_last g im (λ t im₁. plan [] (settled (refused refusal.Corrupted) t)) (no_repair g im (λ u im₁. plan [] (space g im₁)) tt e) refl)

  answers : (c : Call) → Counted c whole → (c ≡ fits → ⊥) → (plan_of g im c).answer ≡ refused refusal.Corrupted → ⊥
  unfolding plan_of erase_all
  answers (pushes slip true) t n e = t
  answers (pushes slip false) t n e = not_corrupted (plan_of g im (pushes slip false)) (pushed slip) e
  answers (peeks buf) t n e = shown_not (length buf) (sought I buf).result (sym (ap (λ (x : Plan Answer). x.answer) (peek_plan I buf)) ∙ e)
  answers (pops buf) t n e = shown_not (length buf) (sought I buf).result (sym (ap (λ (x : Plan Answer). x.answer) (pop_plan I buf)) ∙ e)
  answers fits t n e = n refl
  answers spaces t n e = let f = ap (λ (x : Plan Answer). x.answer) space_counts.1 in let z : ◌≡◌ {A = ℕ} 0 1 = cc in omega arith
  answers erases_all t n e = let z : ◌≡◌ {A = ℕ} 0 1 = cc in omega arith

  sound_image : Sound g im
  sound_image = record {
    pages = sound g im o b I.shape;
    repaired = no_repairs I;
    answers = answers;
    refused_push = λ slip r e. no_events (plan_of g im (pushes slip false)) (pushed slip) r e;
    counts = (ap (λ (x : Plan Answer). x.events) (fit_plan I), ap (λ (x : Plan Answer). x.events) (space_plan I));
  }

pub always_sound : AlwaysSound
always_sound g im gh r = sound_image (held r).inv
