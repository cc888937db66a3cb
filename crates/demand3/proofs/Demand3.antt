-- Demand 3: every history; and that document 01's own premise gives the one assumed. Assumes nothing.
use mathlib.Core.List.Memᴰ
use mathlib.Core.List.{List, [], ◌∷◌, ◌++◌, Memᴰ}
use mathlib.Core.Bool.{true, false}
use mathlib.Core.Logic.{◌⊎◌, inl, inr}
use mathlib.Core.Path.{◌≡◌, refl, ap₂, subst}
use Prim.Native.Nat.{ℕ, ◌≤◌, ◌<◌}
use lib.ListN.{length}
use Rattle.paper.specs.declared.Geometry.{Geometry}
use Rattle.paper.specs.Chip.{Event, store, erase, copy}
use Rattle.paper.specs.Scan.{Head, page_walk}
use Rattle.paper.specs.Pages.{all_pages}
use Rattle.paper.specs.Calls.{Call, pushes, peeks, pops, fits, spaces, erases_all}
use Rattle.paper.specs.Fifo.{Power, whole, cut_after, events_of, image_next, Ghost, ghost_next, header_at, kept, outside, refusals, Begun, Fair, Reached, fresh, further, Demand3}
use Rattle.laws.proofs.Accepted.{accepted_from}
use Rattle.laws.proofs.Ring.{pages_only}
use Rattle.demand3.specs.Claims.{LiteralEnough}
use Rattle.demand3.proofs.Listed.{list_there}
use Rattle.demand3.proofs.Views.{view, erased_view, erased_view_lem}
use Rattle.demand3.proofs.Invariant.{Inv, quiet_walk}
use Rattle.demand3.proofs.ErasedRange.{fresh_inv, fresh_list, fresh_heads}
use Rattle.demand3.proofs.Ghosts.{accepted_at, kept_in}
use Rattle.demand3.proofs.Step.{Was, Step}
use Rattle.demand3.proofs.Push.{push_step}
use Rattle.demand3.proofs.PeekPop.{peek_step, pop_step}
use Rattle.demand3.proofs.OtherCalls.{fit_step, space_step, erase_step}

pub step_of : {g : Geometry} {im : List ℕ} {o b : ℕ} → Inv g im o b → (gh : Ghost) (c : Call) (w : Power) → Fair g im gh c w → Step g im c w
step_of I gh (pushes slip false) w F = push_step I gh slip w F
step_of I gh (pushes slip true) w F = absurd F.counted
step_of I gh (peeks buf) w F = peek_step I buf w
step_of I gh (pops buf) w F = pop_step I buf gh w F
step_of I gh fits w F = fit_step I w
step_of I gh spaces w F = space_step I w
step_of I gh erases_all whole F = erase_step I
step_of I gh erases_all (cut_after k) F = absurd F.counted

-- ---- every image of a history

pub record Held (g : Geometry) (im : List ℕ) (gh : Ghost) : Type 0 where
  pub old : ℕ
  pub runs : ℕ
  pub inv : Inv g im old runs
  pub begun : Begun g im gh
  pub none_refused : 8 ≤ g.word → gh.refused_before ≡ []

kept_nil : (g : Geometry) (es : List Event) → kept g es [] ≡ []
unfolding kept outside
kept_nil g [] = refl
kept_nil g (store a bs ∷ es) = kept_nil g es
kept_nil g (erase p ∷ es) = kept_nil g es
kept_nil g (copy a n ∷ es) = kept_nil g es

refusals_nil : (g : Geometry) (im ps : List ℕ) → ((q : ℕ) → Memᴰ q ps → (page_walk g im q).refused ≡ []) → refusals g im ps ≡ []
unfolding refusals
refusals_nil g im [] f = refl
refusals_nil g im (p ∷ ps) f = ap₂ (λ (x y : List ℕ). x ++ y) (f p (Memᴰ.head refl)) (refusals_nil g im ps (λ q m. f q (Memᴰ.tail m)))

hold_on : {g : Geometry} {im : List ℕ} {gh : Ghost} → Held g im gh → (c : Call) (w : Power) → Fair g im gh c w
    → Held g (image_next g im c w) (ghost_next g im gh c w)
unfolding ghost_next image_next
hold_on {g} {im} {gh} H c w F =
    let S = step_of H.inv gh c w F in
    record {
      old = S.old;
      runs = S.runs;
      inv = S.inv;
      begun = λ p hp h m. by p hp h (S.traced p hp h m);
      none_refused = λ k. rw (refusals_nil g im (all_pages g) (λ q m. quiet_walk H.inv q (only q m) k), H.none_refused k) (kept_nil g es);
    }
  where
    es : List Event
    es = events_of g im c w

    only : (q : ℕ) → Memᴰ q (all_pages g) → q < g.pages
    only q = pages_only g q H.inv.good.sized.some

    by : (p : ℕ) → p < g.pages → (h : Head) → Memᴰ h.place (header_at g im c w 0) ⊎ Was g im p h.place es
        → Memᴰ h.place (header_at g im c w 0 ++ kept g es gh.begun)
    by p hp h (inl x) = Memᴰ.append_left _ x
    by p hp h (inr x) =
        let y : Head = x.head in
        let k = kept_in im H.inv.good p hp y.place (accepted_at y x.there refl) es gh.begun x.unerased (H.begun p hp y x.there) in
        Memᴰ.append_right (header_at g im c w 0) (subst (λ (z : ℕ). Memᴰ z (kept g es gh.begun)) x.at k)

pub held : {g : Geometry} {im : List ℕ} {gh : Ghost} → Reached g im gh → Held g im gh
held {g} (fresh {im = im} s a e) =
    let G = (accepted_from (length im) s g a).laid in
    let E : (p : ℕ) → p < g.pages → view g im p ≡ erased_view g = λ p h. erased_view_lem im G p (e p h) in
    record {
      old = 0;
      runs = 0;
      inv = fresh_inv im G E;
      begun = λ p hp h m. absurd (fresh_heads im G E p hp h m);
      none_refused = λ k. refl;
    }
held (further c w r F) = hold_on (held r) c w F

pub demand3 : Demand3
demand3 = record {
  starts = λ g im s a e. let G = (accepted_from (length im) s g a).laid in fresh_list im G (λ p h. erased_view_lem im G p (e p h));
  lists = λ g im gh r. let H = held r in list_there g im H.old H.runs H.inv.shape;
  behaves = λ g im gh r c w F. (step_of (held r).inv gh c w F).claim;
  begun = λ g im gh r. (held r).begun;
  no_false = λ g im gh r wide.
      let H = held r in
      (H.begun, λ p hp h m k. Memᴰ.not-nil (subst (λ (l : List ℕ). Memᴰ h.place l) (H.none_refused wide) k));
}

pub literal_enough : LiteralEnough
literal_enough g im gh h = h.1
