-- A push in a history. Assumes nothing.
use mathlib.Core.Bool.{Bool, true, false, ◌||◌}
use mathlib.Core.List.{List, [], ◌∷◌, ◌++◌, Memᴰ}
use mathlib.Core.Logic.{◌⊎◌, inl, inr}
use mathlib.Core.Path.{◌≡◌, refl, sym, ap, ◌∙◌}
use Prim.Native.Nat.{ℕ, ◌+◌, ◌-◌, ◌≤◌, ◌<◌}
use native.Mathlib.Omega.{arith}
use borrow.Author.Tests.{ltb-false, lt-ltb}
use lib.Dec.{ltb}
use lib.ListN.{length}
use Rattle.paper.specs.declared.Geometry.{Geometry}
use Rattle.paper.specs.declared.Refusal.TheVariants as refusal
use Rattle.paper.specs.Chip.{header_size, data_size, part, Event, image_after, store_count, before, plan, bind, gives}
use Rattle.paper.specs.Scan.{page_walk}
use Rattle.paper.specs.Refusals.{done, refused}
use Rattle.paper.specs.Push.{full, at, too_big, spot_for, item_at, push_at, push, Full}
use Rattle.paper.specs.Calls.{pushes, plan_of}
use Rattle.paper.specs.Waiting.{waiting}
use Rattle.paper.specs.Fifo.{Power, whole, cut_after, events_of, image_next, Ghost, ghost_next, header_plan, header_at, got, Bytes, Fair, added, big, no_room}
use Rattle.laws.proofs.Events.{image_append, before_less, before_more, before_all}
use Rattle.laws.proofs.Sides.{Side, below, above, side}
use Rattle.demand3.proofs.Events.{avoid_append, avoid_before}
use Rattle.demand3.proofs.Plans.{bind_known}
use Rattle.demand3.proofs.Invariant.{Inv}
use Rattle.demand3.proofs.FreeSpot.{Site, current, spot_of, site_in}
use Rattle.demand3.proofs.Item.{item_words, count_item, avoid_item}
use Rattle.demand3.proofs.Written.{Writable, HeaderReads, Clear, after_words}
use Rattle.demand3.proofs.ReadHeader.{none_read}
use Rattle.demand3.proofs.Adding.{Added, PassesAsSlip, adding}
use Rattle.demand3.proofs.Steady.{Steady, rests, steady_before, steady_after}
use Rattle.demand3.proofs.ListOnWay.{way_there}
use Rattle.demand3.proofs.Ghosts.{StayRefused, unmet}
use Rattle.demand3.proofs.SpotReady.{SpotReady, ready_steady}
use Rattle.demand3.proofs.SpotSearch.{Spotted, is_full, is_at, spotted_for}
use Rattle.demand3.proofs.Step.{Was, Traced, Step, whole_step, cut_step, early_step, steady_step}

pub small_enough : (g : Geometry) (n : ℕ) → too_big g n ≡ false → (n < 65536) × (header_size g + n ≤ data_size g)
unfolding too_big
small_enough g n t = by (ltb 65535 n) (ltb (data_size g) (header_size g + n)) refl refl t
  where
    by : (x y : Bool) → ltb 65535 n ≡ x → ltb (data_size g) (header_size g + n) ≡ y → (x || y) ≡ false → (n < 65536) × (header_size g + n ≤ data_size g)
    by true y p q f = let z : ◌≡◌ {A = ℕ} 0 1 = cc in absurd (omega arith)
    by false true p q f = let z : ◌≡◌ {A = ℕ} 0 1 = cc in absurd (omega arith)
    by false false p q f = (omega (arith, ltb-false 65535 n p), ltb-false (data_size g) (header_size g + n) q)

-- ---- the plan, by cases

module _ (g : Geometry) (im slip : List ℕ) where
  pub plan_big : too_big g (length slip) ≡ true → plan_of g im (pushes slip false) ≡ plan [] (refused refusal.ItemTooBig)
  unfolding plan_of push
  plan_big t = rw t

  module _ (t : too_big g (length slip) ≡ false) where
    plan_spot : plan_of g im (pushes slip false) ≡ bind g im (spot_for g im (length slip) false) (push_at g slip)
    unfolding plan_of push
    plan_spot = rw t

    pub plan_full : spot_for g im (length slip) false ≡ plan [] (gives full) → plan_of g im (pushes slip false) ≡ plan [] (refused refusal.FullStorage)
    unfolding push_at
    plan_full q = plan_spot ∙ bind_known g im (push_at g slip) q

    module _ (es : List Event) (a : ℕ) (q : spot_for g im (length slip) false ≡ plan es (gives (at a))) where
      pub plan_at : plan_of g im (pushes slip false) ≡ plan (es ++ item_at g a slip) done
      unfolding push_at
      plan_at = plan_spot ∙ bind_known g im (push_at g slip) q

      header_is : (w : Power) (n : ℕ) → got w (store_count es + n) ≡ true → header_at g im (pushes slip false) w n ≡ a ∷ []
      unfolding header_at header_plan
      header_is w n e = rw (t, q, e)

-- ---- the events es have come to the spot, where the slip is then written

module _ {g : Geometry} {im : List ℕ} {o b : ℕ} (I : Inv g im o b) (gh : Ghost) (slip : List ℕ) (hb : Bytes slip) (t : too_big g (length slip) ≡ false)
    {es : List Event} {a₀ : ℕ} (R : SpotReady g im (length slip) false es a₀) where
  abbrev jm : List ℕ
  jm = image_after g es im

  abbrev S : Site g (image_after g es im)
  S = R.site

  abbrev a : ℕ
  a = spot_of R.site

  abbrev it : List Event
  it = item_at g (spot_of R.site) slip

  pub W : Writable R.site slip
  W = record { bytes = hb; short = (small_enough g (length slip) t).0; room = R.room }

  pub same_list : waiting g (image_after g es im) ≡ waiting g im
  same_list = (steady_after (ready_steady R)).list

  -- after j words
  pub words_clear : (j : ℕ) → StayRefused g im gh (es ++ before j it) → Clear R.site (image_after g (before j it) (image_after g es im))
  words_clear j F =
      let av = avoid_before (current S) j it (avoid_item g (current S) a slip) in
      rw (image_append g es (before j it) im) at (unmet im I.good gh es S.inv (before j it) (current S) (site_in S) R.origin av F)

  pub words_added : (j : ℕ) → StayRefused g im gh (es ++ before j it)
      → (HeaderReads R.site slip (image_after g (es ++ before j it) im) → j < item_words g slip
      → PassesAsSlip R.site slip (image_after g (es ++ before j it) im))
      → Added R.site slip j (image_after g (es ++ before j it) im)
  words_added j F P =
      let q = image_append g es (before j it) im in
      rw q (adding W j (words_clear j F) (rw q at P))

  words_traced : (w : Power) (j : ℕ) → (0 < j → header_at g im (pushes slip false) w 0 ≡ spot_of R.site ∷ [])
      → Added R.site slip j (image_after g (es ++ before j it) im) → Traced g im (pushes slip false) w (es ++ before j it)
  words_traced w j H A p hp h m = by (A.heads p hp h m)
    where
      by : ((h.place ≡ a) × (0 < j)) ⊎ Memᴰ h (page_walk g jm p).heads
          → Memᴰ h.place (header_at g im (pushes slip false) w 0) ⊎ Was g im p h.place (es ++ before j it)
      by (inl x) = inl (rw (H x.1) (Memᴰ.head x.0))
      by (inr x) =
          let r = way_there R.way p hp h x in
          inr (record { head = h; there = r.0; at = refl; unerased = avoid_append p es (before j it) r.1 (avoid_before p j it (avoid_item g p a slip)) })

  module _ (q₀ : spot_for g im (length slip) false ≡ plan es (gives (at a₀))) (N : Full g im (length slip) → ⊥) where
    q : spot_for g im (length slip) false ≡ plan es (gives (at (spot_of R.site)))
    q = q₀ ∙ ap (λ (x : ℕ). plan es (gives (at x))) R.at_spot

    pub pl : plan_of g im (pushes slip false) ≡ plan (es ++ it) done
    pl = plan_at g im slip t es a q

    -- after k stores the header reads whole, so it is begun
    past_header : (k : ℕ) → store_count es ≤ k → HeaderReads R.site slip (image_after g (es ++ before (k - store_count es) it) im) → store_count es + 0 < k
    past_header k l r = omega (arith, some (side 0 (k - store_count es)))
      where
        some : Side 0 (k - store_count es) → 0 < k - store_count es
        some (below z) = z
        some (above z) =
            let y : k - store_count es ≡ 0 = omega arith in
            absurd (none_read W (sym (ap (part a (header_size g)) (image_append g es (before 0 it) im ∙ after_words W 0 (omega arith))) ∙ rw y at r))

    pub at_step : (w : Power) → Fair g im gh (pushes slip false) w → Step g im (pushes slip false) w
    unfolding image_next ghost_next events_of
    at_step whole F =
        let n : ℕ = item_words g slip in
        let all : before n it ≡ it = before_all n it (omega (arith, count_item g I.good.sized.low slip a)) in
        let F₁ : StayRefused g im gh (es ++ before n it) = rw all (λ nw. rw pl at (F.none_again nw)) in
        let A = words_added n F₁ (λ h k. let z : ⊥ = omega arith in absurd z) in
        let T = words_traced whole n (λ k. header_is g im slip t es a q whole 0 refl) A in
        let l = A.all (omega arith) ∙ ap (λ (x : List (List ℕ)). x ++ (slip ∷ [])) same_list in
        whole_step im (pushes slip false) pl {o = S.old} {b = S.runs} (rw all at A.inv) (added t N (rw all at l)) (rw all at T)
    at_step (cut_after k) F = by (side k (store_count es))
      where
        begun : (n : ℕ) → store_count es + n < k → header_at g im (pushes slip false) (cut_after k) n ≡ a ∷ []
        begun n h = header_is g im slip t es a q (cut_after k) n (lt-ltb (store_count es + n) k h)

        by : Side k (store_count es) → Step g im (pushes slip false) (cut_after k)
        by (below l) = early_step im (pushes slip false) pl k (before_less k es it l) (steady_before k (ready_steady R))
        by (above l) =
            let j : ℕ = k - store_count es in
            let bm : before k (es ++ it) ≡ es ++ before j it = before_more k es it l in
            let F₁ : StayRefused g im gh (es ++ before j it) = λ nw. rw (pl, bm) at (F.none_again nw) in
            let km : List ℕ = image_after g (es ++ before j it) im in
            let P₁ : HeaderReads S slip km → j < item_words g slip → PassesAsSlip S slip km =
            λ r z. (rw (pl, bm) at (F.no_passing a (rw (begun 0 (past_header k l r)) (Memᴰ.head refl)))) r in
            let A = words_added j F₁ P₁ in
            let T = words_traced (cut_after k) j (λ h. begun 0 (omega arith)) A in
            cut_step im (pushes slip false) pl k {o = S.old} {b = S.runs} (rw bm A.inv) (rw bm (rw same_list at A.list)) (rw bm T)

pub push_step : {g : Geometry} {im : List ℕ} {o b : ℕ} → Inv g im o b → (gh : Ghost) (slip : List ℕ) (w : Power) → Fair g im gh (pushes slip false) w
    → Step g im (pushes slip false) w
push_step {g} {im} {o} {b} I gh slip w F = by (too_big g (length slip)) refl
  where
    idle : Steady g (waiting g im) im []
    idle = rests (record { old = o; runs = b; inv = I; list = refl })

    on : too_big g (length slip) ≡ false → Spotted g im (length slip) false (spot_for g im (length slip) false) → Step g im (pushes slip false) w
    on t (is_full v q f) = steady_step im (pushes slip false) (plan_full g im slip t q) idle (no_room t f) w
    on t (is_at es a q R N) = at_step I gh slip F.slip t R q (N refl) w F

    by : (t : Bool) → too_big g (length slip) ≡ t → Step g im (pushes slip false) w
    by true t = steady_step im (pushes slip false) (plan_big g im slip t) idle (big t) w
    by false t = on t (spotted_for I (length slip) (small_enough g (length slip) t).1 false)
