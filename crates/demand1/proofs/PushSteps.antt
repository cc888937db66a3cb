-- The step of a push: one that fails has made no store; and when it finds the storage full. Assumes nothing.
use mathlib.Core.Path.{◌≡◌, refl, sym, ap, ap₂, ◌∙◌, subst}
use mathlib.Core.Bool.{Bool, false}
use mathlib.Core.List.{List, [], ◌∷◌}
use mathlib.Core.Logic.{◌⊎◌, inl, inr}
use Prim.Native.Nat.{ℕ, ◌<◌}
use lib.ListN.{length}
use Rattle.paper.specs.declared.Geometry.{Geometry}
use Rattle.paper.specs.declared.PageState.{PageState}
use Rattle.paper.specs.declared.PageState.TheVariants.{Open, PartialOpen, Closed, Corrupted}
use Rattle.paper.specs.Chip.{Event, image_by, image_after, Plan, plan, bind, Try, fails, gives}
use Rattle.paper.specs.Scan.{page_walk}
use Rattle.paper.specs.Pages.{state, same, set_start, next, youngest}
use Rattle.paper.specs.Push.{Spot, full, find_spot, spot_on, spot_step, Full}
use Rattle.laws.proofs.Accepted.{Laid}
use Rattle.laws.proofs.Ring.{next_in}
use Rattle.laws.proofs.Sides.{Apart, is, differs, apart}
use Rattle.demand1.specs.Rows.{MarkOf}
use Rattle.demand1.proofs.Lists.{never}
use Rattle.demand1.proofs.Pages.{state_same, walk_same}
use Rattle.demand1.proofs.EachEvent.{Tried, Any}
use Rattle.demand1.proofs.Searches.{youngest_in}
use Rattle.demand1.proofs.Frames.{mark_other, mark_walk, mark_partial}
use Rattle.demand1.proofs.PageStates.{Young, partly, opens, young}
use Rattle.demand1.proofs.Turning.{NoRoom, find_full, find_fails, find_no_room}

-- the step of a push of m bytes on the image im
module _ {g : Geometry} {n : ℕ} (S : Laid g n) (m : ℕ) (im : List ℕ) (long : length im ≡ n) where
  young_in : (y : ℕ) → youngest g im ≡ gives y → y < g.pages
  young_in y e = subst (Tried {W = Unit {0}} Any (λ p. p < g.pages)) e (youngest_in g im S.sized.some)

  -- the image with the start mark of page y
  abbrev marked : ℕ → List ℕ
  marked y = image_by g (set_start g y) im

  module _ (y : ℕ) (hy : y < g.pages) where
    marked_walk : (p : ℕ) → p < g.pages → page_walk g (marked y) p ≡ page_walk g im p
    marked_walk p h = by (apart p y)
      where
        by : Apart p y → page_walk g (marked y) p ≡ page_walk g im p
        by (is e) = subst (λ (x : ℕ). page_walk g (marked y) x ≡ page_walk g im x) (sym e) (mark_walk S im long y hy)
        by (differs e) = walk_same S (marked y) im p (mark_other S im long y hy p h e)

    marked_state : (p : ℕ) → p < g.pages → (p ≡ y → ⊥) → state g (marked y) p ≡ state g im p
    marked_state p h e = state_same S (marked y) im p (mark_other S im long y hy p h e)

    -- the mark has no say in whether there is room
    next_state : Apart (next g y) y → (state g (marked y) (next g y) ≡ Closed) ⊎ (next g y ≡ y) → (state g im (next g y) ≡ Closed) ⊎ (next g y ≡ y)
    next_state (is e) c = inr e
    next_state (differs e) (inl c) = inl (sym (marked_state (next g y) (next_in g y hy) e) ∙ c)
    next_state (differs e) (inr c) = inr c

    next_marked : Apart (next g y) y → (state g im (next g y) ≡ Closed) ⊎ (next g y ≡ y) → (state g (marked y) (next g y) ≡ Closed) ⊎ (next g y ≡ y)
    next_marked (is e) c = inr e
    next_marked (differs e) (inl c) = inl (marked_state (next g y) (next_in g y hy) e ∙ c)
    next_marked (differs e) (inr c) = inr c

    room_unmarked : NoRoom g m y (marked y) → NoRoom g m y im
    room_unmarked N = record {
      no_spot = rw (← marked_walk y hy) N.no_spot;
      alive = rw (← marked_walk (next g y) (next_in g y hy)) N.alive;
      again = next_state (apart (next g y) y) N.again;
    }

    room_marked : NoRoom g m y im → NoRoom g m y (marked y)
    room_marked N = record {
      no_spot = rw (marked_walk y hy) N.no_spot;
      alive = rw (marked_walk (next g y) (next_in g y hy)) N.alive;
      again = next_marked (apart (next g y) y) N.again;
    }

  module _ (over : Bool) where
    step_lost : {u : Unit {0}} → youngest g im ≡ fails u → spot_step g m over tt im ≡ plan [] (fails tt)
    unfolding spot_step spot_on
    step_lost e = rw e

    step_partly : (y : ℕ) → youngest g im ≡ gives y → state g im y ≡ PartialOpen → spot_step g m over tt im ≡ find_spot g m over y im
    unfolding spot_step spot_on bind image_after
    step_partly y e s = rw (e, s)

    step_open : (y : ℕ) → youngest g im ≡ gives y → state g im y ≡ Open
        → spot_step g m over tt im ≡ plan (set_start g y ∷ (find_spot g m over y (marked y)).events) (find_spot g m over y (marked y)).answer
    unfolding spot_step spot_on bind image_after
    step_open y e s = rw (e, s)

    answer_of : {p q : Plan (Try Unit Spot)} {t : Try Unit Spot} → p ≡ q → p.answer ≡ t → q.answer ≡ t
    answer_of e f = ap (λ (x : Plan (Try Unit Spot)). x.answer) (sym e) ∙ f

    plan_of_lem : {p : Plan (Try Unit Spot)} {u : Unit {0}} → p.events ≡ [] → p.answer ≡ fails u → p ≡ plan [] (fails tt)
    plan_of_lem e f = ap₂ (λ (es : List Event) (t : Try Unit Spot). plan es t) e f

    -- after its start mark an Open page's step does not fail
    marked_gives : (y : ℕ) → y < g.pages → state g im y ≡ Open
        → ((p : ℕ) → p < g.pages → (same (state g im p) Corrupted ≡ false) × (same (state g im p) PartialOpen ≡ false))
        → {u : Unit {0}} → (find_spot g m over y (marked y)).answer ≡ fails u → ⊥
    marked_gives y hy s calm e = by (apart (next g y) y) (find_fails g m over y (marked y) e).because
      where
        c : (same (state g im (next g y)) Corrupted ≡ false) × (same (state g im (next g y)) PartialOpen ≡ false)
        c = calm (next g y) (next_in g y hy)

        by : Apart (next g y) y → (state g (marked y) (next g y) ≡ Corrupted) ⊎ ((state g (marked y) (next g y) ≡ PartialOpen) × (next g y ≡ y → ⊥)) → ⊥
        by (is q) (inl f) =
            let z : PartialOpen ≡ Corrupted = sym (mark_partial S im long y hy s) ∙ ap (state g (marked y)) (sym q) ∙ f in
            never (cc)
        by (is q) (inr f) = f.1 q
        by (differs q) (inl f) =
            let z = ap (λ (x : PageState). same x Corrupted) (sym (marked_state y hy (next g y) (next_in g y hy) q) ∙ f) in
            let d = c.0 in never (cc)
        by (differs q) (inr f) =
            let z = ap (λ (x : PageState). same x PartialOpen) (sym (marked_state y hy (next g y) (next_in g y hy) q) ∙ f.0) in
            let d = c.1 in never (cc)

    -- a step that fails has made no store
    pub step_quiet : {u : Unit {0}} → (spot_step g m over tt im).answer ≡ fails u → spot_step g m over tt im ≡ plan [] (fails tt)
    step_quiet {u} e = by (youngest g im) refl
      where
        on : (y : ℕ) → youngest g im ≡ gives y → Young g im y → spot_step g m over tt im ≡ plan [] (fails tt)
        on y q (partly s) =
            let z = step_partly y q s in
            let f = answer_of z e in
            z ∙ plan_of_lem (find_fails g m over y im f).none f
        on y q (opens s calm) = absurd (marked_gives y (young_in y q) s calm (answer_of (step_open y q s) e))

        by : (t : Try Unit ℕ) → youngest g im ≡ t → spot_step g m over tt im ≡ plan [] (fails tt)
        by (fails v) q = step_lost q
        by (gives y) q = on y q (young g im S.sized.some y q)

    -- a step that finds the storage full
    pub record FullStep : Type 0 where
      pub off : over ≡ false
      pub is_full_lem : Full g im m
      pub only : ((spot_step g m over tt im).events ≡ []) ⊎ MarkOf g im (spot_step g m over tt im).events

    full_of : (y : ℕ) → youngest g im ≡ gives y → NoRoom g m y im → Full g im m
    full_of y e N = record { page = y; current = e; no_spot = N.no_spot; again = N.again; live = N.alive }

    pub step_full : (spot_step g m over tt im).answer ≡ gives full → FullStep
    step_full e = by (youngest g im) refl
      where
        on : (y : ℕ) → youngest g im ≡ gives y → Young g im y → FullStep
        on y q (partly s) =
            let z = step_partly y q s in
            let f = find_full g m over y im (answer_of z e) in
            record { off = f.0; is_full_lem = full_of y q f.1; only = inl (ap (λ (x : Plan (Try Unit Spot)). x.events) z ∙ f.2) }
        on y q (opens s calm) =
            let z = step_open y q s in
            let f = find_full g m over y (marked y) (answer_of z e) in
            record {
              off = f.0;
              is_full_lem = full_of y q (room_unmarked y (young_in y q) f.1);
              only = inr (record {
                page = y;
                current = q;
                is = ap (λ (x : Plan (Try Unit Spot)). x.events) z ∙ ap (λ (es : List Event). set_start g y ∷ es) f.2;
              });
            }

        by : (t : Try Unit ℕ) → youngest g im ≡ t → FullStep
        by (fails v) q = absurd (let z = answer_of (step_lost q) e in never (cc))
        by (gives y) q = on y q (young g im S.sized.some y q)

  pub full_step : Full g im m → (spot_step g m false tt im).answer ≡ gives full
  full_step F = by (young g im S.sized.some F.page F.current)
    where
      y : ℕ
      y = F.page

      N : NoRoom g m F.page im
      N = record { no_spot = F.no_spot; alive = F.live; again = F.again }

      by : Young g im F.page → (spot_step g m false tt im).answer ≡ gives full
      by (partly s) = ap (λ (x : Plan (Try Unit Spot)). x.answer) (step_partly false F.page F.current s) ∙ find_no_room g m F.page im N s
      by (opens s calm) =
          let h = young_in F.page F.current in
          ap (λ (x : Plan (Try Unit Spot)). x.answer) (step_open false F.page F.current s)
          ∙ find_no_room g m F.page (marked F.page) (room_marked F.page h N) (mark_partial S im long F.page h s)
