-- One step on two images that are alike: the plans are the same, their events lie in the range, and their answer is fine. Assumes nothing.
use mathlib.Core.Path.{◌≡◌, refl, ap, ap₂, ◌∙◌}
use mathlib.Core.Bool.{Bool, true, false, cond}
use mathlib.Core.List.{List, [], ◌∷◌, ◌++◌}
use Prim.Native.Nat.{ℕ, ◌<◌}
use Rattle.paper.specs.declared.Geometry.{Geometry}
use Rattle.paper.specs.declared.PageState.{PageState}
use Rattle.paper.specs.declared.PageState.TheVariants.{Open, PartialOpen, Closed}
use Rattle.paper.specs.Chip.{Event, image_after, Plan, plan, bind, and_then, Try, fails, gives, on_given}
use Rattle.paper.specs.Scan.{page_walk}
use Rattle.paper.specs.Pages.{state, Found, failed, found, missing, first, found_or, open_from, from, all_pages, youngest, oldest, repairs, repair}
use Rattle.paper.specs.Steps.{retry, with_repair}
use Rattle.laws.proofs.Accepted.{Laid}
use Rattle.demand1.specs.Range.{Lies, Each}
use Rattle.demand1.proofs.Lists.{each_append}
use Rattle.demand1.proofs.EachEvent.{Tried, Any}
use Rattle.demand1.proofs.Pages.{state_same, walk_same, from_in, all_in}
use Rattle.demand1.proofs.Lying.{Alike, alike_after, alike_page}
use Rattle.demand1.proofs.Searches.{PageFoundIn, first_in, youngest_in, repair_lies}

pub record Both (g : Geometry) {A : Type 0} (Q : A → Type 0) (p q : Plan A) : Type 0 where
  pub one : p ≡ q
  pub lies : Each (Lies g) p.events
  pub fine : Q p.answer

pub both_cond : {g : Geometry} {A : Type 0} {Q : A → Type 0} {p q r s : Plan A} (t : Bool) → (t ≡ true → Both g Q p r) → (t ≡ false → Both g Q q s)
    → Both g Q (cond t p q) (cond t r s)
both_cond true e f = e refl
both_cond false e f = f refl

module _ {g : Geometry} {n : ℕ} (S : Laid g n) where
  -- a plan, and what follows it
  pub both_bind : {A B : Type 0} (Q : A → Type 0) {R : B → Type 0} (im jm : List ℕ) {p q : Plan A} (follow : A → List ℕ → Plan B)
      → Alike g n im jm → Both g Q p q
      → ((a : A) → Q a → (im jm : List ℕ) → Alike g n im jm → Both g R (follow a im) (follow a jm)) → Both g R (bind g im p follow) (bind g jm q follow)
  unfolding bind
  both_bind Q im jm {p} {q} follow A b f =
      let i : List ℕ = image_after g p.events im in
      let j : List ℕ = image_after g p.events jm in
      let c = f p.answer b.fine i j (alike_after S p.events A b.lies) in
      record {
        one = ap (λ (x : Plan _). plan (p.events ++ x.events) x.answer) c.one ∙ ap (λ (x : Plan _). bind g jm x follow) b.one;
        lies = each_append (Lies g) p.events (follow p.answer i).events b.lies c.lies;
        fine = c.fine;
      }

  -- events, and what follows them
  pub both_then : {B : Type 0} {R : B → Type 0} (im jm : List ℕ) (es : List Event) (follow : List ℕ → Plan B) → Alike g n im jm → Each (Lies g) es
      → ((im jm : List ℕ) → Alike g n im jm → Both g R (follow im) (follow jm)) → Both g R (and_then g im es follow) (and_then g jm es follow)
  both_then im jm es follow A h f =
      both_bind {A = Unit {0}} Any im jm {p = plan es tt} {q = plan es tt} (λ u. follow) A (record { one = refl; lies = h; fine = tt }) (λ u v. f)

  -- ---- searches and repair on images that are alike

  module _ {im jm : List ℕ} (A : Alike g n im jm) where
    pub states : (p : ℕ) → p < g.pages → state g im p ≡ state g jm p
    states p h = state_same S im jm p (alike_page S im jm A p h)

    pub walks : (p : ℕ) → p < g.pages → page_walk g im p ≡ page_walk g jm p
    walks p h = walk_same S im jm p (alike_page S im jm A p h)

    firsts : (want : PageState) (ps : List ℕ) → Each (λ p. p < g.pages) ps → first g im want ps ≡ first g jm want ps
    unfolding first
    firsts want [] h = refl
    firsts want (p ∷ ps) h = rw (states p h.0, firsts want ps h.1)

    repairs_same : (ps : List ℕ) → Each (λ p. p < g.pages) ps → repairs g im ps ≡ repairs g jm ps
    unfolding repairs
    repairs_same [] h = refl
    repairs_same (p ∷ ps) h = rw (states p h.0, repairs_same ps h.1)

    open_same : (x : Found) → PageFoundIn g x → open_from g im x ≡ open_from g jm x
    open_same failed h = refl
    open_same (found c) h = ap (λ (x : Found). found_or x (fails tt)) (firsts Open (from g c) (from_in g c h))
    open_same missing h = refl

    pub youngest_same : youngest g im ≡ youngest g jm
    unfolding youngest
    youngest_same =
        let all = all_in g S.sized.some in
        ap₂ found_or (firsts PartialOpen (all_pages g) all)
        (open_same (first g im Closed (all_pages g)) (first_in g im Closed (all_pages g) all) ∙ ap (open_from g jm) (firsts Closed (all_pages g) all))

    pub oldest_same : oldest g im ≡ oldest g jm
    unfolding oldest
    oldest_same = on (youngest g im) (youngest_in g im S.sized.some)
        ∙ ap (λ (t : Try Unit ℕ). on_given t (λ y. found_or (first g jm Closed (from g y)) (gives y))) youngest_same
      where
        on : (t : Try Unit ℕ) → Tried Any (λ p. p < g.pages) t
            → on_given t (λ y. found_or (first g im Closed (from g y)) (gives y)) ≡ on_given t (λ y. found_or (first g jm Closed (from g y)) (gives y))
        on (fails u) h = refl
        on (gives y) h = ap (λ (x : Found). found_or x (gives y)) (firsts Closed (from g y) (from_in g y h))

    repair_same : repair g im ≡ repair g jm
    unfolding repair
    repair_same = repairs_same (all_pages g) (all_in g S.sized.some)

    both_repair : {B : Type 0} {R : B → Type 0} (follow : List ℕ → Plan B) → ((im jm : List ℕ) → Alike g n im jm → Both g R (follow im) (follow jm))
        → Both g R (and_then g im (repair g im) follow) (and_then g jm (repair g jm) follow)
    both_repair follow f =
        rw (← repair_same) (both_then im jm (repair g im) follow A (repair_lies g im S.sized.some) f)

  -- a step, and once more after a repair where it failed
  pub both_steps : {W A : Type 0} (F : W → Type 0) (Q : A → Type 0) (step : W → List ℕ → Plan (Try W A))
      → ((w : W) → F w → (im jm : List ℕ) → Alike g n im jm → Both g (Tried F Q) (step w im) (step w jm))
      → (w : W) → F w → (im jm : List ℕ) → Alike g n im jm → Both g (Tried F Q) (with_repair g step w im) (with_repair g step w jm)
  unfolding with_repair retry
  both_steps {W} {A} F Q step f w v im jm L = both_bind (Tried F Q) im jm (retry g step) L (f w v im jm L) again
    where
      again : (t : Try W A) → Tried F Q t → (im jm : List ℕ) → Alike g n im jm → Both g (Tried F Q) (retry g step t im) (retry g step t jm)
      again (fails w) v im jm L = both_repair L (step w) (f w v)
      again (gives a) v im jm L = record { one = refl; lies = tt; fine = v }
