-- The search, page by page, and what is chosen on its answer, for every image that the table covers. Assumes nothing.
use mathlib.Core.Path.{◌≡◌, refl, sym, ap, ◌∙◌, subst}
use mathlib.Core.Bool.{true, false}
use mathlib.Core.List.{List, ◌∷◌}
use Prim.Native.Nat.{ℕ, suc, ◌<◌}
use native.Mathlib.Omega.{arith}
use lib.ListN.{get_or}
use Rattle.std.specs.Prelude.{Option, None, Some, Ok, ok_or}
use Rattle.chip.specs.declared.Corrupted as failing
use Rattle.chip.specs.declared.Page.{Page}
use Rattle.paper.specs.declared.Geometry.{Geometry}
use Rattle.paper.specs.declared.PageState.{PageState}
use Rattle.paper.specs.declared.PageState.TheVariants.{Open, Corrupted}
use Rattle.paper.specs.Chip.{Try, fails, gives}
use Rattle.paper.specs.Pages.{same, next, around, from, Found, failed, found, missing, first, found_or}
use Rattle.page.specs.Table.{Table, Covers}
use Rattle.page.specs.Searches.{sought_as, chosen_as, Sees}
use Rattle.page.proofs.Rings.{around_none, around_next}
use Rattle.page.proofs.Reading.{table_covers}

-- ---- the search

-- n pages are left, of which k come behind page p, and the table covers the search along them
module _ (g : Geometry) (im : List ℕ) (t : List PageState) (want : PageState) (n k p : ℕ) (e : n ≡ suc k)
    (m : Covers g im t want (around g n p)) where
  covered : Covers g im t want (p ∷ around g k (next g p))
  covered = subst (Covers g im t want) (around_next g n k p e) m

  pub first_failed : same (get_or t p Open) Corrupted ≡ true → first g im want (around g n p) ≡ failed
  unfolding first
  first_failed c = rw (around_next g n k p e, ← covered.0, c)

  module _ (f : same (get_or t p Open) Corrupted ≡ false) where
    pub first_here : same (get_or t p Open) want ≡ true → first g im want (around g n p) ≡ found p
    unfolding first
    first_here c = rw (around_next g n k p e, ← covered.0, f, c)

    module _ (c : same (get_or t p Open) want ≡ false) where
      pub first_on : first g im want (around g n p) ≡ first g im want (around g k (next g p))
      unfolding first
      first_on = rw (around_next g n k p e, ← covered.0, f, c)

      pub first_covered : Covers g im t want (around g k (next g p))
      first_covered = covered.1 (ap (λ s. same s Corrupted) (sym covered.0) ∙ f, ap (λ s. same s want) (sym covered.0) ∙ c)

pub first_none : (g : Geometry) (im : List ℕ) (want : PageState) (k p : ℕ) → k ≡ 0 → first g im want (around g k p) ≡ missing
unfolding first
first_none g im want k p e = rw (e, around_none g p)

-- ---- on its answer

module _ {g : Geometry} {K : List ℕ → Type 0} where
  pub sees_failed : Sees {A = Try Unit ℕ} g K gives (fails tt) (λ im. fails tt)
  sees_failed = record { is = λ im k. refl; within = λ p e. cc }

  pub sees_page : (p : ℕ) → p < g.pages → Sees {A = Try Unit ℕ} g K gives (gives p) (λ im. gives p)
  sees_page p h = record { is = λ im k. refl; within = λ q e. let z : p ≡ q = cc in omega arith }

  -- the definition gives what was answered
  pub seen : {A : Type 0} {one : ℕ → A} {x y : A} {f : List ℕ → A} {im : List ℕ} → Sees g K one x f → x ≡ y → K im → f im ≡ y
  seen {im = im} s e k = sym (s.is im k) ∙ e

  -- an image that is known better is known well enough
  pub sees_by : {L : List ℕ → Type 0} {A : Type 0} {one : ℕ → A} {x : A} {f : List ℕ → A} → ((im : List ℕ) → L im → K im) → Sees g K one x f
      → Sees g L one x f
  sees_by d s = record { is = λ im l. s.is im (d im l); within = s.within }

  -- where y was answered, what follows may go by y
  pub sees_on : {A B : Type 0} {one : ℕ → A} {two : ℕ → B} {x y : A} {z : B} {f : List ℕ → A} (then : List ℕ → A → B) → Sees g K one x f → x ≡ y
      → Sees g (λ im. K im × (f im ≡ y)) two z (λ im. then im y) → Sees g K two z (λ im. then im (f im))
  sees_on then s e v = record {
    is = λ im k. let q = seen s e k in v.is im (k, q) ∙ ap (then im) (sym q);
    within = v.within;
  }

module _ {g : Geometry} {K : List ℕ → Type 0} where
  pub sees_or : {x : Found} {y : Try Unit ℕ} {f : List ℕ → Found} {h : List ℕ → Try Unit ℕ} → Sees g K found x f → Sees g K gives y h
      → Sees g K gives (found_or x y) (λ im. found_or (f im) (h im))
  sees_or {x} {y} {f} {h} s v = go x refl
    where
      go : (z : Found) → x ≡ z → Sees g K gives (found_or z y) (λ im. found_or (f im) (h im))
      go failed e = sees_on (λ im w. found_or w (h im)) s e sees_failed
      go (found p) e = sees_on (λ im w. found_or w (h im)) s e (sees_page p (s.within p e))
      go missing e = sees_on (λ im w. found_or w (h im)) s e (sees_by (λ im k. k.0) v)

-- the page found, else a failure: `ok_or`
pub ok_or_as : (o : Option Page) (e : failing.Corrupted) → chosen_as (ok_or o e) ≡ found_or (sought_as (Ok o)) (fails tt)
ok_or_as None e = refl
ok_or_as (Some p) e = refl

-- ---- over a table of all pages

module _ (g : Geometry) (t : List PageState) (want : PageState) (p : ℕ) (h : p < g.pages) where
  pub sees_whole : {A : Type 0} {one : ℕ → A} {x : A} {f : List ℕ → A} → Sees g (λ im. Covers g im t want (from g p)) one x f
      → Sees g (λ im. Table g im t) one x f
  unfolding from
  sees_whole s = sees_by (λ im tb. table_covers g im t want tb g.pages p h) s
