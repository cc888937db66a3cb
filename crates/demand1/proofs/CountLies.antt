-- find_max_fit, space_left and erase_all on images that are alike: the same plan, and its events lie in the range. Assumes nothing.
use mathlib.Core.Path.{◌≡◌, refl, ap, ◌∙◌}
use mathlib.Core.List.{List, [], ◌∷◌}
use Prim.Native.Nat.{ℕ, ◌<◌}
use Rattle.paper.specs.declared.Geometry.{Geometry}
use Rattle.paper.specs.declared.PageState.{PageState}
use Rattle.paper.specs.declared.PageState.TheVariants.{Open, PartialOpen, Closed, Corrupted}
use Rattle.paper.specs.declared.Refusal.TheVariants as refusal
use Rattle.paper.specs.Chip.{erase_page, plan, Try, fails, gives, on_given, settled}
use Rattle.paper.specs.Pages.{state, next, all_pages, youngest}
use Rattle.paper.specs.Refusals.{Answer, refused}
use Rattle.paper.specs.Counts.{counted, fit_by, fit, find_max_fit, space_by, space_of, space, space_left}
use Rattle.paper.specs.Calls.{erases, erase_all}
use Rattle.laws.proofs.Accepted.{Laid}
use Rattle.laws.proofs.ErasePage.{erase_each}
use Rattle.laws.proofs.Ring.{next_in}
use Rattle.demand1.specs.Range.{Lies, Each}
use Rattle.demand1.proofs.Lists.{each_append}
use Rattle.demand1.proofs.Pages.{all_in}
use Rattle.demand1.proofs.Lying.{Alike}
use Rattle.demand1.proofs.EachEvent.{Tried, Any}
use Rattle.demand1.proofs.Searches.{youngest_in}
use Rattle.demand1.proofs.AlikePlans.{Both, both_bind, both_steps, states, walks, youngest_same}

module _ {g : Geometry} {n : ℕ} (S : Laid g n) where
  both_counted : (count : List ℕ → Try Unit Answer) → ((im jm : List ℕ) → Alike g n im jm → count im ≡ count jm)
      → (im jm : List ℕ) → Alike g n im jm → Both g Any (counted g im count) (counted g jm count)
  unfolding counted
  both_counted count f im jm L =
      both_bind S (Tried Any Any) im jm (λ t im₁. plan [] (settled (refused refusal.Corrupted) t)) L
      (both_steps S Any Any (λ u im₁. plan [] (count im₁)) (λ w v im jm L. record {
        one = ap (λ (t : Try Unit Answer). plan [] t) (f im jm L);
        lies = tt;
        fine = any (count im);
      }) tt tt im jm L)
      (λ t v im jm L. record { one = refl; lies = tt; fine = tt })
    where
      any : (t : Try Unit Answer) → Tried Any Any t
      any (fails u) = tt
      any (gives a) = tt

  module _ (im jm : List ℕ) (L : Alike g n im jm) where
    fit_by_lem : (y : ℕ) → y < g.pages → (s : PageState) → fit_by g im y s ≡ fit_by g jm y s
    unfolding fit_by
    fit_by_lem y h Open = refl
    fit_by_lem y h PartialOpen = refl
    fit_by_lem y h Closed = rw (walks S L y h, walks S L (next g y) (next_in g y h))
    fit_by_lem y h Corrupted = refl

    fit_same : fit g im ≡ fit g jm
    unfolding fit
    fit_same = on (youngest g im) (youngest_in g im S.sized.some)
        ∙ ap (λ (t : Try Unit ℕ). on_given t (λ y. fit_by g jm y (state g jm (next g y)))) (youngest_same S L)
      where
        on : (t : Try Unit ℕ) → Tried Any (λ p. p < g.pages) t
            → on_given t (λ y. fit_by g im y (state g im (next g y))) ≡ on_given t (λ y. fit_by g jm y (state g jm (next g y)))
        on (fails u) h = refl
        on (gives y) h = fit_by_lem y h (state g im (next g y)) ∙ ap (fit_by g jm y) (states S L (next g y) (next_in g y h))

    space_by_lem : (p : ℕ) → p < g.pages → (s : PageState) → space_by g im p s ≡ space_by g jm p s
    unfolding space_by
    space_by_lem p h Open = refl
    space_by_lem p h PartialOpen = rw (walks S L p h)
    space_by_lem p h Closed = rw (walks S L p h)
    space_by_lem p h Corrupted = refl

    space_of_lem : (ps : List ℕ) → Each (λ p. p < g.pages) ps → space_of g im ps ≡ space_of g jm ps
    unfolding space_of
    space_of_lem [] h = refl
    space_of_lem (p ∷ ps) h = rw (space_by_lem p h.0 (state g im p), states S L p h.0, space_of_lem ps h.1)

    space_same : space g im ≡ space g jm
    unfolding space
    space_same = rw (space_of_lem (all_pages g) (all_in g S.sized.some))

  pub both_fit : (im jm : List ℕ) → Alike g n im jm → Both g Any (find_max_fit g im) (find_max_fit g jm)
  unfolding find_max_fit
  both_fit = both_counted (fit g) fit_same

  pub both_space : (im jm : List ℕ) → Alike g n im jm → Both g Any (space_left g im) (space_left g jm)
  unfolding space_left
  both_space = both_counted (space g) space_same

  erases_lie : (ps : List ℕ) → Each (λ p. p < g.pages) ps → Each (Lies g) (erases g ps)
  unfolding erases
  erases_lie [] h = tt
  erases_lie (p ∷ ps) h = each_append (Lies g) (erase_page g p) (erases g ps) (erase_each g p (Lies g) h.0) (erases_lie ps h.1)

  pub both_erase : Both g Any (erase_all g) (erase_all g)
  unfolding erase_all
  both_erase = record { one = refl; lies = erases_lie (all_pages g) (all_in g S.sized.some); fine = tt }
