-- The states of the youngest and the oldest page. Assumes nothing.
use mathlib.Core.Path.{◌≡◌, refl, subst}
use mathlib.Core.Bool.{Bool, true, false, cond}
use mathlib.Core.List.{List, [], ◌∷◌}
use Prim.Native.Nat.{ℕ, ◌<◌}
use Rattle.paper.specs.declared.Geometry.{Geometry}
use Rattle.paper.specs.declared.PageState.{PageState}
use Rattle.paper.specs.declared.PageState.TheVariants.{Open, PartialOpen, Closed, Corrupted}
use Rattle.paper.specs.Chip.{Try, fails, gives, on_given}
use Rattle.paper.specs.Pages.{state, same, from, all_pages, Found, failed, found, missing, first, found_or, open_from, youngest, oldest}
use Rattle.laws.proofs.Marks.{same_is}
use Rattle.demand1.specs.Range.{Each}
use Rattle.demand1.proofs.Lists.{never}
use Rattle.demand1.proofs.Repairs.{all_of}

module _ (g : Geometry) (im : List ℕ) where
  -- a page's state is not one given
  abbrev Not : PageState → ℕ → Type 0
  Not s p = same (state g im p) s ≡ false

  first_found : (want : PageState) (ps : List ℕ) (q : ℕ) → first g im want ps ≡ found q → Not Corrupted q × (state g im q ≡ want)
  unfolding first
  first_found want [] q e = never (cc)
  first_found want (p ∷ ps) q e = by (same (state g im p) Corrupted) (same (state g im p) want) refl refl e (first_found want ps q)
    where
      by : (s t : Bool) → same (state g im p) Corrupted ≡ s → same (state g im p) want ≡ t → cond s failed (cond t (found p) (first g im want ps)) ≡ found q
          → (first g im want ps ≡ found q → Not Corrupted q × (state g im q ≡ want)) → Not Corrupted q × (state g im q ≡ want)
      by true t a b f r = never (cc)
      by false true a b f r =
          let z : p ≡ q = cc in
          subst (λ (x : ℕ). Not Corrupted x × (state g im x ≡ want)) z (a, same_is (state g im p) want b)
      by false false a b f r = r f

  first_missing : (want : PageState) (ps : List ℕ) → first g im want ps ≡ missing → Each (λ p. Not Corrupted p × Not want p) ps
  unfolding first
  first_missing want [] e = tt
  first_missing want (p ∷ ps) e = by (same (state g im p) Corrupted) (same (state g im p) want) refl refl e (first_missing want ps)
    where
      by : (s t : Bool) → same (state g im p) Corrupted ≡ s → same (state g im p) want ≡ t → cond s failed (cond t (found p) (first g im want ps)) ≡ missing
          → (first g im want ps ≡ missing → Each (λ p. Not Corrupted p × Not want p) ps)
          → (Not Corrupted p × Not want p) × Each (λ p. Not Corrupted p × Not want p) ps
      by true t a b f r = never (cc)
      by false true a b f r = never (cc)
      by false false a b f r = ((a, b), r f)

  -- the youngest page is PartialOpen; or it is Open, and no page is PartialOpen or Corrupted
  pub data Young (y : ℕ) : Type 0 where
    partly : state g im y ≡ PartialOpen → Young y
    opens : state g im y ≡ Open → ((p : ℕ) → p < g.pages → Not Corrupted p × Not PartialOpen p) → Young y

  only_open : (s : PageState) → same s Corrupted ≡ false → same s PartialOpen ≡ false → same s Closed ≡ false → s ≡ Open
  only_open Open a b c = refl
  only_open PartialOpen a b c = cc
  only_open Closed a b c = cc
  only_open Corrupted a b c = cc

  pub young : 0 < g.pages → (y : ℕ) → youngest g im ≡ gives y → Young y
  unfolding youngest
  young some y e = by (first g im PartialOpen (all_pages g)) refl e
    where
      by : (x : Found) → first g im PartialOpen (all_pages g) ≡ x → found_or x (open_from g im (first g im Closed (all_pages g))) ≡ gives y → Young y
      by failed a f = never (cc)
      by (found p) a f =
          let z : p ≡ y = cc in
          partly (subst (λ (x : ℕ). state g im x ≡ PartialOpen) z (first_found PartialOpen (all_pages g) p a).1)
      by missing a f = on (first g im Closed (all_pages g)) refl f
        where
          calm : (p : ℕ) → p < g.pages → Not Corrupted p × Not PartialOpen p
          calm = all_of g (λ p. Not Corrupted p × Not PartialOpen p) (first_missing PartialOpen (all_pages g) a)

          on : (x : Found) → first g im Closed (all_pages g) ≡ x → open_from g im x ≡ gives y → Young y
          on failed b f = never (cc)
          on (found c) b f = at (first g im Open (from g c)) refl f
            where
              at : (x : Found) → first g im Open (from g c) ≡ x → found_or x (fails tt) ≡ gives y → Young y
              at failed d f = never (cc)
              at (found p) d f =
                  let z : p ≡ y = cc in
                  opens (subst (λ (x : ℕ). state g im x ≡ Open) z (first_found Open (from g c) p d).1) calm
              at missing d f = never (cc)
          on missing b f =
              let z : 0 ≡ y = cc in
              let c = all_of g (λ p. Not Corrupted p × Not Closed p) (first_missing Closed (all_pages g) b) 0 some in
              opens (subst (λ (x : ℕ). state g im x ≡ Open) z (only_open (state g im 0) c.0 (calm 0 some).1 c.1)) calm

  -- the oldest page is not Corrupted
  pub old_sound : 0 < g.pages → (o : ℕ) → oldest g im ≡ gives o → same (state g im o) Corrupted ≡ false
  unfolding oldest
  old_sound some o e = by (youngest g im) refl e
    where
      young_sound : (y : ℕ) → Young y → Not Corrupted y
      young_sound y (partly q) = rw q
      young_sound y (opens q f) = rw q

      by : (t : Try Unit ℕ) → youngest g im ≡ t → on_given t (λ y. found_or (first g im Closed (from g y)) (gives y)) ≡ gives o → Not Corrupted o
      by (fails u) a f = never (cc)
      by (gives y) a f = on (first g im Closed (from g y)) refl f
        where
          on : (x : Found) → first g im Closed (from g y) ≡ x → found_or x (gives y) ≡ gives o → Not Corrupted o
          on failed b f = never (cc)
          on (found p) b f = let z : p ≡ o = cc in subst (Not Corrupted) z (first_found Closed (from g y) p b).0
          on missing b f = let z : y ≡ o = cc in subst (Not Corrupted) z (young_sound y (young some y a))
