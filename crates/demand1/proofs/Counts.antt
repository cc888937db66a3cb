-- find_max_fit and space_left, row by row. Assumes nothing.
use mathlib.Core.Path.{◌≡◌, refl, sym, ap, ◌∙◌, subst}
use mathlib.Core.Bool.{Bool, true, false, cond}
use mathlib.Core.List.{List, [], ◌++◌, append-nil}
use mathlib.Core.Logic.{◌⊎◌, inl, inr}
use Prim.Native.Nat.{ℕ, ◌-◌}
use lib.Dec.{ltb}
use lib.ListN.{length}
use Rattle.paper.specs.declared.Geometry.{Geometry}
use Rattle.paper.specs.declared.PageState.{PageState}
use Rattle.paper.specs.declared.PageState.TheVariants.{Open, PartialOpen, Closed, Corrupted}
use Rattle.paper.specs.declared.Refusal.{Refusal}
use Rattle.paper.specs.declared.Refusal.TheVariants as refusal
use Rattle.paper.specs.Chip.{round_down, header_size, data_size, Event, plan, bind, Try, fails, gives, on_given, settled}
use Rattle.paper.specs.Scan.{page_walk, any_live}
use Rattle.paper.specs.Pages.{state, next, all_pages, youngest, repair}
use Rattle.paper.specs.Refusals.{Answer, done, shown, number, none, empty, refused}
use Rattle.paper.specs.Counts.{counted, longest, fit_by, fit, find_max_fit, space_of, space, space_left}
use Rattle.demand1.specs.Rows.{repaired, Fails, failed, OfCount}
use Rattle.demand1.proofs.EachEvent.{Tried, Any}
use Rattle.demand1.proofs.Steps.{is_fails, fails_not, steps_gives, steps_again}

-- ---- a count gives a number or none

abbrev Numbered : Answer → Type 0
Numbered done = ⊥
Numbered (shown n) = ⊥
Numbered (number n) = Unit {0}
Numbered none = Unit {0}
Numbered empty = ⊥
Numbered (refused r) = ⊥

cond_numbered : (t : Bool) (a b : Answer) → Numbered a → Numbered b → Numbered (cond t a b)
cond_numbered true a b h k = h
cond_numbered false a b h k = k

module _ (g : Geometry) (im : List ℕ) where
  longest_numbered : (rest : List ℕ) → Numbered (longest g rest)
  unfolding longest
  longest_numbered rest = cond_numbered (ltb (round_down g.word (length rest)) (header_size g)) none
      (number (round_down g.word (length rest) - header_size g)) tt tt

  by_numbered : (y : ℕ) (s : PageState) → Tried Any Numbered (fit_by g im y s)
  unfolding fit_by
  by_numbered y Open = tt
  by_numbered y PartialOpen = tt
  by_numbered y Closed = cond_numbered (any_live (page_walk g im (next g y)).heads) (longest g (page_walk g im y).rest) (number (data_size g))
      (longest_numbered (page_walk g im y).rest) tt
  by_numbered y Corrupted = tt

  fit_numbered : Tried Any Numbered (fit g im)
  unfolding fit
  fit_numbered = on (youngest g im)
    where
      on : (t : Try Unit ℕ) → Tried Any Numbered (on_given t (λ y. fit_by g im y (state g im (next g y))))
      on (fails u) = tt
      on (gives y) = by_numbered y (state g im (next g y))

  space_numbered : Tried Any Numbered (space g im)
  unfolding space
  space_numbered = on (space_of g im (all_pages g))
    where
      on : (t : Try Unit ℕ) → Tried Any Numbered (on_given t (λ n. gives (number n)))
      on (fails u) = tt
      on (gives n) = tt

-- ---- a step that only counts

module _ (g : Geometry) (im : List ℕ) (count : List ℕ → Try Unit Answer) (numbered : (im : List ℕ) → Tried Any Numbered (count im)) where
  counted_gives : {a : Answer} → count im ≡ gives a → counted g im count ≡ plan [] a
  unfolding counted bind
  counted_gives e = rw (steps_gives {W = Unit {0}} g (λ u im₁. plan [] (count im₁)) tt im e)

  counted_again : {u : Unit {0}} → count im ≡ fails u → counted g im count ≡ plan (repair g im) (settled (refused refusal.Corrupted) (count (repaired g im)))
  unfolding counted bind
  counted_again e =
      rw (steps_again {W = Unit {0}} g (λ u im₁. plan [] (count im₁)) tt im (ap (λ (t : Try Unit Answer). plan [] t) e))
      (ap (λ (es : List Event). plan es (settled (refused refusal.Corrupted) (count (repaired g im))))
      (append-nil (repair g im ++ []) ∙ append-nil (repair g im)))

  -- what is given is no refusal
  numbered_not : {t : Try Unit Answer} {a : Answer} {r : Refusal} → Tried Any Numbered t → t ≡ gives a → a ≡ refused r → ⊥
  numbered_not {r = r} h e q = subst (Tried {W = Unit {0}} Any Numbered) (e ∙ ap gives q) h

  told : (a : Answer) → Numbered a → (a ≡ none) ⊎ ((k : ℕ) × (a ≡ number k))
  told done h = absurd h
  told (shown k) h = absurd h
  told (number k) h = inr (k, refl)
  told none h = inl refl
  told empty h = absurd h
  told (refused r) h = absurd h

  of_counted : OfCount g im count (counted g im count)
  of_counted = by (count im) refl
    where
      again : (t : Try Unit Answer) → count (repaired g im) ≡ t → (u : Unit {0}) → count im ≡ fails u
          → settled (refused refusal.Corrupted) t ≡ refused refusal.Corrupted → Fails t
      again (fails v) q u e f = failed
      again (gives a) q u e f = absurd (numbered_not (numbered (repaired g im)) q f)

      numbers : {i : List ℕ} {a : Answer} → count i ≡ gives a → Numbered a
      numbers {i} e = subst (Tried {W = Unit {0}} Any Numbered) e (numbered i)

      rest : (t : Try Unit Answer) → count (repaired g im) ≡ t → (settled (refused refusal.Corrupted) t ≡ refused refusal.Corrupted → ⊥)
          → (settled (refused refusal.Corrupted) t ≡ none) ⊎ ((k : ℕ) × (settled (refused refusal.Corrupted) t ≡ number k))
      rest (fails u) e f = absurd (f refl)
      rest (gives a) e f = told a (numbers e)

      so : {t : Try Unit Answer} → Fails t → settled (refused refusal.Corrupted) t ≡ refused refusal.Corrupted
      so failed = refl

      by : (t : Try Unit Answer) → count im ≡ t → OfCount g im count (counted g im count)
      by (gives a) e = subst (OfCount g im count) (sym (counted_gives e)) (record {
        corrupted = (λ q. absurd (numbered_not (numbered im) e q), λ f. absurd (fails_not f.0 e));
        image = inl refl;
        otherwise = λ f. told a (numbers e);
      })
      by (fails u) e = subst (OfCount g im count) (sym (counted_again e)) (record {
        corrupted = (λ q. (is_fails e, again (count (repaired g im)) refl u e q), λ f. so f.1);
        image = inr refl;
        otherwise = rest (count (repaired g im)) refl;
      })

module _ (g : Geometry) (im : List ℕ) where
  pub of_fit : OfCount g im (fit g) (find_max_fit g im)
  unfolding find_max_fit
  of_fit = of_counted g im (fit g) (fit_numbered g)

  pub of_space : OfCount g im (space g) (space_left g im)
  unfolding space_left
  of_space = of_counted g im (space g) (space_numbered g)
