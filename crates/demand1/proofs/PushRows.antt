-- Push, row by row: ItemTooBig, FullStorage and Corrupted. Assumes nothing.
use mathlib.Core.Path.{◌≡◌, refl, sym, ap, ◌∙◌, subst}
use mathlib.Core.Bool.{Bool, true, false, cond}
use mathlib.Core.List.{List, [], ◌++◌, append-nil}
use mathlib.Core.Logic.{◌⊎◌, inl, inr}
use Prim.Native.Nat.{ℕ, ◌+◌, ◌<◌}
use native.Mathlib.Omega.{arith}
use lib.ListN.{length}
use Rattle.paper.specs.declared.Geometry.{Geometry}
use Rattle.paper.specs.declared.Refusal.TheVariants as refusal
use Rattle.paper.specs.Chip.{header_size, data_size, Event, image_after, Plan, plan, bind, Try, fails, gives}
use Rattle.paper.specs.Pages.{repair}
use Rattle.paper.specs.Refusals.{refused}
use Rattle.paper.specs.Push.{Spot, full, at, too_big, spot_step, spot_for, push_at, push, Full}
use Rattle.laws.proofs.Accepted.{Laid}
use Rattle.demand1.specs.Rows.{repaired, Fails, failed, OnlyMark, OnStep, TooBig, OfPush}
use Rattle.demand1.proofs.Lists.{never}
use Rattle.demand1.proofs.Tests.{Tells, tells_lt, tells_or, tells_same, told_yes, told_no}
use Rattle.demand1.proofs.Repairs.{repaired_long}
use Rattle.demand1.proofs.Steps.{is_fails, fails_not, steps_gives, steps_again}
use Rattle.demand1.proofs.PushSteps.{FullStep, step_quiet, step_full, full_step}

module _ {g : Geometry} {n : ℕ} (S : Laid g n) (im : List ℕ) (long : length im ≡ n) (slip : List ℕ) (over : Bool) where
  abbrev step : List ℕ → Plan (Try Unit Spot)
  step i = spot_step g (length slip) over tt i

  abbrev FullFor : Type 0
  FullFor = OnStep g im slip (λ i. Full g i (length slip))

  -- what is known of the search for a spot: its events, and what it comes to
  record Spotted (p : Plan (Try Unit Spot)) : Type 0 where
    pub is_full_lem : (over ≡ false) × FullFor → p.answer ≡ gives full
    pub full_is : p.answer ≡ gives full → (over ≡ false) × FullFor
    pub full_only : p.answer ≡ gives full → OnlyMark g im p.events
    pub is_lost : Fails (step im).answer × Fails (step (repaired g im)).answer → Fails p.answer
    pub lost_is : Fails p.answer → Fails (step im).answer × Fails (step (repaired g im)).answer
    pub lost_only : Fails p.answer → p.events ≡ repair g im

  without : over ≡ false → (step im).answer ≡ (spot_step g (length slip) false tt im).answer
  without e = ap (λ (o : Bool). (spot_step g (length slip) o tt im).answer) e

  -- the step gave something at once
  spotted_once : (a : Spot) → (step im).answer ≡ gives a → Spotted (plan (step im).events (gives a))
  unfolding image_after
  spotted_once a e = record {
    is_full_lem = λ k. sym e ∙ by k.0 k.1;
    full_is = λ q. let F = at_full q in (F.off, inl F.is_full_lem);
    full_only = λ q. record { repairs = []; mark = (step im).events; all = refl; maybe_repaired = inl refl; maybe_marked = (at_full q).only };
    is_lost = λ k. absurd (fails_not k.0 e);
    lost_is = λ k. absurd (fails_not k refl);
    lost_only = λ k. absurd (fails_not k refl);
  }
    where
      at_full : ◌≡◌ {A = Try Unit Spot} (gives a) (gives full) → FullStep S (length slip) im long over
      at_full q = step_full S (length slip) im long over (e ∙ q)

      by : over ≡ false → FullFor → (step im).answer ≡ gives full
      by o (inl F) = without o ∙ full_step S (length slip) im long F
      by o (inr f) = absurd (fails_not f.0 (sym (without o) ∙ e))

  -- it failed, and ran again
  spotted_again : (step im).answer ≡ fails tt → Spotted (plan (repair g im ++ (step (repaired g im)).events) (step (repaired g im)).answer)
  spotted_again e = record {
    is_full_lem = λ k. by k.0 k.1;
    full_is = λ q. let F = at_full q in (F.off, inr (is_fails (sym (without F.off) ∙ e), F.is_full_lem));
    full_only = λ q. record {
      repairs = repair g im;
      mark = (step (repaired g im)).events;
      all = refl;
      maybe_repaired = inr refl;
      maybe_marked = (at_full q).only;
    };
    is_lost = λ k. k.1;
    lost_is = λ k. (is_fails e, k);
    lost_only = λ k. quiet (step (repaired g im)).answer refl k;
  }
    where
      l : length (repaired g im) ≡ n
      l = repaired_long S im long

      at_full : (step (repaired g im)).answer ≡ gives full → FullStep S (length slip) (repaired g im) l over
      at_full q = step_full S (length slip) (repaired g im) l over q

      by : over ≡ false → FullFor → (step (repaired g im)).answer ≡ gives full
      by o (inl F) = absurd (fails_not (is_fails e) (without o ∙ full_step S (length slip) im long F))
      by o (inr f) = ap (λ (x : Bool). (spot_step g (length slip) x tt (repaired g im)).answer) o ∙ full_step S (length slip) (repaired g im) l f.1

      quiet : (t : Try Unit Spot) → (step (repaired g im)).answer ≡ t → Fails t → repair g im ++ (step (repaired g im)).events ≡ repair g im
      quiet (gives a) q k = absurd (fails_not k refl)
      quiet (fails u) q k =
          ap (λ (p : Plan (Try Unit Spot)). repair g im ++ p.events) (step_quiet S (length slip) (repaired g im) l over q) ∙ append-nil (repair g im)

  spotted : Spotted (spot_for g im (length slip) over)
  unfolding spot_for
  spotted = by (step im).answer refl
    where
      by : (t : Try Unit Spot) → (step im).answer ≡ t → Spotted (spot_for g im (length slip) over)
      by (gives a) e = subst Spotted (sym (steps_gives g (spot_step g (length slip) over) tt im e)) (spotted_once a e)
      by (fails u) e = subst Spotted (sym (steps_again g (spot_step g (length slip) over) tt im (step_quiet S (length slip) im long over e))) (spotted_again e)

  -- ---- the rows

  big_tells : Tells (TooBig g (length slip)) (too_big g (length slip))
  unfolding too_big data_size
  big_tells = tells_same over_page over_data (tells_or (tells_lt 65535 (length slip)) (tells_lt (data_size g) (header_size g + length slip)))
    where
      over_page : (65535 < length slip) ⊎ (data_size g < header_size g + length slip) → TooBig g (length slip)
      over_page (inl l) = inl l
      over_page (inr l) = inr (omega arith)

      over_data : TooBig g (length slip) → (65535 < length slip) ⊎ (data_size g < header_size g + length slip)
      over_data (inl l) = inl l
      over_data (inr l) = inr (omega (arith, S.sized.room))

  of_big : TooBig g (length slip) → OfPush g im slip over (plan [] (refused refusal.ItemTooBig))
  of_big b = record {
    big = (λ e. b, λ e. refl);
    big_image = λ e. refl;
    full = (λ e. never (cc), λ k. absurd (k.1 b));
    full_image = λ e. never (cc);
    corrupted = (λ e. never (cc), λ k. absurd (k.0 b));
    corrupted_image = λ e. never (cc);
    otherwise = λ x y z. absurd (x refl);
  }

  -- an item that is not too big: by the spot that was found
  of_spot : (TooBig g (length slip) → ⊥) → (es : List Event) (t : Try Unit Spot) → Spotted (plan es t)
      → OfPush g im slip over (plan (es ++ (push_at g slip t (image_after g es im)).events) (push_at g slip t (image_after g es im)).answer)
  unfolding push_at
  of_spot b es (fails u) P = record {
    big = (λ e. never (cc), λ t. absurd (b t));
    big_image = λ e. never (cc);
    full = (λ e. never (cc), λ k. absurd (fails_not failed (P.is_full_lem (k.0, k.2))));
    full_image = λ e. never (cc);
    corrupted = (λ e. let l = P.lost_is failed in (b, l.0, l.1), λ k. refl);
    corrupted_image = λ e. append-nil es ∙ P.lost_only failed;
    otherwise = λ x y z. absurd (z refl);
  }
  of_spot b es (gives full) P = record {
    big = (λ e. never (cc), λ t. absurd (b t));
    big_image = λ e. never (cc);
    full = (λ e. let l = P.full_is refl in (l.0, b, l.1), λ k. refl);
    full_image = λ e. subst (OnlyMark g im) (sym (append-nil es)) (P.full_only refl);
    corrupted = (λ e. never (cc), λ k. absurd (fails_not (P.is_lost (k.1, k.2)) refl));
    corrupted_image = λ e. never (cc);
    otherwise = λ x y z. absurd (y refl);
  }
  of_spot b es (gives (at a)) P = record {
    big = (λ e. never (cc), λ t. absurd (b t));
    big_image = λ e. never (cc);
    full = (λ e. never (cc), λ k. absurd (let f = P.is_full_lem (k.0, k.2) in never (cc)));
    full_image = λ e. never (cc);
    corrupted = (λ e. never (cc), λ k. absurd (fails_not (P.is_lost (k.1, k.2)) refl));
    corrupted_image = λ e. never (cc);
    otherwise = λ x y z. refl;
  }

  pub of_push : OfPush g im slip over (push g im slip over)
  unfolding push bind
  of_push = by (too_big g (length slip)) refl
    where
      by : (t : Bool) → too_big g (length slip) ≡ t
          → OfPush g im slip over
          (cond t (plan [] (refused refusal.ItemTooBig)) (bind g im (spot_for g im (length slip) over) (push_at g slip)))
      by true e = of_big (told_yes big_tells e)
      by false e = of_spot (told_no big_tells e) (spot_for g im (length slip) over).events (spot_for g im (length slip) over).answer spotted
