-- Runs of events: what was done before and what is done after are one run; after a cut nothing is done. Assumes nothing.
use mathlib.Core.Path.{◌≡◌, refl, sym, ap, ap₂, ◌∙◌}
use mathlib.Core.Bool.{true, false}
use mathlib.Core.List.{List, [], ◌∷◌, ◌++◌}
use Prim.Native.Nat.{ℕ}
use Rattle.paper.specs.declared.Geometry.{Geometry}
use Rattle.paper.specs.Chip.{Event, image_by, image_after, buffer_after, store_count}
use Rattle.laws.proofs.Events.{image_append, buffer_append, count_append, copies_image, storeless}
use Rattle.chip.specs.declared.Budget.{Budget}
use Rattle.chip.specs.Run.{Spent, made, spend, Did, Acted}
use Rattle.chip.proofs.Budgets.{spend_more, spend_cut, spend_none, made_more, made_cut, made_all, made_unpaid}

-- ---- stores

module _ {g : Geometry} {b : Budget} {xs : List Event} {i o : List ℕ} {r : Spent} (h : Did g b xs i o r) where
  cut_of : (spend b (store_count xs)).cut ≡ r.cut
  cut_of = ap (λ (x : Spent). x.cut) (sym h.answer)

  -- a run that was not cut made all its events
  pub did_image : r.cut ≡ false → o ≡ image_after g xs i
  did_image e = h.image ∙ ap (λ (x : List Event). image_after g x i) (made_all b xs (cut_of ∙ e))

  pub did_then : {ys : List Event} {p : List ℕ} {q : Spent} → r.cut ≡ false → Did g r.budget ys o p q → Did g b (xs ++ ys) i p q
  did_then {ys} {p} {q} e f =
      let c : Budget = (spend b (store_count xs)).budget in
      let t : r.budget ≡ c = ap (λ (x : Spent). x.budget) h.answer in
      record {
        image = f.image ∙ ap₂ (λ (x : Budget) (y : List ℕ). image_after g (made x ys) y) t (did_image e)
            ∙ sym (image_append g xs (made c ys) i) ∙ ap (λ (x : List Event). image_after g x i) (sym (made_more b xs ys (cut_of ∙ e)));
        answer = f.answer ∙ ap (λ (x : Budget). spend x (store_count ys)) t ∙ spend_more b (store_count xs) (store_count ys) (cut_of ∙ e)
            ∙ ap (spend b) (sym (count_append xs ys));
      }

  pub did_cut : (ys : List Event) → r.cut ≡ true → Did g b (xs ++ ys) i o r
  did_cut ys e = record {
    image = h.image ∙ ap (λ (x : List Event). image_after g x i) (sym (made_cut b xs ys (cut_of ∙ e)));
    answer = h.answer ∙ sym (spend_cut b (store_count xs) (store_count ys) (cut_of ∙ e)) ∙ ap (spend b) (sym (count_append xs ys));
  }

-- one store, or one erase, for which the budget was asked
module _ (g : Geometry) (b : Budget) (x : Event) (i : List ℕ) (r : Spent) (one : store_count (x ∷ []) ≡ 1) (e : r ≡ spend b 1) where
  spent : r ≡ spend b (store_count (x ∷ []))
  spent = e ∙ ap (spend b) (sym one)

  pub did_paid : (o : List ℕ) → r.cut ≡ false → o ≡ image_by g x i → Did g b (x ∷ []) i o r
  unfolding image_after
  did_paid o f h = record {
    image = h ∙ ap (λ (l : List Event). image_after g l i) (sym (made_all b (x ∷ []) (ap (λ (s : Spent). s.cut) (sym spent) ∙ f)));
    answer = spent;
  }

  pub did_unpaid : r.cut ≡ true → Did g b (x ∷ []) i i r
  unfolding image_after
  did_unpaid f = record {
    image = sym (ap (λ (l : List Event). image_after g l i) (made_unpaid b x one (ap (λ (s : Spent). s.cut) (sym e) ∙ f)));
    answer = spent;
  }

-- ---- stores and copies

module _ {g : Geometry} {b : Budget} {xs : List Event} {i o d e : List ℕ} {r : Spent} (h : Acted g b xs i o d e r) where
  pub acted_buffer : r.cut ≡ false → e ≡ buffer_after g xs i d
  acted_buffer f = h.buffer ∙ ap (λ (x : List Event). buffer_after g x i d) (made_all b xs (cut_of h.did ∙ f))

  pub acted_then : {ys : List Event} {p q : List ℕ} {s : Spent} → r.cut ≡ false → Acted g r.budget ys o p e q s → Acted g b (xs ++ ys) i p d q s
  acted_then {ys} {p} {q} {s} f k =
      let c : Budget = (spend b (store_count xs)).budget in
      let t : r.budget ≡ c = ap (λ (x : Spent). x.budget) h.did.answer in
      record {
        did = did_then h.did f k.did;
        buffer = k.buffer
            ∙ ap (λ (x : Budget). buffer_after g (made x ys) o e) t
            ∙ ap₂ (buffer_after g (made c ys)) (did_image h.did f) (acted_buffer f)
            ∙ sym (buffer_append g xs (made c ys) i d)
            ∙ ap (λ (x : List Event). buffer_after g x i d) (sym (made_more b xs ys (cut_of h.did ∙ f)));
      }

  pub acted_cut : (ys : List Event) → r.cut ≡ true → Acted g b (xs ++ ys) i o d e r
  acted_cut ys f = record {
    did = did_cut h.did ys f;
    buffer = h.buffer ∙ ap (λ (x : List Event). buffer_after g x i d) (sym (made_cut b xs ys (cut_of h.did ∙ f)));
  }

-- copies alone are made under any budget, and leave the image
pub acted_copies : (g : Geometry) (b : Budget) (es : List Event) (i d e : List ℕ) → store_count es ≡ 0 → e ≡ buffer_after g es i d
    → Acted g b es i i d e (record { cut = false; budget = b })
acted_copies g b es i d e h q =
    let s : record { cut = false; budget = b } ≡ spend b (store_count es) = sym (spend_none b) ∙ ap (spend b) (sym h) in
    let m : made b es ≡ es = made_all b es (ap (λ (x : Spent). x.cut) (sym s)) in
    record {
      did = record { image = sym (ap (λ (x : List Event). image_after g x i) m ∙ copies_image g es i (storeless es h)); answer = s };
      buffer = q ∙ ap (λ (x : List Event). buffer_after g x i d) (sym m);
    }

-- no event at all
pub acted_none : (g : Geometry) (b : Budget) (i d : List ℕ) → Acted g b [] i i d d (record { cut = false; budget = b })
unfolding store_count buffer_after
acted_none g b i d = acted_copies g b [] i d d refl refl

pub did_none : (g : Geometry) (b : Budget) (i : List ℕ) → Did g b [] i i (record { cut = false; budget = b })
did_none g b i = (acted_none g b i []).did
