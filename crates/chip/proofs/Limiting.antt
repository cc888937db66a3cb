-- The whole call is a run without a limit, and the limited call a run with one: so what a run comes to, cut or not. Assumes nothing.
use mathlib.Core.Path.{◌≡◌, refl, sym, ap, ◌∙◌}
use mathlib.Core.Bool.{Bool, true, false, cond, false≢true}
use mathlib.Core.List.{List, []}
use Prim.Native.Nat.{ℕ}
use lib.Dec.{ltb}
use Rattle.std.proofs.Common.{Option, Some, None}
use Rattle.paper.specs.declared.Geometry.{Geometry}
use Rattle.paper.specs.declared.Refusal.TheVariants as refusal
use Rattle.paper.specs.Chip.{Event, store_count, Plan}
use Rattle.paper.specs.Refusals.{Answer, refused}
use Rattle.paper.specs.Calls.{limited}
use Rattle.chip.specs.declared.Budget.{Budget}
use Rattle.chip.specs.Run.{Spent, made, spend, Did, Ran, Showed, Whole, WholeShown, under, unless_cut}
use Rattle.chip.proofs.Running.{did_image, acted_buffer}
use Rattle.chip.proofs.Binding.{ran_of, showed_of}

abbrev limit : Option ℕ → Budget
limit l = record { 0 = l }

-- a run that was not cut is whole
module _ {A : Type 0} {g : Geometry} {b : Budget} {p : Plan A} {i o : List ℕ} {r : Spent} {x : A} (t : r.cut ≡ false) where
  ran_whole : Ran g b p i o r x → Whole g p i o x
  ran_whole h = record { image = did_image h.did t; answer = h.says t }

  showed_whole : {d e : List ℕ} → Showed g b p i o d e r x → WholeShown g p i o d e x
  showed_whole h = record { whole = ran_whole (ran_of h); buffer = acted_buffer h.acted t }

-- without a limit no run is cut
free_uncut : {g : Geometry} {es : List Event} {i o : List ℕ} {r : Spent} → Did g (limit None) es i o r → r.cut ≡ false
unfolding spend
free_uncut h = ap (λ (s : Spent). s.cut) h.answer

-- ---- with the limit k

is_cut : {g : Geometry} {k : ℕ} {es : List Event} {i o : List ℕ} {r : Spent}
    → Did g (limit (Some k)) es i o r → ltb k (store_count es) ≡ r.cut
unfolding spend
is_cut h = ap (λ (s : Spent). s.cut) (sym h.answer)

module _ {g : Geometry} {i o : List ℕ} {r : Spent} {x : Answer} (k : ℕ) (p : Plan Answer) where
  showed_limited_cut : {d e : List ℕ} → Showed g (limit (Some k)) p i o d e r x → r.cut ≡ true
      → WholeShown g (limited k p) i o d e (refused refusal.Cut)
  unfolding limited made
  showed_limited_cut h t =
      let a = h.acted in
      rw (is_cut a.did ∙ t) (record { whole = record { image = a.did.image; answer = refl }; buffer = a.buffer })

  showed_limited_done : {d e : List ℕ} → Showed g (limit (Some k)) p i o d e r x → r.cut ≡ false
      → WholeShown g (limited k p) i o d e x
  unfolding limited
  showed_limited_done h t = rw (is_cut h.acted.did ∙ t) (showed_whole t h)

-- ---- with a limit or without

module _ {g : Geometry} {i o d e : List ℕ} {r : Spent} {x : Answer} (b : Budget) (p : Plan Answer) where
  pub showed_under_cut : Showed g b p i o d e r x → r.cut ≡ true → WholeShown g (under b p) i o d e (refused refusal.Cut)
  showed_under_cut h t = go b.0 h
    where
      go : (l : Option ℕ) → Showed g (limit l) p i o d e r x → WholeShown g (under (limit l) p) i o d e (refused refusal.Cut)
      go (Some k) h = showed_limited_cut k p h t
      go None h = absurd (false≢true (sym (free_uncut h.acted.did) ∙ t))

  pub showed_under_done : Showed g b p i o d e r x → r.cut ≡ false → WholeShown g (under b p) i o d e x
  showed_under_done h t = go b.0 h
    where
      go : (l : Option ℕ) → Showed g (limit l) p i o d e r x → WholeShown g (under (limit l) p) i o d e x
      go (Some k) h = showed_limited_done k p h t
      go None h = showed_whole t h

  pub showed_under : Showed g b p i o d e r x → WholeShown g (under b p) i o d e (unless_cut r x)
  showed_under h = go r.cut refl
    where
      go : (c : Bool) → r.cut ≡ c → WholeShown g (under b p) i o d e (cond c (refused refusal.Cut) x)
      go true t = showed_under_cut h t
      go false t = showed_under_done h t

module _ {g : Geometry} {i o : List ℕ} {r : Spent} {x : Answer} (b : Budget) (p : Plan Answer) where
  pub under_cut : Ran g b p i o r x → r.cut ≡ true → Whole g (under b p) i o (refused refusal.Cut)
  under_cut h t = (showed_under_cut b p (showed_of [] h) t).whole

  pub under_done : Ran g b p i o r x → r.cut ≡ false → Whole g (under b p) i o x
  under_done h t = (showed_under_done b p (showed_of [] h) t).whole

  pub ran_under : Ran g b p i o r x → Whole g (under b p) i o (unless_cut r x)
  ran_under h = (showed_under b p (showed_of [] h)).whole
