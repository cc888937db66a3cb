-- The store limit, row 7: it cuts a call exactly where the call has more stores; no call answers "cut" by itself. Assumes nothing.
use mathlib.Core.Path.{◌≡◌, refl, ap, ◌∙◌}
use mathlib.Core.Bool.{Bool, true, false, cond}
use mathlib.Core.List.{List, [], ◌∷◌}
use mathlib.Core.Logic.{◌⊎◌, inl, inr}
use Prim.Native.Nat.{ℕ, zero, suc, ◌<◌}
use native.Mathlib.Omega.{arith}
use borrow.Author.Tests.{ltb-true, lt-ltb}
use lib.Dec.{ltb}
use lib.ListN.{length}
use Rattle.std.specs.Prelude.{Result, Ok, Err}
use Rattle.paper.specs.declared.Shape.{Shape}
use Rattle.paper.specs.declared.Geometry.{Geometry}
use Rattle.paper.specs.declared.Refusal.{Refusal}
use Rattle.paper.specs.declared.Refusal.TheVariants as refusal
use Rattle.paper.specs.Chip.{Event, store, erase, copy, store_count, before, Plan, plan}
use Rattle.paper.specs.Refusals.{check, Answer, number, none, refused}
use Rattle.paper.specs.Calls.{erase_all, Call, pushes, peeks, pops, fits, spaces, erases_all, planned, call, plan_of, requested, limited}
use Rattle.laws.proofs.Accepted.{Laid, accepted_from}
use Rattle.demand1.specs.Rows.{OfCut}
use Rattle.demand1.proofs.Lists.{never}
use Rattle.demand1.proofs.Checks.{check_refuses}
use Rattle.demand1.proofs.PushRows.{of_push}
use Rattle.demand1.proofs.SearchRows.{of_peek, of_pop}
use Rattle.demand1.proofs.Counts.{of_fit, of_space}

-- ---- no call answers "cut"

abbrev NotCut : Answer → Type 0
NotCut a = a ≡ refused refusal.Cut → ⊥

counts : {a : Answer} → (a ≡ none) ⊎ ((k : ℕ) × (a ≡ number k)) → NotCut a
counts (inl d) e = never (cc)
counts (inr d) e = let f = d.1 in never (cc)

plan_uncut : {g : Geometry} {n : ℕ} → Laid g n → (im : List ℕ) → length im ≡ n → (c : Call) → NotCut (plan_of g im c).answer
unfolding plan_of erase_all
plan_uncut {g} S im size (pushes slip over) e =
    let d = (of_push S im size slip over).otherwise (λ x. never (cc)) (λ x. never (cc)) (λ x. never (cc)) in
    never (cc)
plan_uncut {g} S im size (peeks b) e =
    let d = (of_peek S im size (length b)).otherwise (λ x. never (cc)) (λ k x. never (cc)) (λ x. never (cc)) in
    let f = d.1 in never (cc)
plan_uncut {g} S im size (pops b) e =
    let d = (of_pop S im size (length b)).otherwise (λ x. never (cc)) (λ k x. never (cc)) (λ x. never (cc)) in
    let f = d.1 in never (cc)
plan_uncut {g} S im size fits e = counts ((of_fit g im).otherwise (λ x. never (cc))) e
plan_uncut {g} S im size spaces e = counts ((of_space g im).otherwise (λ x. never (cc))) e
plan_uncut {g} S im size erases_all e = never (cc)

requested_uncut : (s : Shape) (im : List ℕ) (c : Call) → NotCut (requested s im c).answer
unfolding requested call
requested_uncut s im c = by (check (length im) s) refl
  where
    by : (t : Result Geometry Refusal) → check (length im) s ≡ t → NotCut (planned t (λ g. plan_of g im c)).answer
    by (Ok g) q e = plan_uncut (accepted_from (length im) s g q).laid im refl c e
    by (Err r) q e = let z : r ≡ refusal.Cut = cc in ((check_refuses (length im) s refusal.Cut).0 (q ∙ ap Err z)).0

-- ---- a limit

count_before : (k : ℕ) (es : List Event) → k < store_count es → store_count (before k es) ≡ k
unfolding store_count before
count_before k [] h = absurd (omega arith)
count_before k (copy a n ∷ es) h = count_before k es h
count_before zero (store a word ∷ es) h = refl
count_before zero (erase p ∷ es) h = refl
count_before (suc k) (store a word ∷ es) h = ap suc (count_before k es (omega arith))
count_before (suc k) (erase p ∷ es) h = ap suc (count_before k es (omega arith))

module _ (k : ℕ) (p : Plan Answer) where
  limited_cut : k < store_count p.events → limited k p ≡ plan (before k p.events) (refused refusal.Cut)
  unfolding limited
  limited_cut h = rw (lt-ltb k (store_count p.events) h)

  limited_whole : (k < store_count p.events → ⊥) → limited k p ≡ p
  unfolding limited
  limited_whole h = by (ltb k (store_count p.events)) refl
    where
      by : (t : Bool) → ltb k (store_count p.events) ≡ t → cond t (plan (before k p.events) (refused refusal.Cut)) p ≡ p
      by true e = absurd (h (ltb-true k (store_count p.events) e))
      by false e = refl

  cut_is : NotCut p.answer → (limited k p).answer ≡ refused refusal.Cut → k < store_count p.events
  unfolding limited
  cut_is f = by (ltb k (store_count p.events)) refl
    where
      by : (t : Bool) → ltb k (store_count p.events) ≡ t
          → (cond t (plan (before k p.events) (refused refusal.Cut)) p).answer ≡ refused refusal.Cut → k < store_count p.events
      by true q e = ltb-true k (store_count p.events) q
      by false q e = absurd (f e)

pub of_cut : OfCut
of_cut = record {
  stores = λ k p h. ap (λ (x : Plan Answer). x.events) (limited_cut k p h);
  count = λ k p h. ap (λ (x : Plan Answer). store_count x.events) (limited_cut k p h) ∙ count_before k p.events h;
  whole = limited_whole;
  answered = λ k s im c. (cut_is k (requested s im c) (requested_uncut s im c), λ h. ap (λ (x : Plan Answer). x.answer) (limited_cut k (requested s im c) h));
}
