-- Budgets: events in a row under a budget are the first ones under it and then the others under what is left of it. Assumes nothing.
use mathlib.Core.Path.{◌≡◌, refl}
use mathlib.Core.Bool.{true, false, false≢true}
use mathlib.Core.List.{List, [], ◌∷◌, ◌++◌}
use Prim.Native.Nat.{ℕ, zero, suc, ◌+◌, ◌-◌, ◌≤◌, ◌<◌}
use native.Mathlib.Omega.{arith}
use borrow.Author.Tests.{le-ltb, ltb-true, ltb-false}
use lib.Dec.{ltb}
use Rattle.std.proofs.Common.{Option, Some, None}
use Rattle.std.proofs.lemmas.Bool.Decides.{nat_tests}
use Rattle.paper.specs.Chip.{Event, store, erase, copy, store_count, before}
use Rattle.laws.proofs.Events.{before_less, before_more, before_all}
use Rattle.chip.specs.declared.Budget.{Budget}
use Rattle.chip.specs.Run.{made, spend}

-- ---- what is spent

abbrev limit : Option ℕ → Budget
limit l = record { 0 = l }

pub spend_more : (b : Budget) (m n : ℕ) → (spend b m).cut ≡ false → spend (spend b m).budget n ≡ spend b (m + n)
unfolding spend
spend_more b m n e = go b.0 e
  where
    go : (l : Option ℕ) → (spend (limit l) m).cut ≡ false → spend (spend (limit l) m).budget n ≡ spend (limit l) (m + n)
    go None e = refl
    go (Some k) e =
        let h : m ≤ k = ltb-false k m e in
        let s : k - m - n ≡ k - (m + n) = omega arith in
        let t : ltb (k - m) n ≡ ltb k (m + n) = grind (arith, nat_tests) in
        rw (s, t)

pub spend_cut : (b : Budget) (m n : ℕ) → (spend b m).cut ≡ true → spend b (m + n) ≡ spend b m
unfolding spend
spend_cut b m n e = go b.0 e
  where
    go : (l : Option ℕ) → (spend (limit l) m).cut ≡ true → spend (limit l) (m + n) ≡ spend (limit l) m
    go None e = refl
    go (Some k) e =
        let h : k < m = ltb-true k m e in
        let s : k - (m + n) ≡ k - m = omega arith in
        let t : ltb k (m + n) ≡ ltb k m = grind (arith, nat_tests) in
        rw (s, t)

pub spend_none : (b : Budget) → spend b 0 ≡ record { cut = false; budget = b }
unfolding spend
spend_none b = go b.0
  where
    go : (l : Option ℕ) → spend (limit l) 0 ≡ record { cut = false; budget = limit l }
    go (Some k) = let z : k - 0 ≡ k = omega arith in rw (z, le-ltb k 0 (omega arith))
    go None = refl

-- ---- what is made

pub made_more : (b : Budget) (xs ys : List Event) → (spend b (store_count xs)).cut ≡ false → made b (xs ++ ys) ≡ xs ++ made (spend b (store_count xs)).budget ys
unfolding spend made
made_more b xs ys e = go b.0 e
  where
    go : (l : Option ℕ) → (spend (limit l) (store_count xs)).cut ≡ false
        → made (limit l) (xs ++ ys) ≡ xs ++ made (spend (limit l) (store_count xs)).budget ys
    go None e = refl
    go (Some k) e = before_more k xs ys (ltb-false k (store_count xs) e)

pub made_cut : (b : Budget) (xs ys : List Event) → (spend b (store_count xs)).cut ≡ true → made b (xs ++ ys) ≡ made b xs
unfolding spend made
made_cut b xs ys e = go b.0 e
  where
    go : (l : Option ℕ) → (spend (limit l) (store_count xs)).cut ≡ true → made (limit l) (xs ++ ys) ≡ made (limit l) xs
    go None e = absurd (false≢true e)
    go (Some k) e = before_less k xs ys (ltb-true k (store_count xs) e)

pub made_all : (b : Budget) (xs : List Event) → (spend b (store_count xs)).cut ≡ false → made b xs ≡ xs
unfolding spend made
made_all b xs e = go b.0 e
  where
    go : (l : Option ℕ) → (spend (limit l) (store_count xs)).cut ≡ false → made (limit l) xs ≡ xs
    go None e = refl
    go (Some k) e = before_all k xs (ltb-false k (store_count xs) e)

-- one store that is too much
pub made_unpaid : (b : Budget) (x : Event) → store_count (x ∷ []) ≡ 1 → (spend b 1).cut ≡ true → made b (x ∷ []) ≡ []
unfolding spend made before store_count
made_unpaid b x one e = go b.0 x one e
  where
    go : (l : Option ℕ) (x : Event) → store_count (x ∷ []) ≡ 1 → (spend (limit l) 1).cut ≡ true → made (limit l) (x ∷ []) ≡ []
    go None x one e = absurd (false≢true e)
    go (Some (suc k)) x one e = absurd (omega (arith, ltb-true (suc k) 1 e))
    go (Some zero) (store a bs) one e = refl
    go (Some zero) (erase p) one e = refl
    go (Some zero) (copy a n) one e = absurd (omega arith)
