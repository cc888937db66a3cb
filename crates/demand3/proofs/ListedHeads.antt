-- The list with its addresses, as the present headers of a run of pages from the oldest to the current one. Assumes nothing.
use mathlib.Core.Bool.{cond, false}
use mathlib.Core.List.{List, [], ◌++◌, append_assoc}
use mathlib.Core.Path.{◌≡◌, refl, sym, ap, ap₂, ◌∙◌}
use Prim.Native.Nat.{ℕ, zero, suc, ◌+◌, ◌≤◌, ◌<◌}
use native.Mathlib.Nat.{add-zero, zero-add, suc-add}
use native.Mathlib.Omega.{arith}
use borrow.Author.Tests.{eq-eqb, ne_eqb}
use lib.Dec.{eqb}
use Rattle.paper.specs.declared.Geometry.{Geometry}
use Rattle.paper.specs.declared.PageState.TheVariants.{Open, PartialOpen}
use Rattle.paper.specs.Scan.{Head, page_walk}
use Rattle.paper.specs.Pages.{around, from, state, same}
use Rattle.laws.proofs.Ring.{turn, turn_lt, turn_zero, turn_once, next_turn}
use Rattle.laws.proofs.Sides.{Side, below, above, side}
use Rattle.demand3.specs.Addresses.{presents, waiting_heads_on, waiting_heads}
use Rattle.demand3.proofs.RingShape.{Now, partly, open_after, open_all, RingShape, youngest_is, oldest_is}

-- the present headers of page p
abbrev pub heads_in : Geometry → List ℕ → ℕ → List Head
heads_in g im p = presents (page_walk g im p).heads

-- those of m pages, from i places after o on
unfoldable pub run_heads : Geometry → List ℕ → ℕ → ℕ → ℕ → List Head
run_heads g im o i zero = []
run_heads g im o i (suc m) = heads_in g im (turn g o i) ++ run_heads g im o (suc i) m

pub heads_append : (g : Geometry) (im : List ℕ) (o i m k : ℕ) → run_heads g im o i (m + k) ≡ run_heads g im o i m ++ run_heads g im o (i + m) k
unfolding run_heads
heads_append g im o i zero k = rw (zero-add, add-zero)
heads_append g im o i (suc m) k =
    let z : suc i + m ≡ i + suc m = omega arith in
    let p : List Head = heads_in g im (turn g o i) in
    rw suc-add (ap (λ (l : List Head). p ++ l) (heads_append g im o (suc i) m k ∙ ap (λ (x : ℕ). run_heads g im o (suc i) m ++ run_heads g im o x k) z)
    ∙ sym (append_assoc p (run_heads g im o (suc i) m) (run_heads g im o (i + suc m) k)))

-- two images whose pages have the same items
pub heads_same : (g : Geometry) (im jm : List ℕ) (o i m : ℕ) → ((j : ℕ) → i ≤ j → j < i + m → heads_in g im (turn g o j) ≡ heads_in g jm (turn g o j))
    → run_heads g im o i m ≡ run_heads g jm o i m
unfolding run_heads
heads_same g im jm o i zero f = refl
heads_same g im jm o i (suc m) f =
    ap₂ (λ (x y : List Head). x ++ y) (f i (omega arith) (omega arith)) (heads_same g im jm o (suc i) m (λ j h k. f j (omega arith) (omega arith)))

-- where Open pages have no present item, the list is that of the run from the oldest page to the current one
module _ (g : Geometry) (im : List ℕ) (o b : ℕ) (S : RingShape g im o b) (E : (p : ℕ) → p < g.pages → state g im p ≡ Open → heads_in g im p ≡ []) where
  wait : (m i k : ℕ) → i + m ≡ b → m < k → waiting_heads_on g im (turn g o b) (around g k (turn g o i)) ≡ run_heads g im o i (suc m)
  unfolding waiting_heads_on around run_heads
  wait m i zero e h = let z : ⊥ = omega arith in absurd z
  wait zero i (suc k) e h =
      let z : i ≡ b = omega arith in
      rw (z, eq-eqb (turn g o b) (turn g o b) refl)
  wait (suc m) i (suc k) e h =
      let r = S.run_in in
      let ne : eqb (turn g o i) (turn g o b) ≡ false =
      ne_eqb (turn g o i) (turn g o b) (λ q. let z : i ≡ b = turn_once g o i b S.old_in (omega arith) S.run_in q in omega arith) in
      rw (ne, next_turn g o i S.old_in (omega arith))
      (ap (λ (l : List Head). heads_in g im (turn g o i) ++ l) (by (side (suc i) b) (wait m (suc i) k (omega arith) (omega arith))))
    where
      later : List Head
      later = waiting_heads_on g im (turn g o b) (around g k (turn g o (suc i)))

      Goal : Type 0
      Goal = cond (same (state g im (turn g o (suc i))) Open) [] later ≡ run_heads g im o (suc i) (suc m)

      on : suc i ≡ b → later ≡ run_heads g im o (suc i) (suc m) → Now (state g im (turn g o b)) o b → Goal
      on z ih (partly q) =
          let s : state g im (turn g o (suc i)) ≡ PartialOpen = rw z q in
          rw s ih
      on z ih (open_after q f) =
          let s : state g im (turn g o (suc i)) ≡ Open = rw z q in
          let zm : m ≡ 0 = omega arith in
          rw (s, zm, E (turn g o (suc i)) (turn_lt g o (suc i) S.old_in (omega (arith, S.run_in))) s)
      on z ih (open_all q f f') = let s : ⊥ = omega arith in absurd s

      by : Side (suc i) b → later ≡ run_heads g im o (suc i) (suc m) → Goal
      by (below l) ih = rw (S.closed (suc i) l) ih
      by (above l) ih = on (omega arith) ih S.now

  pub waiting_heads_are : waiting_heads g im ≡ run_heads g im o 0 (suc b)
  unfolding waiting_heads from
  waiting_heads_are =
      rw (oldest_is g im o b S, youngest_is g im o b S)
      (ap (λ (x : ℕ). waiting_heads_on g im (turn g o b) (around g g.pages x)) (sym (turn_zero g o S.old_in))
      ∙ wait b 0 g.pages (zero-add b) S.run_in)
