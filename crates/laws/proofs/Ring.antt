-- The ring of pages: the next page, the page some places after another, and the list of all pages. Assumes nothing.
use mathlib.Core.Bool.{cond}
use mathlib.Core.List.{List, Memᴰ}
use mathlib.Core.Logic.{⊎_elim}
use mathlib.Core.Path.{◌≡◌, sym, ap, ◌∙◌, subst}
use Prim.Native.Nat.{ℕ, zero, suc, ◌+◌, ◌-◌, ◌≤◌, ◌<◌}
use native.Mathlib.Numerals.{add-one}
use native.Mathlib.Nat.{add-zero, zero-add}
use native.Mathlib.Omega.{arith}
use borrow.Author.Tests.{lt-ltb, le-ltb, eq-eqb, ne_eqb}
use lib.Dec.{ltb, eqb}
use Rattle.paper.specs.declared.Geometry.{Geometry}
use Rattle.paper.specs.Pages.{next, around, from, all_pages}
use Rattle.laws.proofs.Sides.{Side, below, above, side, Apart, is, differs, apart}

-- ---- the next page

module _ (g : Geometry) where
  pub next_round : (p : ℕ) → p + 1 ≡ g.pages → next g p ≡ 0
  unfolding next
  next_round p e = rw (eq-eqb (suc p) g.pages (sym (add-one p) ∙ e))

  pub next_on : (p : ℕ) → (p + 1 ≡ g.pages → ⊥) → next g p ≡ p + 1
  unfolding next
  next_on p n = rw (ne_eqb (suc p) g.pages (λ e. n (add-one p ∙ e))) (sym (add-one p))

  pub next_in : (p : ℕ) → p < g.pages → next g p < g.pages
  next_in p h = by (apart (p + 1) g.pages)
    where
      by : Apart (p + 1) g.pages → next g p < g.pages
      by (is e) = rw (next_round p e) (omega arith)
      by (differs n) = rw (next_on p n) (omega (arith, n))

-- ---- the page i places after o

unfoldable pub turn : Geometry → ℕ → ℕ → ℕ
turn g o i = cond (ltb (o + i) g.pages) (o + i) (o + i - g.pages)

module _ (g : Geometry) where
  turn_low : (o i : ℕ) → o + i < g.pages → turn g o i ≡ o + i
  unfolding turn
  turn_low o i h = rw (lt-ltb (o + i) g.pages h)

  turn_high : (o i : ℕ) → g.pages ≤ o + i → turn g o i ≡ o + i - g.pages
  unfolding turn
  turn_high o i h = rw (le-ltb (o + i) g.pages h)

  pub turn_lt : (o i : ℕ) → o < g.pages → i ≤ g.pages → turn g o i < g.pages
  turn_lt o i h k = by (side (o + i) g.pages)
    where
      by : Side (o + i) g.pages → turn g o i < g.pages
      by (below l) = rw (turn_low o i l) l
      by (above l) = rw (turn_high o i l) (omega arith)

  pub turn_zero : (o : ℕ) → o < g.pages → turn g o 0 ≡ o
  turn_zero o h = turn_low o 0 (omega arith) ∙ add-zero o

  -- once round
  pub turn_full : (o : ℕ) → o < g.pages → turn g o g.pages ≡ o
  turn_full o h = turn_high o g.pages (omega arith) ∙ omega arith

  -- no page comes twice
  pub turn_once : (o i j : ℕ) → o < g.pages → i < g.pages → j < g.pages → turn g o i ≡ turn g o j → i ≡ j
  turn_once o i j h k l e = by (side (o + i) g.pages) (side (o + j) g.pages)
    where
      by : Side (o + i) g.pages → Side (o + j) g.pages → i ≡ j
      by (below p) (below q) = omega (arith, turn_low o i p, turn_low o j q)
      by (below p) (above q) = omega (arith, turn_low o i p, turn_high o j q)
      by (above p) (below q) = omega (arith, turn_high o i p, turn_low o j q)
      by (above p) (above q) = omega (arith, turn_high o i p, turn_high o j q)

  -- no other page is o itself
  pub turn_apart : (o i : ℕ) → o < g.pages → 0 < i → i < g.pages → turn g o i ≡ o → ⊥
  turn_apart o i h l k e = let z : i ≡ 0 = turn_once o i 0 h k (omega arith) (e ∙ sym (turn_zero o h)) in omega arith

  -- every page is some places after o
  pub place_of : (o p : ℕ) → o < g.pages → p < g.pages → (i : ℕ) × (i < g.pages) × (turn g o i ≡ p)
  place_of o p h k = by (side p o)
    where
      by : Side p o → (i : ℕ) × (i < g.pages) × (turn g o i ≡ p)
      by (below l) = (p + g.pages - o, omega arith, turn_high o (p + g.pages - o) (omega arith) ∙ omega arith)
      by (above l) = (p - o, omega arith, turn_low o (p - o) (omega arith) ∙ omega arith)

  pub next_turn : (o i : ℕ) → o < g.pages → i < g.pages → next g (turn g o i) ≡ turn g o (suc i)
  unfolding next
  next_turn o i h k = by (side (suc (o + i)) g.pages) (side (o + i) g.pages)
    where
      n : ℕ
      n = g.pages

      by : Side (suc (o + i)) n → Side (o + i) n → cond (eqb (suc (turn g o i)) n) 0 (suc (turn g o i)) ≡ turn g o (suc i)
      by (below l) (below m) = rw (turn_low o i m, ne_eqb (suc (o + i)) n (omega arith), turn_low o (suc i) (omega arith)) (omega arith)
      by (below l) (above m) = absurd (omega arith)
      by (above l) (below m) = rw (turn_low o i m, eq-eqb (suc (o + i)) n (omega arith), turn_high o (suc i) (omega arith)) (omega arith)
      by (above l) (above m) = rw (turn_high o i m, ne_eqb (suc (o + i - n)) n (omega arith), turn_high o (suc i) (omega arith)) (omega arith)

  pub next_is : (p : ℕ) → p < g.pages → next g p ≡ turn g p 1
  next_is p h = ap (next g) (sym (turn_zero p h)) ∙ next_turn p 0 h (omega arith)

  -- one place on, and then i places
  pub turn_suc : (o i : ℕ) → o < g.pages → i < g.pages → turn g (turn g o 1) i ≡ turn g o (suc i)
  turn_suc o zero h k = turn_zero (turn g o 1) (turn_lt o 1 h (omega arith))
  turn_suc o (suc i) h k =
      sym (next_turn (turn g o 1) i (turn_lt o 1 h (omega arith)) (omega arith)) ∙ ap (next g) (turn_suc o i h (omega arith))
      ∙ next_turn o (suc i) h k

-- ---- the list of all pages, from any page on

module _ (g : Geometry) where
  pub around_in : (k p q : ℕ) → p < g.pages → Memᴰ q (around g k p) → q < g.pages
  unfolding around
  around_in zero p q h m = absurd (mathlib.Core.List.Memᴰ.not-nil m)
  around_in (suc k) p q h m = ⊎_elim (λ e. rw e h) (λ n. around_in k (next g p) q (next_in g p h) n) (mathlib.Core.List.Memᴰ.cases_cons m)

  around_has : (o : ℕ) → o < g.pages → (m i k : ℕ) → m < k → i + m < g.pages → Memᴰ (turn g o (i + m)) (around g k (turn g o i))
  unfolding around
  around_has o h m i zero l n = absurd (omega arith)
  around_has o h zero i (suc k) l n = mathlib.Core.List.Memᴰ.head (ap (turn g o) (add-zero i))
  around_has o h (suc m) i (suc k) l n =
      let z : suc i + m ≡ i + suc m = omega arith in
      let r : Memᴰ (turn g o (i + suc m)) (around g k (next g (turn g o i))) =
      rw (next_turn g o i h (omega arith), ← z) (around_has o h m (suc i) k (omega arith) (omega arith)) in
      mathlib.Core.List.Memᴰ.tail r

  pub from_has : (q p : ℕ) → q < g.pages → p < g.pages → Memᴰ p (from g q)
  unfolding from
  from_has q p h k =
      let P = place_of g q p h k in
      let z : 0 + P.0 ≡ P.0 = zero-add P.0 in
      let all : List ℕ = around g g.pages (turn g q 0) in
      let m : Memᴰ p all = subst (λ (x : ℕ). Memᴰ x all) (ap (turn g q) z ∙ P.2) (around_has q h P.0 0 g.pages P.1 (omega (arith, P.1))) in
      subst (λ (x : ℕ). Memᴰ p (around g g.pages x)) (turn_zero g q h) m

  pub all_pages_lem : (p : ℕ) → p < g.pages → Memᴰ p (all_pages g)
  unfolding all_pages
  all_pages_lem p h = from_has 0 p (omega arith) h

  pub pages_only : (q : ℕ) → 0 < g.pages → Memᴰ q (all_pages g) → q < g.pages
  unfolding all_pages from
  pages_only q h = around_in g.pages 0 q h
