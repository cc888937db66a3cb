-- How far a table was read: it has the states of the pages that a search comes to. Assumes nothing.
use mathlib.Core.Path.{◌≡◌, refl, sym, ap, ◌∙◌, subst}
use mathlib.Core.Bool.{Bool, true, false, cond, false≢true}
use mathlib.Core.List.Memᴰ
use mathlib.Core.List.{List, [], ◌∷◌, Memᴰ}
use mathlib.Core.Logic.{⊎_elim}
use Prim.Native.Nat.{ℕ, zero, suc, ◌+◌, ◌-◌, ◌≤◌, ◌<◌}
use native.Mathlib.Omega.{arith}
use lib.ListN.{get_or}
use Rattle.paper.specs.declared.Geometry.{Geometry}
use Rattle.paper.specs.declared.PageState.{PageState}
use Rattle.paper.specs.declared.PageState.TheVariants.{Open, PartialOpen, Closed, Corrupted}
use Rattle.paper.specs.Chip.{gives}
use Rattle.paper.specs.Pages.{state, same, next, around, from, all_pages, Found, failed, found, missing, first, found_or, open_from, youngest}
use Rattle.laws.proofs.Ring.{next_in, next_on, next_round, all_pages_lem}
use Rattle.laws.proofs.Sides.{Apart, is, differs, apart}
use Rattle.page.specs.Table.{Has, Table, Passed, Covers}
use Rattle.page.proofs.Rings.{order_first, order_next, order_last}

-- ---- what is covered

module _ (g : Geometry) (im : List ℕ) (t : List PageState) (want : PageState) where
  -- a table of all pages covers a search along any of them
  pub table_covers : Table g im t → (k p : ℕ) → p < g.pages → Covers g im t want (around g k p)
  unfolding around
  table_covers tb zero p h = tt
  table_covers tb (suc k) p h = (tb.holds p h, λ _. table_covers tb k (next g p) (next_in g p h))

  -- n pages, from a on, are in the table; behind them it covers the search
  pub covers_on : (n a : ℕ) → a + n ≤ g.pages → ((q : ℕ) → a ≤ q → q < a + n → Has g im t q)
      → Covers g im t want (around g (g.pages - (a + n)) (a + n)) → Covers g im t want (around g (g.pages - a) a)
  covers_on zero a l f m = let e : a + 0 ≡ a = omega arith in (rw e at m)
  covers_on (suc n) a l f m =
      let e : a + suc n ≡ a + 1 + n = omega arith in
      rw (order_next g a (omega arith)) (
        f a (omega arith) (omega arith),
        λ _. covers_on n (a + 1) (omega arith) (λ q h k. f q (omega arith) (omega arith)) (rw e at m),
      )

  -- page p is in the table, and ends the search
  pub covers_end : (p : ℕ) → p < g.pages → Has g im t p → (Passed g im want p → ⊥) → Covers g im t want (around g (g.pages - p) p)
  covers_end p h e n = rw (order_next g p h) (e, λ k. absurd (n k))

  pub covers_last : (p : ℕ) → g.pages ≤ p → Covers g im t want (around g (g.pages - p) p)
  covers_last p h = rw (order_last g p h) tt

  -- ---- round from page y: the pages up to y are in the table, and behind y it covers the search

  module _ (y : ℕ) (hy : y < g.pages) (known : (q : ℕ) → q ≤ y → Has g im t q) where
    covers_low : (n a : ℕ) → a + n ≤ y + 1 → Covers g im t want (around g n a)
    unfolding around
    covers_low zero a l = tt
    covers_low (suc n) a l = (known a (omega arith), λ _. by (apart (a + 1) g.pages) (covers_low n (a + 1) (omega arith)))
      where
        by : Apart (a + 1) g.pages → Covers g im t want (around g n (a + 1)) → Covers g im t want (around g n (next g a))
        by (is e) m = let z : n ≡ 0 = omega arith in rw z tt
        by (differs d) m = rw (next_on g a d) m

    covers_high : (n a : ℕ) → a + suc n ≡ g.pages → Covers g im t want (around g (g.pages - a) a) → Covers g im t want (around g (suc (n + y)) a)
    unfolding around
    covers_high zero a e m =
        let r = rw (order_next g a (omega arith)) at m in
        let z : 0 + y ≡ y = omega arith in
        (r.0, λ _. rw (z, next_round g a (omega arith)) (covers_low y 0 (omega arith)))
    covers_high (suc n) a e m =
        let r = rw (order_next g a (omega arith)) at m in
        let z : suc n + y ≡ suc (n + y) = omega arith in
        (r.0, λ k. rw (z, next_on g a (λ d. absurd (omega arith))) (covers_high n (a + 1) (omega arith) (r.1 k)))

    pub covers_round : Covers g im t want (around g (g.pages - (y + 1)) (y + 1)) → Covers g im t want (from g y)
    unfolding from
    covers_round m =
        let n = g.pages - (y + 1) in
        let e : suc (n + y) ≡ g.pages = omega arith in
        let c : Covers g im t want (around g (g.pages - y) y) = rw (order_next g y hy) (known y (omega arith), λ _. m) in
        subst (λ (k : ℕ). Covers g im t want (around g k y)) e (covers_high n y (omega arith) c)

-- ---- what a search has come past

module _ (g : Geometry) (im : List ℕ) (t : List PageState) (want : PageState) where
  mem_has : (ps : List ℕ) → Covers g im t want ps → first g im want ps ≡ missing → (p : ℕ) → Memᴰ p ps → Has g im t p
  unfolding first
  mem_has [] m e p i = absurd (Memᴰ.not-nil i)
  mem_has (q ∷ ps) m e p i = by (same (state g im q) Corrupted) (same (state g im q) want) refl refl e (mem_has ps)
    where
      by : (s w : Bool) → same (state g im q) Corrupted ≡ s → same (state g im q) want ≡ w → cond s failed (cond w (found q) (first g im want ps)) ≡ missing
          → (Covers g im t want ps → first g im want ps ≡ missing → (p : ℕ) → Memᴰ p ps → Has g im t p) → Has g im t p
      by true w a b f r = cc
      by false true a b f r = cc
      by false false a b f r = ⊎_elim (λ z. subst (Has g im t) (sym z) m.0) (λ n. r (m.1 (a, b)) f p n) (Memᴰ.cases_cons i)

  -- where it found none, every page is in the table
  pub all_read : Covers g im t want (all_pages g) → first g im want (all_pages g) ≡ missing → Table g im t
  all_read m e = record { holds = λ p h. mem_has (all_pages g) m e p (all_pages_lem g p h) }

  -- where it found page p, the pages up to there are
  found_has : (n a p : ℕ) → a + n ≡ g.pages → Covers g im t want (around g (g.pages - a) a) → first g im want (around g (g.pages - a) a) ≡ found p
      → (same (state g im p) want ≡ true) × ((q : ℕ) → a ≤ q → q ≤ p → Has g im t q)
  unfolding first
  found_has zero a p l m e = let f = rw (order_last g a (omega arith)) at e in cc
  found_has (suc n) a p l m e =
      let k = rw (order_next g a (omega arith)) at m in
      let f = rw (order_next g a (omega arith)) at e in
      by (same (state g im a) Corrupted) (same (state g im a) want) refl refl f k (found_has n (a + 1) p (omega arith))
    where
      later : List ℕ
      later = around g (g.pages - (a + 1)) (a + 1)

      by : (s w : Bool) → same (state g im a) Corrupted ≡ s → same (state g im a) want ≡ w → cond s failed (cond w (found a) (first g im want later)) ≡ found p
          → Covers g im t want (a ∷ later)
          → (Covers g im t want later → first g im want later ≡ found p
          → (same (state g im p) want ≡ true) × ((q : ℕ) → a + 1 ≤ q → q ≤ p → Has g im t q))
          → (same (state g im p) want ≡ true) × ((q : ℕ) → a ≤ q → q ≤ p → Has g im t q)
      by true w x y f k r = cc
      by false true x y f k r =
          let z : a ≡ p = cc in
          (subst (λ (v : ℕ). same (state g im v) want ≡ true) z y, λ q h i. let v : a ≡ q = omega arith in subst (Has g im t) v k.0)
      by false false x y f k r =
          let s = r (k.1 (x, y)) f in
          (s.0, λ q h i. at (apart a q) k.0 (λ d. s.1 q (omega (arith, d)) i))
        where
          at : {q : ℕ} → Apart a q → Has g im t a → ((a ≡ q → ⊥) → Has g im t q) → Has g im t q
          at (is v) b c = subst (Has g im t) v b
          at (differs d) b c = c d

-- ---- behind the youngest page

module _ (g : Geometry) (im : List ℕ) (t : List PageState) where
  -- the youngest page y is PartialOpen, and the table has the pages up to y; or it has all
  pub data Reached (y : ℕ) : Type 0 where
    partly : same (state g im y) PartialOpen ≡ true → ((q : ℕ) → q ≤ y → Has g im t q) → Reached y
    wholly : Table g im t → Reached y

  pub reached : Covers g im t PartialOpen (all_pages g) → (y : ℕ) → youngest g im ≡ gives y → Reached y
  unfolding youngest
  reached m y e = by (first g im PartialOpen (all_pages g)) refl e
    where
      by : (x : Found) → first g im PartialOpen (all_pages g) ≡ x → found_or x (open_from g im (first g im Closed (all_pages g))) ≡ gives y → Reached y
      by failed a f = cc
      by (found p) a f =
          let z : p ≡ y = cc in
          let r = found_has g im t PartialOpen g.pages 0 y (omega arith) (rw (order_first g) at m) (rw (order_first g, z) at a) in
          partly r.0 (λ q h. r.1 q (omega arith) h)
      by missing a f = wholly (all_read g im t PartialOpen m a)

  module _ (y : ℕ) (h : y < g.pages) where
    pub known_to : Reached y → (q : ℕ) → q ≤ y → Has g im t q
    known_to (partly e f) q k = f q k
    known_to (wholly tb) q k = tb.holds q (omega arith)

    -- where the table has another state for y, it has all pages
    pub all_behind : Reached y → (want : PageState) → same (get_or t y Open) PartialOpen ≡ false → Covers g im t want (from g y)
    unfolding from
    all_behind (partly e f) want n = absurd (false≢true (sym n ∙ ap (λ s. same s PartialOpen) (f y (omega arith)) ∙ e))
    all_behind (wholly tb) want n = table_covers g im t want tb g.pages y h
