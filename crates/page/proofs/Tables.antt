-- A table of states is read page by page, up to where a search ends. Assumes nothing.
use mathlib.Core.Path.{◌≡◌, ◌∙◌}
use mathlib.Core.List.{List}
use Prim.Native.Nat.{ℕ, ◌+◌, ◌-◌, ◌≤◌, ◌<◌}
use native.Mathlib.Omega.{arith}
use lib.ListN.{length, get_or, set}
use lib.Seq.{get_or-set_same, get_or-set_other}
use Rattle.paper.specs.declared.Geometry.{Geometry}
use Rattle.paper.specs.declared.PageState.{PageState}
use Rattle.paper.specs.declared.PageState.TheVariants.{Open}
use Rattle.paper.specs.Pages.{state, around}
use Rattle.page.specs.Table.{Has, Passed, Covers, ReadFrom}
use Rattle.page.proofs.Reading.{covers_on, covers_end, covers_last}

-- the table t has the states of the pages from a to before p, and below a what t₀ has
module _ (g : Geometry) (im : List ℕ) (t₀ t : List PageState) (want : PageState) (a p : ℕ) (h : a ≤ p)
    (kept : (q : ℕ) → q < a → get_or t q Open ≡ get_or t₀ q Open) (has : (q : ℕ) → a ≤ q → q < p → Has g im t q) where
  -- the search ends at p, or p is behind the last page
  reads_to : p ≤ g.pages → Covers g im t want (around g (g.pages - p) p) → ReadFrom g im t₀ a want t
  reads_to l m =
      let e : a + (p - a) ≡ p = omega arith in
      record {
        kept = kept;
        reads = covers_on g im t want (p - a) a (omega arith) (λ q x y. has q x (omega arith)) (rw e m);
      }

  pub read_last : p ≡ g.pages → ReadFrom g im t₀ a want t
  read_last e = reads_to (omega arith) (covers_last g im t want p (omega arith))

-- the state of page p is put in
module _ (g : Geometry) (im : List ℕ) (t₀ t : List PageState) (want : PageState) (a p : ℕ) (h : a ≤ p)
    (kept : (q : ℕ) → q < a → get_or t q Open ≡ get_or t₀ q Open) (has : (q : ℕ) → a ≤ q → q < p → Has g im t q)
    (s : PageState) (l : p < length t) (e : s ≡ state g im p) where
  pub put_kept : (q : ℕ) → q < a → get_or (set t p s) q Open ≡ get_or t₀ q Open
  put_kept q k = get_or-set_other t p q s Open (λ z. absurd (omega arith)) ∙ kept q k

  pub put_has : (q : ℕ) → a ≤ q → q < p + 1 → Has g im (set t p s) q
  put_has q k m = grind (arith, get_or-set_same, get_or-set_other)

  pub put_end : p < g.pages → (Passed g im want p → ⊥) → ReadFrom g im t₀ a want (set t p s)
  put_end k n =
      let m = covers_end g im (set t p s) want p k (put_has p h (omega arith)) n in
      reads_to g im t₀ (set t p s) want a p h put_kept (λ q x y. put_has q x (omega arith)) (omega arith) m
