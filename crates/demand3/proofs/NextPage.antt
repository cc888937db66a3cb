-- The page after one whose heads were all passed: a search stops before it, or erases the page and goes on. Assumes nothing.
use mathlib.Core.Bool.{Bool, true, false, ◌||◌, or-true}
use mathlib.Core.List.{List, [], ◌∷◌, ◌++◌}
use mathlib.Core.Logic.{◌⊎◌, inl, inr}
use mathlib.Core.Path.{◌≡◌, refl, sym, ap, ◌∙◌}
use Prim.Native.Nat.{ℕ, ◌≤◌, ◌<◌}
use native.Mathlib.Omega.{arith}
use borrow.Author.Tests.{eq-eqb, ne_eqb}
use lib.Dec.{eqb}
use Rattle.paper.specs.declared.Geometry.{Geometry}
use Rattle.paper.specs.declared.PageState.{PageState}
use Rattle.paper.specs.declared.PageState.TheVariants.{Open, PartialOpen, Closed, Corrupted}
use Rattle.paper.specs.Chip.{erase, image_by, image_after, Plan, plan, bind, Try}
use Rattle.paper.specs.Pages.{next, state, same}
use Rattle.paper.specs.Search.{Stand, after_page, nothing, Ended, ends_at, leave_page}
use Rattle.laws.proofs.ErasePage.{erase_page_is}
use Rattle.laws.proofs.Marks.{not_same}
use Rattle.laws.proofs.Ring.{turn, turn_full, next_is}
use Rattle.laws.proofs.Sides.{Side, below, above, side}
use Rattle.demand3.proofs.RingShape.{Now, partly, open_after, open_all, RingShape, sound}
use Rattle.demand3.proofs.Listed.{run}
use Rattle.demand3.proofs.Invariant.{Inv, turn_in, open_empty}

-- page x ends a search that began at page old
abbrev pub ends_before : Geometry → List ℕ → ℕ → ℕ → Bool
ends_before g jm x old = same (state g jm x) Open || eqb x old

-- no Closed page is before the current one, or that is Open
abbrev pub Roomy : Geometry → List ℕ → ℕ → ℕ → Type 0
Roomy g jm o b = (b ≡ 0) ⊎ (state g jm (turn g o b) ≡ Open)

pub data Ahead (g : Geometry) (jm : List ℕ) (o b old : ℕ) : Type 0 where
  stops : ends_before g jm (turn g o 1) old ≡ true → run g jm o 1 b ≡ [] → Roomy g jm o b → Ahead g jm o b old
  leads : ends_before g jm (turn g o 1) old ≡ false → 0 < b → (state g jm (turn g o 1) ≡ Open → ⊥) → Ahead g jm o b old

-- page old is none of the b pages after o
pub record Behind (g : Geometry) (old o b : ℕ) : Type 0 where
  pub apart : (i : ℕ) → 0 < i → i ≤ b → turn g o i ≡ old → ⊥
  pub sole : g.pages ≡ 1 → o ≡ old

module _ {g : Geometry} {jm : List ℕ} {o b : ℕ} (I : Inv g jm o b) {old : ℕ} (F : Behind g old o b) where
  abbrev S : RingShape g jm o b
  S = I.shape

  pub ahead : Ahead g jm o b old
  unfolding run
  ahead = by (side 0 b) (side 1 g.pages)
    where
      used : (s : PageState) → state g jm (turn g o 1) ≡ s → same s Open ≡ false → 0 < b → (state g jm (turn g o 1) ≡ Open → ⊥) → Ahead g jm o b old
      used s e f h n = leads (rw (e, f, ne_eqb (turn g o 1) old (F.apart 1 (omega arith) h))) h n

      now : b ≡ 1 → 0 < b → Now (state g jm (turn g o b)) o b → Ahead g jm o b old
      now one h (partly e) =
          let s : state g jm (turn g o 1) ≡ PartialOpen = rw (← one) e in
          used PartialOpen s refl h (λ e₁. let z : ◌≡◌ {A = ℕ} 0 1 = cc in omega arith)
      now one h (open_after e k) =
          let s : state g jm (turn g o 1) ≡ Open = rw (← one) e in
          stops (rw s) (rw one (ap (λ (l : List (List ℕ)). l ++ []) (open_empty I (turn g o 1) (turn_in I 1 (omega (arith, S.run_in))) s))) (inr e)
      now one h (open_all e k m) = let z : ⊥ = omega arith in absurd z

      on : 0 < b → Side 1 b → Ahead g jm o b old
      on h (below l) = let s = S.closed 1 l in used Closed s refl h (λ e. let z : ◌≡◌ {A = ℕ} 0 1 = cc in omega arith)
      on h (above l) = now (omega arith) h S.now

      by : Side 0 b → Side 1 g.pages → Ahead g jm o b old
      by (below h) s = on h (side 1 b)
      by (above h) (below l) =
          let z : b ≡ 0 = omega arith in
          stops (rw (S.opens 1 (omega arith) l)) (rw z) (inl z)
      by (above h) (above l) =
          let z : b ≡ 0 = omega arith in
          let w : 1 ≡ g.pages = omega (arith, S.run_in) in
          let t : turn g o 1 ≡ old = ap (turn g o) w ∙ turn_full g o S.old_in ∙ F.sole (sym w) in
          stops (rw (t, eq-eqb old old refl) (or-true (same (state g jm old) Open))) (rw z) (inl z)

  nx : next g o ≡ turn g o 1
  nx = next_is g o S.old_in

  next_sound : same (state g jm (turn g o 1)) Corrupted ≡ false
  next_sound = not_same (state g jm (turn g o 1)) Corrupted (sound g jm o b S (turn g o 1) (turn_in I 1 (omega (arith, S.run_in))))

  pub leave_stop : (further : List ℕ → Plan (Try Stand Ended)) → ends_before g jm (turn g o 1) old ≡ true
      → leave_page g old true o further jm ≡ ends_at (after_page o) nothing
  unfolding leave_page
  leave_stop further s = rw (nx, next_sound, s)

  pub leave_on : (further : List ℕ → Plan (Try Stand Ended)) → ends_before g jm (turn g o 1) old ≡ false
      → leave_page g old true o further jm ≡ plan (erase o ∷ (further (image_by g (erase o) jm)).events) (further (image_by g (erase o) jm)).answer
  unfolding leave_page bind image_after
  leave_on further s = rw (nx, next_sound, s, erase_page_is g o)
