-- On the images of a history the slips that wait are the present ones on the way of a search; the first of them is shown. Assumes nothing.
use mathlib.Core.Bool.{Bool, true, false, cond, ◌||◌, or-true}
use mathlib.Core.List.{List, [], ◌∷◌, ◌++◌}
use mathlib.Core.Logic.{inl, inr}
use mathlib.Core.Path.{◌≡◌, refl, sym, ap, ◌∙◌}
use Prim.Native.Nat.{ℕ, zero, suc, ◌+◌, ◌≤◌, ◌<◌}
use native.Mathlib.Nat.{zero-add}
use native.Mathlib.Omega.{arith}
use borrow.Author.Tests.{eq-eqb, ne_eqb}
use lib.Dec.{eqb}
use Rattle.paper.specs.declared.Geometry.{Geometry}
use Rattle.paper.specs.declared.PageState.{PageState}
use Rattle.paper.specs.declared.PageState.TheVariants.{Open, Corrupted}
use Rattle.paper.specs.Scan.{Head, page_walk, present}
use Rattle.paper.specs.Pages.{around, from, state, same}
use Rattle.paper.specs.Ways.{Each, on_the_way, Passed, Seen, Way, direct, mended}
use Rattle.laws.proofs.Marks.{not_same}
use Rattle.laws.proofs.Ring.{turn, turn_zero, turn_full, turn_once, turn_apart, next_turn}
use Rattle.laws.proofs.Sides.{Side, below, above, side}
use Rattle.demand1.proofs.Steps.{fails_not}
use Rattle.demand3.specs.Addresses.{presents, waiting_heads_on, waiting_heads, AlwaysFirst}
use Rattle.demand3.proofs.Payloads.{not_present}
use Rattle.demand3.proofs.RingShape.{RingShape, sound, youngest_is, oldest_is}
use Rattle.demand3.proofs.Invariant.{Inv, turn_in}
use Rattle.demand3.proofs.Demand3.{held}

-- ---- present ones of headers

presents_append : (hs ks : List Head) → presents (hs ++ ks) ≡ presents hs ++ presents ks
unfolding presents
presents_append [] ks = refl
presents_append (h ∷ hs) ks = by (present h) (presents_append hs ks)
  where
    by : (t : Bool) → presents (hs ++ ks) ≡ presents hs ++ presents ks
        → cond t (h ∷ presents (hs ++ ks)) (presents (hs ++ ks)) ≡ cond t (h ∷ presents hs) (presents hs) ++ presents ks
    by true e = ap (λ (l : List Head). h ∷ l) e
    by false e = e

passed_none : (g : Geometry) (n : ℕ) (hs : List Head) → Each (Passed g n) hs → presents hs ≡ []
unfolding presents
passed_none g n [] e = refl
passed_none g n (h ∷ hs) e = rw (by e.0) (passed_none g n hs e.1)
  where
    by : Passed g n h → present h ≡ false
    by (inl q) = not_present h q
    by (inr q) = q.0

seen_first : (g : Geometry) (n k : ℕ) (hs : List Head) (T : Seen g n hs k) → presents hs ≡ T.head ∷ presents T.stops.rest
unfolding presents
seen_first g n k hs T =
    let s = T.stops in
    let h : presents (T.head ∷ s.rest) ≡ T.head ∷ presents s.rest = rw T.whole in
    ap presents s.all ∙ presents_append s.front (T.head ∷ s.rest)
    ∙ ap (λ (l : List Head). l ++ presents (T.head ∷ s.rest)) (passed_none g n s.front s.passed) ∙ h

-- ---- the way of a search goes over the pages of the list

module _ {g : Geometry} {im : List ℕ} {o b : ℕ} (I : Inv g im o b) where
  abbrev S : RingShape g im o b
  S = I.shape

  goes : (k i : ℕ) → i + k ≡ g.pages → i ≤ b
      → waiting_heads_on g im (turn g o b) (around g k (turn g o i)) ≡ presents (on_the_way g im o (around g k (turn g o i)))
  unfolding waiting_heads_on on_the_way around presents
  goes zero i e h = refl
  goes (suc k) i e h =
      rw (next_turn g o i S.old_in (omega arith))
      (ap (λ (l : List Head). presents ws ++ l) (by (side i b) (λ l. goes k (suc i) (omega arith) l)) ∙ sym (presents_append ws (cond (ends s) [] later)))
    where
      ws : List Head
      ws = (page_walk g im (turn g o i)).heads

      q : ℕ
      q = turn g o (suc i)

      s : PageState
      s = state g im (turn g o (suc i))

      ends : PageState → Bool
      ends t = same t Open || same t Corrupted || eqb q o

      later : List Head
      later = on_the_way g im o (around g k q)

      listed : List Head
      listed = waiting_heads_on g im (turn g o b) (around g k q)

      on : (t : Bool) → listed ≡ presents later → cond (false || t) [] listed ≡ presents (cond (t || false || false) [] later)
      on true f = refl
      on false f = f

      stops : Side (suc b) g.pages → i ≡ b → ends s ≡ true
      stops (below l) z =
          let t : s ≡ Open = ap (λ (x : ℕ). state g im (turn g o (suc x))) z ∙ S.opens (suc b) (omega arith) l in
          rw t
      stops (above l) z =
          let w : suc i ≡ g.pages = omega (arith, S.run_in) in
          let t : q ≡ o = ap (turn g o) w ∙ turn_full g o S.old_in in
          rw (eq-eqb q o t) (or-true (same s Open || same s Corrupted))

      by : Side i b → (i < b → listed ≡ presents later) → cond (eqb (turn g o i) (turn g o b) || same s Open) [] listed ≡ presents (cond (ends s) [] later)
      by (below l) f =
          let r = S.run_in in
          let ne : eqb (turn g o i) (turn g o b) ≡ false =
          ne_eqb (turn g o i) (turn g o b) (λ x. let z : i ≡ b = turn_once g o i b S.old_in (omega arith) r x in omega arith) in
          let nc : same s Corrupted ≡ false = not_same s Corrupted (sound g im o b S q (turn_in I (suc i) (omega arith))) in
          let no : eqb q o ≡ false = ne_eqb q o (turn_apart g o (suc i) S.old_in (omega arith) (omega arith)) in
          rw (ne, nc, no) (on (same s Open) (f l))
      by (above l) f =
          let z : i ≡ b = omega arith in
          rw (eq-eqb (turn g o i) (turn g o b) (ap (turn g o) z), stops (side (suc b) g.pages) z)

  on_way : {hs : List Head} → Way g im hs → waiting_heads g im ≡ presents hs
  unfolding waiting_heads from
  on_way (mended f q) = absurd (fails_not f (oldest_is g im o b S))
  on_way (direct {old = p} f) =
      let e = oldest_is g im o b S in
      let z : o ≡ p = cc in
      rw (oldest_is g im o b S, youngest_is g im o b S)
      (ap (λ (x : ℕ). waiting_heads_on g im (turn g o b) (around g g.pages x)) (sym (turn_zero g o S.old_in))
      ∙ goes g.pages 0 (zero-add g.pages) (omega arith)
      ∙ ap (λ (x : ℕ). presents (on_the_way g im o (around g g.pages x))) (turn_zero g o S.old_in)
      ∙ ap (λ (x : ℕ). presents (on_the_way g im x (around g g.pages x))) z)

pub always_first : AlwaysFirst
always_first g im gh r =
    let I = (held r).inv in
    record { on_way = λ w. on_way I w; first = λ {hs} w n k T. on_way I w ∙ seen_first g n k hs T }
